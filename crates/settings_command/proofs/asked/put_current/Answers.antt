use Rattle.report_lines.specs.Puts.{puts_none}
use Rattle.settings_command.specs.Settles.{current-some, current-none}
use Rattle.settings_command.proofs.asked.put_current.Goals as goal

pub returns-then-department-lt32 : goal.returns-then-department-lt32
returns-then-department-lt32 c =
    rw (← current-some _ _ c.if-department-lt32.true) c.put_department.ensures

pub returns : goal.returns
returns c = rw (← current-none _ _ c.if-department-lt32.false) (puts_none _ _)

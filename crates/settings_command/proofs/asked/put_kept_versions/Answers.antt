use Rattle.report_lines.specs.Puts.{puts_none}
use Rattle.settings_command.specs.Settles.{kept-some, kept-none}
use Rattle.settings_command.proofs.asked.put_kept_versions.Goals as goal

pub returns-then-department-lt32 : goal.returns-then-department-lt32
returns-then-department-lt32 c =
    rw (← kept-some _ _ c.if-department-lt32.true) c.put_versions.ensures

pub returns : goal.returns
returns c = rw (← kept-none _ _ c.if-department-lt32.false) (puts_none _ _)

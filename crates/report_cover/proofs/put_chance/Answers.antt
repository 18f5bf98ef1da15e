use Rattle.report_lines.specs.Puts.{puts_none}
use Rattle.model_forecast.specs.Covered.{chance_text}
use Rattle.report_cover.proofs.put_chance.Goals as goal

pub returns-in-None : goal.returns-in-None
unfolding chance_text
returns-in-None c = rw c.in-None.is (puts_none _ _)

pub returns-in-Some : goal.returns-in-Some
unfolding chance_text
returns-in-Some c = rw c.in-Some.is c.put_wanted.ensures

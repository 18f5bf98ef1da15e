use native.Mathlib.Omega.{arith}
use Rattle.lists.specs.Bytes.{bytes}
use Rattle.report_lines.specs.Puts.{puts_none}
use Rattle.model_texts.specs.Cause.{cause_backs}
use Rattle.report_header.specs.Causes.{no-back}
use Rattle.report_header.proofs.put_back.Goals as goal

pub returns-in-2 : goal.returns-in-2
unfolding cause_backs bytes
returns-in-2 c = rw c.in-2.is c.put.ensures

pub returns-in-3 : goal.returns-in-3
unfolding cause_backs bytes
returns-in-3 c = rw c.in-3.is c.put-in-3.ensures

pub returns-in_default : goal.returns-in_default
returns-in_default c =
    rw (← no-back c.args.cause (λ e. omega arith) (λ e. omega arith)) (puts_none _ _)

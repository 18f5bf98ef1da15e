use native.Mathlib.Omega.{arith}
use Rattle.lists.specs.Bytes.{bytes}
use Rattle.report_lines.specs.Puts.{puts_none}
use Rattle.model_texts.specs.Cause.{cause_fronts}
use Rattle.report_header.specs.Causes.{no_front}
use Rattle.report_header.proofs.put_front.Goals as goal

pub returns-in-1 : goal.returns-in-1
unfolding cause_fronts bytes
returns-in-1 c = rw c.in-1.is c.put.ensures

pub returns-in-2 : goal.returns-in-2
unfolding cause_fronts bytes
returns-in-2 c = rw c.in-2.is c.put-in-2.ensures

pub returns-in-3 : goal.returns-in-3
unfolding cause_fronts bytes
returns-in-3 c = rw c.in-3.is c.put-in-3.ensures

pub returns-in-4 : goal.returns-in-4
unfolding cause_fronts bytes
returns-in-4 c = rw c.in-4.is c.put-in-4.ensures

pub returns-in-5 : goal.returns-in-5
unfolding cause_fronts bytes
returns-in-5 c = rw c.in-5.is c.put-in-5.ensures

pub returns-in_default : goal.returns-in_default
returns-in_default c =
    rw (← no_front c.args.cause (λ e. omega arith) (λ e. omega arith) (λ e. omega arith)
    (λ e. omega arith) (λ e. omega arith)) (puts_none _ _)

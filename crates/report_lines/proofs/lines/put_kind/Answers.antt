use native.Mathlib.Omega.{arith}
use lib.ListN.{get_or-eq_default}
use Rattle.report_lines.specs.Puts.{puts_none}
use Rattle.lists.specs.Bytes.{bytes}
use Rattle.model_texts.specs.Report.{kind_text, kind_names}
use Prim.Native.Nat.{◌≤◌}
use Rattle.report_lines.proofs.lines.put_kind.Goals as goal

pub returns-in-0 : goal.returns-in-0
unfolding kind_text kind_names bytes
returns-in-0 c = rw c.in-0.is c.put.ensures

pub returns-in-1 : goal.returns-in-1
unfolding kind_text kind_names bytes
returns-in-1 c = rw c.in-1.is c.put-in-1.ensures

pub returns-in-2 : goal.returns-in-2
unfolding kind_text kind_names bytes
returns-in-2 c = rw c.in-2.is c.put-in-2.ensures

pub returns-in-3 : goal.returns-in-3
unfolding kind_text kind_names bytes
returns-in-3 c = rw c.in-3.is c.put-in-3.ensures

pub returns-in-4 : goal.returns-in-4
unfolding kind_text kind_names bytes
returns-in-4 c = rw c.in-4.is c.put-in-4.ensures

pub returns-in-5 : goal.returns-in-5
unfolding kind_text kind_names bytes
returns-in-5 c = rw c.in-5.is c.put-in-5.ensures

pub returns-in-6 : goal.returns-in-6
unfolding kind_text kind_names bytes
returns-in-6 c = rw c.in-6.is c.put-in-6.ensures

pub returns-in-7 : goal.returns-in-7
unfolding kind_text kind_names bytes
returns-in-7 c = rw c.in-7.is c.put-in-7.ensures

pub returns-in-8 : goal.returns-in-8
unfolding kind_text kind_names bytes
returns-in-8 c = rw c.in-8.is c.put-in-8.ensures

pub returns-in-9 : goal.returns-in-9
unfolding kind_text kind_names bytes
returns-in-9 c = rw c.in-9.is c.put-in-9.ensures

pub returns-in-10 : goal.returns-in-10
unfolding kind_text kind_names bytes
returns-in-10 c = rw c.in-10.is c.put-in-10.ensures

pub returns-in-11 : goal.returns-in-11
unfolding kind_text kind_names bytes
returns-in-11 c = rw c.in-11.is c.put-in-11.ensures

-- none of 0 to 11
pub returns-in_default : goal.returns-in_default
unfolding kind_text kind_names bytes
returns-in_default c =
    let far : 12 ≤ c.args.kind = omega arith in
    rw (get_or-eq_default kind_names "" {n = c.args.kind} far) (puts_none _ _)

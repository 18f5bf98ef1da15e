use native.Mathlib.Omega.{arith}
use Rattle.lists.specs.Bytes.{bytes}
use Rattle.settings_command.specs.Sentence.{meaning}
use Rattle.settings_command.specs.Tests.{meaning-rest}
use Rattle.settings_command.proofs.sentence.put_meaning.Goals as goal

pub returns-in-3 : goal.returns-in-3
unfolding meaning bytes
returns-in-3 c = rw c.in-3.is c.put.ensures

pub returns-in-4 : goal.returns-in-4
unfolding meaning bytes
returns-in-4 c = rw c.in-4.is c.put-in-4.ensures

pub returns-in-13 : goal.returns-in-13
unfolding meaning bytes
returns-in-13 c = rw c.in-13.is c.put-in-13.ensures

pub returns-in-14 : goal.returns-in-14
unfolding meaning bytes
returns-in-14 c = rw c.in-14.is c.put-in-14.ensures

pub returns-in-15 : goal.returns-in-15
unfolding meaning bytes
returns-in-15 c = rw c.in-15.is c.put-in-15.ensures

pub returns-in_default : goal.returns-in_default
unfolding bytes
returns-in_default c =
    rw (← meaning-rest c.args.number (λ e. omega arith) (λ e. omega arith) (λ e. omega arith) (λ e. omega arith)
    (λ e. omega arith)) c.put-in_default.ensures

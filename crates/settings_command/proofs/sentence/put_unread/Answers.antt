use native.Mathlib.Omega.{arith}
use Rattle.lists.specs.Bytes.{bytes}
use Rattle.settings_command.specs.Sentence.{unread_text}
use Rattle.settings_command.specs.Tests.{unread-rest}
use Rattle.settings_command.proofs.sentence.put_unread.Goals as goal

pub returns-in-1 : goal.returns-in-1
unfolding unread_text bytes
returns-in-1 c = rw c.in-1.is c.put.ensures

pub returns-in-2 : goal.returns-in-2
unfolding unread_text bytes
returns-in-2 c = rw c.in-2.is c.put-in-2.ensures

pub returns-in-4 : goal.returns-in-4
unfolding unread_text bytes
returns-in-4 c = rw c.in-4.is c.put-in-4.ensures

pub returns-in_default : goal.returns-in_default
returns-in_default c =
    rw (← unread-rest c.args.how (λ e. omega arith) (λ e. omega arith) (λ e. omega arith)) c.put_refusal.ensures

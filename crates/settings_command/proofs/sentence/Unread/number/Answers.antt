use Rattle.settings_command.specs.Sentence.{unread_number}
use Rattle.settings_command.proofs.sentence.Unread.number.Goals as goal

pub returns-in-NotOpened : goal.returns-in-NotOpened
unfolding unread_number
returns-in-NotOpened c = rw c.in-NotOpened.is

pub returns-in-Cut : goal.returns-in-Cut
unfolding unread_number
returns-in-Cut c = rw c.in-Cut.is

pub returns-in-NotStore : goal.returns-in-NotStore
unfolding unread_number
returns-in-NotStore c = rw c.in-NotStore.is

pub returns-in-Taken : goal.returns-in-Taken
unfolding unread_number
returns-in-Taken c = rw c.in-Taken.is

use mathlib.Core.Path.{refl}
use Rattle.settings_command.specs.Asked.{settled_of, words_after}
use Rattle.settings_command.proofs.asked.settle.Goals as goal

pub returns-in-Fresh : goal.returns-in-Fresh
unfolding settled_of words_after
returns-in-Fresh c = rw c.in-Fresh.is c.fresh.ensures

pub returns-in-Departments : goal.returns-in-Departments
unfolding settled_of words_after
returns-in-Departments c = rw c.in-Departments.is (c.read.ensures, refl)

pub returns-in-Versions : goal.returns-in-Versions
unfolding settled_of words_after
returns-in-Versions c = rw c.in-Versions.is (c.read-in-Versions.ensures, refl)

pub returns-in-Save : goal.returns-in-Save
unfolding settled_of words_after
returns-in-Save c = rw c.in-Save.is c.save.ensures

pub returns-in-Back : goal.returns-in-Back
unfolding settled_of words_after
returns-in-Back c = rw c.in-Back.is c.bring_back.ensures

pub returns-in-Current : goal.returns-in-Current
unfolding settled_of words_after
returns-in-Current c = rw c.in-Current.is (c.read-in-Current.ensures, refl)

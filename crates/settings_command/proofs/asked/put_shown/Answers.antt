use Rattle.lists.specs.Bytes.{bytes}
use Rattle.settings_command.specs.Asked.{shown_text}
use Rattle.settings_command.proofs.asked.put_shown.Goals as goal

pub returns-in-Fresh : goal.returns-in-Fresh
unfolding shown_text bytes
returns-in-Fresh c = rw c.in-Fresh.is c.put.ensures

pub returns-in-Departments : goal.returns-in-Departments
unfolding shown_text
returns-in-Departments c = rw c.in-Departments.is c.put_departments.ensures

pub returns-in-Versions : goal.returns-in-Versions
unfolding shown_text
returns-in-Versions c = rw c.in-Versions.is c.put_kept_versions.ensures

pub returns-in-Save : goal.returns-in-Save
unfolding shown_text
returns-in-Save c = rw c.in-Save.is c.put_current.ensures

pub returns-in-Back : goal.returns-in-Back
unfolding shown_text
returns-in-Back c = rw c.in-Back.is c.put_current-in-Back.ensures

pub returns-in-Current : goal.returns-in-Current
unfolding shown_text
returns-in-Current c = rw c.in-Current.is c.put_current-in-Current.ensures

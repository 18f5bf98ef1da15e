use Rattle.settings_command.specs.Asked.{department_of}
use Rattle.settings_command.proofs.asked.Asked.department.Goals as goal

pub returns-in-Fresh : goal.returns-in-Fresh
unfolding department_of
returns-in-Fresh c = rw c.in-Fresh.is

pub returns-in-Departments : goal.returns-in-Departments
unfolding department_of
returns-in-Departments c = rw c.in-Departments.is

pub returns-in-Versions : goal.returns-in-Versions
unfolding department_of
returns-in-Versions c = rw c.in-Versions.is

pub returns-in-Save : goal.returns-in-Save
unfolding department_of
returns-in-Save c = rw c.in-Save.is

pub returns-in-Back : goal.returns-in-Back
unfolding department_of
returns-in-Back c = rw c.in-Back.is

pub returns-in-Current : goal.returns-in-Current
unfolding department_of
returns-in-Current c = rw c.in-Current.is

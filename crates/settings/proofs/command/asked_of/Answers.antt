use Rattle.settings_command.specs.Argument.{whole_of, chance_of}
use Rattle.settings.specs.Given.{heard_of, heard-given, not_read}
use Rattle.settings.proofs.command.asked_of.Goals as goal

pub returns-in-Fresh : goal.returns-in-Fresh
unfolding heard_of
returns-in-Fresh g c = rw c.in-Fresh.is (heard-given _ (not_read whole_of) (not_read whole_of) (not_read whole_of)
    (not_read chance_of) (not_read whole_of) (not_read whole_of))

pub returns-in-Departments : goal.returns-in-Departments
unfolding heard_of
returns-in-Departments g c = rw c.in-Departments.is (heard-given _ (not_read whole_of) (not_read whole_of)
    (not_read whole_of) (not_read chance_of) (not_read whole_of) (not_read whole_of))

pub returns-in_err-department-in-Versions : goal.returns-in_err-department-in-Versions
unfolding heard_of
returns-in_err-department-in-Versions g c = rw (c.in-Versions.is, c.from_residual.ensures)
    (heard-given _ c.in_err-department-in-Versions.ensures (not_read whole_of) (not_read whole_of)
    (not_read chance_of) (not_read whole_of) (not_read whole_of))

pub returns-in_ok-department-in-Versions : goal.returns-in_ok-department-in-Versions
unfolding heard_of
returns-in_ok-department-in-Versions g c = rw c.in-Versions.is
    (heard-given _ c.in_ok-department-in-Versions.ensures (not_read whole_of) (not_read whole_of)
    (not_read chance_of) (not_read whole_of) (not_read whole_of))

pub returns-in_err-department-in-Save : goal.returns-in_err-department-in-Save
unfolding heard_of
returns-in_err-department-in-Save g c = rw (c.in-Save.is, c.from_residual-in_err-department-in-Save.ensures)
    (heard-given _ c.in_err-department-in-Save.ensures (not_read whole_of) (not_read whole_of)
    (not_read chance_of) (not_read whole_of) (not_read whole_of))

pub returns-in_err-from-in-Save : goal.returns-in_err-from-in-Save
unfolding heard_of
returns-in_err-from-in-Save g c = rw (c.in-Save.is, c.from_residual-in_err-from-in-Save.ensures)
    (heard-given _ c.in_ok-department-in-Save.ensures c.in_err-from-in-Save.ensures (not_read whole_of)
    (not_read chance_of) (not_read whole_of) (not_read whole_of))

pub returns-in_err-chance-in-Save : goal.returns-in_err-chance-in-Save
unfolding heard_of
returns-in_err-chance-in-Save g c = rw (c.in-Save.is, c.from_residual-in_err-chance-in-Save.ensures)
    (heard-given _ c.in_ok-department-in-Save.ensures c.in_ok-from-in-Save.ensures
    (not_read whole_of) c.in_err-chance-in-Save.ensures (not_read whole_of) (not_read whole_of))

pub returns-in_err-horizon-in-Save : goal.returns-in_err-horizon-in-Save
unfolding heard_of
returns-in_err-horizon-in-Save g c = rw (c.in-Save.is, c.from_residual-in_err-horizon-in-Save.ensures)
    (heard-given _ c.in_ok-department-in-Save.ensures c.in_ok-from-in-Save.ensures
    (not_read whole_of) c.in_ok-chance-in-Save.ensures c.in_err-horizon-in-Save.ensures (not_read whole_of))

pub returns-in_err-recipe-in-Save : goal.returns-in_err-recipe-in-Save
unfolding heard_of
returns-in_err-recipe-in-Save g c = rw (c.in-Save.is, c.from_residual-in_err-recipe-in-Save.ensures)
    (heard-given _ c.in_ok-department-in-Save.ensures c.in_ok-from-in-Save.ensures
    (not_read whole_of) c.in_ok-chance-in-Save.ensures c.in_ok-horizon-in-Save.ensures
    c.in_err-recipe-in-Save.ensures)

pub returns-in_ok-recipe-in-Save : goal.returns-in_ok-recipe-in-Save
unfolding heard_of
returns-in_ok-recipe-in-Save g c = rw c.in-Save.is
    (heard-given _ c.in_ok-department-in-Save.ensures c.in_ok-from-in-Save.ensures
    (not_read whole_of) c.in_ok-chance-in-Save.ensures c.in_ok-horizon-in-Save.ensures c.in_ok-recipe-in-Save.ensures)

pub returns-in_err-department-in-Back : goal.returns-in_err-department-in-Back
unfolding heard_of
returns-in_err-department-in-Back g c = rw (c.in-Back.is, c.from_residual-in_err-department-in-Back.ensures)
    (heard-given _ c.in_err-department-in-Back.ensures (not_read whole_of) (not_read whole_of)
    (not_read chance_of) (not_read whole_of) (not_read whole_of))

pub returns-in_err-from-in-Back : goal.returns-in_err-from-in-Back
unfolding heard_of
returns-in_err-from-in-Back g c = rw (c.in-Back.is, c.from_residual-in_err-from-in-Back.ensures)
    (heard-given _ c.in_ok-department-in-Back.ensures c.in_err-from-in-Back.ensures (not_read whole_of)
    (not_read chance_of) (not_read whole_of) (not_read whole_of))

pub returns-in_err-kept-in-Back : goal.returns-in_err-kept-in-Back
unfolding heard_of
returns-in_err-kept-in-Back g c = rw (c.in-Back.is, c.from_residual-in_err-kept-in-Back.ensures)
    (heard-given _ c.in_ok-department-in-Back.ensures c.in_ok-from-in-Back.ensures c.in_err-kept-in-Back.ensures
    (not_read chance_of) (not_read whole_of) (not_read whole_of))

pub returns-in_ok-kept-in-Back : goal.returns-in_ok-kept-in-Back
unfolding heard_of
returns-in_ok-kept-in-Back g c = rw c.in-Back.is
    (heard-given _ c.in_ok-department-in-Back.ensures c.in_ok-from-in-Back.ensures c.in_ok-kept-in-Back.ensures
    (not_read chance_of) (not_read whole_of) (not_read whole_of))

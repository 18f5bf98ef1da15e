use native.Mathlib.Numerals.{add-one}
use Rattle.model.proofs.Header.var.Goals as goal

pub returns : goal.returns
returns c = rw (add-one c.args.v) at c.var_with_degrees_p1.ensures

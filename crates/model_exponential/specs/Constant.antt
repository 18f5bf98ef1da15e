-- REFERENCE 4.15, 5.3. Document 02, W13: which constants have an exponential, and what is answered for one. Refusal 12.
use Rattle.std.specs.Prelude.{Bool, true, false, ◌&&◌, pos, Float}
use Rattle.std.specs.Float.{fin}
use Rattle.std.specs.Float.Ieee.{le}
use Rattle.model.specs.declared.Refusal.{Refusal}
use Rattle.model.specs.Results.{Reading}
use Rattle.model.specs.Refusals.{ask, no_refusal, read_by}
use Rattle.model_exponential.specs.Head.{exp_head}

-- from -8 to 8, both among them: 8 is 1 * 2 ^ 3. A NaN is not.
unfoldable pub in_range : Float → Bool
in_range x = le (fin true 1 (pos 3)) x && le x (fin false 1 (pos 3))

unfoldable pub constant_gate : Float → Refusal
constant_gate x = ask (in_range x) 12 no_refusal

unfoldable pub exp_constant_answer : Float → Reading
exp_constant_answer x = read_by (constant_gate x) (exp_head x)

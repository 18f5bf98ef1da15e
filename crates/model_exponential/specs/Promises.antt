-- REFERENCE 5.4. Document 02, W13: the promise of `exp_constant`: its answer r, to the bit, and what it is worth.
use Rattle.std.specs.Prelude.{true, ◌≡◌, Float}
use Rattle.model.specs.Results.{Reading}
use Rattle.model.specs.Numbers.{reading_value}
use Rattle.model_exponential.specs.Exact.{Near}
use Rattle.model_exponential.specs.Constant.{in_range, exp_constant_answer}

abbrev pub ExpConstantPromise : Float → Reading → Type 0
ExpConstantPromise x r =
    (r ≡ exp_constant_answer x)
    × (in_range x ≡ true → Near x (reading_value r))

-- Two outcomes that keep the promise of `exp_constant` are equal. That the answer is near the exact value leaves many
-- floats; the promise says which one it is.
use Rattle.std.specs.Prelude.{◌≡◌, Float}
use Rattle.model.specs.Results.{Reading}
use Rattle.model_exponential.specs.Promises.{ExpConstantPromise}
use Rattle.laws_outcomes.specs.Outcome.{once_1}

pub exp_constant-once : (x : Float) {r1 r2 : Reading}
    → ExpConstantPromise x r1 → ExpConstantPromise x r2
    → r1 ≡ r2
exp_constant-once x p1 p2 = once_1 p1.0 p2.0

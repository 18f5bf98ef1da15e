use mathlib.Core.Path.{◌≡◌, sym, ap, ◌∙◌, subst}
use mathlib.Core.Bool.{true}
use lib.Ieee.{Float}
use Rattle.model.specs.Numbers.{reading_value}
use Rattle.model.specs.Refusals.{read_by}
use Rattle.model_exponential.specs.Exact.{Near}
use Rattle.model_exponential.specs.Constant.{in_range, constant_gate, exp_constant_answer}
use Rattle.taylor.specs.Face.{word_of_reading, value_after}
use Rattle.taylor.proofs.taylor_exp_constant.Goals as goal

-- in the range what stands behind the pointer is what was read
same-value : (x old : Float) → in_range x ≡ true → value_after (exp_constant_answer x) old ≡ reading_value (exp_constant_answer x)
unfolding exp_constant_answer constant_gate read_by
same-value x old t = rw t

pub returns : goal.returns
returns c =
    let x = c.args.x in
    let old = c.args.value.now in
    let e = c.exp_constant.ensures.0 in
    let v = c.put.ensures.value ∙ ap (λ r. value_after r old) e in (
      (c.put.ensures.answer ∙ ap word_of_reading e, v),
      (λ t. subst (Near x) (sym (v ∙ same-value x old t ∙ ap reading_value (sym e))) (c.exp_constant.ensures.1 t)),
    )

use Rattle.std.specs.Prelude.{Ok, Err}
use mathlib.Core.Path.{◌≡◌, refl, sym, ap, ◌∙◌}
use mathlib.Core.Bool.{true, false, false≢true}
use lib.Ieee.{Float}
use Rattle.model.specs.Refusals.{refused_by, read_by}
use Rattle.model_exponential.specs.Head.{exp_head}
use Rattle.model_exponential.specs.Constant.{in_range, constant_gate, exp_constant_answer}
use Rattle.laws_exponential.specs.Heads.{head_near}
use Rattle.exponential.proofs.exp_constant.Goals as goal

outside : (x : Float) → in_range x ≡ false → Err (refused_by 12) ≡ exp_constant_answer x
unfolding exp_constant_answer constant_gate read_by
outside x f = rw f refl

inside : (x : Float) → in_range x ≡ true → Ok (exp_head x) ≡ exp_constant_answer x
unfolding exp_constant_answer constant_gate read_by
inside x t = rw t refl

pub returns-then-in_range : goal.returns-then-in_range
returns-then-in_range c =
    let x = c.args.x in
    let t : in_range x ≡ true = sym c.in_range.ensures ∙ c.if-in_range.true in
    (ap Ok c.exp_head.ensures ∙ inside x t, (λ u. rw c.exp_head.ensures (head_near x t)))

pub returns-else-in_range : goal.returns-else-in_range
returns-else-in_range c =
    let x = c.args.x in
    let f : in_range x ≡ false = sym c.in_range.ensures ∙ c.if-in_range.false in
    (ap Err c.by.ensures ∙ outside x f, (λ u. absurd (false≢true (sym f ∙ u))))

use mathlib.Core.Path.{◌≡◌, refl, ap, ◌∙◌}
use Prim.Native.Nat.{◌-◌}
use native.Mathlib.Numerals.{add-one}
use native.Mathlib.Omega.{arith}
use lib.Ieee.{Float, binary64, add, div}
use Rattle.model_exponential.specs.Head.{nine_f, e_nine_f, exp_turn, exp_turns, exp_head}
use Rattle.exponential_head.proofs.exp_head.Goals as goal

pub loop-m-init : goal.loop-m-init
unfolding exp_turns
loop-m-init c = refl

pub int_to_float-h : goal.int_to_float-h
int_to_float-h c = tt

pub loop-m-preserved : goal.loop-m-preserved
unfolding exp_turns
loop-m-preserved c =
    let t = add binary64 c.args.x nine_f in
    let m = c.loop-m.m in
    rw (add-one) (ap (exp_turn t (71 - m)) c.loop-m.invariant)

pub returns : goal.returns
unfolding exp_head
returns c =
    let x = c.args.x in
    let e : c.loop-m.m ≡ 71 = omega arith in
    ap (λ (h : Float). div binary64 h e_nine_f) (c.loop-m.invariant ∙ ap (exp_turns (add binary64 x nine_f)) e)

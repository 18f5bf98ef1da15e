use mathlib.Core.Path.{◌≡◌, ap, ◌∙◌}
use mathlib.Core.List.{List, ◌++◌}
use native.Mathlib.Omega.{arith}
use Prim.Native.Nat.{ℕ, ◌+◌, ◌-◌, ◌≤◌, ◌<◌}
use lib.ListN.{length, take, drop, length-take, length-drop}
use lib.Seq.{take-take, drop-drop}
use lib.Ieee.{Float}
use Rattle.readings_row.specs.Stretches.{going-none, going-fits, going_in, going_more}
use Rattle.readings_row.proofs.pick_stretches.Goals as goal

pub loop-k-init : goal.loop-k-init
loop-k-init c = going-none

pub loop-k-preserved : goal.loop-k-preserved
loop-k-preserved c =
    let more : c.loop-k.k < length c.args.to.now =
    omega (arith, c.loop-k.invariant.done.len) in
    let fits : c.loop-k.k + c.args.width ≤ length c.loop-k.to =
    omega (arith, going-fits c.requires c.loop-k.invariant (more), c.loop-k.invariant.done.len) in
    let low : c.loop-k.at + c.args.width ≤ length c.args.a.now =
    going_in c.requires c.loop-k.invariant (more) in
    let copied : c.copy.new.to ≡ take c.args.width (drop c.loop-k.at c.args.a.now) =
    let w : ℕ = c.args.width in
    let p = fits in
    let q = low in
    let e : c.loop-k.at + w - c.loop-k.at ≡ w = omega arith in
    let k : c.loop-k.k + w - c.loop-k.k ≡ w = omega arith in
    let m : length (take (c.loop-k.k + w - c.loop-k.k) (drop c.loop-k.k c.loop-k.to)) ≡ w =
    simp (length-take, length-drop) (omega arith) in
    c.copy.ensures ∙ (rw (m, e) (take-take w w _ (omega arith))) in
    let k : ℕ = c.loop-k.k in
    let w : ℕ = c.args.width in
    let out : List Float = c.loop-k.to in
    let row : List Float = c.copy.new.to in
    let e : k + w - k ≡ w = omega arith in
    let q : take k out ++ (row ++ drop (k + w - k) (drop k out)) ≡ take k out ++ (row ++ drop (k + w) out) =
    rw e (ap (λ (l : List Float). take k out ++ (row ++ l)) (drop-drop w k out)) in
    rw q (going_more c.requires c.loop-k.invariant (more) (copied))

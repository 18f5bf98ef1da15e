use native.Mathlib.Omega.{arith}
use Prim.Native.Nat.{◌≤◌}
use mathlib.Core.Path.{sym}
use lib.ListN.{length, length-append, length-drop}
use lib.Seq.{length-take-le}
use Rattle.recipe.proofs.main.Goals as goal

pub slice_bounds-write_all-end : goal.slice_bounds-write_all-end
slice_bounds-write_all-end c =
    let e : c.answer-n.result ≤ length c.answer-n.new.output =
    rw c.answer-n.ensures.1.1 (simp (length-append, length-drop) (omega (arith, c.answer-n.ensures.0, c.answer-n.ensures.1.0))) in
    sym (length-take-le _ _ e)

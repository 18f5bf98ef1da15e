use native.Mathlib.Omega.{arith}
use lib.ListN.{length-take, length-drop}
use Rattle.recipes.specs.Standing.{placed-both}
use Rattle.recipes.proofs.running.place.Goals as goal

pub returns : goal.returns
returns c =
    placed-both _ c.note_starts.ensures (omega (arith, c.requires.fact_3.0, c.note_starts.ensures.len))
    c.note_starts-2.ensures (simp (length-take, length-drop) (omega (
      arith,
      c.requires.fact_3.0,
      c.note_starts.ensures.len,
    )))

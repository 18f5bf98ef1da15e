use native.Mathlib.Omega.{arith}
use Prim.Native.Nat.{ℕ}
use mathlib.Core.List.{List}
use mathlib.Core.Path.{sym, ap, ◌∙◌}
use lib.ListN.{get_or}
use lib.Seq.{length-take-le}
use Rattle.model_forecast.specs.Totals.{last_place, answer_bar}
use Rattle.report_totals.proofs.bar.answer_bar.Goals as goal

pub slice_bounds-found_at-end : goal.slice_bounds-found_at-end
slice_bounds-found_at-end c = sym (length-take-le _ _ (omega (arith, c.requires.1)))

pub returns : goal.returns
unfolding answer_bar
returns c =
    c.found_at.ensures ∙ ap (λ (l : List ℕ). get_or l (last_place c.args.headers.now c.args.steps.now) 64) c.bars-found.ensures

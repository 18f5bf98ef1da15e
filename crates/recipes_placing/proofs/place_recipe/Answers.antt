use native.Mathlib.Omega.{arith}
use mathlib.Core.Path.{sym, ap, ◌∙◌}
use lib.ListN.{length}
use Rattle.recipes_placing.specs.Counted.{counts-front, length-counts, counts-fit, by-counts}
use Rattle.recipes_placing.proofs.place_recipe.Goals as goal

pub place_steps-requires : goal.place_steps-requires
place_steps-requires c =
    let e = counts-front c.args.words.now _ c.note_counts.ensures in let l = ap length e ∙ length-counts
    c.args.words.now in record {
      fact_1 = (
        c.requires.fact_2.0 ∙ sym l,
        omega (arith, l, c.requires.fact_2.1),
        omega (arith, l, c.requires.fact_2.2),
        c.requires.fact_2.3,
      );
      fact_2 = rw e (counts-fit c.args.words.now c.requires.fact_1 c.requires.fact_2.1);
    }

pub returns : goal.returns
returns c =
    let whole = by-counts _ c.args.starts.now (counts-front c.args.words.now _
    c.note_counts.ensures) (c.place_steps.ensures.offsets, c.place_steps.ensures.length) in record { offsets = whole.0; length = whole.1 }

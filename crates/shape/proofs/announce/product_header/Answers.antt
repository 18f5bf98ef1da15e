use Rattle.model.specs.Limits.{sum_shape, cut_to}
use Rattle.model.specs.Announced.{paired, announced}
use Rattle.shape_words.specs.Lengths.{lengths_of_lem}
use Rattle.shape.specs.Cut.{cut_lengths_lem}
use Rattle.shape.specs.Limits.{min_limit-pos}
use Rattle.shape.proofs.announce.product_header.Goals as goal

pub sum_shape-requires : goal.sum_shape-requires
sum_shape-requires c =
    record {
      fact_1 = rw (c.cut_to.ensures, c.min_degrees_p1-l.ensures) (cut_lengths_lem _ (lengths_of_lem c.requires.fact_1)
          (min_limit-pos _ _ c.requires.fact_1 c.requires.fact_2));
      fact_2 = rw (c.cut_to-2.ensures, c.min_degrees_p1-l.ensures)
          (cut_lengths_lem _ (lengths_of_lem c.requires.fact_2) (min_limit-pos _ _ c.requires.fact_1 c.requires.fact_2));
    }

pub returns : goal.returns
unfolding announced paired sum_shape cut_to
returns c =
    simp (
      c.min_cap.ensures,
      c.sum_shape.ensures,
      c.cut_to-2.ensures,
      c.cut_to.ensures,
      c.most.ensures,
      c.min_degrees_p1-l.ensures,
    )

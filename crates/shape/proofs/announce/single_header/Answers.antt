use Rattle.model.specs.Announced.{single}
use Rattle.shape.proofs.announce.single_header.Goals as goal

pub returns : goal.returns
unfolding single
returns c =
    simp (
      c.cap_after.ensures,
      c.single_length-4.ensures,
      c.single_length-3.ensures,
      c.single_length-2.ensures,
      c.single_length.ensures,
      c.limit_after-4.ensures,
      c.limit_after-3.ensures,
      c.limit_after-2.ensures,
      c.limit_after.ensures,
    )

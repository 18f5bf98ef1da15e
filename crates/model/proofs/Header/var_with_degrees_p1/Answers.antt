use Rattle.model.specs.Header.{var_with}
use Rattle.model.proofs.Header.var_with_degrees_p1.Goals as goal

pub returns : goal.returns
unfolding var_with
returns c =
    simp (
      c.with_lengths.ensures,
      c.two_at_most-4.ensures,
      c.two_at_most-3.ensures,
      c.two_at_most-2.ensures,
      c.two_at_most.ensures,
      c.zero_with-h.ensures,
    )

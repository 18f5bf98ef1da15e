use Rattle.model.specs.Header.{zero_with}
use Rattle.model.proofs.Header.zero_with.Goals as goal

pub returns : goal.returns
unfolding zero_with
returns c =
    simp (
      c.limit_or_one-4.ensures,
      c.limit_or_one-3.ensures,
      c.limit_or_one-2.ensures,
      c.limit_or_one.ensures,
    )

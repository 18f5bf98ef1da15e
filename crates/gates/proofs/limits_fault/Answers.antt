use Rattle.model.specs.Faults.{limits_fault}
use Rattle.gates.proofs.limits_fault.Goals as goal

pub returns : goal.returns
unfolding limits_fault
returns c =
    simp (
      c.unless.ensures,
      c.of-5.ensures,
      c.unless-l0.ensures,
      c.of-4.ensures,
      c.is_given-4.ensures,
      c.unless-l1.ensures,
      c.of-3.ensures,
      c.is_given-3.ensures,
      c.unless-l2.ensures,
      c.of-2.ensures,
      c.is_given-2.ensures,
      c.unless-l3.ensures,
      c.none.ensures,
      c.of.ensures,
      c.is_given.ensures,
    )

-- The parts lie in the buffer, and are all of it.
use Rattle.substitution_powers.specs.Powers.{part-fits, whole-parts}

pub ruleset parts_fit = (part-fits, whole-parts)

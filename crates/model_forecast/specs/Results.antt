-- REFERENCE, section 9. A number that an argument says, or none.
use Rattle.std.specs.Prelude.{Option, Float}

abbrev pub Given : Type 0
Given = Option Float

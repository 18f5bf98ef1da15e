-- REFERENCE, section 10. What a text is read as: a number, or none.
use Rattle.std.specs.Prelude.{Option, Float}

abbrev pub Read : Type 0
Read = Option Float

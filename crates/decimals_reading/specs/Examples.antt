-- What is read, worked out from the definitions and held against Python's float(); and what is refused.
use Rattle.std.specs.Prelude.{Some, None, [], ◌∷◌, map, ◌≡◌, refl}
use Rattle.std.specs.Int.Count.{count_trailing_zeros}
use Rattle.std.specs.Float.{binary64}
use Rattle.std.specs.Float.Ieee.{round, of_bits, of_fields, odd, units, size, span, climb}
use Rattle.lists.specs.Bytes.{bytes}
use Rattle.model_decimals.specs.Typed.{before, has_point, behind, all_digits, some_digits, significant, digits_value, is_typed, read_text}

pub read-examples :
    map read_text (bytes "0.1" ∷ bytes "2.5" ∷ bytes "007" ∷ bytes "0.95" ∷ bytes "999999999999999" ∷ [])
    ≡ Some (of_bits binary64 0x3fb999999999999a)
    ∷ Some (of_bits binary64 0x4004000000000000)
    ∷ Some (of_bits binary64 0x401c000000000000)
    ∷ Some (of_bits binary64 0x3fee666666666666)
    ∷ Some (of_bits binary64 0x430c6bf52633fff8)
    ∷ []
unfolding read_text is_typed before has_point behind all_digits some_digits significant digits_value bytes
    round units odd size span climb count_trailing_zeros of_bits of_fields
read-examples = refl

pub refused-examples :
    map read_text (bytes "" ∷ bytes "1." ∷ bytes ".5" ∷ bytes "." ∷ bytes "1.2.3" ∷ bytes "-1" ∷ bytes "1e3" ∷ bytes "1000000000000000" ∷ [])
    ≡ None ∷ None ∷ None ∷ None ∷ None ∷ None ∷ None ∷ None ∷ []
unfolding read_text is_typed before has_point behind all_digits some_digits significant bytes
refused-examples = refl

-- 22 digits behind the point, and 23
pub places-examples :
    map read_text (bytes "0.0000000000000000000001" ∷ bytes "0.00000000000000000000001" ∷ []) ≡ Some (of_bits binary64 0x3b5e392010175ee6) ∷ None ∷ []
unfolding read_text is_typed before has_point behind all_digits some_digits significant digits_value bytes
    round units odd size span climb count_trailing_zeros of_bits of_fields
places-examples = refl

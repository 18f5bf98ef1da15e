-- What is printed, worked out from the definitions and held against Python's decimal module.
use Rattle.std.specs.Prelude.{[], ◌∷◌, ◌++◌, map, ◌≡◌, refl}
use Rattle.lists.specs.Bytes.{bytes}
use Rattle.model_texts.specs.Number.{hex_text}
use Rattle.model_texts.specs.Printed.{digits, decimal}
use Rattle.model_decimals.specs.Value.{units_of}
use Rattle.model_decimals.specs.Text.{places, trimmed_places, point_text, rounded_text, endless_text, bits_text, float_word_text}

-- 0, -0, 1, -5 / 2, 2 ^ 53 - 1, 2 ^ 62
pub exact-examples :
    map float_word_text (0 ∷ 0x8000000000000000 ∷ 0x3ff0000000000000 ∷ 0xc004000000000000 ∷ 0x433fffffffffffff ∷ 0x43d0000000000000 ∷ [])
    ≡ bytes "0" ∷ bytes "-0" ∷ bytes "1" ∷ bytes "-2.5" ∷ bytes "9007199254740991" ∷ bytes "4611686018427387904" ∷ []
unfolding float_word_text rounded_text point_text trimmed_places places units_of decimal digits bytes
exact-examples = refl

-- 1 / 3, the ties 1 / 1024 and 3 / 1024, the float next to 1e-9, 2 ^ -30, one below 1 that rounds to 1
pub marked-examples :
    map float_word_text (0x3fd5555555555555 ∷ 0x3f50000000000000 ∷ 0x3f68000000000000 ∷ 0x3e112e0be826d695 ∷ 0x3e10000000000000 ∷ 0x3feffffffff24190 ∷ [])
    ≡ bytes "~0.333333333" ∷ bytes "~0.000976562" ∷ bytes "~0.002929688" ∷ bytes "~0.000000001" ∷ bytes "~0.000000001" ∷ bytes "~1" ∷ []
unfolding float_word_text rounded_text point_text trimmed_places places units_of decimal digits bytes
marked-examples = refl

-- the smallest float with either sign, infinities, a NaN
pub other-examples :
    map float_word_text (1 ∷ 0x8000000000000001 ∷ 0x7ff0000000000000 ∷ 0xfff0000000000000 ∷ 0x7ff8000000000000 ∷ [])
    ≡ bytes "<0.000000001" ∷ bytes ">-0.000000001" ∷ bytes "inf" ∷ bytes "-inf" ∷ bytes "nan" ∷ []
unfolding float_word_text endless_text rounded_text point_text trimmed_places places units_of decimal digits bytes
other-examples = refl

-- 2 ^ 63, and the largest float below it
pub large-example : float_word_text 0x43e0000000000000 ≡ bytes "bits " ++ hex_text 0x43e0000000000000
unfolding float_word_text bits_text
large-example = refl

pub below-example : float_word_text 0x43dfffffffffffff ≡ bytes "9223372036854774784"
unfolding float_word_text rounded_text point_text trimmed_places places units_of decimal digits bytes
below-example = refl

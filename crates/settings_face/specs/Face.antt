-- The face of the settings store: 0, or a refusal's number + 256 * 64; what is answered is written through pointers,
-- and nothing on a refusal.
use Rattle.std.specs.Prelude.{ℕ, ◌+◌, List, Result, Ok, Err, Float}
use Rattle.std.specs.Float.{binary64}
use Rattle.std.specs.Float.Ieee.{of_bits, to_bits}
use Rattle.model_settings.specs.declared.Content.{Content}
use Rattle.model_settings.specs.declared.Settled.{Settled}
use Rattle.model_settings.specs.Store.{Answer, number}
use Rattle.model_settings.specs.Words.{save_words, words_saved}

-- a refusal by its number
unfoldable pub numbered : Answer → Result Settled ℕ
numbered (Ok s) = Ok s
numbered (Err q) = Err (number q)

unfoldable pub word_of : Result Settled ℕ → ℕ
word_of (Ok a) = 0
word_of (Err n) = n + 16384

-- what stands where `old` stood
unfoldable pub version_after : Result Settled ℕ → ℕ → ℕ
version_after (Ok a) old = a.version
version_after (Err n) old = old

unfoldable pub horizon_after : Result Settled ℕ → ℕ → ℕ
horizon_after (Ok a) old = a.content.horizon
horizon_after (Err n) old = old

unfoldable pub recipe_after : Result Settled ℕ → ℕ → ℕ
recipe_after (Ok a) old = a.content.recipe
recipe_after (Err n) old = old

-- the float of the chance's bits
unfoldable pub chance_after : Result Settled ℕ → Float → Float
chance_after (Ok a) old = of_bits binary64 a.content.chance
chance_after (Err n) old = old

-- a content handed over: the chance's bits, those of the one NaN where it is a NaN
abbrev pub handed_over : Float → ℕ → ℕ → Content
handed_over x h p = record { chance = to_bits binary64 x; horizon = h; recipe = p }

-- a save of a content handed over: its answer, and the words after it
abbrev pub save_handed : List ℕ → ℕ → ℕ → Float → ℕ → ℕ → Answer
save_handed w d from x h p = save_words w d from (handed_over x h p)

abbrev pub words_handed : List ℕ → ℕ → ℕ → Float → ℕ → ℕ → List ℕ
words_handed w d from x h p = words_saved w d from (handed_over x h p)

-- What the arguments of the program `settings` say: definitions, and no laws.
use Rattle.std.specs.Prelude.{Some, None, ℕ, ◌+◌, ◌-◌, ◌*◌, Bool, ◌&&◌, cond, List, ltb, leb, eqb, length, get_or, Option}
use Rattle.std.specs.Float.{binary64}
use Rattle.std.specs.Float.Ieee.{to_bits}
use Rattle.lists.specs.Bytes.{bytes}
use Rattle.lists.specs.Every.{every}
use Rattle.lists.specs.Walk.{walk}
use Rattle.model_texts.specs.Hex.{word_at, digit_at}
use Rattle.model_decimals.specs.Results.{Read}
use Rattle.settings_command.specs.declared.asked.Call.{Call}
use Rattle.settings_command.specs.declared.asked.Call.TheVariants.{Fresh, Departments, Versions, Save, Back}
use Rattle.model_decimals.specs.Typed.{read_text}

-- '0' to '9'
abbrev pub is_decimal : ℕ → Bool
is_decimal b = leb 48 b && leb b 57

-- one digit more at the low end; 18 digits never come near the bound
unfoldable pub pushed : ℕ → ℕ → ℕ
pushed b n = cond (ltb n 100000000000000000) (10 * n + (b - 48)) n

-- whether a text says something, and what
abbrev pub says : ℕ → Option ℕ
says n = Some n

abbrev pub says_nothing : Option ℕ
says_nothing = None

-- the word of a float that was read
unfoldable pub chance_read : Read → Option ℕ
chance_read (Some x) = says (to_bits binary64 x)
chance_read None = says_nothing

module _ (t : List ℕ) where
  -- 1 to 18 decimal digits
  unfoldable pub is_number : Bool
  is_number = (leb 1 (length t) && leb (length t) 18) && every (λ p. is_decimal (get_or t p 0)) (length t) 0

  unfoldable pub number_of : ℕ
  number_of = walk (λ p n. pushed (get_or t p 0) n) (length t) 0 0

  unfoldable pub whole_of : Option ℕ
  whole_of = cond is_number (says number_of) says_nothing

  -- 0x and 16 hex digits
  unfoldable pub is_bits : Bool
  is_bits = eqb (length t) 18 && ((eqb (get_or t 0 0) 48 && eqb (get_or t 1 0) 120) && every (digit_at t) 16 2)

  -- a chance: the bits of a float, or a number as people type it, which is the float nearest to it
  unfoldable pub chance_of : Option ℕ
  chance_of = cond is_bits (says (word_at t 2)) (chance_read (read_text t))

  -- whether the text is another one
  unfoldable pub is_text : List ℕ → Bool
  is_text u = eqb (length t) (length u) && every (λ p. eqb (get_or t p 0) (get_or u p 0)) (length t) 0

  -- which call a name is, with as many words as it takes, the program's own among them
  unfoldable pub call_of : ℕ → Option Call
  call_of count =
      cond (is_text (bytes "fresh") && eqb count 3) (Some Fresh)
      (cond (is_text (bytes "list") && eqb count 3) (Some Departments)
      (cond (is_text (bytes "versions") && eqb count 4) (Some Versions)
      (cond (is_text (bytes "save") && eqb count 8) (Some Save)
      (cond (is_text (bytes "back") && eqb count 6) (Some Back) None))))

  -- how many bytes of a file's name are its folder's, the last / among them
  unfoldable pub folder_length : ℕ
  folder_length = walk (λ p n. cond (eqb (get_or t p 0) 47) (p + 1) n) (length t) 0 0

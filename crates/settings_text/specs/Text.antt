-- What the program `settings` reads and prints, byte by byte: definitions, and no laws.
use Rattle.std.specs.Prelude.{ℕ, ◌+◌, ◌-◌, ◌*◌, Bool, ◌&&◌, cond, List, ◌++◌, leb, eqb, length}
use Rattle.lists.specs.Bytes.{bytes}
use Rattle.lists.specs.Every.{every}
use Rattle.lists.specs.Table.{front}
use Rattle.model_texts.specs.Hex.{is_line, word_at, hex_line}
use Rattle.model_texts.specs.Number.{hex_text}
use Rattle.model_texts.specs.Report.{joined, tell, when}
use Rattle.model_decimals.specs.Text.{float_word_text}
use Rattle.model_settings.specs.declared.Content.{Content}
use Rattle.model_settings.specs.Words.{word, version_of, held_at}

-- ---- the file of a store: 544 lines of 16 hex digits, and nothing else

unfoldable pub is_store : List ℕ → Bool
is_store t = eqb (length t) 9248 && every (λ i. is_line t (17 * i)) 544 0

-- the store's words in front of what stood there
unfoldable pub store_words : List ℕ → List ℕ → List ℕ
store_words t w = front 544 (λ i. word_at t (17 * i)) w

-- the same where the text is such a file, else what stood there
unfoldable pub taken_words : List ℕ → List ℕ → List ℕ
taken_words t w = cond (is_store t) (store_words t w) w

unfoldable pub store_text : List ℕ → List ℕ
store_text w = joined (λ i. hex_line (word w i)) 544

-- ---- what is printed: a line a department or version

-- the chance twice: for people, and its word, which is the very float
unfoldable pub chance_text : ℕ → List ℕ
chance_text w = float_word_text w ++ (bytes " (" ++ (hex_text w ++ bytes ")"))

unfoldable pub content_text : Content → List ℕ
content_text c =
    bytes ", chance " ++ (chance_text c.chance ++
    (tell ", horizon " c.horizon ++ (tell ", recipe " c.recipe ++ bytes "\n")))

unfoldable pub department_text : List ℕ → ℕ → List ℕ
department_text w d =
    tell "department " d ++ (tell ": version " (version_of w d) ++ content_text (held_at w d (version_of w d)))

unfoldable pub departments_text : List ℕ → List ℕ
departments_text w = joined (department_text w) 32

-- the kept versions of a department, oldest first: those whose number is not below 0
unfoldable pub version_text : List ℕ → ℕ → ℕ → List ℕ
version_text w d u = tell "version " u ++ content_text (held_at w d u)

unfoldable pub kept_text : List ℕ → ℕ → ℕ → List ℕ
kept_text w d k = when (leb 7 (version_of w d + k)) (version_text w d (version_of w d + k - 7))

unfoldable pub versions_text : List ℕ → ℕ → List ℕ
versions_text w d = joined (kept_text w d) 8

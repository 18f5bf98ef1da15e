-- The store as words: 17 a department, its version, then for slot 0 to 7 the chance's bits and horizon + 256 * recipe.
-- Version u stands in slot u mod 8.
use Rattle.std.specs.Prelude.{ℕ, zero, suc, ◌+◌, ◌-◌, ◌*◌, ◌/◌, ◌%◌, Bool, ◌&&◌, cond, List, length, get_or, set, ltb, leb, eqb, Ok, Err}
use Rattle.lists.specs.Table.{table, front}
use Rattle.lists.specs.Every.{every}
use Rattle.model_settings.specs.declared.Content.{Content}
use Rattle.model_settings.specs.declared.Unsettled.TheVariants.{NoStore}
use Rattle.model_settings.specs.Store.{State, Answer, versions, blank, fresh_content, last_version, in_range, ask, told}
use Rattle.model_settings.specs.Store.{reading, reading_version, saving, bringing}

abbrev pub packed : Content → ℕ
packed c = c.horizon + 256 * c.recipe

-- The encoding of a state. Slot k holds the last version that is k mod 8, where there is one.
unfoldable pub slot_of : List Content → ℕ → Content
slot_of xs k = cond (ltb k (length xs)) (get_or xs (length xs - 1 - (length xs - 1 - k) % 8) blank) blank

-- the words of one department
unfoldable pub word_at : List Content → ℕ → ℕ
word_at xs zero = length xs - 1
word_at xs (suc j) = cond (eqb (j % 2) 0) (slot_of xs (j / 2)).chance (packed (slot_of xs (j / 2)))

unfoldable pub encode : State → List ℕ
encode s = table 544 (λ i. word_at (versions s (i / 17)) (i % 17))

-- What a list of words says.
abbrev pub word : List ℕ → ℕ → ℕ
word w i = get_or w i 0

abbrev pub version_of : List ℕ → ℕ → ℕ
version_of w d = word w (d * 17)

unfoldable pub slot_at : List ℕ → ℕ → ℕ → Content
slot_at w d k =
    record {
      chance = word w (d * 17 + 1 + 2 * k);
      horizon = word w (d * 17 + 2 + 2 * k) % 256;
      recipe = word w
          (d * 17 + 2 + 2 * k) / 256;
    }

-- what version u holds, where it is kept
abbrev pub held_at : List ℕ → ℕ → ℕ → Content
held_at w d u = slot_at w d (u % 8)

unfoldable pub same_content : Content → Content → Bool
same_content a b = eqb a.chance b.chance && (eqb a.horizon b.horizon && eqb a.recipe b.recipe)

-- The test of a store's words: a slot whose version was not made is blank; version 0, while it is kept, is the fresh
-- content; the others are in range.
unfoldable pub good_slot : ℕ → Content → ℕ → Bool
good_slot v c k =
    cond (ltb v k) (same_content c blank) (cond (eqb k 0 && ltb v 8) (same_content c fresh_content) (in_range c))

unfoldable pub good_department : List ℕ → ℕ → Bool
good_department w d = leb (version_of w d) last_version && every (λ k. good_slot (version_of w d) (slot_at w d k) k) 8 0

unfoldable pub valid : List ℕ → Bool
valid w = leb 544 (length w) && every (good_department w) 32 0

-- The calls on words.
unfoldable pub fresh_answer : List ℕ → Answer
fresh_answer w = ask (leb 544 (length w)) NoStore (told 0 fresh_content)

unfoldable pub fresh_word : ℕ → ℕ
fresh_word i = cond (eqb (i % 17) 2) 1 0

unfoldable pub fresh_words : List ℕ → List ℕ
fresh_words w = cond (leb 544 (length w)) (front 544 fresh_word w) w

unfoldable pub read_words : List ℕ → ℕ → Answer
read_words w d = ask (valid w) NoStore (reading d (version_of w d) (held_at w d))

unfoldable pub read_version_words : List ℕ → ℕ → ℕ → Answer
read_version_words w d u = ask (valid w) NoStore (reading_version d u (version_of w d) (held_at w d))

unfoldable pub save_words : List ℕ → ℕ → ℕ → Content → Answer
save_words w d from c = ask (valid w) NoStore (saving d from c (version_of w d))

unfoldable pub bring_words : List ℕ → ℕ → ℕ → ℕ → Answer
bring_words w d from u = ask (valid w) NoStore (bringing d from u (version_of w d) (held_at w d))

-- version v of department d, with its content
unfoldable pub put : List ℕ → ℕ → ℕ → Content → List ℕ
put w d v c =
    set (set (set w (d * 17) v) (d * 17 + 1 + 2 * (v % 8)) c.chance) (d * 17 + 2 + 2 * (v % 8)) (packed c)

unfoldable pub put_answer : List ℕ → ℕ → Answer → List ℕ
put_answer w d (Ok a) = put w d a.version a.content
put_answer w d (Err q) = w

-- the words after a save and after bringing back
abbrev pub words_saved : List ℕ → ℕ → ℕ → Content → List ℕ
words_saved w d from c = put_answer w d (save_words w d from c)

abbrev pub words_brought : List ℕ → ℕ → ℕ → ℕ → List ℕ
words_brought w d from u = put_answer w d (bring_words w d from u)

-- What the loops over a text carry, and which way a test went.
use Rattle.std.specs.Prelude.{ℕ, ◌+◌, ◌-◌, ◌*◌, ◌≤◌, ◌<◌, Bool, true, false, List, [], ◌++◌, ◌≡◌, length, take, drop}
use Rattle.std.proofs.Common.{sym, ap, ◌∙◌, zero-add, length-take, length-take-le, eq-eqb, ne_eqb, le-leb}
use native.Mathlib.Omega.{arith}
use Rattle.std.proofs.lemmas.Bool.{lt-leb}
use Rattle.lists.specs.Every.{every}
use Rattle.lists.specs.Table.{table}
use Rattle.lists.specs.Grow.{length_over}
use Rattle.model_texts.specs.Hex.{is_line, word_at}
use Rattle.io.specs.Counts.{IsPrefixLen}
use Rattle.report_lines.specs.Puts.{Puts, Printed, printed-none}
use Rattle.model_settings.specs.Words.{version_of}
use Rattle.settings_text.specs.Text.{is_store, store_words, taken_words, kept_text, version_text}

-- a place of a loop that starts at 0
pub here : (f : ℕ → Bool) (k : ℕ) {b : Bool} → f k ≡ b → f (0 + k) ≡ b
here f k e = rw (zero-add k) e

module _ (t : List ℕ) where
  pub store-short : (length t ≡ 9248 → ⊥) → false ≡ is_store t
  unfolding is_store
  store-short h = rw (ne_eqb _ _ h)

  pub store_is : {b : Bool} → length t ≡ 9248 → every (λ i. is_line t (17 * i)) 544 0 ≡ b → b ≡ is_store t
  unfolding is_store
  store_is h e = rw (eq-eqb _ _ h) (sym e)

  -- the first 544 words are read
  pub read-words : (w out : List ℕ) → 544 ≤ length w → out ≡ table (length (take 544 w)) (λ i. word_at t (17 * i)) → out ++ drop 544 w ≡ store_words t w
  unfolding store_words
  read-words w out h e = let n : length (take 544 w) ≡ 544 = length-take-le 544 w h in rw (e, n)

  -- which way the test of a file went, and what was read
  pub not_taken : (w : List ℕ) → is_store t ≡ false → w ≡ taken_words t w
  unfolding taken_words
  not_taken w h = rw h

  pub are-taken : (w : List ℕ) {new : List ℕ} → is_store t ≡ true → new ≡ store_words t w → new ≡ taken_words t w
  unfolding taken_words
  are-taken w h e = rw h e

module _ (w : List ℕ) (d k : ℕ) where
  pub kept-none : version_of w d + k < 7 → [] ≡ kept_text w d k
  unfolding kept_text
  kept-none h = rw (lt-leb _ _ h)

  pub kept-some : (u : ℕ) → u + 7 ≡ version_of w d + k → version_text w d u ≡ kept_text w d k
  unfolding kept_text
  kept-some u e =
      let m : u ≡ version_of w d + k - 7 = omega arith in
      rw (le-leb 7 (version_of w d + k) (omega arith)) (ap (λ (n : ℕ). version_text w d n) m)

-- a whole text, printed from the front
pub whole : {xs old new : List ℕ} {n : ℕ} → Puts xs 0 old new n → Printed xs old new n
whole {xs} {old} p = p [] old (printed-none old)

pub whole-counts : {xs old new : List ℕ} {n : ℕ} → Printed xs old new n → IsPrefixLen n new
whole-counts {xs} {old} {new} {n} p =
    let e : length new ≡ length old = ap length p.is ∙ length_over (take (length old) xs) old
    (simp length-take (omega arith)) in
    let l : n ≤ length new = omega (arith, p.behind) in
    (l, sym (length-take-le n new l))

-- The constant's place (document 01, port order 3 and 4: stored count 1 is what the shortcuts ask for): its index is
-- the origin, a block of stored count 1 is zero everywhere else, and a block with its first coefficient changed is
-- changed at the origin only.
use Rattle.std.specs.Prelude.{◌≡◌, refl, false, List, ℕ, ◌≤◌, ◌<◌, eqb, length, get_or, set, pos, Float}
use Rattle.std.proofs.Common.{sym, ap, ◌∙◌, true≢false, arith, lit<, get_or-set_same, get_or-set_other, eqb-true}
use Rattle.std.specs.Float.{nan}
use Rattle.std.proofs.lemmas.Bool.{eqb-false}
use Rattle.lists.specs.Test.{decide}
use Rattle.lists.specs.Four.{at, each, four_same}
use Rattle.model_textbook.specs.Box.{degree}
use Rattle.model.specs.Header.{count}
use Rattle.model.specs.Places.{place, inside}
use Rattle.model.specs.Poly.{Block, block}
use Rattle.model_textbook.specs.Textbook.{Series, origin}
use Rattle.laws_whole.specs.Whole.{Whole}
use Rattle.laws_whole.specs.IndexLaws.{four_at_lem}
use Rattle.shape_words.specs.Lengths.{Inside, inside_is, is_inside_lem, inside-four, inside-at}
use Rattle.shape_words.specs.Places.{place-lt}
use Rattle.laws_exact.specs.Windows.{degree-origin}
use Rattle.laws_keeps.specs.Sits.{Sits}
use Rattle.shape_words.specs.Spans.{count-one}
use Rattle.laws_exact.specs.Wholes.{Is, whole-at, stored_at, past-at, place-one, place-origin}

-- a test that cannot hold
pub outside : (n k : List ℕ) → (Inside n k → ⊥) → inside n k ≡ false
outside n k h = decide (inside n k) (λ t. absurd (h (inside_is n k t))) (λ t. t)

-- past longer lengths
pub outside-shorter : (n m k : List ℕ) → ((v : ℕ) → v < 4 → at m v ≤ at n v) → inside n k ≡ false → inside m k ≡ false
outside-shorter n m k h e = outside m k (λ i. true≢false (sym (is_inside_lem {n = n} (inside-four (λ v l. omega (arith, inside-at i v l, h v l)))) ∙ e))

-- ---- the constant's index

module _ {l : List ℕ} {b : Block} (s : Sits l b) where
  pub origin-stored : Inside b.lengths origin
  origin-stored = inside-four (each (λ k. at origin k < at b.lengths k) (s.lo 0 (lit< tt)) (s.lo 1 (lit< tt)) (s.lo 2 (lit< tt)) (s.lo 3 (lit< tt)))

  -- what is stored lies under the limits
  pub stored-under : {k : List ℕ} → Inside b.lengths k → Inside l k
  stored-under i = inside-four (λ v h. omega (arith, inside-at i v h, s.hi v h))

  pub first-whole : {A : Series} → Is l b A → Whole (get_or b.places 0 nan) (A origin)
  first-whole w = rw (place-origin b.lengths) at (stored_at b origin (w.at origin refl (stored-under origin-stored)) origin-stored)

-- whether an index is the constant's
pub at-origin : {P : Type 0} (k : List ℕ) → length k ≡ 4 → (k ≡ origin → P) → ((k ≡ origin → ⊥) → P) → P
unfolding degree
at-origin k f is other = decide (eqb (degree k) 0) (λ t. is (degree-origin k f (eqb-true _ 0 t))) (λ t. other (λ e. eqb-false _ 0 t (ap degree e)))

-- lengths of 1 hold the constant alone
pub inside-ones : (n k : List ℕ) → length k ≡ 4 → ((v : ℕ) → v < 4 → at n v ≡ 1) → Inside n k → k ≡ origin
inside-ones n k f h i = four_at_lem k f ∙ four_same (at k) (λ v. 0) (λ v l. omega (arith, inside-at i v l, h v l))

-- of a block of stored count 1 everything else is zero
pub only-first : {l r : List ℕ} {b : Block} {B : Series} → Sits r b → Is l b B → count b.lengths ≡ 1 → (k : List ℕ)
    → length k ≡ 4 → Inside l k → (k ≡ origin → ⊥) → B k ≡ pos 0
only-first {b = b} s w h k f i other =
    decide (inside b.lengths k)
    (λ t. absurd (other (inside-ones b.lengths k f (count-one b.lengths s.lo h) (inside_is b.lengths k t))))
    (λ t. past-at b k (w.at k f i) t)

-- a block with its first coefficient changed
pub first-changed : {l : List ℕ} {a : Block} {A Z : Series} {y : Float} → Sits l a → Is l a A → Whole y (Z origin)
    → ((k : List ℕ) → length k ≡ 4 → Inside l k → (k ≡ origin → ⊥) → Z k ≡ A k) → Is l (block a.lengths (set a.places 0 y)) Z
first-changed {l} {a} {A} {Z} {y} s w v same = record {
  at = λ k f i.
      let n = a.lengths in
      at-origin k f
      (λ e. rw e (whole-at (block n (set a.places 0 y)) origin
      (λ j. rw (place-origin n, get_or-set_same a.places 0 y nan (omega (arith, s.full, place-lt n origin j))) v)
      (λ t. absurd (true≢false (sym (is_inside_lem (origin-stored s)) ∙ t)))))
      (λ other. whole-at (block n (set a.places 0 y)) k
      (λ j. rw (
        get_or-set_other a.places 0 (place n k) y nan
            (λ e. other (place-one n k origin f refl j (origin-stored s) (e ∙ sym (place-origin n)))),
        same k f i other,
      )
      (stored_at a k (w.at k f i) j))
      (λ t. same k f i other ∙ past-at a k (w.at k f i) t));
}

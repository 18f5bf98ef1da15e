-- The product by a constant (document 01, port order 4: c times x; stored count 1) is the exact product.
use Rattle.std.specs.Prelude.{◌≡◌, refl, List, ℕ, ◌^◌, ◌≤◌, ◌<◌, length, ℤ, nat_abs, ◌*ℤ◌, Float}
use Rattle.std.proofs.Common.{sym, ap, ◌∙◌, true≢false, lit<, ne_eqb}
use Rattle.std.proofs.Math.IntN.{*ℤ-zero}
use Rattle.lists.specs.Four.{at-four, at, each}
use Rattle.model.specs.Header.{count, ones}
use Rattle.model.specs.Places.{offset}
use Rattle.model_textbook.specs.Box.{degree}
use Rattle.model.specs.Poly.{Block}
use Rattle.model.specs.Product.{constant_block, scaled, scaled_at}
use Rattle.model_textbook.specs.Textbook.{Series, times, origin}
use Rattle.laws_whole.specs.Whole.{Whole}
use Rattle.laws_whole.specs.Exact.{whole-mul}
use Rattle.laws_whole.specs.IndexLaws.{within-length}
use Rattle.shape_words.specs.Lengths.{Inside, is_inside_lem, inside-four}
use Rattle.laws_keeps.specs.Sits.{Sits}
use Rattle.laws_exact.specs.Windows.{degree-origin}
use Rattle.laws_exact.specs.Factors.{times-first, constant_of}
use Rattle.laws_exact.specs.Generals.{before}
use Rattle.laws_exact.specs.Wholes.{Is, whole-at, stored_at, past-at, table-read, place-origin}
use Rattle.laws_exact.specs.Firsts.{inside-ones, at-origin, only-first}

-- c times each place
pub scaled-is : {l : List ℕ} {b : Block} {B : Series} {c : Float} {C : ℤ} → Whole c C → Is l b B
    → ((k : List ℕ) → length k ≡ 4 → Inside l k → nat_abs (C *ℤ B k) ≤ 2 ^ 53) → Is l (scaled c b) (λ k. C *ℤ B k)
scaled-is {b = b} {c = c} {C = C} w q h = record {
  at = λ k f i.
      whole-at (scaled c b) k
      (λ j. rw (table-read b.lengths (count b.lengths) (scaled_at c b.places) k refl j) (whole-mul w (stored_at b k (q.at k f i) j) (h k f i)))
      (λ t. ap (λ (z : ℤ). C *ℤ z) (past-at b k (q.at k f i) t) ∙ *ℤ-zero C);
}

-- the constant as a block
pub constant-is : {l : List ℕ} (A : Series) {c : Float} → Whole c (A origin) → Is l (constant_block c) (constant_of A)
unfolding degree offset
constant-is A {c = c} w = record {
  at = λ k f i.
      at-origin k f
      (λ e. rw e (whole-at (constant_block c) origin (λ j. rw (place-origin ones) w)
      (λ t. absurd (true≢false
      (sym (is_inside_lem {n =
      ones} (inside-four (each (λ v. at origin v < at ones v) (lit< tt) (lit< tt) (lit< tt) (lit< tt)))) ∙ t)))))
      (λ o. rw (ne_eqb (degree k) 0 (λ e. o (degree-origin k f e)))
      (whole-at (constant_block c) k
      (λ j. absurd (o (inside-ones ones k f (at-four (λ v. 1)) j)))
      (λ t. refl)));
}

-- a factor of stored count 1
pub constant-times : {l : List ℕ} {a : Block} {A : Series} → Sits l a → Is l a A → count a.lengths ≡ 1
    → (B : Series) (k : List ℕ) → length k ≡ 4 → Inside l k → times A B k ≡ A origin *ℤ B k
constant-times s p h B k f i = times-first _ B k f (λ j w o. only-first s p h j (within-length w ∙ f) (before w i) o)

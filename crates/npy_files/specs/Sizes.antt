-- Numbers above 64 kept as 65, and more than four as five, decide as the shape itself.
use Rattle.std.specs.Prelude.{ℕ, zero, suc, ◌+◌, ◌-◌, ◌*◌, ◌≤◌, ◌<◌, min, List, [], ◌∷◌, ◌++◌, map, Bool, true}
use Rattle.std.specs.Prelude.{false, ◌&&◌, ◌||◌, cond, ◌≡◌, refl, leb, ltb, eqb, length}
use Rattle.std.proofs.Common.{sym, ap, ◌∙◌, arith, leb-true, leb-false, le-leb}
use Rattle.std.proofs.lemmas.List.{length-map}
use Rattle.std.proofs.lemmas.Bool.{lt-leb}
use Rattle.lists.specs.Test.{decide, and_left, and_right}
use Rattle.npy_grammar.specs.Reading.{cap}
use Rattle.model.specs.Header.{span, count}
use Rattle.npy_files.specs.Shapes.{all_in_range, product, good_shape, lengths_of}

cap-range : (x : ℕ) → (leb 1 (cap x) && leb (cap x) 64) ≡ (leb 1 x && leb x 64)
cap-range x =
    decide (leb x 64)
    (λ e. let l = leb-true x 64 e in let k : cap x ≡ x = omega arith in rw k)
    (λ e.
    let l = leb-false x 64 e in
    let k : cap x ≡ 65 = omega arith in
    rw (k, e) (and_none (leb 1 x)))
  where
    and_none : (b : Bool) → false ≡ (b && false)
    and_none true = refl
    and_none false = refl

pub range-cap : (s : List ℕ) → all_in_range (map cap s) ≡ all_in_range s
unfolding all_in_range
range-cap [] = refl
range-cap (x ∷ s) = rw (cap-range x, range-cap s)

pub cap_in : (x : ℕ) → (leb 1 x && leb x 64) ≡ true → cap x ≡ x
cap_in x h = let l = leb-true x 64 (and_right (leb 1 x) (leb x 64) h) in omega arith

product-cap : (s : List ℕ) → all_in_range s ≡ true → product (map cap s) ≡ product s
unfolding all_in_range product
product-cap [] h = refl
product-cap (x ∷ s) h =
    rw (cap_in x (and_left (leb 1 x && leb x 64) (all_in_range s) h), product-cap s (and_right (leb 1 x && leb x 64) (all_in_range s) h))

-- 65 for all above says as much as the numbers do
pub good_cap_lem : (s : List ℕ) → good_shape (map cap s) ≡ good_shape s
unfolding good_shape
good_cap_lem s =
    decide (all_in_range s)
    (λ e. rw (length-map s cap, range-cap s, product-cap s e))
    (λ e. rw (length-map s cap, range-cap s, e, and-false (leb (length s) 4)))
  where
    and-false : (b : Bool) → (b && false) ≡ false
    and-false true = refl
    and-false false = refl

-- the values of a shape are the places of its polynomial
pub product-count : (s : List ℕ) → length s ≤ 4 → product s ≡ count (lengths_of s)
unfolding product span
product-count [] h = refl
product-count (a ∷ []) h = refl
product-count (a ∷ (b ∷ [])) h = refl
product-count (a ∷ (b ∷ (c ∷ []))) h = refl
product-count (a ∷ (b ∷ (c ∷ (d ∷ [])))) h = refl
product-count (a ∷ (b ∷ (c ∷ (d ∷ (e ∷ s))))) h = absurd (omega arith)

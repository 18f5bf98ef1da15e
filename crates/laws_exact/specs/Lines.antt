-- A linear factor (document 01, port order 4): c + m v. m times the other is raised by one in v and, unless c is zero,
-- the other times c is added: that is the exact product, and every number in between is a term of it at most in size.
use Rattle.std.specs.Prelude.{◌≡◌, refl, true, ◌||◌, List, ℕ, ◌-◌, ◌*◌, ◌^◌, ◌≤◌, ◌<◌, eqb, length, get_or, set, ℤ, nat_abs, ◌+ℤ◌, ◌*ℤ◌}
use Rattle.std.proofs.Math.Path.{sym, ap}
use Rattle.std.proofs.Common.{◌∙◌, le_trans, le_of_eq, mul_comm, arith, ne_eqb}
use Rattle.std.proofs.Math.Bool.{false}
use Rattle.std.proofs.Math.IntN.{pos, +ℤ_idr, zero-*ℤ}
use Rattle.std.specs.Float.{nan}
use Rattle.std.specs.Float.Ieee.{eq}
use Rattle.std.proofs.lemmas.Bool.{eqb-false}
use Rattle.lists.specs.Test.{decide, or_right}
use Rattle.lists.specs.Four.{at, each, one-changed}
use Rattle.model.specs.declared.Linear.{Linear}
use Rattle.model.specs.Places.{place, inside, offset}
use Rattle.model.specs.Refusals.{zero_f}
use Rattle.model.specs.Poly.{Block, read_at}
use Rattle.model.specs.Linear.{row_one, linear_in, line_of}
use Rattle.model.specs.Product.{raised, linear_product}
use Rattle.model_textbook.specs.Textbook.{Series, times, origin}
use Rattle.laws_whole.specs.Int.{abs-mul}
use Rattle.laws_whole.specs.Whole.{Whole}
use Rattle.laws_whole.specs.Compare.{eq-zero}
use Rattle.laws_whole.specs.IndexLaws.{within-length}
use Rattle.laws_whole.specs.SeriesLaws.{times-comm}
use Rattle.laws_whole.specs.SeriesSizes.{sizes, abs-times}
use Rattle.shape_words.specs.Lengths.{Inside, inside_is, inside-four, inside-at}
use Rattle.shape_words.specs.Places.{place-lt}
use Rattle.laws_keeps.specs.Sits.{Sits}
use Rattle.laws_keeps.specs.ProductKeeps.{raised-sits}
use Rattle.laws_keeps.specs.Ways.{Line, line_two_lem, line_place_lem}
use Rattle.laws_exact.specs.Factors.{positive, sizes-term, unit, unit-length, unit-within, minus-unit, raised_z, constant_of, times-constant_of_lem}
use Rattle.laws_exact.specs.Generals.{Fits, before}
use Rattle.laws_exact.specs.Wholes.{Is, stored_at, past-at, place-one, place-origin, is_same_lem}
use Rattle.laws_exact.specs.Firsts.{first-whole, origin-stored, stored-under}
use Rattle.laws_exact.specs.Joins.{joined_is}
use Rattle.laws_exact.specs.Raised.{raised_is}

module _ {l : List ℕ} {a : Block} {A : Series} (s : Sits l a) (p : Is l a A) (v : ℕ) (h : v < 4) (fits : linear_in a v ≡ true) where
  place-unit : place a.lengths (unit v) ≡ row_one a v
  unfolding offset
  place-unit = each (λ v. place a.lengths (unit v) ≡ row_one a v) (omega arith) (omega arith) (omega arith) (omega arith) v h

  unit-stored : Inside a.lengths (unit v)
  unit-stored = inside-four (one-changed (λ c x. x < at a.lengths c) origin v 1 h (line_two_lem a v fits) (λ c g o. inside-at (origin-stored s) c g))

  pub line_factor : Whole (get_or a.places (row_one a v) nan) (A (unit v))
  line_factor = rw place-unit at (stored_at a (unit v) (p.at (unit v) (unit-length v) (stored-under s unit-stored)) unit-stored)

  -- everything but the constant and v itself is zero
  pub line-only : (k : List ℕ) → length k ≡ 4 → Inside l k → (k ≡ origin → ⊥) → (k ≡ unit v → ⊥) → A k ≡ pos 0
  line-only k f i o u =
      let n = a.lengths in
      let x = place n k in
      decide (inside n k)
      (λ t.
      let j = inside_is n k t in
      let first-no : eqb x 0 ≡ false = ne_eqb x 0 (λ e. o (place-one n k origin f refl j (origin-stored s) (e ∙ sym (place-origin n)))) in
      let row-no : eqb x (row_one a v) ≡ false = ne_eqb x (row_one a v) (λ e. u
      (place-one n k (unit v) f (unit-length v) j unit-stored (e ∙ sym place-unit))) in
      let z : eq (read_at a k) zero_f ≡ true = or_right (eqb x 0 || eqb x (row_one a v)) _ (line_place_lem a v fits x (place-lt n k j)) (rw
      (first-no, row-no)) in
      (eq-zero (stored_at a k (p.at k f i) j)).0 z)
      (λ t. past-at a k (p.at k f i) t)

pub line-constant : {l : List ℕ} {a : Block} {A : Series} {line : Linear} → Line a line → Sits l a → Is l a A → Whole line.c (A origin)
unfolding line_of
line-constant i s p = rw (ap (λ (x : Linear). x.c) i.is) (first-whole s p)

-- a line times x, given the product of x by the line's constant
module _ {l : List ℕ} {a x : Block} {A X : Series} (by_c : Block → Block) (line : Linear) (i : Line a line)
    (s : Sits l a) (t : Sits l x) (p : Is l a A) (q : Is l x X) (room : Fits l A X) where
  abbrev v : ℕ
  v = line.variable

  factor : Whole line.m (A (unit v))
  unfolding line_of
  factor = rw (ap (λ (x : Linear). x.m) i.is) (line_factor s p v i.var i.fits)

  -- what is raised is a term of the product
  pub small : (k : List ℕ) → length k ≡ 4 → Inside l k → nat_abs (raised_z v (A (unit v)) X k) ≤ 2 ^ 53
  small k f j =
      decide (eqb (at k v) 0)
      (λ e. rw e (omega arith))
      (λ e.
      let k' = set k v (at k v - 1) in
      let w = unit-within k f v i.var (positive (at k v) (eqb-false _ _ e)) in
      let b : nat_abs (A (unit v)) * nat_abs (X k') ≤ sizes A X k = rw (minus-unit k f v i.var) at (sizes-term A X w) in
      rw e (le_trans (le_of_eq (abs-mul (X k') (A (unit v)) ∙ mul_comm (nat_abs (X k')) (nat_abs (A (unit v))))) (le_trans b (room.at k f j))))

  pub up-sits : Sits l (raised l v line.m x)
  up-sits = raised-sits v line.m i.var t t (omega arith)

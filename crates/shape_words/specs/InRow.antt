-- The index of a place of a sub-block: of p = k * s + q, where s places lie in a row of the variable v, and q is one of
-- them.
use Rattle.std.specs.Prelude.{ℕ, ◌+◌, ◌-◌, ◌*◌, ◌/◌, ◌%◌, ◌<◌, List, ◌≡◌}
use Rattle.std.proofs.Common.{sym, ◌∙◌, mul_assoc, mul-one, div-lt_iff_lt-mul}
use Rattle.std.proofs.Math.Path.{ap}
use native.Mathlib.Omega.{arith}
use Rattle.std.proofs.Math.Nat.{mod-eq_of_lt, div-eq_of_lt, add-mul-div_right, add-mul-mod_self_right}
use Rattle.lists.specs.Four.{at, each}
use Rattle.model.specs.Header.{span}
use Rattle.model.specs.Places.{index}
use Rattle.shape_words.specs.Lengths.{Lengths}

-- how many places lie in a row of the variable v
abbrev pub in_row : List ℕ → ℕ → ℕ
in_row r v = span r (4 - (v + 1)) (v + 1)

module _ (k : ℕ) {n : ℕ} (q : ℕ) (h : 0 < n) where
  pub row-div : (k * n + q) / n ≡ k + q / n
  row-div = let e : k * n + q ≡ q + k * n = omega arith in
      let f : q / n + k ≡ k + q / n = omega arith in
      ap (λ (x : ℕ). x / n) e ∙ (add-mul-div_right q k h ∙ f)

  pub row_mod : (k * n + q) % n ≡ q % n
  row_mod = let e : k * n + q ≡ q + k * n = omega arith in ap (λ (x : ℕ). x % n) e ∙ add-mul-mod_self_right q k n

module _ (k : ℕ) {a b c : ℕ} (q : ℕ) (pa : 0 < a) (pb : 0 < b) (pc : 0 < c) where
  -- two lengths in a row
  two-div : (k * (b * c) + q) / c ≡ k * b + q / c
  two-div = ap (λ (x : ℕ). (x + q) / c) (sym (mul_assoc k b c)) ∙ row-div (k * b) q pc

  two_mod : (k * (b * c) + q) % c ≡ q % c
  two_mod = ap (λ (x : ℕ). (x + q) % c) (sym (mul_assoc k b c)) ∙ row_mod (k * b) q pc

  two-top : q < b * c → (k * (b * c) + q) / c / b ≡ k
  two-top l =
      let z : q / c / b ≡ 0 = div-eq_of_lt ((div-lt_iff_lt-mul pc).1 l) in
      ap (λ (x : ℕ). x / b) two-div ∙ (row-div k (q / c) pb ∙ omega (arith, z))

  two-next : (k * (b * c) + q) / c % b ≡ q / c % b
  two-next = ap (λ (x : ℕ). x % b) two-div ∙ row_mod k (q / c) pb

  -- three
  three-is : k * (a * (b * c)) + q ≡ k * a * (b * c) + q
  three-is = ap (λ (x : ℕ). x + q) (sym (mul_assoc k a (b * c)))

  three-div : (k * a * (b * c) + q) / c / b ≡ k * a + q / c / b
  three-div =
      ap (λ (x : ℕ). (x + q) / c / b) (sym (mul_assoc (k * a) b c))
      ∙ (ap (λ (x : ℕ). x / b) (row-div (k * a * b) q pc) ∙ row-div (k * a) (q / c) pb)

  three-top : q < a * (b * c) → (k * (a * (b * c)) + q) / c / b / a ≡ k
  three-top l =
      let m : q < a * b * c = rw (mul_assoc a b c) l in
      let z : q / c / b / a ≡ 0 = div-eq_of_lt ((div-lt_iff_lt-mul pb).1 ((div-lt_iff_lt-mul pc).1 m)) in
      ap (λ (x : ℕ). x / c / b / a) three-is ∙ (ap (λ (x : ℕ). x / a) three-div ∙ (row-div k (q / c / b) pa ∙ omega (arith, z)))

  three-next : (k * (a * (b * c)) + q) / c / b % a ≡ q / c / b % a
  three-next = ap (λ (x : ℕ). x / c / b % a) three-is ∙ (ap (λ (x : ℕ). x % a) three-div ∙ row_mod k (q / c / b) pa)

-- the number k at the variable v, and after it those of the place q
pub record Split (r : List ℕ) (v k q p : ℕ) : Type 0 where
  pub here : at (index r p) v ≡ k
  pub after : (w : ℕ) → v < w → w < 4 → at (index r p) w ≡ at (index r q) w

module _ (r : List ℕ) (g : Lengths r) (k q : ℕ) where
  split_3 : k < at r 3 → q < in_row r 3 → Split r 3 k q (k * in_row r 3 + q)
  unfolding span index
  split_3 h l =
      let e : k * 1 + q ≡ k = omega arith in
      record { here = ap (λ (x : ℕ). x % at r 3) e ∙ mod-eq_of_lt h; after = λ w p m. absurd (omega arith) }

  -- the numbers after v
  after_of_lem : (v p : ℕ) → (v < 1 → at (index r p) 1 ≡ at (index r q) 1) → (v < 2 → at (index r p) 2 ≡ at (index r q) 2)
      → (v < 3 → at (index r p) 3 ≡ at (index r q) 3)
      → (w : ℕ) → v < w → w < 4 → at (index r p) w ≡ at (index r q) w
  after_of_lem v p a b d w h l = each (λ w. v < w → at (index r p) w ≡ at (index r q) w) (λ h. absurd (omega arith)) a b d w l h

  split_2 : k < at r 2 → q < in_row r 2 → Split r 2 k q (k * in_row r 2 + q)
  unfolding span index
  split_2 h l =
      let m : q < at r 3 = omega arith in
      let z : q / at r 3 ≡ 0 = div-eq_of_lt m in
      let d : (k * at r 3 + q) / at r 3 ≡ k = row-div k q g.p3 ∙ omega (arith, z) in
      rw (mul-one (at r 3)) record {
        here = ap (λ (x : ℕ). x % at r 2) d ∙ mod-eq_of_lt h;
        after = after_of_lem 2 _ (λ h. absurd (omega arith)) (λ h. absurd (omega arith)) (λ h. row_mod k q g.p3);
      }

  split_1 : k < at r 1 → q < in_row r 1 → Split r 1 k q (k * in_row r 1 + q)
  unfolding span index
  split_1 h l =
      let m : q < at r 2 * at r 3 = rw (mul-one (at r 3)) at l in
      rw (mul-one (at r 3)) record {
        here = ap (λ (x : ℕ). x % at r 1) (two-top k q g.p1 g.p2 g.p3 m) ∙ mod-eq_of_lt h;
        after = after_of_lem 1 _ (λ h. absurd (omega arith)) (λ h. two-next k q g.p1 g.p2 g.p3) (λ h. two_mod k q g.p1 g.p2 g.p3);
      }

  split_0 : k < at r 0 → q < in_row r 0 → Split r 0 k q (k * in_row r 0 + q)
  unfolding span index
  split_0 h l =
      let m : q < at r 1 * (at r 2 * at r 3) = rw (mul-one (at r 3)) at l in
      let e : k * (at r 1 * (at r 2 * at r 3)) + q ≡ k * at r 1 * (at r 2 * at r 3) + q = three-is k q g.p1 g.p2 g.p3 in
      rw (mul-one (at r 3)) record {
        here = three-top k q g.p1 g.p2 g.p3 m;
        after =
            after_of_lem 0 _ (λ h. three-next k q g.p1 g.p2 g.p3)
            (λ h. ap (λ (x : ℕ). x / at r 3 % at r 2) e ∙ two-next (k * at r 1) q g.p1 g.p2 g.p3)
            (λ h. ap (λ (x : ℕ). x % at r 3) e ∙ two_mod (k * at r 1) q g.p1 g.p2 g.p3);
      }

  pub split_at : (v : ℕ) → v < 4 → k < at r v → q < in_row r v → Split r v k q (k * in_row r v + q)
  split_at = each (λ v. k < at r v → q < in_row r v → Split r v k q (k * in_row r v + q)) split_0 split_1 split_2 split_3

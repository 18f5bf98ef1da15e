-- A `shift_down` keeps the sum of all coefficients: the first rows are added up, and the others move.
use Rattle.std.specs.Prelude.{ℕ, zero, suc, ◌+◌, ◌-◌, ◌≤◌, ◌<◌, max, cond, List, [], ◌∷◌, ◌≡◌, refl, eqb, length, set, ℤ, pos, ◌+ℤ◌}
use Rattle.std.proofs.Common.{sym, ap, ap₂, ◌∙◌, subst, arith, ne_eqb}
use Rattle.lists.specs.Four.{at, four, each}
use Rattle.model_textbook.specs.Sum.{add_z, sum_z}
use Rattle.model_textbook.specs.Box.{box, box_z}
use Rattle.model_textbook.specs.Textbook.{Series, sum_of_all, shifted}
use Rattle.laws_whole.specs.IndexLaws.{in-box-length, four_at_lem}
use Rattle.laws_whole.specs.SumLaws.{sum_same, sum_first, sum-split, sum-shift, sum_narrow}
use Rattle.laws_whole.specs.BoxLaws.{box-same, box-zeros, sum-box}
use Rattle.laws_full.specs.Unlimited.{shift_lengths}
use Rattle.laws_full.specs.Bounds.{Bounds}

-- the variable is the first: rows g 0, g 1, .., zero from n on; m rows are left
module _ (g : ℕ → ℤ) (n d : ℕ) (past : (j : ℕ) → n ≤ j → g j ≡ pos 0) where
  rows-kept : (m : ℕ) → n ≤ suc d + m → sum_z g (suc d) 0 +ℤ sum_z (λ i. g (i + d)) m 1 ≡ sum_z g n 0
  rows-kept m l =
      let e : d + 1 ≡ 0 + suc d = omega arith in
      ap (λ (x : ℤ). sum_z g (suc d) 0 +ℤ x)
      (sum_same add_z (λ i. g (i + d)) (λ i. g (d + i)) m 1 (λ i p q. let c : i + d ≡ d + i = omega arith in ap g c)
      ∙ (sum-shift add_z g m d 1 ∙ ap (sum_z g m) e))
      ∙ (sym (sum-split add_z g (suc d) m 0) ∙ sum_narrow add_z g n (suc d + m) l (λ j p q. past j p))

-- a list of any length, so that laws can go by one variable after the other
pub shift-box : (ns : List ℕ) (v d : ℕ) (A : Series) → v < length ns → ((j : List ℕ) → length j ≡ length ns → at ns v ≤ at j v → A j ≡ pos 0)
    → box_z (set ns v (max 1 (at ns v - d))) (shifted v d A) ≡ box_z ns A
unfolding box shifted
shift-box [] v d A l h = absurd (omega arith)
shift-box (n ∷ ns) zero d A l h =
    let g : ℕ → ℤ = λ i. box_z ns (λ j. A (i ∷ j)) in
    let m : ℕ = max 1 (n - d) - 1 in
    let e : max 1 (n - d) ≡ suc m = omega arith in
    let row : ℕ → ℤ = λ i. box_z ns (λ j. cond (eqb i 0) (sum_z (λ r. A (r ∷ j)) (suc d) 0) (A ((i + d) ∷ j))) in
    let past : (j : ℕ) → n ≤ j → g j ≡ pos 0 =
    λ j p. box-zeros add_z (λ k. A (j ∷ k)) ns (λ k u. h (j ∷ k) (ap suc (in-box-length u)) p) in
    ap (λ (x : ℕ). sum_z row x 0) e
    ∙ (sum_first add_z row m 0
    ∙ (ap₂ ◌+ℤ◌ (sym (sum-box add_z (λ r j. A (r ∷ j)) (suc d) 0 ns))
    (sum_same add_z row (λ i. g (i + d)) m 1 (λ i p q.
    box-same add_z _ (λ j. A ((i + d) ∷ j)) ns (λ j u. rw (ne_eqb i 0 (λ z. omega (arith, z))) refl)))
    ∙ rows-kept g n d past m (omega arith)))
shift-box (n ∷ ns) (suc v) d A l h =
    sum_same add_z _ _ n 0 (λ i p q.
    shift-box ns v d (λ j. A (i ∷ j)) (omega arith) (λ j e k. h (i ∷ j) (ap suc e) k))

-- four lengths, one of them changed
lengths-set : (f : ℕ → ℕ) (v d : ℕ) → v < 4 → shift_lengths v d (four f) ≡ set (four f) v (max 1 (at (four f) v - d))
unfolding shift_lengths
lengths-set f v d l = each (λ v. shift_lengths v d (four f) ≡ set (four f) v (max 1 (at (four f) v - d))) refl refl refl refl v l

pub shifted-total : (a : List ℕ) {A : Series} (v d : ℕ) → length a ≡ 4 → Bounds (at a) A → v < 4
    → sum_of_all (shift_lengths v d a) (shifted v d A) ≡ sum_of_all a A
unfolding sum_of_all
shifted-total a {A} v d ea f l =
    let e : shift_lengths v d a ≡ set a v (max 1 (at a v - d)) =
    subst (λ (x : List ℕ). shift_lengths v d x ≡ set x v (max 1 (at x v - d))) (sym (four_at_lem a ea)) (lengths-set (at a) v d l) in
    ap (λ (x : List ℕ). box_z x (shifted v d A)) e ∙ shift-box a v d A (omega (arith, ea)) (λ j k p. f.past v l j p)

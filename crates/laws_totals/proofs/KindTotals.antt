-- What rests on laws of specs/ (Kinds).
use Prim.Native.Nat.{ℕ, zero, suc, ◌+◌, ◌-◌, ◌*◌}
use mathlib.Core.List.{List}
use Rattle.std.specs.Prelude.{◌≡◌, ℤ, ◌*ℤ◌}
use Rattle.std.proofs.Math.Path.{refl, sym, ap}
use Rattle.std.proofs.Common.{◌∙◌}
use Rattle.std.proofs.Math.ListN.{length}
use Rattle.lists.specs.Four.{at}
use Rattle.model_textbook.specs.Box.{box_z}
use Rattle.model_textbook.specs.Textbook.{Series, sum_of_all, times, power}
use Rattle.laws_full.specs.Unlimited.{product_lengths, power_lengths}
use Rattle.laws_full.specs.Bounds.{Bounds}
use Rattle.laws_full.proofs.Bounds.{bounds-power}
use Rattle.laws_totals.specs.Boxes.{wider, listed}
use Rattle.laws_totals.specs.Kinds.{longer, none-total, power_z, times-total}

module _ (a : List ℕ) {A : Series} (ea : length a ≡ 4) (f : Bounds (at a) A) where
  pub power-total : (e : ℕ) → sum_of_all (power_lengths e a) (power A e) ≡ power_z (sum_of_all a A) e
  unfolding sum_of_all power_z power power_lengths product_lengths
  power-total zero = none-total a A
  power-total (suc e) =
      let n : List ℕ = power_lengths e a in
      let b : Bounds (at n) (power A e) = listed (λ k. e * (at a k - 1) + 1) (bounds-power f e) in
      sym (wider {A = times (power A e) A} (power_lengths (suc e) a) (product_lengths n a) refl refl
      (listed (λ k. suc e * (at a k - 1) + 1) (bounds-power f (suc e))) (λ w l. (longer a ea f) e w l))
      ∙ (times-total n a {A = power A e} {B = A} refl ea b f ∙ ap (λ (x : ℤ). x *ℤ box_z a A) (power-total e))

-- Kinds 1, 7, 8 and 9: one operand, negated or shifted.
use Rattle.std.specs.Prelude.{ℕ, ◌≤◌, ◌<◌, cond, ◌≡◌, eqb, Float}
use mathlib.Core.List.{List, [], ◌++◌, append-nil}
use Rattle.std.proofs.Math.Path.{refl, ap}
use Rattle.std.proofs.Common.{◌∙◌, arith}
use Rattle.std.proofs.Math.ListN.{length, drop, drop_of_length-le}
use borrow.Author.Tests.{eq-eqb, ne_eqb}
use Rattle.lists.specs.Table.{table, front, length-table}
use Rattle.model.specs.declared.Header.{Header}
use Rattle.model.specs.declared.Family.{Family}
use Rattle.model.specs.declared.Family.TheVariants.{Same, Shift}
use Rattle.model.specs.Header.{limit, stored, no_header}
use Rattle.model.specs.Announced.{announced}
use Rattle.model.specs.Refusals.{padded}
use Rattle.model.specs.Poly.{Poly, poly}
use Rattle.model.specs.Negate.{negated_at, negated}
use Rattle.model.specs.Shifts.{shift_down_poly}
use Rattle.shape_words.specs.Rules.{Regular}
use Rattle.shape.specs.Announced.{same-header}
use Rattle.readings_row.specs.Term.{padded-full}
use Rattle.change.specs.Room.{Shifted}
use Rattle.change.specs.Shift.{shift_down-keeps}
use Rattle.change_factors.specs.Scale.{scaled_poly}

abbrev pub change_family : ℕ → ℕ → ℕ → Family
change_family kind v n = cond (eqb kind 1) Same (Shift v n)

unfoldable pub changed_poly : ℕ → ℕ → ℕ → Poly → Poly
changed_poly kind v n p = cond (eqb kind 1) (negated p) (cond (eqb kind 9) (shift_down_poly v n p) (scaled_poly (eqb kind 8) v n p))

-- h the operand's header, r the announced one
pub record Changing (kind v n : ℕ) (h r : Header) (ma mt : ℕ) : Type 0 where
  pub regular : Regular h
  pub is : r ≡ announced (change_family kind v n) h no_header
  pub var : (kind ≡ 1 → ⊥) → v < 4
  pub below : (kind ≡ 1 → ⊥) → n < limit h v
  pub full : ma ≡ stored h
  pub room : mt ≡ stored r

module _ {kind v n : ℕ} {h r : Header} {ma mt : ℕ} (g : Changing kind v n h r ma mt) where
  module _ (t : kind ≡ 1) where
    same : r ≡ announced Same h no_header
    same = g.is ∙ rw (eq-eqb _ _ t)

    pub same-room : (ma ≤ ma) × (ma ≤ mt)
    same-room =
        let e : stored r ≡ stored h = ap stored (same ∙ same-header g.regular) in
        (omega arith, omega (arith, g.full, g.room))

    pub same_head : (a : List Float) → r ≡ (changed_poly kind v n (poly h a)).head
    unfolding changed_poly negated
    same_head a = same ∙ rw (eq-eqb _ _ t)

    pub same-places : (a to : List Float) → length to ≡ mt → front ma (negated_at a) to ≡ padded (stored r) (changed_poly kind v n (poly h a)).coeffs
    unfolding changed_poly negated
    same-places a to lt =
        let e : stored r ≡ stored h = ap stored (same ∙ same-header g.regular) in
        let k : length to ≤ ma = omega (arith, g.full, g.room) in
        let d : drop ma to ≡ [] = drop_of_length-le to k in
        rw (eq-eqb _ _ t) (ap (λ (l : List Float). table ma (negated_at a) ++ l) d
        ∙ (append-nil (table ma (negated_at a))
        ∙ (ap (λ (m : ℕ). table m (negated_at a)) g.full ∙ (rw e (padded-full _ (length-table (negated_at a) (stored h)))))))

  module _ (t : kind ≡ 1 → ⊥) where
    lowered : r ≡ announced (Shift v n) h no_header
    lowered = g.is ∙ rw (ne_eqb _ _ t)

    pub shifting : Shifted h r v n ma mt
    shifting = record { rules = g.regular.rules; is = lowered; var = g.var t; below = g.below t; full = g.full; room = g.room }

    module _ (u : kind ≡ 9) where
      pub down-head : (a : List Float) → r ≡ (changed_poly kind v n (poly h a)).head
      unfolding changed_poly shift_down_poly
      down-head a = lowered ∙ rw (ne_eqb _ _ t, eq-eqb _ _ u)

      down-true : (a : List Float) → (shift_down_poly v n (poly h a)).head ≡ announced (Shift v n) h no_header
      unfolding shift_down_poly announced
      down-true a = refl

      pub down-places : (a : List Float) {o : List Float} → o ≡ (shift_down_poly v n (poly h a)).coeffs
          → o ≡ padded (stored r) (changed_poly kind v n (poly h a)).coeffs
      unfolding changed_poly
      down-places a {o} e =
          let l : length (shift_down_poly v n (poly h a)).coeffs ≡ stored r =
          (shift_down-keeps v n a g.regular.rules).full ∙ (rw lowered (ap stored (down-true a))) in
          rw (ne_eqb _ _ t, eq-eqb _ _ u) (e ∙ padded-full (shift_down_poly v n (poly h a)).coeffs l)

    module _ (u : kind ≡ 9 → ⊥) where
      pub scaled-is : (a : List Float) → scaled_poly (eqb kind 8) v n (poly h a) ≡ changed_poly kind v n (poly h a)
      unfolding changed_poly
      scaled-is a = rw (ne_eqb _ _ t, ne_eqb _ _ u)

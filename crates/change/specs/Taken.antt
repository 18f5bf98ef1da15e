-- `derivative` and `taylor_expansion_of_coeff`: what they write, and that it keeps what an operation owes of its
-- result.
use Rattle.std.specs.Prelude.{ℕ, zero, suc, ◌+◌, ◌*◌, ◌/◌, ◌%◌, ◌≤◌, ◌<◌, List, [], ◌∷◌, Bool, true, false}
use Rattle.std.specs.Prelude.{cond, ◌≡◌, refl, leb, eqb, get_or, Float}
use Rattle.std.proofs.Common.{sym, ap, ◌∙◌, arith, add-one, mul-le-mul_right, get_or-drop}
use Rattle.std.proofs.Math.Arith.{digits_div}
use Rattle.std.specs.Float.{nan, binary64}
use Rattle.std.specs.Float.Ieee.{mul, div}
use borrow.Author.Tests.{le-leb, lt-leb, leb-true, leb-false, eqb-true, eqb-false, ne_eqb}
use Rattle.lists.specs.Test.{decide}
use Rattle.lists.specs.Four.{at}
use Rattle.lists.specs.Table.{table, table_same, length-table}
use Rattle.lists.specs.Walk.{walk, walk_same}
use Rattle.model.specs.declared.Header.{Header}
use Rattle.model.specs.declared.Family.TheVariants.{Shift}
use Rattle.model.specs.Header.{len, stored, ones, no_header, with_lengths}
use Rattle.model.specs.Places.{strides, index}
use Rattle.model.specs.Announced.{announced}
use Rattle.model.specs.Refusals.{zero_f}
use Rattle.model.specs.Constructed.{whole_f}
use Rattle.model.specs.Poly.{Poly, poly, block_of}
use Rattle.model.specs.Shifts.{in_row, rows_from, derivative_factor, derivative_poly, coefficient_factor, expansion_poly}
use Rattle.shape_words.specs.Rules.{Ruled, ruled-at}
use Rattle.shape.specs.Keeps.{Keeps, full-keeps, ones-keeps}
use Rattle.change.specs.Room.{Shifted}
use Rattle.change_factors.specs.Stripes.{Scaling}
use Rattle.change.specs.Shift.{shift-regular, shifted_row, shift_rows_lem, shift_small, shift-sits, shift-read}
use Rattle.change_factors.specs.Scale.{factorial_f, start_f, next_f, factor_f, row_by, scaled_flat, scaled_poly}

-- the model's step at the row k
abbrev step_by : Bool → ℕ → ℕ → Poly → ℕ → Float → Float
step_by true v n p k x = cond (eqb k 0) x (mul binary64 x (coefficient_factor v n p k))
step_by false v n p k x = mul binary64 x (derivative_factor v n p k)

scaled-is : (plain : Bool) (v n : ℕ) (p : Poly) → scaled_poly plain v n p ≡ rows_from v n p (step_by plain v n p)
unfolding expansion_poly derivative_poly
scaled-is true v n p = refl
scaled-is false v n p = refl

-- the same steps, counted from one later on
walk-shift : (g : ℕ → Float → Float) (k a : ℕ) (x : Float) → walk (λ j acc. g (j + 1) acc) k a x ≡ walk g k (suc a) x
unfolding walk
walk-shift g zero a x = refl
walk-shift g (suc k) a x = walk-shift g k (suc a) (g (a + 1) x) ∙ ap (λ (j : ℕ). walk g k (suc (suc a)) (g j x)) (add-one a)

factor-is : (v n : ℕ) (p : Poly) (k : ℕ) → factor_f (factorial_f n) n k ≡ derivative_factor v n p k
unfolding derivative_factor
factor-is v n p k =
    sym (walk-shift (next_f n) k 0 (factorial_f n))
    ∙ walk_same _ _ k 0 (factorial_f n) (λ j _ _ y. let e : n + (j + 1) ≡ n + j + 1 = omega arith in
    ap (λ (q : ℕ). mul binary64 y (div binary64 (whole_f q) (whole_f (j + 1)))) e)

row_by_lem : (plain : Bool) (v n : ℕ) (p : Poly) (k : ℕ) (x : Float) → row_by plain (start_f plain n) n k x ≡ step_by plain v n p k x
unfolding coefficient_factor walk
row_by_lem true v n p k x = refl
row_by_lem false v n p zero x = ap (mul binary64 x) (factor-is v n p 0)
row_by_lem false v n p (suc k) x = rw (ne_eqb (suc k) 0 (λ e. omega arith)) (ap (mul binary64 x) (factor-is v n p (suc k)))

module _ (plain : Bool) (v n : ℕ) (p : Poly) where
  -- past the stored length
  pub scaled-past : {r : Header} → r ≡ announced (Shift v n) p.head no_header → len p.head v ≤ n
      → scaled_poly plain v n p ≡ poly (with_lengths r ones) (zero_f ∷ [])
  unfolding rows_from
  scaled-past e l = scaled-is plain v n p ∙ (rw (e, le-leb _ _ l))

  -- the rows from n on
  pub scaled-rows : {r : Header} → r ≡ announced (Shift v n) p.head no_header → n < len p.head v
      → scaled_poly plain v n p ≡ poly r (table (stored r)
      (λ q. step_by plain v n p (at (index r.lengths q) v)
      (in_row (block_of p) (index r.lengths q) v (at (index r.lengths q) v + n))))
  unfolding rows_from
  scaled-rows e l = scaled-is plain v n p ∙ (rw (e, lt-leb _ _ l))

  pub scaled-keeps : Ruled p.head → Keeps (announced (Shift v n) p.head no_header) (scaled_poly plain v n p)
  scaled-keeps g =
      let r = shift-regular v n g in
      decide (leb (len p.head v) n)
      (λ t. rw (scaled-past refl (leb-true _ _ t)) (ones-keeps zero_f r))
      (λ t. rw (scaled-rows refl (leb-false _ _ t)) (full-keeps r (length-table _ (stored (announced (Shift v n) p.head no_header)))))

-- the code's place is the model's, where a row is left
module _ {h r : Header} {v n ma mt : ℕ} (t : Shifted h r v n ma mt) {s width step : ℕ}
    (es : s ≡ at (strides h.lengths) v) (ew : width ≡ len h v * s) (ep : step ≡ len r v * s)
    (some : n < len h v) where
  sum_is : len h v ≡ n + len r v
  sum_is = omega (arith, shifted_row t)

  pub scaling : Scaling n s width step ma mt
  scaling =
      let q = shift_rows_lem t es ew ep in
      let g = ruled-at t.rules v t.var in
      let x : 1 * s ≤ len h v * s = mul-le-mul_right s g.pos in
      record {
        turns = q.turns;
        rows = len r v;
        full = q.full;
        room = q.room;
        small = omega (arith, sum_is, g.fit, g.most);
        some = omega (arith, shifted_row t);
        low = omega (arith, x, (shift_small t es ew ep).0);
        pos = pos_of;
        is_step = ep;
        is_width = ew ∙ (rw sum_is (omega arith));
      }
    where
      pos_of : 0 < s
      pos_of =
          decide (eqb s 0) (λ e. let z : s ≡ 0 = eqb-true s 0 e in
          let y : step ≡ len r v * 0 = ep ∙ ap (λ (x : ℕ). len r v * x) z in
          absurd (omega (arith, y, (shift_rows_lem t es ew ep).pos))) (λ e. omega (arith, eqb-false s 0 e))

  scaled-place : (plain : Bool) (a : List Float) (p : ℕ) → p < stored r
      → scaled_flat plain (start_f plain n) n s width step a p
      ≡ step_by plain v n (poly h a) (at (index r.lengths p) v)
      (in_row (block_of (poly h a)) (index r.lengths p) v (at (index r.lengths p) v + n))
  scaled-place plain a p l =
      let g = shift-sits t es ew ep a p l in
      let e : p % step / s ≡ at (index r.lengths p) v = ap (λ (q : ℕ). q / s) g.rest ∙ digits_div (at (index r.lengths p) v) g.low in
      let k : n * s + p % step ≡ (at (index r.lengths p) v + n) * s + g.inner = omega (arith, g.rest) in
      let x : get_or a (p / step * width + (n * s + p % step)) nan ≡ in_row (block_of (poly h a)) (index r.lengths p) v (at (index r.lengths p) v + n) =
      sym (get_or-drop (p / step * width) a (n * s + p % step) nan) ∙ (rw k (shift-read t es ew ep a p l (at (index r.lengths p) v + n))) in
      rw (e, x) (row_by_lem plain v n (poly h a) (at (index r.lengths p) v) _)

  pub scaled-done : (plain : Bool) (a : List Float) {o : List Float}
      → o ≡ table mt (scaled_flat plain (start_f plain n) n s width step a) → o ≡ (scaled_poly plain v n (poly h a)).coeffs
  scaled-done plain a e =
      e ∙ (ap (λ (x : ℕ). table x (scaled_flat plain (start_f plain n) n s width step a)) t.room
      ∙ (table_same _ _ (stored r) (scaled-place plain a) ∙ ap (λ (q : Poly). q.coeffs) (sym (scaled-rows plain v n (poly h a) t.is some))))

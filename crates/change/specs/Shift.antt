-- The rows of v after a shift by n: how many there are, and what `shift_down` leaves in them.
use Rattle.std.specs.Prelude.{ℕ, ◌+◌, ◌-◌, ◌*◌, ◌/◌, ◌%◌, ◌≤◌, ◌<◌, max, List, true, false, cond, ◌≡◌, refl, leb, eqb, get_or, drop, Float}
use Rattle.std.proofs.Common.{sym, ◌∙◌, arith, mul-le-mul_right, get_or-drop, lt-ltb, le-ltb, le-leb, eq-eqb, ne_eqb, eqb-true}
use Rattle.std.proofs.Math.Path.{ap}
use Rattle.std.specs.Float.{nan}
use Rattle.std.specs.Float.Ieee.{add, binary64}
use Rattle.std.proofs.lemmas.Bool.{lt-leb, eqb-false}
use Rattle.lists.specs.Test.{decide}
use Rattle.lists.specs.Four.{at, at-four}
use Rattle.lists.specs.Table.{table, table_same, length-table}
use Rattle.lists.specs.Walk.{walk_same}
use Rattle.model.specs.declared.Header.{Header}
use Rattle.model.specs.declared.Family.TheVariants.{Shift}
use Rattle.model.specs.Header.{len, stored, no_header}
use Rattle.model.specs.Places.{strides, index}
use Rattle.model.specs.Announced.{less_in, single, announced}
use Rattle.model.specs.Refusals.{zero_f}
use Rattle.model.specs.Poly.{poly, block_of}
use Rattle.model.specs.Shifts.{in_row, row_sum, shift_down_poly}
use Rattle.shape_words.specs.Rules.{Ruled, Regular, ruled-at}
use Rattle.shape_words.specs.Lengths.{lengths_of_lem}
use Rattle.shape.specs.Announced.{single-regular}
use Rattle.shape.specs.Keeps.{Keeps, full-keeps}
use Rattle.product_linear.specs.Rows.{Rows}
use Rattle.product_linear.specs.Raise.{raise_rows_lem, raise-small, Raising}
use Rattle.change.specs.Room.{Shifted, PartRoom}
use Rattle.change.specs.Parts.{Others, Sits, sits}
use Rattle.change_sums.specs.Sums.{sum_at}
use Rattle.change.specs.Drop.{kept_at, dropped_flat}

pub shift-regular : (v n : ℕ) {h : Header} → Ruled h → Regular (announced (Shift v n) h no_header)
unfolding announced
shift-regular v n g = single-regular (Shift v n) g

len-shift : (v n : ℕ) (h : Header) (k : ℕ) → k < 4 → len (announced (Shift v n) h no_header) k ≡ less_in v n k (len h k)
unfolding announced single
len-shift v n h k p = at-four (λ k. less_in v n k (len h k)) k p

-- every place of the announced lengths is written
pub shift_down-keeps : (v n : ℕ) {h : Header} (a : List Float) → Ruled h → Keeps (announced (Shift v n) h no_header) (shift_down_poly v n (poly h a))
unfolding shift_down_poly
shift_down-keeps v n {h} a g = full-keeps (shift-regular v n g) (length-table _ (stored (announced (Shift v n) h no_header)))

-- the model's place, by its index
abbrev down_at : ℕ → ℕ → Header → List Float → List ℕ → Float
down_at v n h a i =
    cond (leb (len h v) (n + 1)) (row_sum v n (poly h a) (len h v) i)
    (cond (eqb (at i v) 0) (add binary64 (in_row (block_of (poly h a)) i v n) (row_sum v n (poly h a) n i))
    (in_row (block_of (poly h a)) i v (at i v + n)))

module _ {h r : Header} {v n ma mt : ℕ} (t : Shifted h r v n ma mt) where
  pub shifted-regular : Regular r
  shifted-regular = rw t.is (shift-regular v n t.rules)

  pub shifted_row : len r v ≡ max 1 (len h v - n)
  shifted_row = rw t.is (len-shift v n h v t.var ∙ (rw (eq-eqb v v refl)))

  pub shifted-other : Others v r.lengths h.lengths
  shifted-other w p f = rw t.is (len-shift v n h w p ∙ (rw (ne_eqb w v f)))

  pub shifted_raising : Raising h.lengths v r.lengths ma mt
  shifted_raising =
      record {
        var = t.var;
        from = lengths_of_lem t.rules;
        to = lengths_of_lem shifted-regular.rules;
        other = shifted-other;
        one = let e = shifted_row in let g = (ruled-at t.rules v t.var).pos in omega arith;
        room = omega (arith, t.full);
        full = t.room;
      }

  module _ {s width step : ℕ} (es : s ≡ at (strides h.lengths) v) (ew : width ≡ len h v * s) (ep : step ≡ len r v * s) where
    pub shift_rows_lem : Rows s width step ma mt
    shift_rows_lem = raise_rows_lem shifted_raising es ew ep

    pub shift_small : (len h v * s ≤ 16777216) × (len r v * s ≤ 16777216)
    shift_small = raise-small shifted_raising es ew ep

    pub one-room : len h v ≤ n + 1 → PartRoom true s (len h v) width step
    one-room q =
        let e : len r v ≡ 1 = omega (arith, shifted_row) in
        let z : step ≡ s = ep ∙ (rw e (omega arith)) in
        record { small = omega (arith, z); one = λ x. (z, omega (arith, ew)); many = λ x. absurd (no x) }
      where
        no : true ≡ false → ⊥
        no e = let z : ◌≡◌ {A = ℕ} 0 1 = cc in omega arith

    pub many-room : n + 1 < len h v → PartRoom false s n width step
    many-room q =
        let e : len h v ≡ n + len r v = omega (arith, shifted_row) in
        let w : width ≡ n * s + len r v * s = ew ∙ (rw e (omega arith)) in
        record { small = shift_rows_lem.small; one = λ z. absurd (no z); many = λ z. omega (arith, w, ep) }
      where
        no : false ≡ true → ⊥
        no e = let z : ◌≡◌ {A = ℕ} 0 1 = cc in omega arith

    module _ (a : List Float) (p : ℕ) (l : p < stored r) where
      abbrev i : List ℕ
      i = index r.lengths p

      abbrev xs : List Float
      xs = drop (p / step * width) a

      pub shift-sits : Sits h.lengths r.lengths v s width step p
      shift-sits = sits s width step t.var shifted-other (lengths_of_lem shifted-regular.rules) l es ew ep

      pub shift-read : (x : ℕ) → get_or xs (x * s + shift-sits.inner) nan ≡ in_row (block_of (poly h a)) i v x
      shift-read x =
          get_or-drop (p / step * width) a (x * s + shift-sits.inner) nan
          ∙ ap (λ (q : ℕ). get_or a q nan) (ap (λ (q : ℕ). q * width + (x * s + shift-sits.inner)) shift-sits.div ∙ sym (shift-sits.new x))

      total : (m : ℕ) → sum_at s m xs shift-sits.inner ≡ row_sum v n (poly h a) m i
      unfolding row_sum
      total m = walk_same _ _ m 0 zero_f (λ j _ _ y. ap (add binary64 y) (shift-read j))

      -- the first row
      first : at i v ≡ 0 → p % step ≡ shift-sits.inner
      first z = shift-sits.rest ∙ (rw z (omega arith))

      place-one : len h v ≤ n + 1 → dropped_flat true s (len h v) width step a p ≡ down_at v n h a i
      place-one q =
          let z : at i v ≡ 0 = omega (arith, shift-sits.row, shifted_row) in
          ap (sum_at s (len h v) xs) (first z) ∙ (total (len h v) ∙ (rw (le-leb _ _ q)))

      place-many : n + 1 < len h v → dropped_flat false s n width step a p ≡ down_at v n h a i
      place-many q =
          decide (eqb (at i v) 0)
          (λ e. ap (kept_at s n xs) (first (eqb-true _ _ e)) ∙ (rw (lt-ltb _ _ shift-sits.low, lt-leb _ _ q, e) (rw (shift-read n, total n))))
          (λ e.
          let y : at i v ≡ 0 → ⊥ = eqb-false _ _ e in
          let b : 1 * s ≤ at i v * s = mul-le-mul_right s (omega arith) in
          let g = shift-sits.rest in
          let k : n * s + p % step ≡ (at i v + n) * s + shift-sits.inner = omega (arith, g) in
          rw (le-ltb (p % step) s (omega (arith, b, g)), lt-leb _ _ q, e) (ap (λ (x : ℕ). get_or xs x nan) k ∙ shift-read (at i v + n)))

    by_place : (a : List Float) (f : ℕ → Float) {o : List Float} → o ≡ table mt f
        → ((p : ℕ) → p < stored r → f p ≡ down_at v n h a (index r.lengths p))
        → o ≡ (shift_down_poly v n (poly h a)).coeffs
    unfolding shift_down_poly
    by_place a f e g =
        e ∙ (ap (λ (x : ℕ). table x f) t.room
        ∙ (table_same _ _ (stored r) g ∙ ap (λ (q : Header).
        table (stored q) (λ p. down_at v n h a (index q.lengths p))) t.is))

    pub shift_one : (a : List Float) {o : List Float} → len h v ≤ n + 1
        → o ≡ table mt (dropped_flat true s (len h v) width step a) → o ≡ (shift_down_poly v n (poly h a)).coeffs
    shift_one a q e = by_place a (dropped_flat true s (len h v) width step a) e (λ p l. place-one a p l q)

    pub shift-many : (a : List Float) {o : List Float} → n + 1 < len h v
        → o ≡ table mt (dropped_flat false s n width step a) → o ≡ (shift_down_poly v n (poly h a)).coeffs
    shift-many a q e = by_place a (dropped_flat false s n width step a) e (λ p l. place-many a p l q)

-- The head of a constant from -8 to 8 is finite, and within 2 ^ -40, relative, of the exact value (`head_near`).
use Rattle.std.specs.Prelude.{◌≡◌, refl, Bool, true, false, ℕ, zero, suc, ◌+◌, ◌-◌, ◌*◌, ◌^◌, ◌≤◌, ◌<◌, T, ℤ, pos, neg_ℤ, nat_abs, ◌+ℤ◌, ◌*ℤ◌, Float}
use Rattle.std.proofs.Common.{ap, ◌∙◌, lt_of_lt_of_le, mul-le-mul_left, zero-lt-suc, lit≤, lit<}
use Rattle.std.proofs.lemmas.Bool.{false≢true}
use Rattle.std.proofs.Math.Nat.{mul-pos, one-le-pow}
use Rattle.std.specs.Float.{nan, inf, fin, binary64}
use Rattle.std.specs.Float.Ieee.{up, down, add, le, of_bits}
use Rattle.std.specs.Float.Ieee.Fits.{down_pos}
use Rattle.std.specs.Float.Ieee.Exact.{HasValue}
use Rattle.std.specs.Float.Ieee.Scale.{finite}
use Rattle.std.specs.Float.Ieee.Positive.{num, den, positive, positive-finite}
use Rattle.laws_whole.specs.Int.{neg_*ℤ}
use Rattle.laws_whole.specs.Whole.{signed, abs-signed}
use Rattle.laws_rounding.specs.Fractions.{Approx, lo, mid, hi}
use Rattle.laws_rounding.specs.Operations.{Known, known-div}
use Rattle.model_exponential.specs.Head.{nine_f, e_nine_f, exp_head}
use Rattle.model_exponential.specs.Constant.{in_range}
use Rattle.laws_exponential.specs.Turns.{top, bottom, count, turns-known}
use Rattle.model_exponential.specs.Exact.{series, value_of, Within, Near}
use Rattle.laws_exponential.specs.Series.{series_top, series_bottom, series-is, series_bottom-pos}
use Rattle.laws_exponential.specs.Comparison.{scale, e9, e9_unit, compared, bottoms, top-bottom}
use Rattle.laws_exponential.specs.Start.{started, size_of}
use Rattle.laws_exponential.specs.Chains.{Ratio, ratio, chain, chain_back, lift, lift-back, less_one, more-one, within, near, plus_one}
use Rattle.laws_exponential.specs.Chains.{minus_one}

bottom-pos : (c n : ℕ) → 0 < c → 0 < series_bottom c n
unfolding series_bottom
bottom-pos c zero C = zero-lt-suc 0
bottom-pos c (suc n) C = mul-pos (bottom-pos c n C) (mul-pos C (zero-lt-suc n))

-- ---- the constants: 4454717499606977 / 2 ^ 39 is the float `e_nine_f`

abbrev g : ℕ
g = 4454717499606977

abbrev g_unit : ℕ
g_unit = 549755813888

roundings : ℕ
unfolding count
roundings = suc (count 71)

enough-above : e9 * 2 ^ 44 * (g_unit * hi ^ roundings) * 2 ^ 40 ≤ g * mid ^ roundings * (e9_unit * (2 ^ 44 - 1)) * (2 ^ 40 + 1)
unfolding roundings
enough-above = lit≤ tt

enough-below : g * mid ^ roundings * (e9_unit * (2 ^ 44 + 1)) * (2 ^ 40 - 1) ≤ e9 * 2 ^ 44 * (g_unit * lo ^ roundings) * 2 ^ 40
unfolding roundings
enough-below = lit≤ tt

pow-above : (b j : ℕ) → 0 < b → 0 < b ^ j
pow-above b j h = one-le-pow j b h

-- ---- the exact value against a float that is near the exact turns' result

module _ (z : ℤ) (c t : ℕ) (r : Float) (C : 0 < c) (small : nat_abs z ≤ 8 * c) (shifted : pos t ≡ z +ℤ pos 9 *ℤ pos c)
    (above : T (positive r)) (k : Approx roundings (num r) (den r) (top t c 71 * g_unit) (bottom c 71 * g)) where
  w : ℕ
  w = scale c * top t c 71

  scaled-pos : 0 < scale c * bottom c 71
  scaled-pos = rw (← bottoms c C) (bottom-pos c 119 C)

  w-pos : 0 < e9_unit * w
  unfolding w
  w-pos = mul-pos (lit< tt) (lt_of_lt_of_le scaled-pos (mul-le-mul_left (scale c) (top-bottom t c 70)))

  exact-near : Ratio (series_top z c 119) e9 (e9_unit * w) (2 ^ 44)
  unfolding w
  exact-near =
      ratio (series_top z c 119) e9 (e9_unit * w) (2 ^ 44) w-pos (lit< tt)
      (rw (neg_*ℤ (pos e9_unit) (pos w)) at (compared z c t C small shifted))

  result-near : nat_abs (pos (num r * series_bottom c 119) +ℤ neg_ℤ (pos (exact-near.n * den r))) * 2 ^ 40 ≤ exact-near.n * den r
  unfolding w
  result-near =
      let n = exact-near.n in
      let b = bottom c 71 in
      let up =
      chain (num r * (scale c * b)) w (den r) n (g * mid ^ roundings) (g_unit * hi ^ roundings) (e9_unit * (2 ^ 44 - 1)) (e9 * 2 ^ 44)
      (2 ^ 40) (2 ^ 40 + 1)
      (mul-pos (mul-pos (lit< tt) (pow-above mid roundings (lit< tt))) (lit< tt))
      (lift (num r) b g (mid ^ roundings) (top t c 71) g_unit (den r) (hi ^ roundings) (scale c) k.under)
      (less_one e9_unit w (2 ^ 44 - 1) e9 n exact-near.over) enough-above in
      let down =
      chain_back n w (den r) (num r * (scale c * b)) (e9 * 2 ^ 44) (e9_unit * (2 ^ 44 + 1)) (g_unit * lo ^ roundings) (g * mid ^ roundings)
      (2 ^ 40 - 1) (2 ^ 40)
      (mul-pos (lit< tt) (mul-pos (lit< tt) (pow-above lo roundings (lit< tt))))
      (more-one e9_unit w (2 ^ 44) e9 n exact-near.under)
      (lift-back (num r) b g (mid ^ roundings) (top t c 71) g_unit (den r) (lo ^ roundings) (scale c) k.over) enough-below in
      rw (bottoms c C)
      (near (num r * (scale c * b)) (n * den r) (2 ^ 40) (plus_one (num r * (scale c * b)) (n * den r) (2 ^ 40) up)
      (minus_one (num r * (scale c * b)) (n * den r) (2 ^ 40 - 1) down))

  head-within : Within (record { top = pos (num r); bottom = den r }) (series (record { top = z; bottom = c }) 120)
  head-within =
      let s = series (record { top = z; bottom = c }) 120 in
      within s.top (num r) (den r) (series_bottom c 119) exact-near.n s.bottom (2 ^ 40) (bottom-pos c 119 C)
      (series-is z c 119 ∙ ap (λ (v : ℤ). v *ℤ pos s.bottom) exact-near.is) result-near

-- ---- the head

e_nine-value : HasValue e_nine_f false g g_unit
unfolding of_bits
e_nine-value = (refl, refl)

e_nine-positive : T (positive e_nine_f)
unfolding of_bits
e_nine-positive = tt

value-positive : (r : Float) → T (positive r) → value_of r ≡ record { top = pos (num r); bottom = den r }
value-positive nan p = absurd p
value-positive (inf s) p = absurd p
value-positive (fin true m e) p = absurd p
value-positive (fin false m e) p = refl

value-signed : (s : Bool) (m : ℕ) (e : ℤ) → value_of (fin s m e) ≡ record { top = signed s (m * up e); bottom = down e }
value-signed false m e = refl
value-signed true m e = refl

head-known : (x : Float) (t c : ℕ) → Known 1 (add binary64 x nine_f) t c 2 34
    → Known roundings (exp_head x) (top t c 71 * g_unit) (bottom c 71 * g) (16208 * 2) (512 ^ 71 * 2)
unfolding exp_head roundings
head-known x t c k =
    known-div e_nine_f g g_unit 16208 (512 ^ 71) (turns-known (add binary64 x nine_f) t c k 71 (lit≤ tt))
    e_nine-positive (lit< tt) e_nine-value (lit≤ tt) (lit≤ tt) (lit≤ tt) (lit≤ tt)

pub head_near : (x : Float) → in_range x ≡ true → Near x (exp_head x)
unfolding in_range le
head_near nan t = absurd (false≢true t)
head_near (inf true) t = absurd (false≢true t)
head_near (inf false) t = absurd (false≢true t)
head_near (fin s m e) t =
    let st = started s m e t in
    let known = head-known (fin s m e) st.sum (down e) st.known in
    let p = known.is_positive in
    record {
      is_finite = positive-finite (exp_head (fin s m e)) p;
      is_fraction = rw (value-signed s m e) (series_bottom-pos (signed s (m * up e)) (down e) 120 (down_pos e));
      close =
          rw (value-signed s m e, value-positive (exp_head (fin s m e)) p)
          (head-within (signed s (m * up e)) (down e) st.sum (exp_head (fin s m e)) (down_pos e)
          (rw (abs-signed s (m * up e)) (size_of s m e t)) st.is p known.approx);
    }

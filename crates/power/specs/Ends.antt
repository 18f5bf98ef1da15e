-- How a power ends: by one, by a copy or by squaring; what is past it; and the operand that was loaded before.
use Rattle.std.specs.Prelude.{ℕ, ◌+◌, ◌-◌, ◌≤◌, ◌<◌, ◌≡◌, refl, eqb, set, Float}
use mathlib.Core.List.{List, ◌++◌}
use Rattle.std.proofs.Common.{sym, ◌∙◌, le_trans, take_at, take_all}
use Rattle.std.proofs.Math.Path.{ap}
use native.Mathlib.Omega.{arith}
use Rattle.std.proofs.Math.ListN.{length, take}
use borrow.Rule.Slice.PartMut.{put_mid}
use borrow.Author.Tests.{ne_eqb, eqb-false}
use Rattle.lists.specs.Test.{decide}
use Rattle.lists.specs.Part.{part, length_part, Kept, kept_set}
use Rattle.model.specs.Header.{count, ones}
use Rattle.model.specs.Refusals.{zeros, padded}
use Rattle.model.specs.Readings.{one_f}
use Rattle.model.specs.Poly.{Block, block}
use Rattle.model.specs.Product.{constant_block}
use Rattle.model.specs.Power.{squared}
use Rattle.shape_words.specs.Lengths.{Lengths}
use Rattle.laws_keeps.specs.Sits.{Sits}
use Rattle.product.specs.Room.{Under, Stands}
use Rattle.product.specs.Ways.{under-lengths, sits-under, count_less}
use Rattle.product.specs.Times.{stands-padded}
use Rattle.power.specs.Room.{power_block, power_shape, lain, Loaded, Powers}
use Rattle.power.specs.Turns.{power-sits}
use Rattle.power.specs.Kept.{base-sits, shape-fits}

-- ---- the operand

pub loaded-none : {e : ℕ} {a w : List Float} → e ≡ 0 → Loaded e a w
loaded-none h = record { front = λ some. absurd (omega arith) }

pub loaded-copy : (e : ℕ) (a d : List Float) {front : List Float} {k : ℕ} → front ≡ take k a → k ≡ length a → Loaded e a (front ++ d)
loaded-copy e a d {front} {k} h i = let f : front ≡ a = h ∙ take_all k a (omega arith) in record { front = λ some. rw f (take_at a d (length a) refl) }

-- ---- the three ways

module _ (e : ℕ) (l : List ℕ) where
  pub front-none : (b : Block) (out : List Float) → e ≡ 0 → 0 < length out → Stands (power_block e l b) (set out 0 one_f) ones
  unfolding power_block
  front-none b out h g = rw h (record { lengths = refl; front = (kept_set out 0 one_f g).holds })

  pub front_same : (la : List ℕ) (w : List Float) {z : ℕ} {d out : List Float} → e ≡ 1 → z ≡ count la → z ≤ length w
      → Kept 0 (0 + z) (take z w) d out → Stands (power_block e l (lain 0 la w)) out la
  unfolding power_block
  front_same la w {z} {d} {out} h k g q =
      let m : length (part 0 (0 + count la) w) ≡ 0 + z - 0 = length_part 0 (0 + count la) w (omega arith) (omega arith) ∙ omega arith in
      let i : z ≡ 0 + count la - 0 = omega arith in
      rw h (record { lengths = refl; front = ap (λ (j : ℕ). take j out) m ∙ (q.holds ∙ ap (λ (j : ℕ). take j w) i) })

  pub front-more : (b : Block) {out : List Float} {r : List ℕ} → (e ≡ 0 → ⊥) → (e ≡ 1 → ⊥)
      → Stands (squared 32 l e (constant_block one_f) b) out r → Stands (power_block e l b) out r
  unfolding power_block
  front-more b h g s = rw (ne_eqb _ _ h, ne_eqb _ _ g) s

  -- the operand was loaded where it is asked for
  pub loaded-same : (la : List ℕ) {a w : List Float} → Loaded e a w → length a ≡ count la → power_block e l (lain 0 la w) ≡ power_block e l (block la a)
  unfolding power_block
  loaded-same la {a} {w} h f =
      let i : 0 + count la - 0 ≡ length a = omega arith in
      decide (eqb e 0)
      (λ t. rw t)
      (λ t. ap (λ (x : List Float). power_block e l (block la x)) (ap (λ (j : ℕ). take j w) i ∙ h.front (omega (arith, eqb-false e 0 t))))

-- ---- what is past it

module _ {la l : List ℕ} {e n mw mo : ℕ} (p : Powers la l e n mw mo) (w : List Float) (ew : length w ≡ mw) where
  abbrev value : Block
  value = power_block e l (lain 0 la w)

  value-sits : Sits (power_shape e l la) value
  value-sits = power-sits e p.positive (λ some. base-sits p some w ew)

  module _ {out : List Float} {r : List ℕ} (s : Stands value out r) where
    pub ends-lens : Lengths r
    ends-lens =
        let u : Under (power_shape e l la) r = rw s.lengths (sits-under value-sits) in
        under-lengths u (record { most = λ k h. le_trans ((shape-fits p).hi k h) (p.caps.most k h) })

    pub ends-small : {z : ℕ} → z ≡ count r → z ≤ n
    ends-small h = omega (arith, ap count s.lengths, count_less (power_shape e l la) value.lengths value-sits.hi, p.all)

    pub ends-padded : {z : ℕ} {zs : List Float} {k : ℕ} → length out ≡ n → z ≡ count r → zs ≡ zeros k → k ≡ n - z
        → put_mid z (n - z) out zs ≡ padded n value.places
    ends-padded lo h = stands-padded n value s lo (ends-small h) (h ∙ (ap count s.lengths ∙ sym value-sits.full))

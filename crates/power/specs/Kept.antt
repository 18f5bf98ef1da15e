-- How the products of a power come together in the work: where a product was kept, and what the turns leave for the
-- next.
use Prim.Native.Nat.{ℕ, ◌+◌, ◌-◌, ◌*◌, ◌/◌, ◌%◌, ◌^◌, ◌≤◌, ◌<◌, min}
use Rattle.std.specs.Prelude.{List, ◌≡◌, length, take, set, Float}
use Rattle.std.proofs.Math.Path.{refl, ap}
use Rattle.std.proofs.Common.{sym, ◌∙◌, arith, eq-eqb, ne_eqb}
use Rattle.std.proofs.Math.Nat.{le_refl, le_trans, mul-le-mul_right}
use Rattle.lists.specs.Four.{at, at-four}
use Rattle.lists.specs.Part.{part, length_part, Kept, below-part, kept_above, kept_set}
use Rattle.model.specs.Header.{count, ones, span}
use Rattle.model.specs.Limits.{sum_shape}
use Rattle.model.specs.Readings.{one_f}
use Rattle.model.specs.Poly.{Block, block}
use Rattle.model.specs.Product.{constant_block, multiplied}
use Rattle.model.specs.Power.{squared}
use Rattle.shape_words.specs.Lengths.{Lengths, count-pos, count_most}
use Rattle.laws_keeps.specs.Sits.{Sits}
use Rattle.laws_keeps.proofs.Running.{multiplied-fits}
use Rattle.product.specs.Room.{Under, Room, Stands, Made}
use Rattle.product.specs.Ways.{under-lengths, under-sits, sits-under, count_less, shape-under, shape-left, shape-right}
use Rattle.product.specs.Times.{cut-none}
use Rattle.power.specs.Room.{power_shape, taken, lain, Step, Placed, Powers}
use Rattle.power.specs.Turns.{Running, running-first, running-next, running-last, running-under, running-small, running_bit, running-square}

-- ---- one product

-- blocks that lie under the limits already
product-fits : {l : List ℕ} {a b : Block} → Sits l a → Sits l b → Sits (sum_shape l a.lengths b.lengths) (multiplied l a b)
product-fits {l} {a} {b} s t = rw (cut-none s, cut-none t) at (multiplied-fits l a b (λ k h. le_trans (s.lo k h) (s.hi k h)) s.lo t.lo)

module _ {l la lb : List ℕ} {pa pb n mw mo : ℕ} (s : Step l la lb pa pb n mw mo) where
  pub step-lens : Lengths la × Lengths lb
  step-lens = (under-lengths s.left s.caps, under-lengths s.right s.caps)

  step_small : (count la ≤ n) × (count lb ≤ n)
  step_small =
      let f = s.fits in (
        le_trans (count_less (sum_shape l la lb) la (shape-left s.left s.right)) f,
        le_trans (count_less (sum_shape l la lb) lb (shape-right s.left s.right)) f,
      )

  step-some : 0 < n
  step-some = omega (arith, s.fits, count-pos (under-lengths (shape-under s.left s.right) s.caps))

  module _ (w : List Float) (ew : length w ≡ mw) {z y : ℕ} (ez : z ≡ count la) (ey : y ≡ count lb) where
    pub step_room : Room w pa (pa + z) la pb (pb + y) lb (2 * n) l 1 mo
    step_room =
        let f = s.fits in
        record {
          left = record { under = s.left; ends = omega arith; below = omega (arith, step_small.0, s.from_a) };
          right = record { under = s.right; ends = omega arith; below = omega (arith, step_small.1, s.from_b) };
          caps = s.caps;
          within = omega (arith, s.work);
          fits = omega (arith, s.out);
          low = le_refl 1;
          room = λ h. omega (arith, s.work, step-some);
        }

    pub step-ends : (pa + z ≤ mw) × (pb + y ≤ mw)
    step-ends = (omega (arith, step_small.0, s.from_a, s.work), omega (arith, step_small.1, s.from_b, s.work))

    pub step-made : {t : ℕ} {w' out : List Float} {r : List ℕ}
        → Made (multiplied l (block la (part pa (pa + z) w)) (block lb (part pb (pb + y) w))) t w w' out r
        → Made (multiplied l (lain pa la w) (lain pb lb w)) t w w' out r
    step-made m = rw (ez, ey) at m

  module _ (w : List Float) (ew : length w ≡ mw) where
    lain-sits : Sits l (lain pa la w) × Sits l (lain pb lb w)
    lain-sits = (
      under-sits s.left (length_part pa (pa + count la) w (omega arith) (omega (arith, step_small.0, s.from_a, s.work)) ∙ omega arith),
      under-sits s.right (length_part pb (pb + count lb) w (omega arith) (omega (arith, step_small.1, s.from_b, s.work)) ∙ omega arith),
    )

    abbrev value : Block
    value = multiplied l (lain pa la w) (lain pb lb w)

    value-sits : Sits (sum_shape l la lb) value
    value-sits = product-fits lain-sits.0 lain-sits.1

    module _ {w' out : List Float} {r : List ℕ} (m : Made value (2 * n) w w' out r) where
      pub made-lens : Lengths r
      made-lens =
          let u : Under (sum_shape l la lb) r = rw m.stands.lengths (sits-under value-sits) in
          under-lengths u (record { most = λ k h. le_trans ((shape-under s.left s.right).hi k h) (s.caps.most k h) })

      pub made-small : {z : ℕ} → z ≡ count r → z ≤ n
      made-small e = omega (arith, ap count m.stands.lengths, count_less (sum_shape l la lb) value.lengths value-sits.hi, s.fits)

      -- kept from `to` on
      pub made-placed : {to z : ℕ} {w'' : List Float} → to ≤ n → z ≡ count r → Kept to (to + z) (take z out) w' w'' → Placed value to n w w'' r
      made-placed {to} {z} {w''} h e k =
          let f : z ≡ length value.places = e ∙ (ap count m.stands.lengths ∙ sym value-sits.full) in
          let p : part to (to + count r) w'' ≡ value.places = rw (← e) (k.holds ∙ (ap (λ (j : ℕ). take j out) f ∙ m.stands.front)) in
          record {
            is = ap (block r) p ∙ ap (λ (q : List ℕ). block q value.places) m.stands.lengths;
            before = λ f t i j. below-part f t k.below i j ∙ below-part f t m.below i (omega arith);
            after = λ f t i j q. kept_above f t k (omega (arith, made-small e)) ∙ below-part f t m.below j q;
          }

-- ---- one bit

module _ (l : List ℕ) (e : ℕ) (res base : Block) {at n : ℕ} {w w' : List Float} {r : List ℕ} where
  pub bit-set : e % 2 ≡ 1 → Placed (multiplied l res base) at n w w' r → Placed (taken l e res base) at n w w' r
  bit-set h p = rw (eq-eqb _ _ h) p

pub bit-none : (l : List ℕ) (e : ℕ) (base : Block) (n : ℕ) (w : List Float) (lr : List ℕ) → (e % 2 ≡ 1 → ⊥) → Placed (taken l e (lain n lr w) base) n n w w lr
bit-none l e base n w lr h = rw (ne_eqb _ _ h) (record { is = refl; before = λ f t i j. refl; after = λ f t i j q. refl })

-- ---- the turns

-- after some turns: w₀ the work as the turns began, w as it is
pub record Turning (la l : List ℕ) (e n : ℕ) (w₀ w : List Float) (lr lb : List ℕ) (left : ℕ) : Type 0 where
  pub running : Running l (λ k. e * (at la k - 1)) (squared 32 l e (constant_block one_f) (lain 0 la w₀)) left (lain n lr w) (lain 0 lb w)
  pub len : length w ≡ length w₀

module _ {la l : List ℕ} {e n mw mo : ℕ} (p : Powers la l e n mw mo) where
  pub shape-fits : Under l (power_shape e l la)
  unfolding power_shape
  shape-fits =
      let i = at-four (λ k. min (at l k) (e * (at la k - 1) + 1)) in
      record { ns = refl; lo = λ k h. rw (i k h) (omega (arith, p.positive k h)); hi = λ k h. rw (i k h) (omega arith) }

  shape-lens : Lengths (power_shape e l la)
  shape-lens = under-lengths shape-fits p.caps

  pub powers-some : 0 < n
  powers-some = omega (arith, p.all, count-pos shape-lens)

  pub powers-most : n ≤ 16777216
  powers-most = omega (arith, p.all, count_most shape-lens)

  module _ (some : 0 < e) where
    pub powers_base : count la ≤ n
    unfolding power_shape
    powers_base =
        let u = p.under some in
        le_trans (count_less (power_shape e l la) la (λ k h.
        let g : 1 * (at la k - 1) ≤ e * (at la k - 1) = mul-le-mul_right (at la k - 1) some in
        rw (at-four (λ k. min (at l k) (e * (at la k - 1) + 1)) k h) (omega (arith, u.hi k h)))) (omega (arith, p.all))

    module _ (w : List Float) (ew : length w ≡ mw) where
      pub base-sits : Sits l (lain 0 la w)
      base-sits = under-sits (p.under some) (length_part 0 (0 + count la) w (omega arith) (omega (arith, powers_base, p.work)) ∙ omega arith)

      pub begun_in : n < length w
      begun_in = omega (arith, p.work, powers-some)

      -- the result begins as one, which leaves the base alone
      pub begun_base : lain 0 la (set w n one_f) ≡ lain 0 la w
      begun_base = ap (block la) (below-part 0 (0 + count la) (kept_set w n one_f begun_in).below (omega arith) (omega (arith, powers_base)))

      pub turning-first : e < 2 ^ 32 → Turning la l e n (set w n one_f) (set w n one_f) ones la e
      unfolding span
      turning-first h =
          let x : lain n ones (set w n one_f) ≡ constant_block one_f = ap (block ones) (kept_set w n one_f begun_in).holds in
          record { running = rw (x, begun_base) (running-first some h base-sits); len = refl }

    module _ {w₀ w : List Float} {lr lb : List ℕ} {left : ℕ} (t : Turning la l e n w₀ w lr lb left) (ew : length w₀ ≡ mw) where
      -- the result times the base
      pub turn_bit : {m k : ℕ} → m ≡ length w → k ≡ mo → Step l lr lb n 0 n m k
      unfolding power_shape
      turn_bit i j = record {
        left = (running-under t.running).0;
        right = (running-under t.running).1;
        caps = p.caps;
        from_a = le_refl n;
        from_b = omega arith;
        fits = le_trans (running_bit t.running) (omega (arith, p.all));
        work = i ∙ (t.len ∙ (ew ∙ p.work));
        out = j ∙ p.out;
      }

      -- the base times itself
      pub turn-square : 1 < left → {m k : ℕ} → m ≡ length w → k ≡ mo → Step l lb lb 0 0 n m k
      unfolding power_shape
      turn-square h i j = record {
        left = (running-under t.running).1;
        right = (running-under t.running).1;
        caps = p.caps;
        from_a = omega arith;
        from_b = omega arith;
        fits = le_trans (running-square t.running h) (omega (arith, p.all));
        work = i ∙ (t.len ∙ (ew ∙ p.work));
        out = j ∙ p.out;
      }

      pub turn-next : 1 < left → {w' w'' : List Float} {r b : List ℕ}
          → Placed (taken l left (lain n lr w) (lain 0 lb w)) n n w w' r
          → Placed (multiplied l (lain 0 lb w') (lain 0 lb w')) 0 n w' w'' b
          → length w'' ≡ length w → Turning la l e n w₀ w'' r b (left / 2)
      unfolding power_shape
      turn-next h {w'} {w''} {r} {b} q1 q2 len =
          let g = running-next t.running h in
          let small : count r ≤ n = omega (arith, p.all, (running-small g).0, ap (λ (z : Block). count z.lengths) q1.is) in
          let x : lain n r w'' ≡ taken l left (lain n lr w) (lain 0 lb w) =
          ap (block r) (q2.after n (n + count r) (omega arith) (omega arith) (omega arith)) ∙ q1.is in
          let y : lain 0 lb w' ≡ lain 0 lb w =
          ap (block lb) (q1.before 0 (0 + count lb) (omega arith)
          (omega (arith, p.all, (running-small t.running).1))) in
          let z : lain 0 b w'' ≡ multiplied l (lain 0 lb w) (lain 0 lb w) = q2.is ∙ ap (λ (q : Block). multiplied l q q) y in
          record { running = rw (x, z) g; len = len ∙ t.len }

      pub turn_last : left ≤ 1 → {s : ℕ} {w' out : List Float} {r : List ℕ} → Made (multiplied l (lain n lr w) (lain 0 lb w)) s w w' out r
          → Stands (squared 32 l e (constant_block one_f) (lain 0 la w₀)) out r
      turn_last h m = rw (running-last t.running h) at m.stands

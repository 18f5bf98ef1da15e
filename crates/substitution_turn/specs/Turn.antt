-- One turn of Horner's rule: the product, the sum, and where they stand.
use Rattle.std.specs.Prelude.{ℕ, ◌+◌, ◌-◌, ◌*◌, ◌≤◌, ◌<◌, List, ◌++◌, true, ◌≡◌, refl, drop, Float}
use Rattle.std.proofs.Math.Bool.{false}
use Rattle.std.proofs.Math.Path.{sym, ap}
use Rattle.std.proofs.Common.{◌∙◌, le_refl, length-append, length-drop, length-take-le, take_at, drop_at}
use native.Mathlib.Omega.{arith}
use Rattle.std.proofs.Math.ListN.{length, take}
use Rattle.std.proofs.Math.Seq.{take-length}
use borrow.Rule.Slice.PartMut.{put_mid}
use Rattle.lists.specs.Test.{of-both}
use Rattle.lists.specs.Four.{at}
use Rattle.lists.specs.Part.{part, length_part, Kept, below_less, below_then, below-part, kept-mid}
use Rattle.model.specs.Header.{count, ones, span}
use Rattle.model.specs.Limits.{sum_shape, max_shape}
use Rattle.model.specs.Refusals.{zero_f}
use Rattle.model.specs.Poly.{Block, block}
use Rattle.model.specs.Add.{joined_block}
use Rattle.model.specs.Product.{is_zero, constant_block, product_of}
use Rattle.shape_words.specs.Lengths.{Lengths, count-pos}
use Rattle.laws_keeps.specs.Sits.{Sits, max-at}
use Rattle.laws_keeps.specs.Keeps.{joined-sits}
use Rattle.laws_keeps.proofs.ProductKeeps.{product-sits}
use Rattle.laws_keeps.specs.ProductKeeps.{constant-sits, left-fits}
use Rattle.product.specs.Room.{Under, Joins, Room, Put, Stands, Made}
use Rattle.product.specs.Ways.{under-lengths, count_less, under-sits, sits-under, under_more, shape-under, shape-left}
use Rattle.product.specs.Ways.{shape-right, put-stands, put-made}
use Rattle.substitution_turn.specs.Room.{Adding, Turning, times_put, turn_of, Turned}

-- a block by its lengths and its places
pub block-is : {p : Block} {r : List ℕ} {xs : List Float} → r ≡ p.lengths → xs ≡ p.places → block r xs ≡ p
block-is e f = λ i. record { lengths = e i; places = f i }

-- ---- the product

module _ (limits : List ℕ) (a b : Block) where
  pub zero-made : {s : ℕ} {d w out : List Float} {r : List ℕ} → is_zero a ≡ true → Put (constant_block zero_f) d out r → Made (times_put limits a b) s w w out r
  unfolding times_put
  zero-made t p = rw t (put-made p)

  pub other-made : {s : ℕ} {w w' out : List Float} {r : List ℕ} → is_zero a ≡ false
      → Made (product_of 1 limits a b) s w w' out r → Made (times_put limits a b) s w w' out r
  unfolding times_put
  other-made t m = rw t m

  pub times-sits : Sits limits a → Sits limits b → Sits (sum_shape limits a.lengths b.lengths) (times_put limits a b)
  unfolding times_put
  times-sits s t = of-both (Sits (sum_shape limits a.lengths b.lengths)) (is_zero a) (constant-sits zero_f (left-fits s t)) (product-sits 1 s t)

-- ---- the sum

module _ {k c : List ℕ} {n mo mw : ℕ} (g : Adding k c n mo mw) where
  pub add-lens : Lengths k × Lengths c
  add-lens = (under-lengths g.left g.caps, under-lengths g.right g.caps)

  pub add_small : (count k ≤ n) × (count c ≤ n)
  add_small = (omega (arith, g.all, count_less g.most k g.left.hi), omega (arith, g.all, count_less g.most c g.right.hi))

  max-under : Under g.most (max_shape k c)
  unfolding max_shape
  max-under = record {
    ns = refl;
    lo = λ j h. rw (max-at k c j h) (omega (arith, g.left.lo j h));
    hi = λ j h. rw (max-at k c j h) (omega (arith, g.left.hi j h, g.right.hi j h));
  }

  max-small : count (max_shape k c) ≤ n
  max-small = omega (arith, g.all, count_less g.most (max_shape k c) max-under.hi)

  -- o the buffer whose front holds one, w the work that holds the other; w1 with the first kept
  module _ (o : List Float) {w w1 : List Float} (lo : length o ≡ mo) (lw : length w ≡ mw) {z y : ℕ} (ez : z ≡ count k)
      (ey : y ≡ count c) (k1 : Kept (3 * n) (3 * n + z) (take z o) w w1) where
    left_is : part (3 * n) (3 * n + z) w1 ≡ take (count k) o
    left_is = k1.holds ∙ ap (λ (j : ℕ). take j o) ez

    right_is : part (2 * n) (2 * n + y) w1 ≡ part (2 * n) (2 * n + count c) w
    right_is = below-part (2 * n) (2 * n + y) k1.below (omega arith) (omega (arith, add_small.1, ey)) ∙ ap (λ (j : ℕ). part (2 * n) (2 * n + j) w) ey

    left-full : length (take (count k) o) ≡ count k
    left-full = length-take-le (count k) o (omega (arith, lo, g.out, add_small.0))

    right-full : length (part (2 * n) (2 * n + count c) w) ≡ count c
    right-full = length_part (2 * n) (2 * n + count c) w (omega arith) (omega (arith, lw, g.work, add_small.1)) ∙ omega arith

    pub add_joins : Joins k c (length (part (3 * n) (3 * n + z) w1)) (length (part (2 * n) (2 * n + y) w1)) mo
    add_joins = record {
      left = add-lens.0;
      right = add-lens.1;
      full_a = ap length left_is ∙ left-full;
      full_b = ap length right_is ∙ right-full;
      fits = omega (arith, max-small, g.out);
    }

    sum : Block
    sum = joined_block false (block k (take (count k) o)) (block c (part (2 * n) (2 * n + count c) w))

    sum-sits : Sits (max_shape k c) sum
    unfolding sum
    sum-sits = joined-sits false (under-sits g.left left-full) (under-sits g.right right-full)

    module _ {o1 : List Float} {r : List ℕ} (p : Put
        (joined_block false (block k (part (3 * n) (3 * n + z) w1)) (block c (part (2 * n) (2 * n + y) w1))) o o1
        r) where
      stands : Stands sum o1 r
      unfolding sum
      stands = rw (left_is, right_is) at (put-stands p)

      sum-under : Under g.most r
      sum-under = rw stands.lengths (under_more max-under.hi (sits-under sum-sits))

      pub add-whole : Lengths r
      add-whole = under-lengths sum-under g.caps

      pub add-fits : {x : ℕ} → x ≡ count r → x ≤ n
      add-fits e = omega (arith, e, g.all, count_less g.most r sum-under.hi)

      pub add_turned : {x : ℕ} {w2 : List Float} → x ≡ count r → Kept n (n + x) (take x o1) w1 w2
          → Turned (joined_block false (block k (take (count k) o)) (block c (part (2 * n) (2 * n + count c) w))) n w w2 o1 r
      unfolding sum
      add_turned {x} {w2} ex k2 =
          let f : x ≡ length sum.places = ex ∙ (ap count stands.lengths ∙ sym sum-sits.full) in
          record {
            stands = stands;
            kept = ap (λ (j : ℕ). part n (n + j) w2) (sym ex) ∙ (k2.holds ∙ (ap (λ (j : ℕ). take j o1) f ∙ stands.front));
            below = below_then (below_less (omega arith) k1.below) k2.below;
          }

-- ---- the turn

module _ {r b c limits : List ℕ} {n mo mw : ℕ} (t : Turning r b c limits n mo mw) where
  in-shape : Under limits (sum_shape limits r b)
  in-shape = shape-under t.value t.put

  pub turn-lens : Lengths r × Lengths b
  turn-lens = (under-lengths t.value t.caps, under-lengths t.put t.caps)

  shape-small : count (sum_shape limits r b) ≤ n
  shape-small = omega (arith, t.all, count_less t.most (sum_shape limits r b) t.in_p)

  pub turn_small : (count r ≤ n) × (count b ≤ n)
  turn_small = (
    omega (arith, shape-small, count_less (sum_shape limits r b) r (shape-left t.value t.put)),
    omega (arith, shape-small, count_less (sum_shape limits r b) b (shape-right t.value t.put)),
  )

  pub turn-row : count c ≤ n
  turn-row = omega (arith, t.all, count_less t.most c t.in_c)

  module _ (w : List Float) (lw : length w ≡ mw) {e f : ℕ} (ee : e ≡ n + count r) (ef : f ≡ count b) where
    pub turn-room : Room w n e r 0 f b (3 * n) limits 1 mo
    turn-room = record {
      left = record { under = t.value; ends = ee; below = omega (arith, ee, turn_small.0) };
      right = record { under = t.put; ends = omega (arith, ef); below = omega (arith, ef, turn_small.1) };
      caps = t.caps;
      within = omega (arith, lw, t.work);
      fits = omega (arith, shape-small, t.out);
      low = le_refl _;
      room = λ h. omega (arith, shape-small, lw, t.work, count-pos (under-lengths in-shape t.caps));
    }

    abbrev value : Block
    value = block r (part n e w)

    abbrev put : Block
    put = block b (part 0 f w)

    made-sits : Sits (sum_shape limits r b) (times_put limits value put)
    made-sits =
        times-sits limits value put
        (under-sits t.value (length_part n e w (omega (arith, ee)) (omega (arith, ee, lw, t.work, turn_small.0)) ∙ omega (arith, ee)))
        (under-sits t.put (length_part 0 f w (omega arith) (omega (arith, ef, lw, t.work, turn_small.1)) ∙ omega (arith, ef)))

    module _ {w1 o1 : List Float} {k : List ℕ} (m : Made (times_put limits value put) (3 * n) w w1 o1 k) where
      pub turn_adding : {m1 m2 : ℕ} → m1 ≡ mo → m2 ≡ mw → Adding k c n m1 m2
      unfolding max_shape
      turn_adding e1 e2 =
          let u : Under (sum_shape limits r b) k = rw m.stands.lengths (sits-under made-sits) in
          record {
            most = max_shape (sum_shape limits r b) c;
            left = under_more (λ j h. rw (max-at (sum_shape limits r b) c j h) (omega arith)) u;
            right = record { ns = t.row.ns; lo = t.row.lo; hi = λ j h. rw (max-at (sum_shape limits r b) c j h) (omega arith) };
            caps = record { most = λ j h. rw (max-at (sum_shape limits r b) c j h) (omega (arith, t.caps.most j h, in-shape.hi j h, t.row.hi j h)) };
            all =
                omega (
                  arith,
                  t.all,
                  count_less t.most (max_shape (sum_shape limits r b) c)
                      (λ j h. rw (max-at (sum_shape limits r b) c j h) (omega (arith, t.in_p j h, t.in_c j h))),
                );
            small = t.small;
            out = e1 ∙ t.out;
            work = e2 ∙ t.work;
          }

      made-is : block k (take (count k) o1) ≡ times_put limits value put
      made-is =
          let f : count k ≡ length (times_put limits value put).places = ap count m.stands.lengths ∙ sym made-sits.full in
          block-is m.stands.lengths (ap (λ (j : ℕ). take j o1) f ∙ m.stands.front)

      pub turn-turned : {w2 o2 : List Float} {x : List ℕ}
          → Turned (joined_block false (block k (take (count k) o1)) (block c (part (2 * n) (2 * n + count c) w1))) n w1
          w2 o2 x
          → Turned (turn_of limits n r b c w) n w w2 o2 x
      turn-turned {w2} {o2} {x} d =
          let q : part (2 * n) (2 * n + count c) w1 ≡ part (2 * n) (2 * n + count c) w =
          below-part (2 * n) (2 * n + count c) m.below (omega arith) (omega (arith, turn-row)) in
          let p : joined_block false (block k (take (count k) o1)) (block c (part (2 * n) (2 * n + count c) w1)) ≡ turn_of limits n r b c w =
          rw (made-is, q, ee, ef) in
          let d' : Turned (turn_of limits n r b c w) n w1 w2 o2 x = rw p at d in
          record { stands = d'.stands; kept = d'.kept; below = below_then (below_less (omega arith) m.below) d'.below }

-- ---- the first turn

module _ {c : List ℕ} {n mo mw : ℕ} (g : Adding ones c n mo mw) where
  pub first_some : 0 < mo
  first_some = omega (arith, g.out, (add_small g).1, count-pos (add-lens g).1)

  module _ {o1 : List Float} {k : List ℕ} {o : List Float} (z : Put (constant_block zero_f) o o1 k) where
    pub first_adding : {m1 : ℕ} → m1 ≡ mo → Adding k c n m1 mw
    first_adding e =
        rw z.lengths
        (record {
          most = g.most;
          left = g.left;
          right = g.right;
          caps = g.caps;
          all = g.all;
          small = g.small;
          out = e ∙ g.out;
          work = g.work;
        })

    pub first-turned : {w w2 o2 : List Float} {x : List ℕ}
        → Turned (joined_block false (block k (take (count k) o1)) (block c (part (2 * n) (2 * n + count c) w))) n w w2
        o2 x
        → Turned (joined_block false (constant_block zero_f) (block c (part (2 * n) (2 * n + count c) w))) n w w2 o2 x
    unfolding span
    first-turned {w} {w2} {o2} {x} d =
        let e : block k (take (count k) o1) ≡ constant_block zero_f = rw z.lengths (ap (block ones) (put-stands z).front) in
        rw e at d

-- ---- what was loaded

-- the front of a buffer became xs
pub front_kept : (w : List Float) {xs o : List Float} {z m : ℕ} → o ≡ xs → length xs ≡ m → z ≡ m → z ≤ length w → Kept 0 m xs w (o ++ drop z w)
front_kept w {xs} {o} {z} {m} e l ez h =
    let lo : length o ≡ m = ap length e ∙ l in
    let k : m - 0 ≡ m = omega arith in
    record {
      below = record { len = simp (length-append, length-drop) (omega arith); head = refl };
      holds = ap (λ (j : ℕ). take j (o ++ drop z w)) k ∙ (take_at o (drop z w) m lo ∙ e);
      above = drop_at o (drop z w) m lo ∙ ap (λ (j : ℕ). drop j w) ez;
    }

-- a part of a buffer became xs
pub row_kept : (p : ℕ) (w : List Float) {xs o : List Float} {z m : ℕ} → o ≡ xs → length xs ≡ m → z ≡ m
    → p + m ≤ length w → Kept p (p + m) xs w (put_mid p (p + z - p) w o)
row_kept p w {xs} {o} {z} {m} e l ez h =
    let t : take m xs ≡ xs = ap (λ (j : ℕ). take j xs) (sym l) ∙ take-length xs in
    let k : p + z - p ≡ m = omega arith in
    rw t at (kept-mid p m w xs m (e ∙ sym t) refl (omega (arith, l)) h k)

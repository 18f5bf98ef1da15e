-- How the steps of a product, and of a product by a linear factor, come together in a buffer that is used as a stack.
use Rattle.std.specs.Prelude.{ℕ, ◌+◌, ◌-◌, ◌*◌, ◌≤◌, ◌<◌, List, [], ◌∷◌, true, ◌≡◌, refl, length, take, set, Float}
use Rattle.std.proofs.Math.Bool.{false}
use Rattle.std.proofs.Common.{sym, ap, ◌∙◌, arith, le_trans, zero-add}
use Rattle.std.proofs.Math.Nat.{le_refl}
use Rattle.std.proofs.Math.Seq.{take-length}
use Rattle.std.specs.Float.Ieee.{eq}
use Rattle.lists.specs.Four.{at}
use Rattle.lists.specs.Part.{part, length_part, Below, Kept, below-same, below_less, below_then, below-part, kept_set}
use Rattle.model.specs.declared.Linear.{Linear}
use Rattle.product.specs.declared.kernel.Way.{Way}
use Rattle.model.specs.Header.{count, ones, span}
use Rattle.model.specs.Limits.{sum_shape, max_shape}
use Rattle.model.specs.Refusals.{zero_f}
use Rattle.model.specs.Poly.{Block, block}
use Rattle.model.specs.Linear.{linear}
use Rattle.model.specs.Add.{joined_block}
use Rattle.model.specs.Product.{constant_block, grown, raised, linear_product, product_of}
use Rattle.product.specs.Chosen.{chosen, plain_product, kind_of, line_of}
use Rattle.shape_words.specs.Lengths.{Lengths, count-pos}
use Rattle.laws_keeps.specs.Sits.{Sits, sits-more, sum_at_lem, max-at}
use Rattle.laws_keeps.specs.Ways.{linear-is, line_two_lem}
use Rattle.laws_keeps.proofs.ProductKeeps.{product-sits}
use Rattle.laws_keeps.specs.ProductKeeps.{constant-sits}
use Rattle.product.specs.Room.{Caps, Under, RaisesTo, Plain, Joins, Lies, Room, LineRoom, Whole, LineWhole, Put, Stands, Made}
use Rattle.product.specs.Ways.{under-lengths, count_less, under-sits, sits-under, shape-under, shape-left}
use Rattle.product.specs.Ways.{shape-right, grown-under, grown_in, grown-fits, ones-under, shape_one, put-stands}
use Rattle.product.specs.Ways.{made-same, put-made, chosen-four, chosen_five, product-four, product_five}
use Rattle.product.specs.Ways.{product-plain, raised-lengths, raised-full}

module _ {limits n : List ℕ} {p e s : ℕ} (w : List Float) (b : Lies limits n p e s) (h : s ≤ length w) where
  pub lies-full : length (part p e w) ≡ count n
  lies-full = length_part p e w (omega (arith, b.ends)) (omega (arith, b.below)) ∙ omega (arith, b.ends)

  pub lies-sits : Sits limits (block n (part p e w))
  lies-sits = under-sits b.under lies-full

-- a line was chosen: the other block, shifted up by one in its variable, fits where the product does
record Grows (limits n r : List ℕ) (v stage : ℕ) : Type 0 where
  var : v < 4
  less : count (grown limits v n) ≤ count r
  some : 0 < stage

module _ {limits la lb : List ℕ} (stage : ℕ) (xs ys : List Float) (ua : Under limits la) (ub : Under limits lb)
    (c : Way) (e : c ≡ chosen stage (block la xs) (block lb ys)) where
  grows-four : kind_of c ≡ 4 → Grows limits lb (sum_shape limits la lb) (line_of c).variable stage
  grows-four k =
      let one : Block = block la xs in
      let f = chosen-four stage one (block lb ys) (sym (ap kind_of e) ∙ k) in
      let i : (line_of c) ≡ linear one = ap line_of (e ∙ f.is) in
      let l = linear-is one f.yes in
      let v : ℕ = (linear one).variable in
      let t : 2 ≤ at la v = line_two_lem one v l.fits in
      let g = grown-fits v l.var ub (sum_shape limits la lb) (shape-right ua ub) (rw (sum_at_lem limits la lb v l.var) (omega arith)) in
      rw i (record { var = l.var; less = count_less (sum_shape limits la lb) (grown limits v lb) g; some = f.some })

  grows_five : kind_of c ≡ 5 → Grows limits la (sum_shape limits la lb) (line_of c).variable stage
  grows_five k =
      let two : Block = block lb ys in
      let f = chosen_five stage (block la xs) two (sym (ap kind_of e) ∙ k) in
      let i : (line_of c) ≡ linear two = ap line_of (e ∙ f.is) in
      let l = linear-is two f.yes in
      let v : ℕ = (linear two).variable in
      let t : 2 ≤ at lb v = line_two_lem two v l.fits in
      let g = grown-fits v l.var ua (sum_shape limits la lb) (shape-left ua ub) (rw (sum_at_lem limits la lb v l.var) (omega arith)) in
      rw i (record { var = l.var; less = count_less (sum_shape limits la lb) (grown limits v la) g; some = f.some })

-- a product's two blocks
module _ {w : List Float} {mo pa ea : ℕ} {la : List ℕ} {pb eb : ℕ} {lb : List ℕ} {spare : ℕ} {limits : List ℕ}
    {stage : ℕ} (r : Room w pa ea la pb eb lb spare limits stage mo) where
  pub room-full : (length (part pa ea w) ≡ count la) × (length (part pb eb w) ≡ count lb)
  room-full = (lies-full w r.left r.within, lies-full w r.right r.within)

  pub room-lens : Lengths la × Lengths lb
  room-lens = (under-lengths r.left.under r.caps, under-lengths r.right.under r.caps)

  pub room-some : 0 < mo
  room-some = omega (arith, r.fits, count-pos (under-lengths (shape-under r.left.under r.right.under) r.caps))

  pub room-sits : Sits limits (block la (part pa ea w)) × Sits limits (block lb (part pb eb w))
  room-sits = (lies-sits w r.left r.within, lies-sits w r.right r.within)

  pub room-plain : Plain la lb limits (length (part pa ea w)) (length (part pb eb w)) mo
  room-plain = record { left = r.left.under; right = r.right.under; caps = r.caps; full_a = room-full.0; full_b = room-full.1; fits = r.fits }

  abbrev pub one : Block
  one = block la (part pa ea w)

  abbrev pub two : Block
  two = block lb (part pb eb w)

  pub room-four : (c : Way) → c ≡ chosen stage one two → kind_of c ≡ 4 → LineRoom w pb eb lb (line_of c).variable spare limits stage mo
  room-four c e k =
      let g = grows-four stage (part pa ea w) (part pb eb w) r.left.under r.right.under c e k in
      record {
        lies = r.right;
        caps = r.caps;
        var = g.var;
        fits = le_trans g.less r.fits;
        some = g.some;
        low = r.low;
        room = omega (arith, r.room g.some, g.less);
      }

  pub room_five : (c : Way) → c ≡ chosen stage one two → kind_of c ≡ 5 → LineRoom w pa ea la (line_of c).variable spare limits stage mo
  room_five c e k =
      let g = grows_five stage (part pa ea w) (part pb eb w) r.left.under r.right.under c e k in
      record {
        lies = r.left;
        caps = r.caps;
        var = g.var;
        fits = le_trans g.less r.fits;
        some = g.some;
        low = r.low;
        room = omega (arith, r.room g.some, g.less);
      }

module _ (limits : List ℕ) (stage : ℕ) (a b : Block) {s : ℕ} {w w' out : List Float} {r : List ℕ} (c : Way) (e : c ≡ chosen stage a b) where
  pub made-four : kind_of c ≡ 4
      → Made (linear_product (λ x. product_of (stage - 1) limits x (constant_block (line_of c).c)) limits (line_of c) b) s w
      w' out r → Made (product_of stage limits a b) s w w' out r
  made-four k m =
      let h : (kind_of (chosen stage a b)) ≡ 4 = sym (ap kind_of e) ∙ k in
      made-same (product-four limits a b stage h) (rw e at m)

  pub made_five : kind_of c ≡ 5
      → Made (linear_product (λ x. product_of (stage - 1) limits x (constant_block (line_of c).c)) limits (line_of c) a) s w
      w' out r → Made (product_of stage limits a b) s w w' out r
  made_five k m =
      let h : (kind_of (chosen stage a b)) ≡ 5 = sym (ap kind_of e) ∙ k in
      made-same (product_five limits a b stage h) (rw e at m)

  pub made_plain : {d : List Float} → (kind_of c ≡ 4 → ⊥) → (kind_of c ≡ 5 → ⊥)
      → Put (plain_product limits (kind_of c) (line_of c).c a b) d out r → w' ≡ w
      → Made (product_of stage limits a b) s w w' out r
  made_plain h4 h5 o i =
      let f : product_of stage limits a b ≡ plain_product limits (kind_of c) (line_of c).c a b =
      product-plain limits a b stage (λ h. h4 (ap kind_of e ∙ h))
      (λ h. h5 (ap kind_of e ∙ h))
      ∙ ap (λ (z : Way). plain_product limits (kind_of z) (line_of z).c a b) (sym e) in
      made-same f (rw i (put-made o))

-- the same where there is no work to leave alone
module _ (limits : List ℕ) (a b : Block) {out : List Float} {r : List ℕ} (c : Way) (e : c ≡ chosen 1 a b) where
  as-made : {p : Block} → Stands p out r → Made p 0 [] [] out r
  as-made x = record { stands = x; below = below-same }

  pub stands-four : kind_of c ≡ 4
      → Stands (linear_product (λ x. product_of 0 limits x (constant_block (line_of c).c)) limits (line_of c) b) out r
      → Stands (product_of 1 limits a b) out r
  stands-four k x = (made-four limits 1 a b c e k (as-made x)).stands

  pub stands_five : kind_of c ≡ 5
      → Stands (linear_product (λ x. product_of 0 limits x (constant_block (line_of c).c)) limits (line_of c) a) out r
      → Stands (product_of 1 limits a b) out r
  stands_five k x = (made_five limits 1 a b c e k (as-made x)).stands

  pub stands_plain : {d : List Float} → (kind_of c ≡ 4 → ⊥) → (kind_of c ≡ 5 → ⊥)
      → Put (plain_product limits (kind_of c) (line_of c).c a b) d out r → Stands (product_of 1 limits a b) out r
  stands_plain h4 h5 o = (made_plain limits 1 a b {s = 0} {w = []} {w' = []} c e h4 h5 o refl).stands

-- a linear product, step by step: r and n are what was computed; o1 the raised block; w1 where it was kept; w2 with the
-- constant; w3 and o2 after the product; w4 where that was kept
module _ {w : List Float} {mo p e : ℕ} {l : List ℕ} {v spare : ℕ} {limits : List ℕ} {stage : ℕ} (room : LineRoom w p e l v spare limits stage mo) where
  pub line-within : spare ≤ length w
  line-within = omega (arith, room.room)

  pub line-raises : RaisesTo l v limits (length (part p e w)) mo
  line-raises = record { under = room.lies.under; caps = room.caps; var = room.var; full = lies-full w room.lies line-within; fits = room.fits }

  pub line-none : (line : Linear) {r : List ℕ} {o o1 : List Float}
      → Put (raised limits line.variable line.m (block l (part p e w))) o o1 r → eq line.c zero_f ≡ true
      → (f : Block → Block) → Made (linear_product f limits line (block l (part p e w))) spare w w o1 r
  unfolding linear_product
  line-none line h t f = rw t (put-made h)

-- the raised block was kept, and the constant stored behind it
pub record First (w : List Float) (mo p e : ℕ) (l : List ℕ) (v spare : ℕ) (limits : List ℕ) (stage : ℕ) (r : List ℕ)
    (n : ℕ) (m c : Float) (o o1 w1 w2 : List Float) : Type 0 where
  pub room : LineRoom w p e l v spare limits stage mo
  pub up : Put (raised limits v m (block l (part p e w))) o o1 r
  pub en : n ≡ count r
  pub kept : Kept spare (spare + n) (take n o1) w w1
  pub const : w2 ≡ set w1 (spare + n) c

pub up-shape : (limits : List ℕ) (v : ℕ) (m : Float) (x : Block) {o o1 : List Float} {r : List ℕ}
    → Put (raised limits v m x) o o1 r → r ≡ grown limits v x.lengths
up-shape limits v m x h = h.lengths ∙ raised-lengths limits v m x

module _ {w : List Float} {mo p e : ℕ} {l : List ℕ} {v spare : ℕ} {limits : List ℕ} {stage : ℕ}
    (room : LineRoom w p e l v spare limits stage mo) {r : List ℕ} (er : r ≡ grown limits v l) where
  pub up-lens : Lengths r
  up-lens = rw er (under-lengths (grown-under v room.var room.lies.under) room.caps)

  pub up-wide : {n : ℕ} → n ≡ count r → (n ≤ mo) × (spare + (2 * n + 1) ≤ length w)
  up-wide k = (omega (arith, room.fits, ap count er), omega (arith, room.room, ap count er))

module _ {w : List Float} {mo p e : ℕ} {l : List ℕ} {v spare : ℕ} {limits : List ℕ} {stage : ℕ} {r : List ℕ} {n : ℕ}
    {m c : Float} {o o1 w1 w2 : List Float} (f : First w mo p e l v spare limits stage r n m c o o1 w1 w2) where
  pub er : r ≡ grown limits v l
  er = up-shape limits v m (block l (part p e w)) f.up

  pub size : count (grown limits v l) ≡ n
  size = sym (f.en ∙ ap count er)

  q_in : spare + n < length w1
  q_in = omega (arith, f.room.room, size, f.kept.below.len)

  k2 : Kept (spare + n) (spare + n + 1) (c ∷ []) w1 w2
  k2 = rw f.const (kept_set w1 (spare + n) c q_in)

  pub len2 : length w2 ≡ length w
  len2 = k2.below.len ∙ f.kept.below.len

  under : Under limits l
  under = f.room.lies.under

  grow-up : (k : ℕ) → k < 4 → at (sum_shape limits l ones) k ≤ at (grown limits v l) k
  grow-up k h = le_trans (shape_one under k h) (grown_in v f.room.var under k h)

  pub line-room : {mo2 : ℕ} → mo2 ≡ mo → Room w2 p e l (spare + n) (spare + n + 1) ones (spare + n + 1) limits (stage - 1) mo2
  unfolding span
  line-room eo =
      let s = count_less (grown limits v l) (sum_shape limits l ones) grow-up in
      record {
        left = record { under = under; ends = f.room.lies.ends; below = omega (arith, f.room.lies.below) };
        right = record { under = ones-under under; ends = refl; below = le_refl _ };
        caps = f.room.caps;
        within = omega (arith, f.room.room, size, len2);
        fits = omega (arith, s, f.room.fits, eo);
        low = omega (arith, f.room.low);
        room = λ h. absurd (omega (arith, f.room.low, h));
      }

  -- the operands of the product are the other and the constant
  pub line-product : product_of (stage - 1) limits (block l (part p e w2))
      (block ones (part (spare + n) (spare + n + 1) w2))
      ≡ product_of (stage - 1) limits (block l (part p e w)) (constant_block c)
  line-product =
      let b : Below spare w w2 = below_then f.kept.below (below_less (omega arith) k2.below) in
      let a1 : part p e w2 ≡ part p e w = below-part p e b (omega (arith, f.room.lies.ends)) f.room.lies.below in
      ap (λ (z : List Float). product_of (stage - 1) limits (block l z) (block ones (part (spare + n) (spare + n + 1) w2))) a1
      ∙ ap (λ (z : List Float). product_of (stage - 1) limits (block l (part p e w)) (block ones z)) k2.holds

  pub prod-sits : Sits (grown limits v l) (product_of (stage - 1) limits (block l (part p e w)) (constant_block c))
  prod-sits =
      let x = lies-sits w f.room.lies (line-within f.room) in
      sits-more grow-up (product-sits (stage - 1) x (constant-sits c x))

-- then the product by the constant was made
pub record Second (w : List Float) (mo p e : ℕ) (l : List ℕ) (v spare : ℕ) (limits : List ℕ) (stage : ℕ) (r : List ℕ)
    (n : ℕ) (m c : Float) (o o1 w1 w2 : List Float) (k : List ℕ) (w3 o2 : List Float) : Type 0 where
  pub first : First w mo p e l v spare limits stage r n m c o o1 w1 w2
  pub made : Made (product_of (stage - 1) limits (block l (part p e w2)) (block ones (part (spare + n) (spare + n + 1) w2))) (spare + n + 1) w2 w3 o2 k

module _ {w : List Float} {mo p e : ℕ} {l : List ℕ} {v spare : ℕ} {limits : List ℕ} {stage : ℕ} {r : List ℕ} {n : ℕ}
    {m c : Float} {o o1 w1 w2 : List Float} {k : List ℕ} {w3 o2 : List Float}
    (s : Second w mo p e l v spare limits stage r n m c o o1 w1 w2 k w3 o2) where
  m3 : Made (product_of (stage - 1) limits (block l (part p e w)) (constant_block c)) (spare + n + 1) w2 w3 o2 k
  m3 = made-same (sym (line-product s.first)) s.made

  under-k : Under (grown limits v l) k
  under-k = rw m3.stands.lengths (sits-under (prod-sits s.first))

  grown-caps : Caps (grown limits v l)
  grown-caps =
      let u = grown-under v s.first.room.var s.first.room.lies.under in
      record { most = λ k h. le_trans (u.hi k h) (s.first.room.caps.most k h) }

  pub lens-k : Lengths k
  lens-k = under-lengths under-k grown-caps

  pub small-k : count k ≤ n
  small-k = omega (arith, count_less (grown limits v l) k under-k.hi, size s.first)

  pub len3 : length w3 ≡ length w
  len3 = m3.below.len ∙ len2 s.first

  module _ {z : ℕ} {w4 : List Float} (ez : z ≡ count k) (k4 : Kept (spare + n + 1) (spare + n + 1 + z) (take z o2) w3 w4) where
    keeps : Below (spare + n) w1 w4
    keeps = below_then (k2 s.first).below (below_less (omega arith) (below_then m3.below k4.below))

    line-below : Below spare w w4
    line-below = below_then s.first.kept.below (below_less (omega arith) keeps)

    up_is : part spare (spare + n) w4 ≡ (raised limits v m (block l (part p e w))).places
    up_is =
        let h : length (raised limits v m (block l (part p e w))).places ≡ n = raised-full limits v m (block l (part p e w)) ∙ size s.first in
        below-part spare (spare + n) keeps (omega arith) (le_refl _)
        ∙ (s.first.kept.holds ∙ (ap (λ (j : ℕ). take j o1) (sym h) ∙ (put-stands s.first.up).front))

    down_is : part (spare + n + 1) (spare + n + 1 + z) w4 ≡ (product_of (stage - 1) limits (block l (part p e w)) (constant_block c)).places
    down_is = k4.holds ∙ (ap (λ (j : ℕ). take j o2) (ez ∙ (ap count m3.stands.lengths ∙ sym (prod-sits s.first).full)) ∙ m3.stands.front)

    pub line_joins : {mo2 : ℕ} → mo2 ≡ mo → Joins r k (length (part spare (spare + n) w4)) (length (part (spare + n + 1) (spare + n + 1 + z) w4)) mo2
    line_joins eo =
        let x = block l (part p e w) in
        let g : (j : ℕ) → j < 4 → at (max_shape r k) j ≤ at (grown limits v l) j = λ j h. rw (max-at r k j h, er s.first) (omega (arith, under-k.hi j h)) in
        record {
          left = up-lens s.first.room (er s.first);
          right = lens-k;
          full_a = ap length up_is ∙ (raised-full limits v m x ∙ (rw (er s.first)));
          full_b = ap length down_is ∙ ((prod-sits s.first).full ∙ sym (ap count m3.stands.lengths));
          fits = omega (arith, count_less (grown limits v l) (max_shape r k) g, s.first.room.fits, eo);
        }

    -- the sum is the linear product
    pub line_made : (line : Linear) → v ≡ line.variable → m ≡ line.m → c ≡ line.c → eq c zero_f ≡ false → {j : List ℕ} {o3 : List Float}
        → Put (joined_block false (block r (part spare (spare + n) w4)) (block k (part (spare + n + 1) (spare + n + 1 + z) w4))) o2 o3 j
        → Made (linear_product (λ x. product_of (stage - 1) limits x (constant_block line.c)) limits line (block l (part p e w))) spare w w4 o3 j
    unfolding linear_product
    line_made line ev em ec t {j} {o3} h =
        let x = block l (part p e w) in
        let up : block r (part spare (spare + n) w4) ≡ raised limits v m x = rw (s.first.up.lengths, up_is) in
        let down : block k (part (spare + n + 1) (spare + n + 1 + z) w4)
        ≡ product_of (stage - 1) limits x (constant_block c) = rw (m3.stands.lengths, down_is) in
        let a : joined_block false (block r (part spare (spare + n) w4))
        (block k (part (spare + n + 1) (spare + n + 1 + z) w4))
        ≡ joined_block false (raised limits v m x) (product_of (stage - 1) limits x (constant_block c)) =
        rw (up, down) in
        rw (← ev, ← em, ← ec, t) (made-same (sym a) (record { stands = put-stands h; below = line-below }))

-- ---- operands that no limit cuts, where the caller has them

module _ {la lb limits : List ℕ} (a b : List Float) {mo mw : ℕ} (t : Whole la lb limits (length a) (length b) mo mw) where
  whole-small_a : count la ≤ count (sum_shape limits la lb)
  whole-small_a = count_less (sum_shape limits la lb) la (shape-left t.plain.left t.plain.right)

  whole-small_b : count lb ≤ count (sum_shape limits la lb)
  whole-small_b = count_less (sum_shape limits la lb) lb (shape-right t.plain.left t.plain.right)

  pub whole-some : 0 < count (sum_shape limits la lb)
  whole-some = count-pos (under-lengths (shape-under t.plain.left t.plain.right) t.plain.caps)

  module _ (c : Way) (e : c ≡ chosen 1 (block la a) (block lb b)) where
    pub whole_four : kind_of c ≡ 4 → LineWhole lb (line_of c).variable limits (length b) mo mw
    whole_four k =
        let g = grows-four 1 a b t.plain.left t.plain.right c e k in
        record {
          raises = record { under = t.plain.right; caps = t.plain.caps; var = g.var; full = t.plain.full_b; fits = le_trans g.less t.plain.fits };
          room = omega (arith, t.room, t.plain.full_b, g.less, whole-small_b, whole-some);
        }

    pub whole_five : kind_of c ≡ 5 → LineWhole la (line_of c).variable limits (length a) mo mw
    whole_five k =
        let g = grows_five 1 a b t.plain.left t.plain.right c e k in
        record {
          raises = record { under = t.plain.left; caps = t.plain.caps; var = g.var; full = t.plain.full_a; fits = le_trans g.less t.plain.fits };
          room = omega (arith, t.room, t.plain.full_a, g.less, whole-small_a, whole-some);
        }

-- the block was kept at the front of the work
module _ {n limits : List ℕ} {v mo mw : ℕ} (x : List Float) (t : LineWhole n v limits (length x) mo mw)
    {w w' : List Float} (l : length w ≡ mw) (h : Kept 0 (0 + length x) (take (length x) x) w w') where
  pub whole_room : LineRoom w' 0 (length x) n v (length x) limits 1 mo
  whole_room =
      record {
        lies = record { under = t.raises.under; ends = t.raises.full ∙ sym (zero-add (count n)); below = le_refl _ };
        caps = t.raises.caps;
        var = t.raises.var;
        fits = t.raises.fits;
        some = le_refl _;
        low = le_refl _;
        room = omega (arith, t.room, l, h.below.len);
      }

  pub whole-line : (f : Block → Block) {s : ℕ} {w'' out : List Float} {r : List ℕ}
      → Made (f (block n (part 0 (length x) w'))) s w' w'' out r → Stands (f (block n x)) out r
  whole-line f m =
      let e : part 0 (length x) w' ≡ x = ap (λ (k : ℕ). part 0 k w') (sym (zero-add (length x))) ∙ (h.holds ∙ take-length x) in
      rw e at m.stands

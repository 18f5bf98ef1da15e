-- The product of two operands: zero before the cut, the cut, the product, and what is past it; and what the entry
-- shows.
use Rattle.std.specs.Prelude.{ℕ, ◌+◌, ◌-◌, ◌*◌, ◌≤◌, ◌<◌, min, List, [], ◌++◌, Bool, true, false, ◌||◌, ◌≡◌, refl, length, get_or, take, drop, Float}
use Rattle.std.proofs.Common.{append-nil, sym, ap, ◌∙◌, arith, le_trans, le_refl, drop-drop}
use Rattle.std.proofs.Math.Seq.{drop-length}
use Rattle.std.specs.Float.{nan}
use borrow.Rule.Slice.PartMut.{put_mid}
use Rattle.lists.specs.Four.{at, four, at-four, four_same}
use Rattle.lists.specs.Table.{table, table_same, table-all, length-table}
use Rattle.lists.specs.Part.{part}
use Rattle.model.specs.declared.Header.{Header}
use Rattle.model.specs.declared.Family.TheVariants.{Product}
use Rattle.model.specs.Header.{count, stored, with_lengths}
use Rattle.model.specs.Word.{header_of}
use Rattle.model.specs.Places.{index}
use Rattle.model.specs.Limits.{cut_to, sum_shape}
use Rattle.model.specs.Announced.{announced, paired}
use Rattle.model.specs.Refusals.{zero_f, zeros, padded}
use Rattle.model.specs.Poly.{Block, block, held, read_at, cut}
use Rattle.model.specs.Product.{is_zero, constant_block, product_of, multiplied, product_poly}
use Rattle.shape_words.specs.Rules.{Ruled, ruled-at}
use Rattle.shape_words.specs.Lengths.{Lengths, lengths_of_lem, lengths-pos, count-pos, count_most}
use Rattle.shape_words.specs.Places.{place-index}
use Rattle.shape.specs.Cut.{cut_at}
use Rattle.gates.specs.Gate.{PairReady}
use Rattle.blocks.specs.Rows.{Inner, inner_of}
use Rattle.blocks.specs.Same.{same_lengths, same-is, same_count, cut_all}
use Rattle.blocks.specs.Two.{Two, Holds, cut_places, cut-is}
use Rattle.laws_keeps.specs.Sits.{Sits}
use Rattle.laws_keeps.proofs.Running.{multiplied-fits}
use Rattle.laws_keeps.proofs.ProductKeeps.{product-keeps}
use Rattle.product.specs.Room.{Under, Room, Times, Whole, Put, Stands, Made}
use Rattle.product.specs.Ways.{under-lengths, count_less, shape-under, shape-left, shape-right}

-- cutting changes nothing where all lies under the limits
pub cut-none : {l : List ℕ} {b : Block} → Sits l b → cut l b ≡ b
unfolding cut cut_to
cut-none {l} {b} s =
    let n : List ℕ = b.lengths in
    let e : four (λ k. min (at l k) (at n k)) ≡ n = four_same (λ k. min (at l k) (at n k)) (at n) (λ k h. omega (arith, s.hi k h)) ∙ sym s.ns in
    let p : table (count n) (λ k. read_at b (index n k)) ≡ b.places =
    table_same (λ k. read_at b (index n k)) (λ k. get_or b.places k nan) (count n) (λ k h. ap (λ (q : ℕ). get_or b.places q nan) (place-index n k))
    ∙ (ap (λ (m : ℕ). table m (λ k. get_or b.places k nan)) (sym s.full) ∙ table-all nan b.places) in
    rw e (ap (block n) p)

-- ---- zero

pub zero_is : (a b : Block) {x y : Bool} → x ≡ is_zero a → y ≡ is_zero b → (x || y) ≡ (is_zero a || is_zero b)
zero_is a b ex ey = rw (ex, ey)

module _ (limits : List ℕ) (a b : Block) where
  pub zero_put_lem : {d out : List Float} {r : List ℕ} → (is_zero a || is_zero b) ≡ true → Put (constant_block zero_f) d out r → Put
      (multiplied limits a b) d out r
  unfolding multiplied
  zero_put_lem t p = rw t p

  pub other-stands : {out : List Float} {r : List ℕ} → (is_zero a || is_zero b) ≡ false
      → Stands (product_of 1 limits (cut limits a) (cut limits b)) out r → Stands (multiplied limits a b) out r
  unfolding multiplied
  other-stands t p = rw t p

  -- blocks that are cut already
  pub other-made : {s : ℕ} {w w' out : List Float} {r : List ℕ} → Sits limits a → Sits limits b
      → (is_zero a || is_zero b) ≡ false → Made (product_of 1 limits a b) s w w' out r
      → Made (multiplied limits a b) s w w' out r
  unfolding multiplied
  other-made p q t m = rw (t, cut-none p, cut-none q) m

-- a block stands at the front of n places, and the rest was cleared
pub stands-padded : (n : ℕ) (p : Block) {out : List Float} {r : List ℕ} {z : ℕ} {zs : List Float} {k : ℕ}
    → Stands p out r → length out ≡ n → z ≤ n → z ≡ length p.places
    → zs ≡ zeros k → k ≡ n - z → put_mid z (n - z) out zs ≡ padded n p.places
stands-padded n p {out} {z = z} {zs} h lo small f e ek =
    let m : z + (n - z) ≡ length out = omega arith in
    let d : drop (n - z) (drop z out) ≡ [] = drop-drop (n - z) z out ∙ (ap (λ (j : ℕ). drop j out) m ∙ drop-length out) in
    let x : take z out ≡ p.places = ap (λ (j : ℕ). take j out) f ∙ h.front in
    let y : zs ≡ zeros (n - length p.places) = e ∙ ap zeros (ek ∙ ap (λ (j : ℕ). n - j) f) in
    rw (d, x, y) (ap (λ (l : List Float). p.places ++ l) (append-nil (zeros (n - length p.places))))

-- ---- two operands

cut-under : {l n : List ℕ} → ((k : ℕ) → k < 4 → 1 ≤ at l k) → Lengths n → Under l (cut_to l n)
unfolding cut_to
cut-under {l} {n} p g = record {
  ns = refl;
  lo = λ k h. rw (at-four (λ k. min (at l k) (at n k)) k h) (omega (arith, p k h, lengths-pos g k h));
  hi = λ k h. rw (at-four (λ k. min (at l k) (at n k)) k h) (omega arith);
}

cut-inner : (l n : List ℕ) → Inner n (cut_to l n)
cut-inner l n = inner_of (λ k h. rw (cut_at l n k h) (omega arith))

module _ {la lb limits : List ℕ} {n ma mb mo mw : ℕ} (t : Times la lb limits n ma mb mo mw) where
  under-a : Under limits (cut_to limits la)
  under-a = cut-under t.positive t.left

  under-b : Under limits (cut_to limits lb)
  under-b = cut-under t.positive t.right

  small_a : count (cut_to limits la) ≤ n
  small_a = omega (arith, t.all, count_less (sum_shape limits (cut_to limits la) (cut_to limits lb)) (cut_to limits la) (shape-left under-a under-b))

  small_b : count (cut_to limits lb) ≤ n
  small_b = omega (arith, t.all, count_less (sum_shape limits (cut_to limits la) (cut_to limits lb)) (cut_to limits lb) (shape-right under-a under-b))

  pub times-some : 0 < n
  times-some = omega (arith, t.all, count-pos (under-lengths (shape-under under-a under-b) t.caps))

  pub times_any : (0 < ma) × (0 < mb)
  times_any = (omega (arith, t.full_a, count-pos t.left), omega (arith, t.full_b, count-pos t.right))

  pub times-small : n ≤ 16777216
  times-small = omega (arith, t.all, count_most (under-lengths (shape-under under-a under-b) t.caps))

  module _ {ca cb : List ℕ} (ea : ca ≡ cut_to limits la) (eb : cb ≡ cut_to limits lb) where
    pub times-lens : Lengths ca × Lengths cb
    times-lens = (rw ea (under-lengths under-a t.caps), rw eb (under-lengths under-b t.caps))

    pub times-two : Two la ca lb cb n ma mb mw
    times-two = record {
      left = t.left;
      right = t.right;
      cut_a = times-lens.0;
      cut_b = times-lens.1;
      in_a = rw ea (cut-inner limits la);
      in_b = rw eb (cut-inner limits lb);
      full_a = omega (arith, t.full_a);
      full_b = omega (arith, t.full_b);
      small_a = rw ea small_a;
      small_b = rw eb (omega (arith, small_b, t.work));
    }

    module _ {w : List Float} (ew : length w ≡ mw) {na nb : ℕ} (ka : na ≡ count ca) (kb : nb ≡ count cb) where
      pub times-room : Room w 0 na ca n (n + nb) cb (2 * n) limits 1 mo
      times-room =
          let x : na ≤ n = omega (arith, ka, ap count ea, small_a) in
          let y : nb ≤ n = omega (arith, kb, ap count eb, small_b) in
          let z : count (sum_shape limits ca cb) ≡ n = sym (t.all ∙ (rw (ea, eb))) in
          record {
            left = record { under = rw ea under-a; ends = omega (arith, ka); below = omega arith };
            right = record { under = rw eb under-b; ends = omega (arith, kb); below = omega arith };
            caps = t.caps;
            within = omega (arith, ew, t.work);
            fits = omega (arith, z, t.out);
            low = le_refl _;
            room = λ h. omega (arith, z, ew, t.work, times-some);
          }

      pub times-stands : (a b : List Float) {s : ℕ} {w' out : List Float} {r : List ℕ}
          → (is_zero (block la a) || is_zero (block lb b)) ≡ false → Holds n (cut_places la ca a) (cut_places lb cb b) w
          → Made (product_of 1 limits (block ca (part 0 na w)) (block cb (part n (n + nb) w))) s w w' out r
          → Stands (multiplied limits (block la a) (block lb b)) out r
      times-stands a b z h m =
          let x0 : na - 0 ≡ length (cut_places la ca a) = omega (arith, ka, length-table (λ k. read_at (block la a) (index ca k)) (count ca)) in
          let y0 : n + nb - n ≡ length (cut_places lb cb b) = omega (arith, kb, length-table (λ k. read_at (block lb b) (index cb k)) (count cb)) in
          let x : part 0 na w ≡ cut_places la ca a = ap (λ (k : ℕ). take k w) x0 ∙ h.front in
          let y : part n (n + nb) w ≡ cut_places lb cb b = ap (λ (k : ℕ). take k (drop n w)) y0 ∙ h.back in
          let p : block ca (part 0 na w) ≡ cut limits (block la a) = ap (block ca) x ∙ cut-is limits la a ea in
          let q : block cb (part n (n + nb) w) ≡ cut limits (block lb b) = ap (block cb) y ∙ cut-is limits lb b eb in
          other-stands limits (block la a) (block lb b) z (rw (p, q) at m.stands)

    -- where nothing is cut
    module _ (sa : same_lengths la ca ≡ true) (sb : same_lengths lb cb ≡ true) where
      pub times_whole_lem : Whole ca cb limits ma mb mo mw
      times_whole_lem =
          let z : count (sum_shape limits ca cb) ≡ n = sym (t.all ∙ (rw (ea, eb))) in
          record {
            plain = record {
              left = rw ea under-a;
              right = rw eb under-b;
              caps = t.caps;
              full_a = t.full_a ∙ same_count (same-is la ca sa);
              full_b = t.full_b ∙ same_count (same-is lb cb sb);
              fits = omega (arith, z, t.out);
            };
            room = omega (arith, z, t.work);
          }

      pub whole-stands : (a b : List Float) {out : List Float} {r : List ℕ} → length a ≡ ma → length b ≡ mb
          → (is_zero (block la a) || is_zero (block lb b)) ≡ false
          → Stands (product_of 1 limits (block ca a) (block cb b)) out r → Stands (multiplied limits (block la a) (block lb b)) out r
      whole-stands a b ka kb z h =
          let p : block ca a ≡ cut limits (block la a) = ap (block ca) (sym (cut_all la ca a (same-is la ca sa) (ka ∙ t.full_a))) ∙ cut-is limits la a ea in
          let q : block cb b ≡ cut limits (block lb b) = ap (block cb) (sym (cut_all lb cb b (same-is lb cb sb) (kb ∙ t.full_b))) ∙ cut-is limits lb b eb in
          other-stands limits (block la a) (block lb b) z (rw (p, q) at h)

  -- the true lengths lie under the announced ones
  pub times-sits : (a b : List Float) → Sits (sum_shape limits (cut_to limits la) (cut_to limits lb)) (multiplied limits (block la a) (block lb b))
  unfolding cut
  times-sits a b = multiplied-fits limits (block la a) (block lb b) t.positive (lengths-pos t.left) (lengths-pos t.right)

  module _ (a b : List Float) {out : List Float} {r : List ℕ} (h : Stands (multiplied limits (block la a) (block lb b)) out r) where
    pub into-lens : Lengths r
    into-lens =
        let s = times-sits a b in
        let u : Under (sum_shape limits (cut_to limits la) (cut_to limits lb)) r = rw h.lengths (record { ns = s.ns; lo = s.lo; hi = s.hi }) in
        let v = shape-under under-a under-b in
        under-lengths u (record { most = λ k g. le_trans (v.hi k g) (t.caps.most k g) })

    pub into-small : {z : ℕ} → z ≡ count r → z ≤ n
    into-small e =
        let s = times-sits a b in
        omega (
          arith,
          e,
          ap count h.lengths,
          t.all,
          count_less (sum_shape limits (cut_to limits la) (cut_to limits lb)) (multiplied limits (block la a) (block lb b)).lengths s.hi,
        )

    -- the rest was cleared
    pub into-padded : {z : ℕ} {zs : List Float} {k : ℕ} → length out ≡ n → z ≡ count r → zs ≡ zeros k → k ≡ n - z
        → put_mid z (n - z) out zs ≡ padded n (multiplied limits (block la a) (block lb b)).places
    into-padded lo ez =
        stands-padded n (multiplied limits (block la a) (block lb b)) h lo (into-small ez)
        (ez ∙ (ap count h.lengths ∙ sym (times-sits a b).full))

-- ---- the entry

-- the announced lengths
product_lengths_lem : (a b : Header) → sum_shape (announced Product a b).limits
    (cut_to (announced Product a b).limits a.lengths) (cut_to (announced Product a b).limits b.lengths)
    ≡ (announced Product a b).lengths
unfolding announced paired sum_shape cut_to
product_lengths_lem a b = refl

module _ {w u ma mb mo ms : ℕ} (g : PairReady Product w ma u mb mo ms) where
  -- what the kernel is lent
  pub entry-times : {x y h : Header} {na nb n : ℕ} → x ≡ header_of w → y ≡ header_of u → h ≡ announced Product x y → na ≡ stored x → nb ≡
      stored y → n ≡ stored h
      → {ka kb ko kw : ℕ} → ka ≡ na → kb ≡ nb → ko ≡ n → kw ≡ 8 * n → Times x.lengths y.lengths h.limits n ka kb ko kw
  entry-times {x} {y} {h} ex ey eh ea eb en pa pb po pw =
      let gx : Ruled x = rw ex g.good_a.regular.rules in
      let gy : Ruled y = rw ey g.good_b.regular.rules in
      let gh : Ruled h = rw (eh, ex, ey) g.announced.regular.rules in
      record {
        left = lengths_of_lem gx;
        right = lengths_of_lem gy;
        positive = λ k l. let p = (ruled-at gh k l).pos in let q = (ruled-at gh k l).fit in omega arith;
        caps = record { most = λ k l. (ruled-at gh k l).most };
        all = en ∙ ap count (rw eh (sym (product_lengths_lem x y)));
        full_a = pa ∙ ea;
        full_b = pb ∙ eb;
        out = po;
        work = pw;
      }

  -- the true header keeps the rules
  pub entry_ruled : (a b : List Float) → Ruled (product_poly (held w a) (held u b)).head
  entry_ruled a b = (product-keeps (held w a) (held u b) g.good_a.regular g.good_b.regular).regular.rules

-- the value
module _ (w : ℕ) (a : List Float) (u : ℕ) (b : List Float) {x y h : Header} (ex : x ≡ header_of w) (ey : y ≡ header_of u)
    (eh : h ≡ announced Product x y) {na nb : ℕ} (ea : na ≡ stored x) (eb : nb ≡ stored y) where
  pub entry-head : {r : List ℕ} → r ≡ (multiplied h.limits (block x.lengths (take na a)) (block y.lengths (take nb b))).lengths
      → with_lengths h r ≡ (product_poly (held w a) (held u b)).head
  unfolding product_poly
  entry-head e = rw (e, eh, ea, eb, ex, ey)

  pub entry-out : (n : ℕ) {o : List Float} → o ≡ padded n (multiplied h.limits (block x.lengths (take na a)) (block y.lengths (take nb b))).places
      → o ≡ (product_poly (held w a) (held u b)).coeffs ++ zeros (n - length (product_poly (held w a) (held u b)).coeffs)
  unfolding product_poly
  entry-out n e = e ∙ (rw (eh, ea, eb, ex, ey))

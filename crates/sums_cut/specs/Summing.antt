-- What the sum of two operands asks, and what its entry shows.
use Rattle.std.specs.Prelude.{ℕ, ◌*◌, ◌≤◌, ◌<◌, Bool, ◌≡◌, refl, drop, Float}
use mathlib.Core.List.{List}
use Rattle.std.proofs.Common.{sym, ◌∙◌, arith}
use Rattle.std.proofs.Math.Path.{ap}
use Rattle.std.proofs.Math.ListN.{take}
use Rattle.lists.specs.Four.{at}
use Rattle.lists.specs.Table.{length-table}
use Rattle.model.specs.declared.Header.{Header}
use Rattle.model.specs.declared.Family.TheVariants.{Sum}
use Rattle.model.specs.Header.{count, stored, with_lengths}
use Rattle.model.specs.Word.{header_of}
use Rattle.model.specs.Limits.{cut_to, max_shape}
use Rattle.model.specs.Announced.{announced, paired}
use Rattle.model.specs.Poly.{block, held, cut}
use Rattle.model.specs.Add.{joined, joined_block, combined}
use Rattle.gates.specs.Gate.{PairReady}
use Rattle.shape_words.specs.Rules.{Ruled, ruled-at}
use Rattle.shape_words.specs.Lengths.{Lengths, lengths_of_lem}
use Rattle.shape.specs.Cut.{cut_lengths_lem}
use Rattle.blocks.specs.Rows.{Inner, count-inner}
use Rattle.blocks.specs.Two.{Two, Holds, cut_places, cut-is}
use Rattle.blocks.specs.Combine.{Combining}

-- la and lb the operands' lengths, l the limits, r the result's lengths, n its count; the rest the lengths of the
-- buffers
pub record Summing (la lb l r : List ℕ) (n ma mb mo mw : ℕ) : Type 0 where
  pub left : Lengths la
  pub right : Lengths lb
  pub positive : (k : ℕ) → k < 4 → 1 ≤ at l k
  pub result : Lengths r
  pub shape : r ≡ max_shape (cut_to l la) (cut_to l lb)
  pub all : n ≡ count r
  pub full_a : ma ≡ count la
  pub full_b : mb ≡ count lb
  pub out : mo ≡ n
  pub work : 8 * n ≤ mw

cut-inner : (l n : List ℕ) → Inner n (cut_to l n)
unfolding cut_to
cut-inner l n = record { c0 = omega arith; c1 = omega arith; c2 = omega arith; c3 = omega arith }

shape-left : (n m : List ℕ) → Inner (max_shape n m) n
unfolding max_shape
shape-left n m = record { c0 = omega arith; c1 = omega arith; c2 = omega arith; c3 = omega arith }

shape-right : (n m : List ℕ) → Inner (max_shape n m) m
unfolding max_shape
shape-right n m = record { c0 = omega arith; c1 = omega arith; c2 = omega arith; c3 = omega arith }

module _ {la lb l r : List ℕ} {n ma mb mo mw : ℕ} (s : Summing la lb l r n ma mb mo mw) {ca cb : List ℕ} (ea : ca ≡ cut_to l la) (eb : cb ≡ cut_to l lb) where
  shape_is : r ≡ max_shape ca cb
  shape_is = s.shape ∙ (rw (ea, eb))

  pub small_a : count ca ≤ n
  small_a = omega (arith, s.all, ap count shape_is, count-inner (shape-left ca cb))

  pub small_b : count cb ≤ n
  small_b = omega (arith, s.all, ap count shape_is, count-inner (shape-right ca cb))

  lens-a : Lengths ca
  lens-a = rw ea (cut_lengths_lem l s.left s.positive)

  lens-b : Lengths cb
  lens-b = rw eb (cut_lengths_lem l s.right s.positive)

  pub summing-two : Two la ca lb cb n ma mb mw
  summing-two =
      let w = s.work in
      let p = small_b in
      record {
        left = s.left;
        right = s.right;
        cut_a = lens-a;
        cut_b = lens-b;
        in_a = rw ea (cut-inner l la);
        in_b = rw eb (cut-inner l lb);
        full_a = omega (arith, s.full_a);
        full_b = omega (arith, s.full_b);
        small_a = small_a;
        small_b = omega arith;
      }

  pub summing-lens : Lengths ca × Lengths cb
  summing-lens = (lens-a, lens-b)

  pub summing-combine : {ka kb ko : ℕ} → ka ≡ count ca → kb ≡ count cb → ko ≡ mo → Combining ca cb r ka kb ko
  summing-combine x y z =
      record { left = lens-a; right = lens-b; result = s.result; shape = shape_is; full_a = x; full_b = y; full = z ∙ (s.out ∙ s.all) }

  -- what was joined is what the definitions say
  pub summing-is : (minus : Bool) (a b w : List Float) {xs ys o : List Float} → Holds n (cut_places la ca a) (cut_places lb cb b) w
      → xs ≡ take (count ca) w → ys ≡ take (count cb) (drop n w) → o ≡ joined minus r (block ca xs) (block cb ys)
      → o ≡ (joined_block minus (cut l (block la a)) (cut l (block lb b))).places
  unfolding joined_block
  summing-is minus a b w {xs} {ys} {o} h ex ey e =
      let x : xs ≡ cut_places la ca a = ex ∙ (ap (λ (k : ℕ). take k w) (sym (length-table _ (count ca))) ∙ h.front) in
      let y : ys ≡ cut_places lb cb b = ey ∙ (ap (λ (k : ℕ). take k (drop n w)) (sym (length-table _ (count cb))) ∙ h.back) in
      let p : block ca xs ≡ cut l (block la a) = ap (block ca) x ∙ cut-is l la a ea in
      let q : block cb ys ≡ cut l (block lb b) = ap (block cb) y ∙ cut-is l lb b eb in
      let t : r ≡ max_shape (cut l (block la a)).lengths (cut l (block lb b)).lengths = shape_is ∙ (rw (← p, ← q)) in
      e ∙ (rw (p, q) (ap (λ (z : List ℕ). joined minus z (cut l (block la a)) (cut l (block lb b))) t))

-- The entry.

-- the announced lengths are those of the joined block
sum_lengths_lem : (a b : Header) → max_shape (cut_to (announced Sum a b).limits a.lengths)
    (cut_to (announced Sum a b).limits b.lengths) ≡ (announced Sum a b).lengths
unfolding announced paired max_shape cut_to
sum_lengths_lem a b = refl

module _ {w u ma mb mo ms : ℕ} (g : PairReady Sum w ma u mb mo ms) where
  -- what the kernel is lent
  pub summing : {x y h : Header} {na nb n : ℕ} → x ≡ header_of w → y ≡ header_of u → h ≡ announced Sum x y → na ≡ stored x → nb ≡ stored y → n ≡ stored h
      → {ka kb ko kw : ℕ} → ka ≡ na → kb ≡ nb → ko ≡ n → kw ≡ 8 * n → Summing x.lengths y.lengths h.limits h.lengths n ka kb ko kw
  unfolding announced paired
  summing {x} {y} {h} ex ey eh ea eb en pa pb po pw =
      let gx : Ruled x = rw ex g.good_a.regular.rules in
      let gy : Ruled y = rw ey g.good_b.regular.rules in
      let gh : Ruled h = rw (eh, ex, ey) g.announced.regular.rules in
      record {
        left = lengths_of_lem gx;
        right = lengths_of_lem gy;
        positive = λ k l. let p = (ruled-at gh k l).pos in let q = (ruled-at gh k l).fit in omega arith;
        result = lengths_of_lem gh;
        shape = rw eh (sym (sum_lengths_lem x y));
        all = en;
        full_a = pa ∙ ea;
        full_b = pb ∙ eb;
        out = po;
        work = omega arith;
      }

-- the value
module _ (minus : Bool) (w : ℕ) (a : List Float) (u : ℕ) (b : List Float) {x y h : Header} (ex : x ≡ header_of w)
    (ey : y ≡ header_of u) (eh : h ≡ announced Sum x y) where
  pub sum_head : h ≡ (combined minus (held w a) (held u b)).head
  unfolding combined joined_block cut
  sum_head =
      let k : h ≡ announced Sum (header_of w) (header_of u) = eh ∙ (rw (ex, ey)) in
      k ∙ ap (λ (n : List ℕ). with_lengths (announced Sum (header_of w) (header_of u)) n) (sym (sum_lengths_lem (header_of w) (header_of u)))

  pub sum-coeffs : {na nb : ℕ} {o : List Float} → na ≡ stored x → nb ≡ stored y
      → o ≡ (joined_block minus (cut h.limits (block x.lengths (take na a))) (cut h.limits (block y.lengths (take nb b)))).places
      → o ≡ (combined minus (held w a) (held u b)).coeffs
  unfolding combined
  sum-coeffs ea eb e = e ∙ (rw (eh, ea, eb, ex, ey))

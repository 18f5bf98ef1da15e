-- Kinds 2 to 5: two operands, which are loaded, cut to the limits, into the work.
use Rattle.std.specs.Prelude.{ℕ, ◌+◌, ◌-◌, ◌*◌, ◌≤◌, ◌<◌, Bool, true, false, ◌||◌, cond, ◌≡◌, refl, eqb, leb, length, take, drop, Float}
use mathlib.Core.List.{List, ◌++◌}
use Rattle.std.proofs.Common.{sym, ◌∙◌, le_refl}
use Rattle.std.proofs.Math.Path.{ap}
use native.Mathlib.Omega.{arith}
use Rattle.std.proofs.Math.Seq.{take-length}
use borrow.Author.Tests.{eq-eqb, ne_eqb, eqb-true, eqb-false, leb-true, leb-false, le-leb, lt-leb}
use Rattle.lists.specs.Test.{decide}
use Rattle.lists.specs.Table.{length-table}
use Rattle.lists.specs.Part.{part, Kept}
use Rattle.model.specs.declared.Header.{Header}
use Rattle.model.specs.declared.Family.{Family}
use Rattle.model.specs.declared.Family.TheVariants.{Sum, Product, Quotient}
use Rattle.model.specs.Header.{count, stored, with_lengths}
use Rattle.model.specs.Word.{header_of, word_of}
use Rattle.model.specs.Places.{index}
use Rattle.model.specs.Limits.{cut_to}
use Rattle.model.specs.Announced.{announced}
use Rattle.model.specs.Refusals.{zero_f, zeros, padded}
use Rattle.model.specs.Poly.{Poly, poly, Block, block, block_of, poly_of, read_at, cut}
use Rattle.model.specs.Add.{joined, joined_block, combined}
use Rattle.model.specs.Product.{is_zero, constant_block, product_of, multiplied, product_poly}
use Rattle.model.specs.Quotient.{quotient_of, divided, quotient_poly}
use Rattle.shape_words.specs.Rules.{Regular, Good}
use Rattle.shape_words.specs.Words.{unpack-pack, packed-good}
use Rattle.shape_words.specs.Lengths.{Lengths, lengths_of_lem}
use Rattle.shape.specs.Keeps.{Keeps}
use Rattle.shape.specs.Under.{count_under}
use Rattle.shape.specs.Announced.{announced-regular}
use Rattle.gates.specs.Gate.{PairReady}
use Rattle.blocks.specs.Two.{Two, Holds, cut_places, cut-is}
use Rattle.blocks.specs.Combine.{Combining}
use Rattle.sums_cut.specs.Summing.{Summing, summing, summing-two, summing-combine}
use Rattle.product.specs.Room.{Room, Times, Put, Stands, Made}
use Rattle.product.specs.Times.{entry-times, times-two, times-room, times-some}
use Rattle.product.specs.Ways.{put-stands}
use Rattle.quotient.specs.Room.{Recurring, Divides, loaded_quotient}
use Rattle.quotient.specs.Entry.{entry-divides}
use Rattle.quotient.specs.Into.{into-two, into-recur, same_count, loaded-is, loaded-lengths}
use Rattle.laws_keeps.specs.Keeps.{combined-keeps}
use Rattle.laws_keeps.proofs.ProductKeeps.{product-keeps}
use Rattle.laws_keeps.specs.QuotientKeeps.{quotient-keeps}
use Rattle.shape_operands.specs.Lent.{kept_as, kept-over}

abbrev pub pair_family : ℕ → Family
pair_family kind = cond (leb kind 3) Sum (cond (eqb kind 4) Product Quotient)

-- of blocks that are cut already; `zero` whether one was the constant zero before the cut
unfoldable pub pair_of : ℕ → Bool → List ℕ → Block → Block → Block
pair_of kind zero l a b =
    cond (leb kind 3) (joined_block (eqb kind 3) a b)
    (cond (eqb kind 4) (cond zero (constant_block zero_f) (product_of 1 l a b)) (quotient_of l a b))

unfoldable pub pair_poly : ℕ → Poly → Poly → Poly
pair_poly kind a b =
    let h = announced (pair_family kind) a.head b.head in
    poly_of h (pair_of kind (is_zero (block_of a) || is_zero (block_of b)) h.limits (cut h.limits (block_of a)) (cut h.limits (block_of b)))

-- the operands, with the lengths la and lb, as they lie in the work
abbrev pub left_in : List ℕ → List ℕ → List Float → Block
left_in l la w = block (cut_to l la) (take (count (cut_to l la)) w)

abbrev pub right_in : List ℕ → List ℕ → ℕ → List Float → Block
right_in l lb n w = block (cut_to l lb) (part n (n + count (cut_to l lb)) w)

-- ---- each kind's value is its operation's

module _ (kind : ℕ) (a b : Poly) where
  pub pair-sum : kind ≤ 3 → pair_poly kind a b ≡ combined (eqb kind 3) a b
  unfolding pair_poly pair_of combined
  pair-sum h = rw (le-leb _ _ h)

  module _ (h : 3 < kind) where
    pub pair-product : kind ≡ 4 → pair_poly kind a b ≡ product_poly a b
    unfolding pair_poly pair_of product_poly multiplied
    pair-product e = rw (lt-leb _ _ h, eq-eqb _ _ e)

    pub pair-quotient : (kind ≡ 4 → ⊥) → pair_poly kind a b ≡ quotient_poly a b
    unfolding pair_poly pair_of quotient_poly divided
    pair-quotient e = rw (lt-leb _ _ h, ne_eqb _ _ e)

sum-family : {kind : ℕ} → kind ≤ 3 → pair_family kind ≡ Sum
sum-family h = rw (le-leb _ _ h)

product-family : {kind : ℕ} → 3 < kind → kind ≡ 4 → pair_family kind ≡ Product
product-family h e = rw (lt-leb _ _ h, eq-eqb _ _ e)

quotient-family : {kind : ℕ} → 3 < kind → (kind ≡ 4 → ⊥) → pair_family kind ≡ Quotient
quotient-family h e = rw (lt-leb _ _ h, ne_eqb _ _ e)

stands-full : {p : Block} {o : List Float} {r : List ℕ} → r ≡ p.lengths → o ≡ p.places → Stands p o r
stands-full {p} e f = record { lengths = e; front = ap (take (length p.places)) f ∙ take-length p.places }

-- which kind it is
by_kind : {P : Type 0} (kind : ℕ) → (kind ≤ 3 → P) → (3 < kind → kind ≡ 4 → P) → (3 < kind → (kind ≡ 4 → ⊥) → P) → P
by_kind kind s p q =
    decide (leb kind 3) (λ t. s (leb-true _ _ t))
    (λ t. decide (eqb kind 4) (λ u. p (leb-false _ _ t) (eqb-true _ _ u)) (λ u. q (leb-false _ _ t) (eqb-false _ _ u)))

pub pair_keeps : (kind : ℕ) (a b : Poly) → Regular a.head → Regular b.head → Keeps (announced (pair_family kind) a.head b.head) (pair_poly kind a b)
pair_keeps kind a b g h =
    by_kind kind
    (λ s. rw (sum-family s, pair-sum kind a b s) (combined-keeps a b g h (eqb kind 3)))
    (λ s e. rw (product-family s e, pair-product kind a b s e) (product-keeps a b g h))
    (λ s e. rw (quotient-family s e, pair-quotient kind a b s e) (quotient-keeps a b g h))

-- ---- what is lent: x and y the operands' headers, h the announced one, n its count

pub record Pairing (kind : ℕ) (x y h : Header) (n : ℕ) : Type 0 where
  pub left : Good x
  pub right : Good y
  pub is : h ≡ announced (pair_family kind) x y
  pub most : stored h ≤ 4096
  pub all : n ≡ stored h

module _ {kind : ℕ} {x y h : Header} {n : ℕ} (g : Pairing kind x y h n) where
  unpack-x : header_of (word_of x) ≡ x
  unpack-x = unpack-pack x g.left.regular

  unpack-y : header_of (word_of y) ≡ y
  unpack-y = unpack-pack y g.right.regular

  -- as an entry's gate would find it
  ready : {f : Family} → pair_family kind ≡ f → PairReady f (word_of x) (stored x) (word_of y) (stored y) n (8 * n)
  ready {f} e =
      let is : h ≡ announced f x y = g.is ∙ ap (λ (k : Family). announced k x y) e in
      record {
        word_a = packed-good x g.left;
        word_b = packed-good y g.right;
        good_a = rw unpack-x g.left;
        good_b = rw unpack-y g.right;
        full_a = rw unpack-x (le_refl _);
        full_b = rw unpack-y (le_refl _);
        announced = rw (unpack-x, unpack-y) (record { regular = announced-regular f g.left.regular g.right.regular; most = rw (← is) g.most });
        room = rw (unpack-x, unpack-y, ← is) (omega (arith, g.all));
        spare = rw (unpack-x, unpack-y, ← is) (omega (arith, g.all));
      }

  announced_as : {f : Family} → pair_family kind ≡ f → h ≡ announced f x y
  announced_as e = g.is ∙ ap (λ (k : Family). announced k x y) e

  sums : kind ≤ 3 → Summing x.lengths y.lengths h.limits h.lengths n (stored x) (stored y) n (8 * n)
  sums s = let e = sum-family s in summing (ready e) (sym unpack-x) (sym unpack-y) (announced_as e) refl refl g.all refl refl refl refl

  multiplies : 3 < kind → kind ≡ 4 → Times x.lengths y.lengths h.limits n (stored x) (stored y) n (8 * n)
  multiplies s t = let e = product-family s t in entry-times (ready e) (sym unpack-x) (sym unpack-y) (announced_as e) refl refl g.all refl refl refl refl

  divides : 3 < kind → (kind ≡ 4 → ⊥) → Divides x.lengths y.lengths h.limits h.lengths (stored x) (stored y) n (8 * n)
  divides s t = let e = quotient-family s t in entry-divides (ready e) (sym unpack-x) (sym unpack-y) (announced_as e) refl refl g.all refl refl refl refl

  -- both fit
  pub pair-two : Two x.lengths (cut_to h.limits x.lengths) y.lengths (cut_to h.limits y.lengths) n (stored x) (stored y) (8 * n)
  pair-two = by_kind kind (λ s. summing-two (sums s) refl refl) (λ s t. times-two (multiplies s t) refl refl) (λ s t. into-two (divides s t) refl refl)

  module _ {ca cb : List ℕ} (ea : ca ≡ cut_to h.limits x.lengths) (eb : cb ≡ cut_to h.limits y.lengths)
      {na nb : ℕ} (ka : na ≡ count ca) (kb : nb ≡ count cb) (w : List Float) where
    left_is : block ca (take na w) ≡ left_in h.limits x.lengths w
    left_is = rw (ka, ea)

    right_is : block cb (part n (n + nb) w) ≡ right_in h.limits y.lengths n w
    right_is = rw (kb, eb)

    module _ (zero : Bool) where
      -- the sum
      module _ (s : kind ≤ 3) where
        pub sum_combining : {ka' kb' ko : ℕ} → ka' ≡ na → kb' ≡ nb → ko ≡ n → Combining ca cb h.lengths ka' kb' ko
        sum_combining p q o = summing-combine (sums s) ea eb (p ∙ ka) (q ∙ kb) o

        sum-made : pair_of kind zero h.limits (left_in h.limits x.lengths w)
            (right_in h.limits y.lengths n w)
            ≡ joined_block (eqb kind 3) (block ca (take na w)) (block cb (part n (n + nb) w))
        unfolding pair_of
        sum-made = rw (le-leb _ _ s, left_is, right_is)

        pub sum-stands : {o : List Float} → o ≡ joined (eqb kind 3) h.lengths (block ca (part 0 na w)) (block cb (part n (n + nb) w))
            → Stands (pair_of kind zero h.limits (left_in h.limits x.lengths w) (right_in h.limits y.lengths n w)) o h.lengths
        unfolding joined_block
        sum-stands {o} e =
            let r = (summing-combine (sums s) ea eb ka kb refl).shape in
            let d : na - 0 ≡ na = omega arith in
            let f : o ≡ joined (eqb kind 3) h.lengths (block ca (take na w)) (block cb (part n (n + nb) w)) =
            e ∙ ap (λ (k : ℕ). joined (eqb kind 3) h.lengths (block ca (take k w))
            (block cb (part n (n + nb) w))) d in
            rw sum-made (stands-full r (f ∙ ap (λ (z : List ℕ). joined (eqb kind 3) z (block ca (take na w)) (block cb (part n (n + nb) w))) r))

      -- the quotient
      module _ (s : 3 < kind) (t : kind ≡ 4 → ⊥) where
        pub quotient_recurs : {mw mo : ℕ} → mw ≡ 8 * n → mo ≡ n → Recurring ca cb h.lengths na nb mw mo × (nb ≡ 1 → mo ≡ na)
        quotient_recurs pw po = rw (pw, po) (into-recur (divides s t) ea eb ka kb, same_count (divides s t) ea eb ka kb)

        quotient-made : pair_of kind zero h.limits (left_in h.limits x.lengths w)
            (right_in h.limits y.lengths n w)
            ≡ quotient_of h.limits (block ca (take na w)) (block cb (part n (n + nb) w))
        unfolding pair_of
        quotient-made = rw (lt-leb _ _ s, ne_eqb _ _ t, left_is, right_is)

        pub quotient-stands : {m : ℕ} {o : List Float} → length w ≡ 8 * n → m ≡ n → o ≡ loaded_quotient ca na cb nb h.lengths m w
            → Stands (pair_of kind zero h.limits (left_in h.limits x.lengths w) (right_in h.limits y.lengths n w)) o h.lengths
        quotient-stands {m} {o} lw em e =
            rw quotient-made (stands-full (sym (loaded-lengths (divides s t) ea eb (take na w) (part n (n + nb) w)))
            (loaded-is (divides s t) ea eb ka kb w lw (e ∙ ap (λ (z : ℕ). loaded_quotient ca na cb nb h.lengths z w) em)))

      -- the product
      module _ (s : 3 < kind) (t : kind ≡ 4) where
        pub product-some : {mo : ℕ} → mo ≡ n → 0 < mo
        product-some e = rw e (times-some (multiplies s t))

        pub zero-stands : {d o : List Float} {r : List ℕ} → zero ≡ true → Put (constant_block zero_f) d o r
            → Stands (pair_of kind zero h.limits (left_in h.limits x.lengths w) (right_in h.limits y.lengths n w)) o r
        unfolding pair_of
        zero-stands z p = rw (lt-leb _ _ s, eq-eqb _ _ t, z) (put-stands p)

        pub product-room : {mo : ℕ} → length w ≡ 8 * n → mo ≡ n → Room w 0 na ca n (n + nb) cb (2 * n) h.limits 1 mo
        product-room lw e = rw e (times-room (multiplies s t) ea eb lw ka kb)

        pub product-stands : {w' o : List Float} {r : List ℕ} → zero ≡ false
            → Made (product_of 1 h.limits (block ca (part 0 na w)) (block cb (part n (n + nb) w))) (2 * n) w w' o r
            → Stands (pair_of kind zero h.limits (left_in h.limits x.lengths w) (right_in h.limits y.lengths n w)) o r
        unfolding pair_of
        product-stands z m =
            let e : na - 0 ≡ na = omega arith in
            let l : block ca (part 0 na w) ≡ block ca (take na w) = ap (λ (k : ℕ). block ca (take k w)) e in
            rw (lt-leb _ _ s, eq-eqb _ _ t, z, ← left_is, ← right_is) (rw l at m.stands)

  -- ---- the value of operands with the coefficients a and b, which w holds

  module _ (a b : List Float) {w : List Float}
      (held : Holds n (cut_places x.lengths (cut_to h.limits x.lengths) a)
      (cut_places y.lengths (cut_to h.limits y.lengths) b) w)
      {zero : Bool} (z : zero ≡ (is_zero (block x.lengths a) || is_zero (block y.lengths b))) where
    abbrev made : Block
    made = pair_of kind zero h.limits (left_in h.limits x.lengths w) (right_in h.limits y.lengths n w)

    abbrev value : Poly
    value = pair_poly kind (poly x a) (poly y b)

    loaded-left : left_in h.limits x.lengths w ≡ cut h.limits (block x.lengths a)
    loaded-left =
        ap (block (cut_to h.limits x.lengths))
        (ap (λ (k : ℕ). take k w) (sym (length-table _ (count (cut_to h.limits x.lengths)))) ∙ held.front)
        ∙ cut-is h.limits x.lengths a refl

    loaded-right : right_in h.limits y.lengths n w ≡ cut h.limits (block y.lengths b)
    loaded-right =
        let c : List ℕ = cut_to h.limits y.lengths in
        let e : n + count c - n ≡ length (cut_places y.lengths c b) =
        omega (arith, length-table (λ k. read_at (block y.lengths b) (index c k)) (count c)) in
        ap (block c) (ap (λ (k : ℕ). take k (drop n w)) e ∙ held.back) ∙ cut-is h.limits y.lengths b refl

    value-is : poly_of h made ≡ value
    unfolding pair_poly
    value-is = rw (z, loaded-left, loaded-right, g.is)

    keeps : Keeps (announced (pair_family kind) x y) value
    keeps = pair_keeps kind (poly x a) (poly y b) g.left.regular g.right.regular

    module _ {o : List Float} {r : List ℕ} (s : Stands made o r) where
      pub value-head : with_lengths h r ≡ value.head
      value-head = rw s.lengths (ap (λ (p : Poly). p.head) value-is)

      pub value-lengths : Lengths r
      value-lengths = rw (ap (λ (q : Header). q.lengths) value-head) (lengths_of_lem keeps.regular.rules)

      pub value_count_lem : count r ≤ n
      value_count_lem = omega (arith, ap stored value-head, count_under keeps.under, g.all, ap stored g.is)

      pub value-kept : {at c e : ℕ} {p p' p'' : List Float} → c ≡ count r → e ≡ at + n → Kept at e o p p'
          → Kept (at + c) e (zeros (e - (at + c))) p' p'' → Kept at (at + n) (padded n value.coeffs) p p''
      value-kept {at} {c} {e} {p} {p'} {p''} ec ee first last =
          let m : c ≤ n = omega (arith, ec, value_count_lem) in
          let l : c ≡ length made.places = ec ∙ (ap stored value-head ∙ (sym keeps.full ∙ ap (λ (q : Poly). length q.coeffs) (sym value-is))) in
          let i : at + c - at ≡ c = omega arith in
          let j : e - (at + c) ≡ n - length made.places = omega arith in
          let eq : take (at + c - at) o ++ zeros (e - (at + c)) ≡ padded n value.coeffs =
          ap (λ (k : ℕ). take k o ++ zeros (e - (at + c))) (i ∙ l)
          ∙ (ap (λ (t : List Float). t ++ zeros (e - (at + c))) s.front
          ∙ (ap (λ (k : ℕ). made.places ++ zeros k) j ∙ ap (λ (q : Poly). padded n q.coeffs) value-is)) in
          rw (← ee) (kept_as eq (kept-over first last (omega arith) (omega arith)))

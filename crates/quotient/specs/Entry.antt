-- What the entry shows: what the kernel is lent, and that the true header is the announced one.
use Rattle.std.specs.Prelude.{ℕ, ◌*◌, List, ◌≡◌, refl, take, Float}
use Rattle.std.proofs.Math.Path.{sym}
use Rattle.std.proofs.Common.{ap, ◌∙◌, arith}
use Rattle.model.specs.declared.Header.{Header}
use Rattle.model.specs.declared.Family.TheVariants.{Quotient}
use Rattle.model.specs.Header.{stored, with_lengths}
use Rattle.model.specs.Word.{header_of}
use Rattle.model.specs.Limits.{cut_to}
use Rattle.model.specs.Announced.{announced, paired}
use Rattle.model.specs.Poly.{block, held}
use Rattle.model.specs.Quotient.{quotient_shape, divided, quotient_poly}
use Rattle.shape_words.specs.Rules.{Ruled, ruled-at}
use Rattle.shape_words.specs.Lengths.{lengths_of_lem}
use Rattle.gates.specs.Gate.{PairReady}
use Rattle.quotient.specs.Room.{Divides}
use Rattle.quotient.specs.Into.{into-lengths}

-- the announced lengths
quotient-lengths : (a b : Header) → (announced Quotient a b).lengths
    ≡ quotient_shape (announced Quotient a b).limits (cut_to (announced Quotient a b).limits a.lengths)
    (cut_to (announced Quotient a b).limits b.lengths)
unfolding announced paired quotient_shape cut_to
quotient-lengths a b = refl

module _ {w u ma mb mo ms : ℕ} (g : PairReady Quotient w ma u mb mo ms) {x y h : Header} (ex : x ≡ header_of w)
    (ey : y ≡ header_of u) (eh : h ≡ announced Quotient x y) where
  pub entry_ruled : Ruled h
  entry_ruled = rw (eh, ex, ey) g.announced.regular.rules

  -- what the kernel is lent
  pub entry-divides : {na nb n : ℕ} → na ≡ stored x → nb ≡ stored y → n ≡ stored h → {ka kb ko kw : ℕ} → ka ≡ na → kb ≡ nb → ko ≡ n → kw ≡ 8 * n
      → Divides x.lengths y.lengths h.limits h.lengths ka kb ko kw
  entry-divides ea eb en pa pb po pw =
      let gx : Ruled x = rw ex g.good_a.regular.rules in
      let gy : Ruled y = rw ey g.good_b.regular.rules in
      record {
        left = lengths_of_lem gx;
        right = lengths_of_lem gy;
        positive = λ k l. let p = (ruled-at entry_ruled k l).pos in let q = (ruled-at entry_ruled k l).fit in omega arith;
        most = λ k l. (ruled-at entry_ruled k l).most;
        shape = rw eh (quotient-lengths x y);
        full_a = pa ∙ ea;
        full_b = pb ∙ eb;
        out = po ∙ en;
        work = pw ∙ ap (λ (k : ℕ). 8 * k) en;
      }

  module _ (a b : List Float) {na nb : ℕ} (ea : na ≡ stored x) (eb : nb ≡ stored y) where
    -- the true header
    pub entry-head : {ka kb ko kw : ℕ} → Divides x.lengths y.lengths h.limits h.lengths ka kb ko kw → h ≡ (quotient_poly (held w a) (held u b)).head
    unfolding quotient_poly
    entry-head t =
        let e : h ≡ with_lengths h (divided h.limits (block x.lengths (take na a)) (block y.lengths (take nb b))).lengths =
        λ i. record { vars = h.vars; limits = h.limits; lengths = sym (into-lengths t (take na a) (take nb b)) i; cap = h.cap } in
        e ∙ rw (eh, ea, eb, ex, ey)

    -- the value
    pub entry-places : {o : List Float} → o ≡ (divided h.limits (block x.lengths (take na a))
        (block y.lengths (take nb b))).places → o ≡ (quotient_poly (held w a) (held u b)).coeffs
    unfolding quotient_poly
    entry-places e = e ∙ rw (eh, ea, eb, ex, ey)

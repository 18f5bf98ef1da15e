-- What the entries show: the announced lengths hold the operand's, and the value is the definition's.
use Rattle.std.specs.Prelude.{ℕ, ◌*◌, ◌≤◌, ◌<◌, List, Bool, true, false, cond, ◌≡◌, refl, eqb, take, Float}
use Rattle.std.proofs.Common.{sym, ap, ◌∙◌, arith, lit<, eqb-true}
use Rattle.lists.specs.Test.{decide}
use Rattle.lists.specs.Four.{at-four}
use Rattle.model.specs.declared.Header.{Header}
use Rattle.model.specs.declared.Family.TheVariants.{Series}
use Rattle.model.specs.Header.{count, stored, len, limit, no_header}
use Rattle.model.specs.Word.{header_of}
use Rattle.model.specs.Announced.{announced, single, length_after, limit_after}
use Rattle.model.specs.Poly.{Poly, poly, held}
use Rattle.model.specs.Series.{series_shape, exp_rows, exp_of, exp_poly, log_rows, log_of, log_poly}
use Rattle.shape_words.specs.Rules.{Regular, ruled-at}
use Rattle.shape_words.specs.Lengths.{lengths_of_lem}
use Rattle.shape.specs.Under.{Under, count_under}
use Rattle.blocks.specs.Rows.{Inner}
use Rattle.gates.specs.Gate.{WorkReady}
use Rattle.series_gathering.specs.Whole.{Whole}
use Rattle.series_log.specs.LogBlock.{Long}

-- no length becomes smaller
series-most : {a : Header} → Regular a → (k : ℕ) → k < 4 → len a k ≤ len (announced Series a no_header) k
unfolding announced single
series-most {a} g k h =
    rw (at-four (λ k. length_after Series k (limit_after Series k (limit a k)) 1 (len a k) 1) k h)
    (decide (eqb (len a k) 1) (λ t. rw t (omega (arith, eqb-true (len a k) 1 t))) (λ t. rw t (ruled-at g.rules k h).fit))

series_under_lem : {a : Header} → Regular a → Under a (announced Series a no_header)
unfolding announced single
series_under_lem {a} g = record { vars = refl; limits = g.ls; most = series-most g; cap = refl }

series-inner : {a : Header} → Regular a → Inner (announced Series a no_header).lengths a.lengths
series-inner g = record { c0 = series-most g 0 (lit< tt); c1 = series-most g 1 (lit< tt); c2 = series-most g 2 (lit< tt); c3 = series-most g 3 (lit< tt) }

-- a variable that is long in the result is long in the operand
pub series-long : (a : Header) → Long a.lengths (announced Series a no_header).lengths
unfolding announced single
series-long a = record {
  ones = λ k h e. rw (at-four (λ k. length_after Series k (limit_after Series k (limit a k)) 1 (len a k) 1) k h) (rw e);
}

-- the announced lengths are those of the value
series-lengths : (a : Header) → series_shape (announced Series a no_header).limits a.lengths ≡ (announced Series a no_header).lengths
unfolding announced single series_shape
series-lengths a = refl

-- what the kernel is lent
pub entry_whole : {w ma mo ms : ℕ} → WorkReady Series w ma mo ms → {x h : Header} {na n : ℕ} → x ≡ header_of w
    → h ≡ announced Series (header_of w) no_header → na ≡ stored x → n ≡ stored h
    → {ka ko kw : ℕ} → ka ≡ na → ko ≡ n → kw ≡ 8 * n → Whole x.lengths h.lengths n ka ko kw
entry_whole {w} g {x} {h} {na} {n} ex eh ea en pa po pw =
    let r = g.one.good.regular in
    let less : count (header_of w).lengths ≤ stored (announced Series (header_of w) no_header) = count_under (series_under_lem r) in
    record {
      left = rw ex (lengths_of_lem r.rules);
      result = rw eh (lengths_of_lem g.one.announced.regular.rules);
      inner = rw (ex, eh) (series-inner r);
      all = en;
      less = rw (en, ex, eh) less;
      operand = pa ∙ ea;
      out = po;
      work = omega arith;
    }

-- exp, or log where `logs`: of the places of a block, and of a polynomial
abbrev pub series_rows : Bool → Float → List ℕ → List ℕ → List Float → List Float
series_rows logs head lx r xs = cond logs (log_rows head lx r 4 0 xs) (exp_rows head lx r 4 0 xs)

abbrev pub series_poly : Bool → Float → Poly → Poly
series_poly logs head p = cond logs (log_poly head p) (exp_poly head p)

-- what a polynomial's definition says of its announced header
module _ (head : Float) (p : Poly) where
  abbrev told : Header
  told = announced Series p.head no_header

  exp_poly_lem : exp_poly head p ≡ poly told (exp_rows head p.head.lengths told.lengths 4 0 p.coeffs)
  unfolding exp_poly exp_of
  exp_poly_lem = rw (series-lengths p.head)

  log_poly_lem : log_poly head p ≡ poly told (log_rows head p.head.lengths told.lengths 4 0 p.coeffs)
  unfolding log_poly log_of
  log_poly_lem = rw (series-lengths p.head)

  series_poly_lem : (logs : Bool) → series_poly logs head p ≡ poly told (series_rows logs head p.head.lengths told.lengths p.coeffs)
  series_poly_lem true = log_poly_lem
  series_poly_lem false = exp_poly_lem

-- the value
module _ (logs : Bool) (head : Float) (w : ℕ) (a : List Float) {x h : Header} (ex : x ≡ header_of w) (eh : h ≡ announced Series (header_of w) no_header) where
  pub entry-head : h ≡ (series_poly logs head (held w a)).head
  entry-head = eh ∙ ap (λ (p : Poly). p.head) (sym (series_poly_lem head (held w a) logs))

  pub entry-coeffs : {na : ℕ} {o : List Float} → na ≡ stored x → o ≡ series_rows logs head x.lengths h.lengths (take na a)
      → o ≡ (series_poly logs head (held w a)).coeffs
  entry-coeffs ea e = e ∙ (rw (eh, ea, ex) (ap (λ (p : Poly). p.coeffs) (sym (series_poly_lem head (held w a) logs))))

  pub entry-long : Long x.lengths h.lengths
  entry-long = rw (ex, eh) (series-long (header_of w))

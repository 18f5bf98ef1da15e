-- Sums and products of polynomials with their caps (document 02, W10), as whole numbers: the exact results cut by
-- box and cap.
use Rattle.std.specs.Prelude.{◌≡◌, List, ℕ, ◌+◌, ◌*◌, ◌^◌, ◌≤◌, ◌<◌, max, ltb, length, ℤ, pos, ◌+ℤ◌, ◌*ℤ◌}
use Rattle.std.proofs.Common.{sym, ap, ◌∙◌, le_trans, arith, ltb-true, ltb-false}
use Rattle.std.proofs.Math.Path.{ap₂}
use Rattle.std.proofs.Math.Bool.{false}
use Rattle.std.proofs.Math.IntN.{+ℤ_idl, zero-*ℤ, *ℤ-zero}
use Rattle.lists.specs.Test.{decide}
use Rattle.lists.specs.Four.{at}
use Rattle.model.specs.declared.Header.{Header}
use Rattle.model.specs.Header.{limit}
use Rattle.model_textbook.specs.Box.{index_minus}
use Rattle.model.specs.Announced.{announced, paired}
use Rattle.model.specs.Poly.{Poly, block_of}
use Rattle.model.specs.Add.{combined}
use Rattle.model.specs.Product.{product_poly}
use Rattle.model_textbook.specs.Textbook.{Series, weight, plus, times}
use Rattle.model_caps.specs.Cap.{cut_at}
use Rattle.model_caps.specs.Order.{Capped, under, cap_of, sum, product, Same}
use Rattle.laws_whole.specs.Compare.{whole-eq}
use Rattle.shape_words.specs.Rules.{Regular, ruled-at}
use Rattle.laws_whole.specs.IndexLaws.{in-box-length, within-length, minus-length}
use Rattle.laws_whole.specs.StoredLaws.{in-box-inside, in-box-below, stored_past}
use Rattle.shape_words.specs.Lengths.{inside_is}
use Rattle.shape.specs.Keeps.{Keeps}
use Rattle.laws_exact.specs.Wholes.{Wholes, Is}
use Rattle.laws_exact.specs.Cuts.{numbers_of}
use Rattle.laws_keeps.specs.Keeps.{combined-keeps}
use Rattle.laws_keeps.proofs.ProductKeeps.{product-keeps}
use Rattle.laws_exact.specs.Sums.{series_in, weight_in}
use Rattle.laws_exact.proofs.SumLaws.{sum-exact}
use Rattle.laws_exact.proofs.ProductLaws.{product-exact}
use Rattle.laws_exact.specs.Firsts.{stored-under}
use Rattle.laws_exact.specs.Windows.{times_none, minus-at}
use Rattle.laws_exact.specs.Results.{Result, result, keeps-sits}
use Rattle.laws_exact.proofs.Results.{sum-result, product-result}
use Rattle.laws_truncation.specs.Agree.{Agree}
use Rattle.laws_caps.specs.Capped.{capped-full, capped_is}
use Rattle.laws_rings.specs.Reach.{Reach, inside_or, cut-under, cut-least, cut-alike}

-- a header that keeps the rules, and whole coefficients: a p at the place p
pub record Whole (p : Capped) (a : ℕ → ℤ) : Type 0 where
  pub regular : Regular p.value.head
  pub wholes : Wholes (block_of p.value) a

abbrev pub series : Capped → (ℕ → ℤ) → Series
series p a = series_in p.value a

abbrev pub size : Capped → (ℕ → ℤ) → ℕ
size p a = weight_in p.value a

-- what a result is: whole again, Z below its limits and its cap, and |Z| n at most
pub record Made (p : Capped) (Z : Series) (n : ℕ) : Type 0 where
  pub numbers : ℕ → ℤ
  pub whole : Whole p numbers
  pub agrees : Agree (Reach p.value.head p.cap) (series p numbers) Z
  pub is : Is p.value.head.limits (block_of p.value) (cut_at p.cap Z)
  pub light : size p numbers ≤ n

under-keeps : (c : ℕ) {h : Header} {p : Poly} → Keeps h p → Keeps h (under c p)
under-keeps c {h} {p} k = record { regular = k.regular; under = k.under; full = capped-full c (block_of p) k.full }

-- a series without the variables from v on
abbrev pub Without : ℕ → Series → Type 0
Without v Z = (k : List ℕ) → length k ≡ 4 → (w : ℕ) → w < 4 → v ≤ w → 0 < at k w → Z k ≡ pos 0

-- the coefficients of a polynomial are such
pub series-without : (p : Poly) (a : ℕ → ℤ) → Regular p.head → Without p.head.vars (series_in p a)
series-without p a g k f w l o s =
    let r = ruled-at g.rules w l in
    stored_past p.head.lengths (ap length g.ns) a k f (λ i. omega (arith, in-box-below p.head.lengths (ap length g.ns) i w l, r.fit, r.gone o))

-- and a result past its own limits is zero
past-limits : (p : Poly) (a : ℕ → ℤ) → Regular p.head → (k : List ℕ) → length k ≡ 4 → (w : ℕ) → w < 4 → limit p.head w ≤ at k w → series_in p a k ≡ pos 0
past-limits p a g k f w l o =
    stored_past p.head.lengths (ap length g.ns) a k f
    (λ i. omega (arith, in-box-below p.head.lengths (ap length g.ns) i w l, (ruled-at g.rules w l).fit))

made : (c : ℕ) {h : Header} {p : Poly} {Z : Series} {n : ℕ} → Without p.head.vars Z → Keeps h p → Is h.limits (block_of p) Z → Result h.limits p Z n
    → Made (record { value = under c p; cap = c }) Z n
made c {h} {p} {Z} {n} o k i r =
    let s = under-keeps c k in
    let j : Is h.limits (block_of (under c p)) (cut_at c Z) = capped_is c i in
    let m' : List ℕ = p.head.lengths in
    let f : length m' ≡ 4 = ap length k.regular.ns in
    let w : weight m' (cut_at c Z) ≤ weight m' (series_in p (numbers_of m' Z)) =
    cut-least c Z (series_in p (numbers_of m' Z)) m'
    (λ y x. r.agrees y (in-box-length x ∙ f) (stored-under (keeps-sits k) (inside_is m' y (in-box-inside m' f x)))) in
    let missing : (v : ℕ) → v < 4 → (x : ℕ) → (v < p.head.vars → x < limit p.head v) → limit p.head v ≤ x → p.head.vars ≤ v =
    λ v l x b m. decide (ltb v p.head.vars) (λ u. absurd (let q = b (ltb-true v p.head.vars u) in omega arith)) (λ u. ltb-false v p.head.vars u) in
    let t : Result h.limits (under c p) (cut_at c Z) n = result s j (le_trans w r.light) in
    record {
      numbers = numbers_of m' (cut_at c Z);
      whole = record { regular = k.regular; wholes = t.wholes };
      agrees = record {
        at = λ y d.
            inside_or p.head.limits y
            (λ x. t.agrees y d.len (rw k.under.limits at x) ∙ cut-under c Z d.cap)
            (λ v l m. past-limits (under c p) (numbers_of m' (cut_at c Z)) k.regular y d.len v l m ∙ sym
            (o y d.len v l (missing v l (at y v) (d.box v l) m)
            (omega (arith, (ruled-at k.regular.rules v l).pos, (ruled-at k.regular.rules v l).fit))));
      };
      is = rw k.under.limits j;
      light = t.light;
    }

-- what both operands lack the result lacks
module _ (p q : Capped) {a b : ℕ → ℤ} (u : Whole p a) (v : Whole q b) where
  abbrev vars : ℕ
  vars = max p.value.head.vars q.value.head.vars

  pub sum-without : Without vars (plus (series p a) (series q b))
  unfolding plus
  sum-without k f w l o s =
      ap₂ (λ (x y : ℤ). x +ℤ y) (series-without p.value a u.regular k f w l (omega arith) s)
      (series-without q.value b v.regular k f w l (omega arith) s) ∙ +ℤ_idl (pos 0)

  pub product-without : Without vars (times (series p a) (series q b))
  product-without k f w l o s =
      times_none (series p a) (series q b) k (λ j x.
      decide (ltb 0 (at j w))
      (λ t. ap (λ (z : ℤ). z *ℤ series q b (index_minus k j))
      (series-without p.value a u.regular j (within-length x ∙ f) w l (omega arith) (ltb-true 0 (at j w) t)) ∙ zero-*ℤ (series q b (index_minus k j)))
      (λ t. ap (λ (z : ℤ). series p a j *ℤ z) (series-without q.value b v.regular (index_minus k j) (minus-length k j ∙ f) w l (omega arith)
      (omega (arith, minus-at k j w, ltb-false 0 (at j w) t))) ∙ *ℤ-zero (series p a j)))

module _ (p q : Capped) {a b : ℕ → ℤ} (u : Whole p a) (v : Whole q b) where
  pub sum-made : size p a + size q b ≤ 2 ^ 53 → Made (sum p q) (plus (series p a) (series q b)) (size p a + size q b)
  unfolding sum combined announced paired
  sum-made h =
      let g = u.regular in
      let e = v.regular in
      made (cap_of p q) {p =
      combined false p.value q.value} (sum-without p q u v) (combined-keeps p.value q.value g e false)
      (record { at = sum-exact p.value q.value g e a b u.wholes v.wholes h })
      (sum-result p.value q.value g e a b u.wholes v.wholes h)

  pub product-made : size p a * size q b ≤ 2 ^ 53 → Made (product p q) (times (series p a) (series q b)) (size p a * size q b)
  unfolding product product_poly announced paired
  product-made h =
      let g = u.regular in
      let e = v.regular in
      made (cap_of p q) {p =
      product_poly p.value q.value} (product-without p q u v) (product-keeps p.value q.value g e)
      (record { at = product-exact p.value q.value g e a b u.wholes v.wholes h })
      (product-result p.value q.value g e a b u.wholes v.wholes h)

-- two results whose series agree
pub made-same : {p q : Capped} {Z Y : Series} {n m : ℕ} → p.value.head.vars ≡ q.value.head.vars → p.value.head.limits ≡ q.value.head.limits
    → p.cap ≡ q.cap
    → Made p Z n → Made q Y m → Agree (Reach p.value.head p.cap) Z Y → Same p q
made-same {p} {q} {Z} {Y} v l c x y e = record {
  vars = v;
  limits = l;
  cap = c;
  at = λ k f t.
      let i = inside_is p.value.head.limits k t in
      (whole-eq (x.is.at k f i) (y.is.at k f (rw l at i))).1 (cut-alike e k f i ∙ ap (λ (m : ℕ). cut_at m Y k) c);
}

-- Document 02, W11: sum and product commute and associate, and product distributes over sum, for uncapped and capped
-- polynomials with whole coefficients, where the product of the sums of absolute values, each taken as at least one, is
-- at most 2 ^ 51. Equality is of limits, cap and every coefficient under the limits, stored lengths aside.
use Rattle.std.specs.Prelude.{◌≡◌, refl, true, List, ℕ, ◌+◌, ◌*◌, ◌^◌, ◌≤◌, ◌<◌, max, ltb, ℤ, ◌+ℤ◌}
use Rattle.std.proofs.Common.{sym, ap, ap₂, ◌∙◌, le_trans, le_refl, mul-le-mul, mul-one, mul_assoc, mul_comm, mul-add, arith, lt-ltb}
use Rattle.lists.specs.Test.{decide}
use Rattle.std.proofs.Math.IntN.{+ℤ_comm}
use Rattle.lists.specs.Four.{at, four_same, at-four}
use Rattle.model.specs.Header.{limit}
use Rattle.model.specs.Limits.{min_limit, min_degrees_p1}
use Rattle.model.specs.Announced.{announced, paired}
use Rattle.model.specs.Add.{combined}
use Rattle.model.specs.Product.{product_poly}
use Rattle.model_textbook.specs.Textbook.{Series, plus}
use Rattle.model.specs.Cap.{min_cap}
use Rattle.model_caps.specs.Cap.{under_cap}
use Rattle.laws_whole.specs.SeriesLaws.{times-comm, times-assoc}
use Rattle.shape_words.specs.Rules.{Regular, ruled-at}
use Rattle.laws_truncation.specs.Agree.{Agree, agree_same, agree_self, agree-back, agree_then, agree-plus, agree-times, agree_less}
use Rattle.laws_truncation.specs.Caps.{min_cap_lem}
use Rattle.laws_truncation.specs.Rings.{plus_assoc, times_spread}
use Rattle.laws_rings.specs.Least.{limit-comm, limit-assoc, limit_spread, cap-comm, cap-assoc, cap_spread}
use Rattle.laws_rings.specs.Bounds.{Sizes, xy, yz, xz, left-x, left-y, last_z}
use Rattle.laws_rings.specs.Reach.{Reach, reach-down}
use Rattle.model_caps.specs.Order.{Capped, cap_of, sum, product, Same}
use Rattle.laws_rings.specs.Results.{Whole, series, size, Made, sum-made, product-made, made-same}

-- ---- headers

-- the header of a sum or a product x of p and q
pub record Heads (p q x : Capped) : Type 0 where
  pub vars : x.value.head.vars ≡ max p.value.head.vars q.value.head.vars
  pub limits : x.value.head.limits ≡ min_degrees_p1 p.value.head q.value.head
  pub cap : x.cap ≡ cap_of p q

pub sum-heads : (p q : Capped) → Heads p q (sum p q)
unfolding sum combined announced paired
sum-heads p q = record { vars = refl; limits = refl; cap = refl }

pub product-heads : (p q : Capped) → Heads p q (product p q)
unfolding product product_poly announced paired
product-heads p q = record { vars = refl; limits = refl; cap = refl }

pub record Alike (x y : Capped) : Type 0 where
  pub vars : x.value.head.vars ≡ y.value.head.vars
  pub limits : x.value.head.limits ≡ y.value.head.limits
  pub cap : x.cap ≡ y.cap

abbrev pub nvars : Capped → ℕ
nvars p = p.value.head.vars

abbrev pub lim : Capped → ℕ → ℕ
lim p k = limit p.value.head k

pub heads-at : {p q x : Capped} → Heads p q x → (k : ℕ) → k < 4 → lim x k ≡ min_limit (nvars p) (nvars q) k (lim p k) (lim q k)
unfolding min_degrees_p1
heads-at {p} {q} h k l = ap (λ (m : List ℕ). at m k) h.limits ∙ at-four (λ k. min_limit (nvars p) (nvars q) k (lim p k) (lim q k)) k l

-- limits by their places
pub same-limits : {p q x r s y : Capped} → Heads p q x → Heads r s y → ((k : ℕ) → k < 4 → lim x k ≡ lim y k) → x.value.head.limits ≡ y.value.head.limits
unfolding min_degrees_p1
same-limits {p} {q} {x} {r} {s} {y} h g e =
    h.limits
    ∙ four_same (λ k. min_limit (nvars p) (nvars q) k (lim p k) (lim q k)) (λ k. min_limit (nvars r) (nvars s) k (lim r k) (lim s k))
    (λ k l. sym (heads-at h k l) ∙ e k l ∙ heads-at g k l)
    ∙ sym g.limits

heads-comm : {p q x y : Capped} → Regular p.value.head → Regular q.value.head → Heads p q x → Heads q p y → Alike x y
heads-comm {p} {q} a b h g = record {
  vars = h.vars ∙ omega arith ∙ sym g.vars;
  limits =
      same-limits h g (λ k l. heads-at h k l ∙ limit-comm (nvars p) (nvars q) k (lim p k) (lim q k) (ruled-at a.rules k l).gone
      (ruled-at b.rules k l).gone ∙ sym (heads-at g k l));
  cap = h.cap ∙ cap-comm p.cap q.cap ∙ sym g.cap;
}

pub heads-assoc : {p q r x y z w : Capped} → Heads p q x → Heads x r y → Heads q r z → Heads p z w → Alike y w
heads-assoc {p} {q} {r} {x} {y} {z} {w} hx hy hz hw = record {
  vars = hy.vars ∙ ap (λ (n : ℕ). max n (nvars r)) hx.vars ∙ omega arith ∙ sym (hw.vars ∙ ap (max (nvars p)) hz.vars);
  limits = same-limits hy hw (λ k l.
      heads-at hy k l
      ∙ ap₂ (λ (n m : ℕ). min_limit n (nvars r) k m (lim r k)) hx.vars (heads-at hx k l)
      ∙ limit-assoc (nvars p) (nvars q) (nvars r) k (lim p k) (lim q k) (lim r k)
      ∙ sym (heads-at hw k l ∙ ap₂ (λ (n m : ℕ). min_limit (nvars p) n k (lim p k) m) hz.vars (heads-at hz k l)));
  cap = hy.cap ∙ ap (λ (n : ℕ). min_cap n r.cap) hx.cap ∙ cap-assoc p.cap q.cap r.cap ∙ sym (hw.cap ∙ ap (min_cap p.cap) hz.cap);
}

-- what a result reaches, its operands reach
least-left : (v w k l m : ℕ) → k < v → min_limit v w k l m ≤ l
unfolding min_limit
least-left v w k l m h = rw (lt-ltb k v h) (decide (ltb k w) (λ t. rw t (omega arith)) (λ t. rw t (le_refl l)))

least-right : (v w k l m : ℕ) → k < w → min_limit v w k l m ≤ m
unfolding min_limit
least-right v w k l m h = rw (lt-ltb k w h) (decide (ltb k v) (λ t. rw t (omega arith)) (λ t. rw t (le_refl m)))

module _ {p q x : Capped} (h : Heads p q x) (k : List ℕ) (d : Reach x.value.head x.cap k) where
  caps : (under_cap p.cap k ≡ true) × (under_cap q.cap k ≡ true)
  caps = min_cap_lem p.cap q.cap k (rw h.cap at d.cap)

  pub reach-left : Reach p.value.head p.cap k
  reach-left = record {
    len = d.len;
    box = λ v l m. omega (arith, d.box v l (omega (arith, h.vars)), heads-at h v l, least-left (nvars p) (nvars q) v (lim p v) (lim q v) m);
    cap = caps.0;
  }

  pub reach-right : Reach q.value.head q.cap k
  reach-right = record {
    len = d.len;
    box = λ v l m. omega (arith, d.box v l (omega (arith, h.vars)), heads-at h v l, least-right (nvars p) (nvars q) v (lim p v) (lim q v) m);
    cap = caps.1;
  }

pub alike-reach : {x y : Capped} → Alike x y → (k : List ℕ) → Reach x.value.head x.cap k → Reach y.value.head y.cap k
alike-reach e k d = record {
  len = d.len;
  box = λ v l m. rw (← e.limits) (d.box v l (rw e.vars m));
  cap = rw (← e.cap) d.cap;
}

pub alike_same : {x y : Capped} {Z Y : Series} {n m : ℕ} → Alike x y → Made x Z n → Made y Y m → Agree (Reach x.value.head x.cap) Z Y → Same x y
alike_same e = made-same e.vars e.limits e.cap

-- ---- sizes

-- max(1, |A|)
abbrev pub least1 : Capped → (ℕ → ℤ) → ℕ
least1 p a = max 1 (size p a)

module _ (p q : Capped) {a b : ℕ → ℤ} (u : Whole p a) (v : Whole q b) (bound : least1 p a * least1 q b ≤ 2 ^ 51) where
  two : Sizes (least1 p a) (least1 q b) 1
  two = record { x1 = omega arith; y1 = omega arith; z1 = omega arith; most = rw (mul-one (least1 p a * least1 q b)) bound }

  pub sum_commutes : Same (sum p q) (sum q p)
  unfolding plus
  sum_commutes =
      alike_same (heads-comm u.regular v.regular (sum-heads p q) (sum-heads q p))
      (sum-made p q u v (omega (arith, left-x two, left-y two)))
      (sum-made q p v u (omega (arith, left-x two, left-y two)))
      (agree_same (λ k. +ℤ_comm (series p a k) (series q b k)))

  pub product_commutes : Same (product p q) (product q p)
  product_commutes =
      let m : size p a * size q b ≤ 2 ^ 51 = le_trans (mul-le-mul (omega arith) (omega arith)) bound in
      alike_same (heads-comm u.regular v.regular (product-heads p q) (product-heads q p))
      (product-made p q u v (omega (arith, m)))
      (product-made q p v u (omega (arith, m, mul_comm (size p a) (size q b))))
      (agree_same (times-comm (series p a) (series q b)))

module _ (p q r : Capped) {a b c : ℕ → ℤ} (u : Whole p a) (v : Whole q b) (w : Whole r c) (bound : least1 p a * least1 q b * least1 r c ≤ 2 ^ 51) where
  pub three : Sizes (least1 p a) (least1 q b) (least1 r c)
  three = record { x1 = omega arith; y1 = omega arith; z1 = omega arith; most = bound }

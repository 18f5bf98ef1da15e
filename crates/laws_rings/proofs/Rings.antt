-- What rests on laws of specs/ (Rings).
use Rattle.std.specs.Prelude.{ℕ, ◌*◌, ◌^◌, ◌≤◌, max, ℤ}
use Rattle.std.proofs.Common.{sym, ap, ap₂, ◌∙◌, le_trans, le_refl, mul-le-mul, mul_assoc, mul-add, arith}
use Rattle.model.specs.Limits.{min_limit}
use Rattle.model_textbook.specs.Textbook.{Series}
use Rattle.model.specs.Cap.{min_cap}
use Rattle.laws_whole.specs.SeriesLaws.{times-assoc}
use Rattle.laws_truncation.specs.Agree.{agree_same, agree_self, agree-back, agree_then, agree-plus, agree-times, agree_less}
use Rattle.laws_truncation.specs.Rings.{plus_assoc, times_spread}
use Rattle.laws_rings.specs.Least.{limit_spread, cap_spread}
use Rattle.laws_rings.specs.Bounds.{xy, yz, xz, left-x, left-y, last_z}
use Rattle.laws_rings.specs.Reach.{reach-down}
use Rattle.model_caps.specs.Order.{Capped, sum, product, Same}
use Rattle.laws_rings.specs.Results.{Whole, series, size, sum-made, product-made}
use Rattle.laws_rings.specs.Rings.{Alike, Heads, alike-reach, alike_same, heads-assoc, heads-at, least1, lim, nvars}
use Rattle.laws_rings.specs.Rings.{product-heads, reach-left, reach-right, same-limits, sum-heads, three}

pub heads_spread : {p q r x y z w t : Capped} → Heads q r x → Heads p x y → Heads p q z → Heads p r w → Heads z w t → Alike y t
heads_spread {p} {q} {r} {x} {y} {z} {w} {t} hx hy hz hw ht = record {
  vars = hy.vars ∙ ap (max (nvars p)) hx.vars ∙ omega arith ∙ sym (ht.vars ∙ ap₂ max hz.vars hw.vars);
  limits = same-limits hy ht (λ k l.
      heads-at hy k l
      ∙ ap₂ (λ (n m : ℕ). min_limit (nvars p) n k (lim p k) m) hx.vars (heads-at hx k l)
      ∙ limit_spread (nvars p) (nvars q) (nvars r) k (lim p k) (lim q k) (lim r k)
      ∙ sym (heads-at ht k l ∙ ap₂ (λ (n m : ℕ). min_limit n m k (lim z k) (lim w k)) hz.vars hw.vars ∙ ap₂
      (min_limit (max (nvars p) (nvars q)) (max (nvars p) (nvars r)) k) (heads-at hz k l) (heads-at hw k l)));
  cap = hy.cap ∙ ap (min_cap p.cap) hx.cap ∙ cap_spread p.cap q.cap r.cap ∙ sym (ht.cap ∙ ap₂ min_cap hz.cap hw.cap);
}

module _ (p q r : Capped) {a b c : ℕ → ℤ} (u : Whole p a) (v : Whole q b) (w : Whole r c) (bound : least1 p a * least1 q b * least1 r c ≤ 2 ^ 51) where
  abbrev pub A : Series
  A = series p a

  abbrev pub B : Series
  B = series q b

  abbrev pub C : Series
  C = series r c

  pub sum_associates : Same (sum (sum p q) r) (sum p (sum q r))
  sum_associates =
      let s = (three p q r u v w bound) in
      let x = sum-made p q u v (omega (arith, left-x s, left-y s)) in
      let z = sum-made q r v w (omega (arith, left-y s, last_z s)) in
      let y = sum-made (sum p q) r x.whole w (omega (arith, left-x s, left-y s, last_z s, x.light)) in
      let t = sum-made p (sum q r) u z.whole (omega (arith, left-x s, left-y s, last_z s, z.light)) in
      let e = heads-assoc (sum-heads p q) (sum-heads (sum p q) r) (sum-heads q r) (sum-heads p (sum q r)) in
      alike_same e y t
      (agree_then (agree-plus (agree_less (reach-left (sum-heads (sum p q) r)) x.agrees) agree_self)
      (agree_then (agree_same (plus_assoc A B C))
      (agree-plus agree_self (agree-back (agree_less (λ k d. reach-right (sum-heads p (sum q r)) k (alike-reach e k d)) z.agrees)))))

  pub product_associates : Same (product (product p q) r) (product p (product q r))
  product_associates =
      let s = (three p q r u v w bound) in
      let ab : size p a * size q b ≤ least1 p a * least1 q b = mul-le-mul (omega arith) (omega arith) in
      let bc : size q b * size r c ≤ least1 q b * least1 r c = mul-le-mul (omega arith) (omega arith) in
      let x = product-made p q u v (omega (arith, ab, xy s)) in
      let z = product-made q r v w (omega (arith, bc, yz s)) in
      let xc : size (product p q) x.numbers * size r c ≤ least1 p a * least1 q b * least1 r c = mul-le-mul (le_trans x.light ab) (omega arith) in
      let az : size p a * size (product q r) z.numbers ≤ least1 p a * (least1 q b * least1 r c) = mul-le-mul (omega arith) (le_trans z.light bc) in
      let y = product-made (product p q) r x.whole w (omega (arith, xc, bound)) in
      let t = product-made p (product q r) u z.whole (omega (arith, az, bound, mul_assoc (least1 p a) (least1 q b) (least1 r c))) in
      let e = heads-assoc (product-heads p q) (product-heads (product p q) r) (product-heads q r) (product-heads p (product q r)) in
      alike_same e y t
      (agree_then (agree-times reach-down (agree_less (reach-left (product-heads (product p q) r)) x.agrees) agree_self)
      (agree_then (agree_same (times-assoc A B C))
      (agree-times reach-down agree_self (agree-back (agree_less (λ k d. reach-right (product-heads p (product q r)) k (alike-reach e k d)) z.agrees)))))

  pub product_distributes : Same (product p (sum q r)) (sum (product p q) (product p r))
  product_distributes =
      let s = (three p q r u v w bound) in
      let ab : size p a * size q b ≤ 2 ^ 51 = le_trans (mul-le-mul (omega arith) (omega arith)) (xy s) in
      let ac : size p a * size r c ≤ 2 ^ 51 = le_trans (mul-le-mul (omega arith) (omega arith)) (xz s) in
      let x = sum-made q r v w (omega (arith, left-y s, last_z s)) in
      let y = product-made p (sum q r) u x.whole
      (le_trans (mul-le-mul (le_refl (size p a)) x.light) (omega (arith, ab, ac, mul-add (size p a) (size q b) (size r c)))) in
      let z = product-made p q u v (omega (arith, ab)) in
      let o = product-made p r u w (omega (arith, ac)) in
      let t = sum-made (product p q) (product p r) z.whole o.whole (omega (arith, ab, ac, z.light, o.light)) in
      let e = heads_spread (sum-heads q r) (product-heads p (sum q r)) (product-heads p q) (product-heads p r) (sum-heads (product p q) (product p r)) in
      let h = sum-heads (product p q) (product p r) in
      alike_same e y t
      (agree_then (agree-times reach-down agree_self (agree_less (reach-right (product-heads p (sum q r))) x.agrees))
      (agree_then (agree_same (times_spread A B C))
      (agree-plus (agree-back (agree_less (λ k d. reach-left h k (alike-reach e k d)) z.agrees))
      (agree-back (agree_less (λ k d. reach-right h k (alike-reach e k d)) o.agrees)))))

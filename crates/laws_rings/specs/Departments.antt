-- Document 02, W11: 'a planner drags rooms into another order and expects the same department'. Rooms multiplied two at
-- a time, in any order and in any grouping, give the same department, for uncapped and capped rooms of whole
-- coefficients, where the product of their sums of absolute values, each taken as at least one, is at most 2 ^ 51.
use Rattle.std.specs.Prelude.{◌≡◌, refl, List, [], ◌∷◌, ◌++◌, ℕ, suc, ◌+◌, ◌*◌, ◌^◌, ◌≤◌, ◌<◌, max, ltb, eqb, length, get_or, drop, ℤ}
use Rattle.std.proofs.Common.{sym, ap, ap₂, subst, ◌∙◌, le_refl, le_trans, mul-le-mul, mul-one, mul_assoc, mul_comm, arith, le-ltb, ltb-false, eqb-true}
use Rattle.lists.specs.Test.{decide}
use Rattle.model.specs.Limits.{min_limit}
use Rattle.model_textbook.specs.Textbook.{Series, one, times}
use Rattle.model.specs.Cap.{min_cap}
use Rattle.model_caps.specs.Order.{Capped, product, Same}
use Rattle.model_caps.specs.Departments.{Room, Grouped, department, rooms, Reordered}
use Rattle.laws_whole.specs.Compare.{whole-eq}
use Rattle.laws_whole.specs.SeriesLaws.{times-same, times-comm, times-assoc, times-one}
use Rattle.shape_words.specs.Rules.{ruled-at}
use Rattle.laws_exact.specs.Wholes.{wholes-at}
use Rattle.laws_truncation.specs.Agree.{Agree, agree_same, agree-back, agree_then, agree-times, agree_less}
use Rattle.laws_rings.specs.Least.{limit-comm, limit-assoc, cap-comm, cap-assoc}
use Rattle.laws_rings.specs.Reach.{Reach, reach-down}
use Rattle.laws_rings.specs.Results.{Whole, series, size, Made, product-made}
use Rattle.laws_rings.specs.Rings.{Alike, product-heads, heads-at, nvars, lim, least1, same-limits, reach-left, reach-right, alike-reach, alike_same}

-- ---- premises

abbrev pub AllWhole : List Room → Type 0
AllWhole [] = Unit {0}
AllWhole (r ∷ xs) = Whole r.poly r.numbers × AllWhole xs

-- the product of the sums of absolute values, each taken as at least one
unfoldable pub sizes : List Room → ℕ
sizes [] = 1
sizes (r ∷ xs) = least1 r.poly r.numbers * sizes xs

-- ---- variables, limits, caps and series of a list

unfoldable vars_of : List Room → ℕ
vars_of [] = 0
vars_of (r ∷ xs) = max (nvars r.poly) (vars_of xs)

unfoldable limit_of : ℕ → List Room → ℕ
limit_of k [] = 1
limit_of k (r ∷ xs) = min_limit (nvars r.poly) (vars_of xs) k (lim r.poly k) (limit_of k xs)

unfoldable caps_of : List Room → ℕ
caps_of [] = 0
caps_of (r ∷ xs) = min_cap r.poly.cap (caps_of xs)

unfoldable times_of : List Room → Series
times_of [] = one
times_of (r ∷ xs) = times (series r.poly r.numbers) (times_of xs)

-- ---- two lists one after the other

vars-both : (xs ys : List Room) → vars_of (xs ++ ys) ≡ max (vars_of xs) (vars_of ys)
unfolding vars_of
vars-both [] ys = omega arith
vars-both (r ∷ xs) ys = rw (vars-both xs ys) (omega arith)

limit-both : (k : ℕ) (xs ys : List Room) → limit_of k (xs ++ ys) ≡ min_limit (vars_of xs) (vars_of ys) k (limit_of k xs) (limit_of k ys)
unfolding limit_of vars_of min_limit
limit-both k [] ys = rw (le-ltb k 0 (omega arith))
limit-both k (r ∷ xs) ys =
    ap₂ (λ (n m : ℕ). min_limit (nvars r.poly) n k (lim r.poly k) m) (vars-both xs ys) (limit-both k xs ys)
    ∙ sym (limit-assoc (nvars r.poly) (vars_of xs) (vars_of ys) k (lim r.poly k) (limit_of k xs) (limit_of k ys))

caps-both : (xs ys : List Room) → caps_of (xs ++ ys) ≡ min_cap (caps_of xs) (caps_of ys)
unfolding caps_of min_cap
caps-both [] ys = refl
caps-both (r ∷ xs) ys = ap (min_cap r.poly.cap) (caps-both xs ys) ∙ sym (cap-assoc r.poly.cap (caps_of xs) (caps_of ys))

-- equal factors
times-right : (A : Series) {B C : Series} → ((k : List ℕ) → B k ≡ C k) → (k : List ℕ) → times A B k ≡ times A C k
times-right A {B} {C} h k = times-same A B A C k (λ j w. rw (h _))

times-both : (xs ys : List Room) (k : List ℕ) → times_of (xs ++ ys) k ≡ times (times_of xs) (times_of ys) k
unfolding times_of
times-both [] ys k = sym (times-comm one (times_of ys) k ∙ times-one (times_of ys) k)
times-both (r ∷ xs) ys k =
    times-right (series r.poly r.numbers) (times-both xs ys) k
    ∙ sym (times-assoc (series r.poly r.numbers) (times_of xs) (times_of ys) k)

sizes-both : (xs ys : List Room) → sizes (xs ++ ys) ≡ sizes xs * sizes ys
unfolding sizes
sizes-both [] ys = omega arith
sizes-both (r ∷ xs) ys = rw (sizes-both xs ys) (sym (mul_assoc (least1 r.poly r.numbers) (sizes xs) (sizes ys)))

one-least : (x y : ℕ) → 1 ≤ x → 1 ≤ y → 1 ≤ x * y
one-least x y a b = mul-le-mul a b

sizes-one : (xs : List Room) → 1 ≤ sizes xs
unfolding sizes
sizes-one [] = omega arith
sizes-one (r ∷ xs) = one-least (least1 r.poly r.numbers) (sizes xs) (omega arith) (sizes-one xs)

whole-left : (xs ys : List Room) → AllWhole (xs ++ ys) → AllWhole xs
whole-left [] ys w = tt
whole-left (r ∷ xs) ys w = (w.0, whole-left xs ys w.1)

whole-right : (xs ys : List Room) → AllWhole (xs ++ ys) → AllWhole ys
whole-right [] ys w = w
whole-right (r ∷ xs) ys w = whole-right xs ys w.1

-- ---- in another order

vars-order : {xs ys : List Room} → Reordered xs ys → vars_of xs ≡ vars_of ys
unfolding vars_of
vars-order Reordered.none = refl
vars-order (Reordered.keep {r} o) = ap (max (nvars r.poly)) (vars-order o)
vars-order Reordered.swap = omega arith
vars-order (Reordered.again o u) = vars-order o ∙ vars-order u

whole-order : {xs ys : List Room} → Reordered xs ys → AllWhole xs → AllWhole ys
whole-order Reordered.none w = w
whole-order (Reordered.keep o) w = (w.0, whole-order o w.1)
whole-order Reordered.swap w = (w.1.0, (w.0, w.1.1))
whole-order (Reordered.again o u) w = whole-order u (whole-order o w)

-- a variable that a polynomial lacks has limit 1
lim-gone : (r : Room) → Whole r.poly r.numbers → (k : ℕ) → k < 4 → nvars r.poly ≤ k → lim r.poly k ≡ 1
lim-gone r w k l = (ruled-at w.regular.rules k l).gone

limit-swap : (v w x k l m n : ℕ) → (v ≤ k → l ≡ 1) → (w ≤ k → m ≡ 1)
    → min_limit v (max w x) k l (min_limit w x k m n) ≡ min_limit w (max v x) k m (min_limit v x k l n)
limit-swap v w x k l m n p q =
    let e : max v w ≡ max w v = omega arith in
    sym (limit-assoc v w x k l m n)
    ∙ ap₂ (λ (a b : ℕ). min_limit a x k b n) e (limit-comm v w k l m p q)
    ∙ limit-assoc w v x k m l n

limit_order : {xs ys : List Room} → Reordered xs ys → AllWhole xs → (k : ℕ) → k < 4 → limit_of k xs ≡ limit_of k ys
unfolding limit_of vars_of
limit_order Reordered.none w k l = refl
limit_order (Reordered.keep {r} o) w k l =
    ap₂ (λ (n m : ℕ). min_limit (nvars r.poly) n k (lim r.poly k) m) (vars-order o) (limit_order o w.1 k l)
limit_order (Reordered.swap {r} {s} {xs}) w k l =
    limit-swap (nvars r.poly) (nvars s.poly) (vars_of xs) k (lim r.poly k) (lim s.poly k) (limit_of k xs)
    (lim-gone r w.0 k l) (lim-gone s w.1.0 k l)
limit_order (Reordered.again o u) w k l = limit_order o w k l ∙ limit_order u (whole-order o w) k l

caps-order : {xs ys : List Room} → Reordered xs ys → caps_of xs ≡ caps_of ys
unfolding caps_of
caps-order Reordered.none = refl
caps-order (Reordered.keep {r} o) = ap (min_cap r.poly.cap) (caps-order o)
caps-order (Reordered.swap {r} {s} {xs}) =
    sym (cap-assoc r.poly.cap s.poly.cap (caps_of xs))
    ∙ ap (λ (c : ℕ). min_cap c (caps_of xs)) (cap-comm r.poly.cap s.poly.cap)
    ∙ cap-assoc s.poly.cap r.poly.cap (caps_of xs)
caps-order (Reordered.again o u) = caps-order o ∙ caps-order u

times-left : {A B : Series} (C : Series) → ((k : List ℕ) → A k ≡ B k) → (k : List ℕ) → times A C k ≡ times B C k
times-left {A} {B} C h k = times-same A C B C k (λ j w. rw (h j))

times-order : {xs ys : List Room} → Reordered xs ys → (k : List ℕ) → times_of xs k ≡ times_of ys k
unfolding times_of
times-order Reordered.none k = refl
times-order (Reordered.keep {r} o) k = times-right (series r.poly r.numbers) (times-order o) k
times-order (Reordered.swap {r} {s} {xs}) k =
    let A : Series = series r.poly r.numbers in
    let B : Series = series s.poly s.numbers in
    sym (times-assoc A B (times_of xs) k) ∙ times-left (times_of xs) (times-comm A B) k ∙ times-assoc B A (times_of xs) k
times-order (Reordered.again o u) k = times-order o k ∙ times-order u k

sizes-order : {xs ys : List Room} → Reordered xs ys → sizes xs ≡ sizes ys
unfolding sizes
sizes-order Reordered.none = refl
sizes-order (Reordered.keep {r} o) = ap (λ (n : ℕ). least1 r.poly r.numbers * n) (sizes-order o)
sizes-order (Reordered.swap {r} {s} {xs}) =
    let x : ℕ = least1 r.poly r.numbers in
    let y : ℕ = least1 s.poly s.numbers in
    sym (mul_assoc x y (sizes xs)) ∙ ap (λ (n : ℕ). n * sizes xs) (mul_comm x y) ∙ mul_assoc y x (sizes xs)
sizes-order (Reordered.again o u) = sizes-order o ∙ sizes-order u

-- ---- a department

-- its header, and its series under its limits and its cap
record Built (p : Capped) (xs : List Room) : Type 0 where
  vars : nvars p ≡ vars_of xs
  limits : (k : ℕ) → k < 4 → lim p k ≡ limit_of k xs
  cap : p.cap ≡ caps_of xs
  numbers : ℕ → ℤ
  whole : Whole p numbers
  agrees : Agree (Reach p.value.head p.cap) (series p numbers) (times_of xs)
  light : size p numbers ≤ sizes xs

limit-alone : (v k l : ℕ) → (v ≤ k → l ≡ 1) → l ≡ min_limit v 0 k l 1
unfolding min_limit
limit-alone v k l h = decide (ltb k v) (λ t. rw (t, le-ltb k 0 (omega arith))) (λ t. rw t (h (ltb-false k v t)))

cap-alone : (c : ℕ) → c ≡ min_cap c 0
unfolding min_cap
cap-alone c = decide (eqb c 0) (λ t. rw t (eqb-true c 0 t)) (λ t. rw t)

built-alone : (r : Room) → Whole r.poly r.numbers → Built r.poly (r ∷ [])
unfolding vars_of limit_of caps_of times_of sizes
built-alone r w = record {
  vars = omega arith;
  limits = λ k l. limit-alone (nvars r.poly) k (lim r.poly k) (lim-gone r w k l);
  cap = cap-alone r.poly.cap;
  numbers = r.numbers;
  whole = w;
  agrees = agree_same (λ k. sym (times-one (series r.poly r.numbers) k));
  light = rw (mul-one (least1 r.poly r.numbers)) (omega arith);
}

-- two departments in one: W11's law of a product, and what it leaves under its limits and its cap
module _ {p q : Capped} {xs ys : List Room} (u : Built p xs) (v : Built q ys) (bound : sizes xs * sizes ys ≤ 2 ^ 51) where
  weighs : size p u.numbers * size q v.numbers ≤ sizes xs * sizes ys
  weighs = mul-le-mul u.light v.light

  both-made : Made (product p q) (times (series p u.numbers) (series q v.numbers)) (size p u.numbers * size q v.numbers)
  both-made = product-made p q u.whole v.whole (omega (arith, weighs, bound))

  both-times : Agree (Reach (product p q).value.head (product p q).cap) (times (series p u.numbers) (series q v.numbers)) (times_of (xs ++ ys))
  both-times =
      let h = product-heads p q in
      agree_then (agree-times reach-down (agree_less (reach-left h) u.agrees) (agree_less (reach-right h) v.agrees))
      (agree_same (λ k. sym (times-both xs ys k)))

  built-both : Built (product p q) (xs ++ ys)
  built-both =
      let h = product-heads p q in
      let m = both-made in
      record {
        vars = h.vars ∙ ap₂ max u.vars v.vars ∙ sym (vars-both xs ys);
        limits = λ k l.
            heads-at h k l
            ∙ ap₂ (λ (a b : ℕ). min_limit a b k (lim p k) (lim q k)) u.vars v.vars
            ∙ ap₂ (min_limit (vars_of xs) (vars_of ys) k) (u.limits k l) (v.limits k l)
            ∙ sym (limit-both k xs ys);
        cap = h.cap ∙ ap₂ min_cap u.cap v.cap ∙ sym (caps-both xs ys);
        numbers = m.numbers;
        whole = m.whole;
        agrees = agree_then m.agrees both-times;
        light = rw (sizes-both xs ys) (le_trans m.light weighs);
      }

-- a part's size is at most the whole's
part_left : (x y : ℕ) → 1 ≤ y → x ≤ x * y
part_left x y h = let e : x * 1 ≤ x * y = mul-le-mul (le_refl x) h in omega (arith, e, mul-one x)

part_right : (x y : ℕ) → 1 ≤ x → y ≤ x * y
part_right x y h = rw (mul_comm x y) (part_left y x h)

-- the bound of a part
module _ (xs ys : List Room) (w : AllWhole (xs ++ ys)) (b : sizes (xs ++ ys) ≤ 2 ^ 51) where
  bound-both : sizes xs * sizes ys ≤ 2 ^ 51
  bound-both = rw (sizes-both xs ys) at b

  bound-left : sizes xs ≤ 2 ^ 51
  bound-left = le_trans (part_left (sizes xs) (sizes ys) (sizes-one ys)) bound-both

  bound-right : sizes ys ≤ 2 ^ 51
  bound-right = le_trans (part_right (sizes xs) (sizes ys) (sizes-one xs)) bound-both

built : (t : Grouped) → AllWhole (rooms t) → sizes (rooms t) ≤ 2 ^ 51 → Built (department t) (rooms t)
unfolding department rooms
built (Grouped.alone r) w b = built-alone r w.0
built (Grouped.both s t) w b =
    let xs = rooms s in
    let ys = rooms t in
    built-both (built s (whole-left xs ys w) (bound-left xs ys w b)) (built t (whole-right xs ys w) (bound-right xs ys w b)) (bound-both xs ys w b)

-- ---- the order of rooms

length-order : {xs ys : List Room} → Reordered xs ys → length xs ≡ length ys
length-order Reordered.none = refl
length-order (Reordered.keep o) = ap suc (length-order o)
length-order Reordered.swap = refl
length-order (Reordered.again o u) = length-order o ∙ length-order u

length_both : (xs ys : List Room) → length (xs ++ ys) ≡ length xs + length ys
length_both [] ys = omega arith
length_both (r ∷ xs) ys = rw (length_both xs ys) (omega arith)

some-room : (t : Grouped) → 1 ≤ length (rooms t)
unfolding rooms
some-room (Grouped.alone r) = omega arith
some-room (Grouped.both s t) = rw (length_both (rooms s) (rooms t)) (omega (arith, some-room s, some-room t))

-- one room has no other order
no_room : {xs ys : List Room} → Reordered xs ys → xs ≡ [] → ys ≡ []
no_room Reordered.none e = refl
no_room (Reordered.keep o) e = absurd (let f = ap length e in omega arith)
no_room Reordered.swap e = absurd (let f = ap length e in omega arith)
no_room (Reordered.again o u) e = no_room u (no_room o e)

one-room : {xs ys : List Room} {r : Room} → Reordered xs ys → xs ≡ r ∷ [] → ys ≡ r ∷ []
one-room Reordered.none e = e
one-room (Reordered.keep {r = q} o) e =
    let f : _ ≡ [] = ap (drop 1) e in
    ap (λ (ys : List Room). q ∷ ys) (no_room o f ∙ sym f) ∙ e
one-room Reordered.swap e = absurd (let f = ap length e in omega arith)
one-room (Reordered.again o u) e = one-room u (one-room o e)

same_self : {p : Capped} {a : ℕ → ℤ} → Whole p a → Same p p
same_self w = record { vars = refl; limits = refl; cap = refl; at = λ k f i. (whole-eq (wholes-at w.wholes k) (wholes-at w.wholes k)).1 refl }

-- two departments of two parts each
module _ {p q p' q' : Capped} {xs ys xs' ys' : List Room} (u : Built p xs) (v : Built q ys) (u' : Built p' xs') (v' : Built q' ys')
    (o : Reordered (xs ++ ys) (xs' ++ ys')) (w : AllWhole (xs ++ ys)) (b : sizes xs * sizes ys ≤ 2 ^ 51) (b' : sizes xs' * sizes ys' ≤ 2 ^ 51) where
  parts_same : Same (product p q) (product p' q')
  parts_same =
      let x = built-both u v b in
      let y = built-both u' v' b' in
      let e : Alike (product p q) (product p' q') =
      record {
        vars = x.vars ∙ vars-order o ∙ sym y.vars;
        limits = same-limits (product-heads p q) (product-heads p' q') (λ k l. x.limits k l ∙ limit_order o w k l ∙ sym (y.limits k l));
        cap = x.cap ∙ caps-order o ∙ sym y.cap;
      } in
      alike_same e (both-made u v b) (both-made u' v' b')
      (agree_then (both-times u v b) (agree_then (agree_same (times-order o)) (agree-back (agree_less (alike-reach e) (both-times u' v' b')))))

-- any order, any grouping: limits, cap and every coefficient under the limits are the same
pub rooms_in_any-order : (s t : Grouped) → Reordered (rooms s) (rooms t) → AllWhole (rooms s) → sizes (rooms s) ≤ 2 ^ 51
    → Same (department s) (department t)
unfolding department rooms
rooms_in_any-order (Grouped.alone r) (Grouped.alone q) o w b =
    let e : q ≡ r = ap (λ (xs : List Room). get_or xs 0 r) (one-room o refl) in
    subst (λ (x : Room). Same r.poly x.poly) (sym e) (same_self w.0)
rooms_in_any-order (Grouped.alone r) (Grouped.both s t) o w b =
    absurd (let l = length-order o in omega (arith, length_both (rooms s) (rooms t), some-room s, some-room t))
rooms_in_any-order (Grouped.both s t) (Grouped.alone r) o w b =
    absurd (let l = length-order o in omega (arith, length_both (rooms s) (rooms t), some-room s, some-room t))
rooms_in_any-order (Grouped.both s t) (Grouped.both s' t') o w b =
    let xs = rooms s in
    let ys = rooms t in
    let xs' = rooms s' in
    let ys' = rooms t' in
    let w' = whole-order o w in
    let b' : sizes (xs' ++ ys') ≤ 2 ^ 51 = rw (sizes-order o) at b in
    parts_same
    (built s (whole-left xs ys w) (bound-left xs ys w b))
    (built t (whole-right xs ys w) (bound-right xs ys w b))
    (built s' (whole-left xs' ys' w') (bound-left xs' ys' w' b'))
    (built t' (whole-right xs' ys' w') (bound-right xs' ys' w' b'))
    o w (bound-both xs ys w b) (bound-both xs' ys' w' b')

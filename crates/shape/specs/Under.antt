-- A header under another: the same variables, limits and cap, no length above the other's. Under smaller lengths every
-- family announces no more.
-- With the law that a result's true header is under the announced one, this is what a run's steps need of one another.
use Rattle.std.specs.Prelude.{ℕ, ◌-◌, ◌*◌, ◌≤◌, ◌<◌, min, Bool, true, false, cond, ◌≡◌, refl, ltb, eqb}
use Rattle.std.proofs.Common.{sym, ap, ◌∙◌, arith, mul-le-mul, le_refl, le_trans, lit<, eqb-true, eq-eqb, ltb-true}
use Rattle.lists.specs.Test.{of-both, of-each, decide}
use Rattle.lists.specs.Four.{at, at-four}
use Rattle.model.specs.declared.Header.{Header}
use Rattle.model.specs.declared.Family.{Family}
use Rattle.model.specs.declared.Family.TheVariants.{Constant, Same, Sum, Product, Quotient, Series, Power, Shift, Substitution, Term, Order, One}
use Rattle.model.specs.Header.{header, limit, len, no_header, span, stored}
use Rattle.model.specs.Limits.{min_degrees_p1}
use Rattle.model.specs.Cap.{cap_after}
use Rattle.model.specs.Announced.{limit_after, length_after, single, paired, announced}
use Rattle.shape_words.specs.Rules.{Ruled, ruled-at}
use Rattle.shape.specs.Limits.{min_degrees-range}

pub record Under (t a : Header) : Type 0 where
  pub vars : t.vars ≡ a.vars
  pub limits : t.limits ≡ a.limits
  pub most : (k : ℕ) → k < 4 → len t k ≤ len a k
  pub cap : t.cap ≡ a.cap

pub under_same : (h : Header) → Under h h
under_same h = record { vars = refl; limits = refl; most = λ k l. le_refl _; cap = refl }

pub under_then : {t a b : Header} → Under t a → Under a b → Under t b
under_then p q =
    record {
      vars = p.vars ∙ q.vars;
      limits = p.limits ∙ q.limits;
      most = λ k l. le_trans (p.most k l) (q.most k l);
      cap = p.cap ∙ q.cap;
    }

pub count_under : {t a : Header} → Under t a → stored t ≤ stored a
unfolding span
count_under p =
    mul-le-mul (p.most 0 (lit< tt)) (mul-le-mul (p.most 1 (lit< tt)) (mul-le-mul (p.most 2 (lit< tt)) (mul-le-mul (p.most 3 (lit< tt)) (le_refl 1))))

-- what a family's length is made from, each no more than the other's
record Rise (l q t u p a b : ℕ) : Type 0 where
  t1 : 1 ≤ t
  u1 : 1 ≤ u
  most : t ≤ l
  qp : q ≤ p
  ta : t ≤ a
  ub : u ≤ b

-- 1, or less, where the test of the smaller holds; l, which nothing passes, where it does not
step-up : {l x t u b y : ℕ} → 1 ≤ u → u ≤ b → t ≤ y → t ≤ l → y ≡ x → cond (eqb u 1) t l ≤ cond (eqb b 1) x l
step-up {l} {x} {t} {u} {b} {y} p q r m e =
    decide (eqb b 1)
    (λ h. rw (h, eq-eqb u 1 (let k = eqb-true b 1 h in omega arith)) (omega arith))
    (λ h. rw h (of-both (λ z. z ≤ l) (eqb u 1) m (le_refl l)))

over : {q u p b : ℕ} → q ≤ p → u ≤ b → (q - 1) * (u - 1) ≤ (p - 1) * (b - 1)
over {q} {u} {p} {b} h k = let x : q - 1 ≤ p - 1 = omega arith in let y : u - 1 ≤ b - 1 = omega arith in mul-le-mul x y

length_rises : (f : Family) (k : ℕ) {l q t u p a b : ℕ} → Rise l q t u p a b → length_after f k l q t u ≤ length_after f k l p a b
length_rises Constant k r = le_refl 1
length_rises Same k r = r.ta
length_rises Sum k r = omega arith
length_rises Product k r = omega arith
length_rises Quotient k r = step-up r.u1 r.ub r.ta r.most refl
length_rises Series k r = step-up r.t1 r.ta (le_refl 1) (omega arith) refl
length_rises (Power e) k {t = t} {a = a} r = let x : t - 1 ≤ a - 1 = omega arith in omega (arith, mul-le-mul (le_refl e) x)
length_rises (Shift v n) k r = of-each ◌≤◌ (eqb k v) (omega arith) r.ta
length_rises (Substitution v) k r = let m = over r.qp r.ub in of-each ◌≤◌ (eqb k v) (omega arith) (omega arith)
length_rises (Term v) k r = of-each ◌≤◌ (eqb k v) (le_refl 1) r.ta
length_rises (Order v n) k r = of-each ◌≤◌ (eqb k v) (omega arith) r.ta
length_rises One k r = le_refl 1

-- a shift's length does not ask whether it is under the lowered limit
single_rises : (f : Family) (k : ℕ) {l t a : ℕ} → 1 ≤ t → t ≤ l → t ≤ a → length_after f k (limit_after f k l) 1 t 1 ≤ length_after f k
    (limit_after f k l) 1 a 1
single_rises Constant k p m h = le_refl 1
single_rises Same k p m h = h
single_rises Sum k p m h = omega arith
single_rises Product k p m h = omega arith
single_rises Quotient k p m h = h
single_rises Series k p m h = length_rises Series k (record { t1 = p; u1 = le_refl 1; most = m; qp = le_refl 1; ta = h; ub = le_refl 1 })
single_rises (Power e) k {l} {t} {a} p m h =
    length_rises (Power e) k {l =
    l} (record { t1 = p; u1 = le_refl 1; most = m; qp = le_refl 1; ta = h; ub = le_refl 1 })
single_rises (Shift v n) k p m h = of-each ◌≤◌ (eqb k v) (omega arith) h
single_rises (Substitution v) k {l} p m h =
    length_rises (Substitution v) k {l =
    l} (record { t1 = p; u1 = le_refl 1; most = m; qp = le_refl 1; ta = h; ub = le_refl 1 })
single_rises (Term v) k p m h = of-each ◌≤◌ (eqb k v) (le_refl 1) h
single_rises (Order v n) k p m h = of-each ◌≤◌ (eqb k v) (omega arith) h
single_rises One k p m h = le_refl 1

single-under : (f : Family) {t a : Header} → Ruled t → Under t a → Under (single f t) (single f a)
unfolding single
single-under f {t} {a} g u =
    record {
      vars = u.vars;
      limits = simp u.limits;
      most =
          λ k h. rw (
            at-four (λ k. length_after f k (limit_after f k (limit t k)) 1 (len t k) 1) k h,
            at-four (λ k. length_after f k (limit_after f k (limit a k)) 1 (len a k) 1) k h,
          )
          (rw (← u.limits) (single_rises f k (ruled-at g k h).pos (ruled-at g k h).fit (u.most k h)));
      cap = ap (cap_after f) u.cap;
    }

same-limits : {t a u b : Header} → Under t a → Under u b → min_degrees_p1 t u ≡ min_degrees_p1 a b
unfolding min_degrees_p1
same-limits p q = simp (p.vars, p.limits, q.vars, q.limits)

cut_rise : {l q t u p a b : ℕ} → 1 ≤ l → 1 ≤ t → 1 ≤ u → q ≤ p → t ≤ a → u ≤ b → Rise l q (min l t) (min l u) p (min l a) (min l b)
cut_rise n x y h i j = record { t1 = omega arith; u1 = omega arith; most = omega arith; qp = h; ta = omega arith; ub = omega arith }

paired-under : (f : Family) {q p : ℕ} {t a u b : Header} → q ≤ p → Ruled t → Ruled u → Under t a → Under u b → Under (paired f q t u) (paired f p a b)
unfolding paired
paired-under f {q} {p} {t} {a} {u} {b} le g h x y =
    let e : min_degrees_p1 t u ≡ min_degrees_p1 a b = same-limits x y in
    record {
      vars = simp (x.vars, y.vars);
      limits = e;
      most =
          λ k lt. rw (
            at-four (λ k. length_after f k (at (min_degrees_p1 t u) k) q
                (min (at (min_degrees_p1 t u) k) (len t k)) (min (at (min_degrees_p1 t u) k) (len u k))) k lt,
            at-four (λ k. length_after f k (at (min_degrees_p1 a b) k) p (min (at (min_degrees_p1 a b) k) (len a k)) (min
                (at (min_degrees_p1 a b) k) (len b k))) k lt,
          )
          (rw (← e) (length_rises f k (cut_rise (min_degrees-range t u g h k lt).lo (ruled-at g k lt).pos
          (ruled-at h k lt).pos le (x.most k lt) (y.most k lt))));
      cap = simp (x.cap, y.cap);
    }

-- two choices by one test
under_choice : {b c : Bool} {x y x' y' : Header} → b ≡ c → (b ≡ true → Under x x') → Under y y' → Under (cond b x y) (cond c x' y')
under_choice {b} {c} {x} {y} {x'} {y'} e f g =
    decide b (λ t. let s : c ≡ true = sym e ∙ t in rw (t, s) (f t)) (λ t. let s : c ≡ false = sym e ∙ t in rw (t, s) g)

-- every family, t and u the smaller
pub announced-under : (f : Family) {t a u b : Header} → Ruled t → Ruled u → Under t a → Under u b → Under (announced f t u) (announced f a b)
unfolding announced
announced-under Constant g h p q = under_same no_header
announced-under Same g h p q = single-under Same g p
announced-under Sum g h p q = paired-under Sum (le_refl 1) g h p q
announced-under Product g h p q = paired-under Product (le_refl 1) g h p q
announced-under Quotient g h p q = paired-under Quotient (le_refl 1) g h p q
announced-under Series g h p q = single-under Series g p
announced-under (Power e) g h p q = of-each Under (eqb e 0) (under_same no_header) (single-under (Power e) g p)
announced-under (Shift v n) g h p q = single-under (Shift v n) g p
announced-under (Substitution v) {t} {a} g h p q =
    under_choice (ap (ltb v) p.vars) (λ e. paired-under (Substitution v) (p.most v (let l = ltb-true v t.vars e in omega (arith, g.few))) g h p q) p
announced-under (Term v) g h p q = single-under (Term v) g p
announced-under (Order v n) g h p q = single-under (Order v n) g p
announced-under One g h p q = single-under One g p

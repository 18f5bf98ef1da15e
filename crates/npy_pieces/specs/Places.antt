-- Places of a text and what is left of it there.
use Rattle.std.specs.Prelude.{ℕ, ◌+◌, ◌-◌, ◌*◌, ◌≤◌, ◌<◌, List, [], ◌∷◌, Bool, true, false, cond, ◌≡◌, eqb, length, get_or, drop}
use Rattle.std.proofs.Math.Path.{sym, ap}
use Rattle.std.proofs.Common.{◌∙◌, arith, add-one, drop_of_length-le, drop-cons, eq-eqb, ne_eqb}
use Rattle.std.proofs.Math.Seq.{drop-length}
use Rattle.npy_grammar.specs.Text.{is_blank, is_lead, is_space, is_digit}
use Rattle.npy_grammar.specs.Reading.{strip, eat, eats, peek, past_number, cap, digits_at, number_at}

-- the classes of bytes by number
unfoldable pub passes : ℕ → ℕ → Bool
passes c b = cond (eqb c 0) (is_blank b) (cond (eqb c 1) (is_lead b) (cond (eqb c 2) (is_space b) (is_digit b)))

-- at the place p of t, l is left
pub record At (t : List ℕ) (p : ℕ) (l : List ℕ) : Type 0 where
  pub most : p ≤ length t
  pub left : drop p t ≡ l

module _ (t : List ℕ) where
  pub at_end : At t (length t) []
  at_end = record { most = omega arith; left = drop-length t }

  pub here : (p : ℕ) → p < length t → drop p t ≡ get_or t p 0 ∷ drop (p + 1) t
  here p h = rw (add-one p) (drop-cons t p 0 h)

  pub nothing : (p : ℕ) → length t ≤ p → drop p t ≡ []
  nothing p h = drop_of_length-le t h

  pub peek-here : (p : ℕ) → p < length t → get_or t p 0 ≡ peek (drop p t)
  peek-here p h = sym (ap peek (here p h))

  pub peek_end : (p : ℕ) → length t ≤ p → 0 ≡ peek (drop p t)
  peek_end p h = sym (ap peek (nothing p h))

  -- runs
  module _ (f : ℕ → Bool) where
    pub strip_pass : (p : ℕ) → p < length t → f (get_or t p 0) ≡ true → strip f (drop p t) ≡ strip f (drop (p + 1) t)
    unfolding strip
    strip_pass p h e = ap (strip f) (here p h) ∙ rw e

    pub strip_halt : (p : ℕ) → p < length t → f (get_or t p 0) ≡ false → strip f (drop p t) ≡ drop p t
    unfolding strip
    strip_halt p h e = ap (strip f) (here p h) ∙ rw e (sym (here p h))

    pub strip-none : (p : ℕ) → length t ≤ p → strip f (drop p t) ≡ drop p t
    unfolding strip
    strip-none p h = ap (strip f) (nothing p h) ∙ sym (nothing p h)

  -- a byte
  pub eat-here : (p x : ℕ) → p < length t → get_or t p 0 ≡ x → At t (p + 1) (eat x (drop p t))
  unfolding eat
  eat-here p x h e = record { most = omega arith; left = sym (ap (eat x) (here p h) ∙ rw (eq-eqb (get_or t p 0) x e)) }

  pub eat-other : (p x : ℕ) → p < length t → (get_or t p 0 ≡ x → ⊥) → At t (length t) (eat x (drop p t))
  unfolding eat
  eat-other p x h e = record { most = omega arith; left = at_end.left ∙ sym (ap (eat x) (here p h) ∙ rw (ne_eqb (get_or t p 0) x e)) }

  pub eat-past : (p x : ℕ) → length t ≤ p → At t (length t) (eat x (drop p t))
  unfolding eat
  eat-past p x h = record { most = omega arith; left = at_end.left ∙ sym (ap (eat x) (nothing p h)) }

  -- a word, of which k bytes are past
  pub record Eating (w : List ℕ) (l : List ℕ) (k p : ℕ) : Type 0 where
    pub most : k ≤ length w
    pub inside : p ≤ length t
    pub left : eats w l ≡ eats (drop k w) (drop p t)

  -- numbers
  pub past-nought : (p : ℕ) → p < length t → get_or t p 0 ≡ 48 → At t (p + 1) (past_number (drop p t))
  unfolding past_number
  past-nought p h e = record { most = omega arith; left = sym (ap past_number (here p h) ∙ rw (eq-eqb (get_or t p 0) 48 e)) }

  module _ (p : ℕ) (h : p < length t) (e : get_or t p 0 ≡ 48 → ⊥) where
    pub past-digits : {r : ℕ} → is_digit (get_or t p 0) ≡ true → At t r (strip is_digit (drop (p + 1) t)) → At t r (past_number (drop p t))
    unfolding past_number
    past-digits d a = record { most = a.most; left = a.left ∙ sym (ap past_number (here p h) ∙ rw (ne_eqb (get_or t p 0) 48 e, d)) }

    pub past-other : is_digit (get_or t p 0) ≡ false → At t (length t) (past_number (drop p t))
    unfolding past_number
    past-other d = record { most = omega arith; left = at_end.left ∙ sym (ap past_number (here p h) ∙ rw (ne_eqb (get_or t p 0) 48 e, d)) }

  pub past-none : (p : ℕ) → length t ≤ p → At t (length t) (past_number (drop p t))
  unfolding past_number
  past-none p h = record { most = omega arith; left = at_end.left ∙ sym (ap past_number (nothing p h)) }

  -- the value of digits, of which those before k are past
  pub record Counting (x : ℕ) (k n : ℕ) : Type 0 where
    pub inside : k ≤ length t
    pub small : n ≤ 255
    pub left : x ≡ digits_at n (drop k t)

  pub counting_more : {x k n m : ℕ} → Counting x k n → k < length t → is_digit (get_or t k 0) ≡ true → m ≡ cap (10 * n +
      (get_or t k 0 - 48)) → Counting x (k + 1) m
  unfolding digits_at
  counting_more {x} {k} {n} c h d e =
      record { inside = omega arith; small = omega (arith, e); left = c.left ∙ (ap (digits_at n) (here k h) ∙ rw (d, e)) }

  pub counting-stop : {x k n : ℕ} → Counting x k n → k < length t → is_digit (get_or t k 0) ≡ false → n ≡ x
  unfolding digits_at
  counting-stop {x} {k} {n} c h d = sym (c.left ∙ (ap (digits_at n) (here k h) ∙ rw d))

  pub counting_end : {x k n : ℕ} → Counting x k n → length t ≤ k → n ≡ x
  unfolding digits_at
  counting_end {x} {k} {n} c h = sym (c.left ∙ ap (digits_at n) (nothing k h))

  pub value-nought : (p : ℕ) → p < length t → get_or t p 0 ≡ 48 → 0 ≡ number_at (drop p t)
  unfolding number_at
  value-nought p h e = sym (ap number_at (here p h) ∙ rw (eq-eqb (get_or t p 0) 48 e))

  pub value-digits : (p : ℕ) {r b : ℕ} → p < length t → (get_or t p 0 ≡ 48 → ⊥) → b ≡ get_or t p 0 - 48 → r ≡ digits_at b (drop (p + 1) t) →
      r ≡ number_at (drop p t)
  unfolding number_at
  value-digits p {r} {b} h e q d = d ∙ (ap (λ (y : ℕ). digits_at y (drop (p + 1) t)) q ∙ sym (ap number_at (here p h) ∙ rw (ne_eqb (get_or t p 0) 48 e)))

  pub value_none : (p : ℕ) → length t ≤ p → 0 ≡ number_at (drop p t)
  unfolding number_at
  value_none p h = sym (ap number_at (nothing p h))

pub eating-more : {t w l : List ℕ} {k p q : ℕ} → Eating t w l k p → k < length w → At t q (eat (get_or w k 0) (drop p t)) → Eating t w l (k + 1) q
unfolding eats
eating-more {t} {w} {l} {k} {p} c h a =
    record {
      most = omega arith;
      inside = a.most;
      left = c.left
          ∙ (ap (λ (y : List ℕ). eats y (drop p t)) (here w k h) ∙ ap (eats (drop (k + 1) w)) (sym a.left));
    }

pub eating_end : {t w l : List ℕ} {k p : ℕ} → Eating t w l k p → length w ≤ k → At t p (eats w l)
unfolding eats
eating_end {t} {w} {l} {k} {p} c h = record { most = c.inside; left = sym (c.left ∙ ap (λ (y : List ℕ). eats y (drop p t)) (nothing w k h)) }

-- a run, of which those before k are past
pub record Passed (t : List ℕ) (f : ℕ → Bool) (l : List ℕ) (k : ℕ) : Type 0 where
  pub inside : k ≤ length t
  pub left : strip f l ≡ strip f (drop k t)

module _ {t : List ℕ} {f : ℕ → Bool} {l : List ℕ} {k : ℕ} (c : Passed t f l k) where
  pub passed-more : k < length t → f (get_or t k 0) ≡ true → Passed t f l (k + 1)
  passed-more h e = record { inside = omega arith; left = c.left ∙ strip_pass t f k h e }

  pub passed-stop : k < length t → f (get_or t k 0) ≡ false → At t k (strip f l)
  passed-stop h e = record { most = c.inside; left = sym (c.left ∙ strip_halt t f k h e) }

  pub passed_end : length t ≤ k → At t k (strip f l)
  passed_end h = record { most = c.inside; left = sym (c.left ∙ strip-none t f k h) }

-- one piece after the other
pub then : {t l : List ℕ} {q r : ℕ} (f : List ℕ → List ℕ) → At t q l → At t r (f (drop q t)) → At t r (f l)
then f a b = record { most = b.most; left = b.left ∙ ap f a.left }

-- The pieces are read exactly: what is taken stands there (sound), and what stands there is taken (complete).
use Rattle.std.specs.Prelude.{ℕ, zero, suc, ◌+◌, ◌-◌, ◌*◌, ◌≤◌, ◌<◌, min, Bool, true, false, ◌&&◌, ◌||◌, cond, ◌≡◌, leb, eqb, length, get_or}
use mathlib.Core.List.{List, [], ◌∷◌, ◌++◌, append_assoc}
use Rattle.std.proofs.Math.Path.{refl}
use Rattle.std.proofs.Common.{sym, ap, ◌∙◌, arith, eqb-true, leb-true}
use Rattle.std.proofs.lemmas.Bool.{eqb-false}
use Rattle.lists.specs.Test.{decide, and_left, and_right}
use Rattle.npy_grammar.specs.Text.{all, Run, is_digit, is_blank, Number, nought, counted, number_text, number_value, digits_value}
use Rattle.npy_grammar.specs.Reading.{strip, eat, eats, peek, past_number, cap, digits_at, number_at}

abbrev pub Some : List ℕ → Type 0
Some t = 0 < length t

pub no-some : {A : Type 0} → Some [] → A
no-some h = absurd (omega (arith, h))

-- ---- runs

-- the bytes at the front that pass
unfoldable pub front : (ℕ → Bool) → List ℕ → List ℕ
front f [] = []
front f (b ∷ t) = cond (f b) (b ∷ front f t) []

module _ (f : ℕ → Bool) where
  pub front-only : (t : List ℕ) → all f (front f t) ≡ true
  unfolding front all
  front-only [] = refl
  front-only (b ∷ t) = decide (f b) (λ e. rw (e, e) (front-only t)) (λ e. rw e)

  abbrev pub front_run : List ℕ → Run f
  front_run t = record { bytes = front f t; only = front-only t }

  -- sound: a run and what is left
  pub strip-sound : (t : List ℕ) → t ≡ front f t ++ strip f t
  unfolding front strip
  strip-sound [] = refl
  strip-sound (b ∷ t) = decide (f b) (λ e. rw e (ap (λ (l : List ℕ). b ∷ l) (strip-sound t))) (λ e. rw e)

  -- complete: a run is passed over
  pub strip-complete : (bs u : List ℕ) → all f bs ≡ true → strip f (bs ++ u) ≡ strip f u
  unfolding strip all
  strip-complete [] u h = refl
  strip-complete (b ∷ bs) u h = rw (and_left (f b) (all f bs) h) (strip-complete bs u (and_right (f b) (all f bs) h))

  pub strip-stop : (b : ℕ) (u : List ℕ) → f b ≡ false → strip f (b ∷ u) ≡ b ∷ u
  unfolding strip
  strip-stop b u h = rw h

  pub strip-run : (r : Run f) (b : ℕ) (u : List ℕ) → f b ≡ false → strip f (r.bytes ++ (b ∷ u)) ≡ b ∷ u
  strip-run r b u h = strip-complete r.bytes (b ∷ u) r.only ∙ strip-stop b u h

-- ---- bytes and words

pub eat-sound : (x : ℕ) (t : List ℕ) → Some (eat x t) → t ≡ x ∷ eat x t
unfolding eat
eat-sound x [] h = no-some h
eat-sound x (b ∷ t) h = decide (eqb b x) (λ e. rw (e, eqb-true b x e)) (λ e. no-some (rw e at h))

pub eat-some : (x : ℕ) (t : List ℕ) → Some (eat x t) → Some t
eat-some x t h = let e = ap length (eat-sound x t h) in omega (arith, e)

pub eat-complete : (x : ℕ) (u : List ℕ) → eat x (x ∷ u) ≡ u
unfolding eat
eat-complete x u = decide (eqb x x) (λ e. rw e) (λ e. absurd (eqb-false x x e refl))

pub eats-some : (w t : List ℕ) → Some (eats w t) → Some t
unfolding eats
eats-some [] t h = h
eats-some (x ∷ w) t h = eat-some x t (eats-some w (eat x t) h)

pub eats-sound : (w t : List ℕ) → Some (eats w t) → t ≡ w ++ eats w t
unfolding eats
eats-sound [] t h = refl
eats-sound (x ∷ w) t h = eat-sound x t (eats-some w (eat x t) h) ∙ ap (λ (l : List ℕ). x ∷ l) (eats-sound w (eat x t) h)

pub eats-complete : (w u : List ℕ) → eats w (w ++ u) ≡ u
unfolding eats
eats-complete [] u = refl
eats-complete (x ∷ w) u = rw (eat-complete x (w ++ u)) (eats-complete w u)

-- ---- numbers

-- no digit at the front
abbrev pub Ended : List ℕ → Type 0
Ended u = is_digit (peek u) ≡ false

pub strip-ended : (f : ℕ → Bool) (u : List ℕ) → f (peek u) ≡ false → strip f u ≡ u
unfolding strip
strip-ended f [] h = refl
strip-ended f (b ∷ u) h = rw h

front-ended : (f : ℕ → Bool) (bs u : List ℕ) → all f bs ≡ true → f (peek u) ≡ false → front f (bs ++ u) ≡ bs
unfolding front all
front-ended f [] [] h e = refl
front-ended f [] (b ∷ u) h e = rw e
front-ended f (b ∷ bs) u h e = rw (and_left (f b) (all f bs) h) (ap (λ (l : List ℕ). b ∷ l) (front-ended f bs u (and_right (f b) (all f bs) h) e))

cap-step : (n d : ℕ) → cap (10 * cap n + d) ≡ cap (10 * n + d)
cap-step n d = omega arith

-- the value that is kept, 65 for all above
capped : (n : ℕ) (t : List ℕ) → digits_at (cap n) t ≡ cap (digits_value n (front is_digit t))
unfolding digits_at digits_value front
capped n [] = refl
capped n (b ∷ t) =
    decide (is_digit b)
    (λ e. rw (e, cap-step n (b - 48)) (capped (10 * n + (b - 48)) t))
    (λ e. rw e)

digit-cap : (b : ℕ) → is_digit b ≡ true → cap (b - 48) ≡ b - 48
unfolding is_digit
digit-cap b h = omega (arith, leb-true b 57 (and_right (leb 48 b) (leb b 57) h))

-- the number n stands before u, and x is its value, 65 for all above
pub record NumberRead (t u : List ℕ) (x : ℕ) : Type 0 where
  pub number : Number
  pub text : t ≡ number_text number u
  pub value : x ≡ cap (number_value number)

pub number-sound : (t : List ℕ) → Some (past_number t) → NumberRead t (past_number t) (number_at t)
unfolding past_number number_at number_text number_value
number-sound [] h = no-some h
number-sound (b ∷ t) h =
    decide (eqb b 48)
    (λ e. record { number = nought; text = rw (e, eqb-true b 48 e); value = rw e })
    (λ e.
    decide (is_digit b)
    (λ d. record {
      number = counted b d e (front_run is_digit t);
      text = rw (e, d) (ap (λ (l : List ℕ). b ∷ l) (strip-sound is_digit t));
      value = rw e (ap (λ (n : ℕ). digits_at n t) (sym (digit-cap b d)) ∙ capped (b - 48) t);
    })
    (λ d. no-some (rw (e, d) at h)))

pub number_past : (n : Number) (u : List ℕ) → Ended u → past_number (number_text n u) ≡ u
unfolding past_number number_text
number_past nought u e = refl
number_past (counted d p q r) u e = rw (q, p) (strip-complete is_digit r.bytes u r.only ∙ strip-ended is_digit u e)

pub number_value_lem : (n : Number) (u : List ℕ) → Ended u → number_at (number_text n u) ≡ cap (number_value n)
unfolding number_at number_text number_value
number_value_lem nought u e = refl
number_value_lem (counted d p q r) u e =
    rw q
    (ap (λ (n : ℕ). digits_at n (r.bytes ++ u)) (sym (digit-cap d p))
    ∙ (capped (d - 48) (r.bytes ++ u)
    ∙ ap (λ (l : List ℕ). cap (digits_value (d - 48) l)) (front-ended is_digit r.bytes u r.only e)))

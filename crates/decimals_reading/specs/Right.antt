-- Which texts are read, and as what: some digits, or some digits, a point and some digits, in their number as the
-- definition has it; and no others.
use Rattle.std.specs.Prelude.{Some, None, ℕ, ◌^◌, ◌≤◌, Bool, true, false, not, ◌&&◌, ◌||◌, cond, List, [], ◌∷◌, ◌++◌, ◌≡◌, refl, leb, eqb, length, Float}
use Rattle.std.proofs.Common.{true≢false, sym, ap, ◌∙◌, arith, eqb-true, ne_eqb, leb-true, le-leb}
use Rattle.std.specs.Float.{binary64}
use Rattle.std.specs.Float.Ieee.{round}
use Rattle.lists.specs.Test.{decide, and_left, and_right}
use Rattle.model_decimals.specs.Typed.{before, has_point, behind, is_digit, all_digits, some_digits, significant, digits_value, is_typed, read_text}
use Rattle.decimals_reading.specs.Significant.{digit-most}
use Rattle.decimals_reading.specs.Exactly.{no-point-behind, some-all, behind-digits}

-- a point and digits, or nothing at all
unfoldable pub pointed : List ℕ → List ℕ
pointed [] = []
pointed (b ∷ t) = 46 ∷ (b ∷ t)

pub record Right (t : List ℕ) : Type 0 where
  pub whole : List ℕ
  pub part : List ℕ
  pub is : t ≡ whole ++ pointed part
  pub some : some_digits whole ≡ true
  pub digits : all_digits part ≡ true
  pub few : length (significant (whole ++ part)) ≤ 15
  pub places : length part ≤ 22

-- ---- a right text is cut where it was joined
digit_no-point : (b : ℕ) → is_digit b ≡ true → eqb b 46 ≡ false
digit_no-point b d = let k = digit-most b d in ne_eqb b 46 (λ e. omega (arith, k.0, e))

record Cut (t ds es : List ℕ) (p : Bool) : Type 0 where
  front : before t ≡ ds
  point : has_point t ≡ p
  back : behind t ≡ es

cut-more : (b : ℕ) (t ds es : List ℕ) (p : Bool) → is_digit b ≡ true → Cut t ds es p → Cut (b ∷ t) (b ∷ ds) es p
unfolding before has_point behind
cut-more b t ds es p d c =
    let e = digit_no-point b d in
    record { front = rw e (ap (λ (l : List ℕ). b ∷ l) c.front); point = rw e c.point; back = rw e c.back }

cut-none : (ds : List ℕ) → all_digits ds ≡ true → Cut (ds ++ []) ds [] false
unfolding before has_point behind all_digits
cut-none [] d = record { front = refl; point = refl; back = refl }
cut-none (b ∷ ds) d =
    cut-more b (ds ++ []) ds [] false (and_left (is_digit b) (all_digits ds) d) (cut-none ds (and_right (is_digit b) (all_digits ds) d))

cut-point : (ds es : List ℕ) → all_digits ds ≡ true → Cut (ds ++ (46 ∷ es)) ds es true
unfolding before has_point behind all_digits
cut-point [] es d = record { front = refl; point = refl; back = refl }
cut-point (b ∷ ds) es d =
    cut-more b (ds ++ (46 ∷ es)) ds es true (and_left (is_digit b) (all_digits ds) d) (cut-point ds es (and_right (is_digit b) (all_digits ds) d))

-- ---- every right text is read
cut-read : (t ds es : List ℕ) (p : Bool) → Cut t ds es p → some_digits ds ≡ true → (not p || some_digits es) ≡ true
    → leb (length (significant (ds ++ es))) 15 ≡ true → leb (length es) 22 ≡ true
    → read_text t ≡ Some (round binary64 false (digits_value 0 (ds ++ es)) (10 ^ length es))
unfolding read_text is_typed
cut-read t ds es p c s q f l = rw (c.front, c.point, c.back, s, q, f, l)

pub read-joined : (ds es : List ℕ) → some_digits ds ≡ true → all_digits es ≡ true → length (significant (ds ++ es)) ≤ 15 → length es ≤ 22
    → read_text (ds ++ pointed es) ≡ Some (round binary64 false (digits_value 0 (ds ++ es)) (10 ^ length es))
unfolding pointed some_digits
read-joined ds [] s e f l = cut-read (ds ++ []) ds [] false (cut-none ds (some-all ds s)) s refl (le-leb _ _ f) refl
read-joined ds (b ∷ es) s e f l =
    cut-read (ds ++ (46 ∷ (b ∷ es))) ds (b ∷ es) true (cut-point ds (b ∷ es) (some-all ds s)) s e (le-leb _ _ f) (le-leb _ _ l)

pub read_right : (t : List ℕ) (r : Right t) → read_text t ≡ Some (round binary64 false (digits_value 0 (r.whole ++ r.part)) (10 ^ length r.part))
read_right t r = ap read_text r.is ∙ read-joined r.whole r.part r.some r.digits r.few r.places

-- ---- and nothing else is
joined-again : (t : List ℕ) → t ≡ before t ++ cond (has_point t) (46 ∷ behind t) []
unfolding before has_point behind
joined-again [] = refl
joined-again (b ∷ t) = decide (eqb b 46) (λ p. rw (p, eqb-true b 46 p)) (λ p. rw p (ap (λ (l : List ℕ). b ∷ l) (joined-again t)))

pointed-some : (u : List ℕ) → some_digits u ≡ true → 46 ∷ u ≡ pointed u
unfolding pointed some_digits
pointed-some [] h = absurd (true≢false (sym h))
pointed-some (b ∷ u) h = refl

pointed-again : (t : List ℕ) → (not (has_point t) || some_digits (behind t)) ≡ true → cond (has_point t) (46 ∷ behind t) [] ≡ pointed (behind t)
unfolding pointed
pointed-again t h = decide (has_point t) (λ p. rw p (pointed-some (behind t) (rw p at h))) (λ p. rw (p, no-point-behind t p))

typed-right : (t : List ℕ) → is_typed t ≡ true → Right t
unfolding is_typed
typed-right t h =
    let shape = and_left (some_digits (before t) && (not (has_point t) || some_digits (behind t))) _ h in
    let counts = and_right (some_digits (before t) && (not (has_point t) || some_digits (behind t))) _ h in
    let back = and_right (some_digits (before t)) (not (has_point t) || some_digits (behind t)) shape in
    record {
      whole = before t;
      part = behind t;
      is = joined-again t ∙ ap (λ (l : List ℕ). before t ++ l) (pointed-again t back);
      some = and_left (some_digits (before t)) (not (has_point t) || some_digits (behind t)) shape;
      digits = behind-digits t back;
      few = leb-true _ _ (and_left (leb (length (significant (before t ++ behind t))) 15) (leb (length (behind t)) 22) counts);
      places = leb-true _ _ (and_right (leb (length (significant (before t ++ behind t))) 15) (leb (length (behind t)) 22) counts);
    }

pub only-right : (t : List ℕ) (x : Float) → read_text t ≡ Some x → Right t
unfolding read_text
only-right t x e =
    decide (is_typed t)
    (typed-right t)
    (λ n. let h : None ≡ Some x = rw n at e in let y : ◌≡◌ {A = ℕ} 0 1 = cc in absurd (omega (arith, y)))

pub refused_else : (t : List ℕ) → (Right t → ⊥) → read_text t ≡ None
unfolding read_text
refused_else t h = decide (is_typed t) (λ y. absurd (h (typed-right t y))) (λ n. rw n)

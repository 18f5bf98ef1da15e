-- What the loops over an argument carry, and which way a test went.
use Rattle.std.specs.Prelude.{Some, None, ℕ, ◌+◌, ◌-◌, ◌*◌, ◌≤◌, ◌<◌, Bool, true, false}
use Rattle.std.specs.Prelude.{◌&&◌, cond, List, ◌≡◌, Float, length, get_or, zero, suc, [], ◌∷◌, drop, refl}
use Rattle.std.proofs.Common.{sym, ap, arith, ◌∙◌, length-drop, get_or-drop}
use Rattle.std.proofs.Math.Dec.{leb, eqb}
use Rattle.std.specs.Float.{binary64}
use Rattle.std.specs.Float.Ieee.{to_bits}
use borrow.Author.Tests.{eqb-true, eq-eqb, ne_eqb, lt-ltb, le-ltb}
use Rattle.std.proofs.lemmas.Bool.{eqb-false}
use Rattle.std.specs.List.{list_all}
use Rattle.std.specs.Cmp.Lexicographic.{pointwise}
use Rattle.lists.specs.Bytes.{bytes}
use Rattle.lists.specs.Every.{every, every-same}
use Rattle.lists.specs.Test.{of-both, decide}
use Rattle.model_texts.specs.Hex.{digit_at, word_at, is_digit}
use Rattle.model_decimals.specs.Results.{Read}
use Rattle.model_decimals.specs.Typed.{read_text}
use Rattle.settings_command.specs.Argument.{is_decimal, is_number, is_bits, is_text, pushed, call_of, number_of}
use Rattle.settings_command.specs.Sentence.{meaning, refusal_text, unread_text}
use Rattle.settings_command.specs.Argument.{says, says_nothing, whole_of, chance_read, chance_of}
use Rattle.settings_command.specs.declared.asked.Call.TheVariants.{Fresh, Departments, Versions, Save, Back}

-- a test of each place, over a list one longer
every-suc : (f : ℕ → Bool) (n p : ℕ) → every f n (suc p) ≡ every (λ q. f (suc q)) n p
unfolding every
every-suc f zero p = refl
every-suc f (suc n) p = rw (every-suc f n (suc p))

-- a test that every element passes, place by place
pub all-every : (f : ℕ → Bool) (t : List ℕ) → list_all f t ≡ every (λ p. f (get_or t p 0)) (length t) 0
unfolding every
all-every f [] = refl
all-every f (x ∷ xs) = rw (every-suc (λ p. f (get_or (x ∷ xs) p 0)) (length xs) 0, all-every f xs)

swapped : (e l v : Bool) → (e && (l && v)) ≡ (l && (e && v))
swapped true l v = refl
swapped false true v = refl
swapped false false v = refl

suc-eqb : (a b : ℕ) → eqb (suc a) (suc b) ≡ eqb a b
suc-eqb a b =
    decide (eqb a b) (λ t. eq-eqb (suc a) (suc b) (ap suc (eqb-true a b t)) ∙ sym t)
    (λ t. ne_eqb (suc a) (suc b) (λ e. eqb-false a b t (omega (arith, e))) ∙ sym t)

-- two texts compared, head by head
pub text-compare : (t u : List ℕ) → pointwise eqb t u ≡ is_text t u
unfolding every is_text
text-compare [] [] = refl
text-compare [] (y ∷ ys) = rw (ne_eqb 0 (suc (length ys)) (λ e. absurd (omega (arith, e))))
text-compare (x ∷ xs) [] = rw (ne_eqb (suc (length xs)) 0 (λ e. absurd (omega (arith, e))))
text-compare (x ∷ xs) (y ∷ ys) =
    rw (suc-eqb (length xs) (length ys), every-suc (λ p. eqb (get_or (x ∷ xs) p 0) (get_or (y ∷ ys) p 0)) (length xs) 0, text-compare xs ys)
    (swapped (eqb x y) (eqb (length xs) (length ys)) (every (λ p. eqb (get_or xs p 0) (get_or ys p 0)) (length xs) 0))

-- the digits behind the first two bytes
digits-behind : (t : List ℕ) → every (λ p. is_digit (get_or (drop 2 t) p 0)) 16 0 ≡ every (digit_at t) 16 2
digits-behind t =
    every-same (λ p. is_digit (get_or (drop 2 t) p 0)) (λ q. digit_at t (suc (suc q))) 16 0
    (λ q a b. let e : 2 + q ≡ suc (suc q) = omega arith in
    ap is_digit (get_or-drop 2 t q 0 ∙ ap (λ (j : ℕ). get_or t j 0) e))
    ∙ sym (every-suc (digit_at t) 16 1 ∙ every-suc (λ q. digit_at t (suc q)) 16 0)

module _ (t : List ℕ) where
  pub bits-short : (length t ≡ 18 → ⊥) → false ≡ is_bits t
  unfolding is_bits
  bits-short h = rw (ne_eqb _ _ h)

  pub bits-other :
      length t ≡ 18 → (eqb (get_or t 0 0) 48 && eqb (get_or t 1 0) 120) ≡ false
      → (eqb (get_or t 0 0) 48 && eqb (get_or t 1 0) 120) ≡ is_bits t
  unfolding is_bits
  bits-other h e = rw (eq-eqb _ _ h, e)

  pub bits_are :
      {r : Bool} → length t ≡ 18 → (eqb (get_or t 0 0) 48 && eqb (get_or t 1 0) 120) ≡ true
      → r ≡ list_all is_digit (drop 2 t) → r ≡ is_bits t
  unfolding is_bits
  bits_are h e f =
      let n : length (drop 2 t) ≡ 16 = simp length-drop (omega arith) in
      let all : list_all is_digit (drop 2 t) ≡ every (λ p. is_digit (get_or (drop 2 t) p 0)) 16 0 =
      all-every is_digit (drop 2 t) ∙ ap (λ (k : ℕ). every (λ p. is_digit (get_or (drop 2 t) p 0)) k 0) n in
      rw (eq-eqb _ _ h, e) (f ∙ (all ∙ digits-behind t))

  pub number-long :
      (leb 1 (length t) && leb (length t) 18) ≡ false → (leb 1 (length t) && leb (length t) 18) ≡ is_number t
  unfolding is_number
  number-long h = rw h

  pub number_is :
      {r : Bool} → (leb 1 (length t) && leb (length t) 18) ≡ true → r ≡ list_all (λ b. is_decimal b) t → r ≡ is_number t
  unfolding is_number
  number_is h e = rw h (e ∙ all-every (λ b. is_decimal b) t)

  pub whole-nothing : is_number t ≡ false → says_nothing ≡ whole_of t
  unfolding whole_of
  whole-nothing h = rw h

  pub whole_says : {n : ℕ} → is_number t ≡ true → n ≡ number_of t → says n ≡ whole_of t
  unfolding whole_of
  whole_says h e = rw h (ap says e)

  pub chance-bits : {n : ℕ} → is_bits t ≡ true → n ≡ word_at t 2 → says n ≡ chance_of t
  unfolding chance_of
  chance-bits h e = rw h (ap says e)

  pub chance-typed :
      {r : Read} {x : Float} {n : ℕ} → is_bits t ≡ false → r ≡ read_text t → r ≡ Some x → n ≡ to_bits binary64 x
      → says n ≡ chance_of t
  unfolding chance_of chance_read
  chance-typed {r} h e f g = rw (h, ← e, f) (ap says g)

  pub chance-refused : {r : Read} → is_bits t ≡ false → r ≡ read_text t → r ≡ None → says_nothing ≡ chance_of t
  unfolding chance_of chance_read
  chance-refused {r} h e f = rw (h, ← e, f)

-- which name it was: the tests before it failed
module _ (t : List ℕ) (n : ℕ) where
  abbrev pub starts_fresh : Bool
  starts_fresh = is_text t (bytes "fresh") && eqb n 3

  abbrev pub is_list : Bool
  is_list = is_text t (bytes "list") && eqb n 3

  abbrev pub is_versions : Bool
  is_versions = is_text t (bytes "versions") && eqb n 4

  abbrev pub is_save : Bool
  is_save = is_text t (bytes "save") && eqb n 8

  abbrev pub is_back : Bool
  is_back = is_text t (bytes "back") && eqb n 6

  pub call_1 : starts_fresh ≡ true → Some Fresh ≡ call_of t n
  unfolding call_of
  call_1 a = rw a

  pub call_2 : starts_fresh ≡ false → is_list ≡ true → Some Departments ≡ call_of t n
  unfolding call_of
  call_2 a b = rw (a, b)

  pub call_3 : starts_fresh ≡ false → is_list ≡ false → is_versions ≡ true → Some Versions ≡ call_of t n
  unfolding call_of
  call_3 a b c = rw (a, b, c)

  pub call_4 : starts_fresh ≡ false → is_list ≡ false → is_versions ≡ false → is_save ≡ true → Some Save ≡ call_of t n
  unfolding call_of
  call_4 a b c d = rw (a, b, c, d)

  pub call-5 :
      starts_fresh ≡ false → is_list ≡ false → is_versions ≡ false → is_save ≡ false → is_back ≡ true → Some Back ≡ call_of t n
  unfolding call_of
  call-5 a b c d e = rw (a, b, c, d, e)

  pub call-0 :
      starts_fresh ≡ false → is_list ≡ false → is_versions ≡ false → is_save ≡ false → is_back ≡ false → None ≡ call_of t n
  unfolding call_of
  call-0 a b c d e = rw (a, b, c, d, e)

-- the folder's part of a name
module _ (b k n : ℕ) where
  pub slash-yes : b ≡ 47 → k ≡ cond (eqb b 47) k n
  slash-yes h = rw (eq-eqb b 47 h)

  pub slash_no : (b ≡ 47 → ⊥) → n ≡ cond (eqb b 47) k n
  slash_no h = rw (ne_eqb b 47 h)

pub slash-most : (b k : ℕ) {n r : ℕ} → r ≡ cond (eqb b 47) (k + 1) n → n ≤ k → r ≤ k + 1
slash-most b k {n} {r} e h = rw e (of-both (λ (m : ℕ). m ≤ k + 1) (eqb b 47) (omega arith) (omega arith))

pub pushed-small : (b n : ℕ) {d : ℕ} → d ≡ b - 48 → n < 100000000000000000 → 10 * n + d ≡ pushed b n
unfolding pushed
pushed-small b n e h = rw (lt-ltb _ _ h, e)

pub pushed_large : (b n : ℕ) → 100000000000000000 ≤ n → n ≡ pushed b n
unfolding pushed
pushed_large b n h = rw (le-ltb _ _ h)

-- a number of no case
module _ (n : ℕ) where
  pub meaning-rest :
      (n ≡ 3 → ⊥) → (n ≡ 4 → ⊥) → (n ≡ 13 → ⊥) → (n ≡ 14 → ⊥) → (n ≡ 15 → ⊥)
      → bytes "these are not a store's words: the file was damaged, or is something else." ≡ meaning n
  unfolding meaning
  meaning-rest a b c d e = rw (ne_eqb n 3 a, ne_eqb n 4 b, ne_eqb n 13 c, ne_eqb n 14 d, ne_eqb n 15 e)

  pub unread-rest : (n ≡ 1 → ⊥) → (n ≡ 2 → ⊥) → (n ≡ 4 → ⊥) → refusal_text 18 ≡ unread_text n
  unfolding unread_text
  unread-rest a b c = rw (ne_eqb n 1 a, ne_eqb n 2 b, ne_eqb n 4 c)

-- Blocks with the same lengths: each place of one is the same place of the other.
use Rattle.std.specs.Prelude.{ℕ, ◌≤◌, List, [], ◌∷◌, Bool, true, false, ◌&&◌, ◌≡◌, refl, eqb, length, get_or, take, Float}
use Rattle.std.proofs.Common.{sym, ap, ◌∙◌, arith, eqb-true}
use Rattle.std.proofs.Math.Seq.{take-length}
use Rattle.std.specs.Float.{nan}
use Rattle.lists.specs.Test.{and_left, and_right}
use Rattle.std.specs.Cmp.Lexicographic.{pointwise}
use Rattle.lists.specs.Four.{at, four}
use Rattle.lists.specs.Table.{table, table_same, table-take}
use Rattle.model.specs.Header.{count}
use Rattle.model.specs.Places.{place, index}
use Rattle.model.specs.Poly.{block, read_at}
use Rattle.shape_words.specs.Lengths.{count-is}
use Rattle.shape_words.specs.Places.{horner, place-index}

unfoldable pub same_lengths : List ℕ → List ℕ → Bool
same_lengths n m = ((eqb (at n 0) (at m 0) && eqb (at n 1) (at m 1)) && eqb (at n 2) (at m 2)) && eqb (at n 3) (at m 3)

-- four numbers are all of such a list
all_four : (l : List ℕ) → length l ≡ 4 → l ≡ four (at l)
all_four (a ∷ b ∷ c ∷ d ∷ []) h = refl
all_four [] h = absurd (omega (arith, h))
all_four (a ∷ []) h = absurd (omega (arith, h))
all_four (a ∷ b ∷ []) h = absurd (omega (arith, h))
all_four (a ∷ b ∷ c ∷ []) h = absurd (omega (arith, h))
all_four (a ∷ b ∷ c ∷ d ∷ e ∷ l) h = absurd (omega (arith, h))

all-and : (a b c d : Bool) → (a && (b && (c && (d && true)))) ≡ (((a && b) && c) && d)
all-and true true true true = refl
all-and true true true false = refl
all-and true true false d = refl
all-and true false c d = refl
all-and false b c d = refl

-- `==` of such lists
pub same-pointwise : (n m : List ℕ) → length n ≡ 4 → length m ≡ 4 → pointwise eqb n m ≡ same_lengths n m
unfolding same_lengths
same-pointwise n m p q =
    let t : ℕ → Bool = λ k. eqb (at n k) (at m k) in
    ap (λ (l : List ℕ). pointwise eqb l m) (all_four n p)
    ∙ (ap (λ (l : List ℕ). pointwise eqb (four (at n)) l) (all_four m q) ∙ all-and (t 0) (t 1) (t 2) (t 3))

pub record Same (n m : List ℕ) : Type 0 where
  pub s0 : at n 0 ≡ at m 0
  pub s1 : at n 1 ≡ at m 1
  pub s2 : at n 2 ≡ at m 2
  pub s3 : at n 3 ≡ at m 3

pub same-is : (n m : List ℕ) → same_lengths n m ≡ true → Same n m
unfolding same_lengths
same-is n m h =
    let t : ℕ → Bool = λ k. eqb (at n k) (at m k) in
    let h2 = and_left ((t 0 && t 1) && t 2) (t 3) h in
    let h1 = and_left (t 0 && t 1) (t 2) h2 in
    record {
      s0 = eqb-true _ _ (and_left (t 0) (t 1) h1);
      s1 = eqb-true _ _ (and_right (t 0) (t 1) h1);
      s2 = eqb-true _ _ (and_right (t 0 && t 1) (t 2) h2);
      s3 = eqb-true _ _ (and_right ((t 0 && t 1) && t 2) (t 3) h);
    }

pub same_count : {n m : List ℕ} → Same n m → count n ≡ count m
same_count {n} {m} e = rw (count-is n, count-is m, e.s0, e.s1, e.s2, e.s3)

pub same_place : {n m : List ℕ} → Same n m → (k : ℕ) → place n (index m k) ≡ k
same_place {n} {m} e k = horner n (index m k) ∙ (rw (e.s1, e.s2, e.s3) (sym (horner m (index m k))) ∙ place-index m k)

-- what is cut out is the front, or all
pub cut-front : (n c : List ℕ) (a : List Float) → Same n c → count c ≤ length a → take (count c) a ≡ table (count c) (λ k. read_at (block n a) (index c k))
cut-front n c a e h =
    sym (table-take nan a (count c) h) ∙ table_same _ _ (count c) (λ k l. ap (λ (p : ℕ). get_or a p nan) (sym (same_place e k)))

pub cut_all : (n c : List ℕ) (a : List Float) → Same n c → length a ≡ count n → table (count c) (λ k. read_at (block n a) (index c k)) ≡ a
cut_all n c a e h =
    let l : count c ≡ length a = sym (h ∙ same_count e) in
    sym (cut-front n c a e (omega arith)) ∙ (ap (λ (k : ℕ). take k a) l ∙ take-length a)

-- The ring laws of series truncated by box and cap (document 02, W11): truncated at every step, in whatever regions
-- that hold the last one.
use Rattle.std.specs.Prelude.{◌≡◌, List, ℕ, ◌+ℤ◌}
use Rattle.std.proofs.Math.IntN.{+ℤ_comm, +ℤ_assoc}
use Rattle.model_textbook.specs.Textbook.{Series, plus, times}
use Rattle.laws_whole.specs.SeriesLaws.{times-comm, times-assoc, times-plus}
use Rattle.laws_truncation.specs.Agree.{agree_same, agree_self, agree-back, agree_then, agree-plus, agree-times}
use Rattle.laws_truncation.specs.Caps.{Region, region-down, cut_to, cut-agrees, cut-same}

abbrev pub times_in : List ℕ → ℕ → Series → Series → Series
times_in l c A B = cut_to l c (times A B)

abbrev pub plus_in : List ℕ → ℕ → Series → Series → Series
plus_in l c A B = cut_to l c (plus A B)

module _ (A B C : Series) where
  pub plus_assoc : (k : List ℕ) → plus (plus A B) C k ≡ plus A (plus B C) k
  unfolding plus
  plus_assoc k = +ℤ_assoc (A k) (B k) (C k)

  pub times_spread : (k : List ℕ) → times A (plus B C) k ≡ plus (times A B) (times A C) k
  unfolding plus
  times_spread = times-plus A B C

module _ (l : List ℕ) (c : ℕ) (A B : Series) where
  pub times_commutes : (k : List ℕ) → times_in l c A B k ≡ times_in l c B A k
  times_commutes = cut-same l c (agree_same (times-comm A B))

  pub plus_commutes : (k : List ℕ) → plus_in l c A B k ≡ plus_in l c B A k
  unfolding plus
  plus_commutes = cut-same l c (agree_same (λ k. +ℤ_comm (A k) (B k)))

-- the regions l, c of the result, and those of the inner results, which hold it
module _ (l : List ℕ) (c : ℕ) (l1 : List ℕ) (c1 : ℕ) (l2 : List ℕ) (c2 : ℕ) (A B C : Series)
    (in1 : (k : List ℕ) → Region l c k → Region l1 c1 k) (in2 : (k : List ℕ) → Region l c k → Region l2 c2 k) where
  pub times_associates : (k : List ℕ) → times_in l c (times_in l1 c1 A B) C k ≡ times_in l c A (times_in l2 c2 B C) k
  times_associates =
      let d = region-down l c in
      cut-same l c
      (agree_then (agree-times d (cut-agrees l1 c1 (times A B) in1) agree_self)
      (agree_then (agree_same (times-assoc A B C))
      (agree-times d agree_self (agree-back (cut-agrees l2 c2 (times B C) in2)))))

  pub plus_associates : (k : List ℕ) → plus_in l c (plus_in l1 c1 A B) C k ≡ plus_in l c A (plus_in l2 c2 B C) k
  plus_associates =
      cut-same l c
      (agree_then (agree-plus (cut-agrees l1 c1 (plus A B) in1) agree_self)
      (agree_then (agree_same (plus_assoc A B C))
      (agree-plus agree_self (agree-back (cut-agrees l2 c2 (plus B C) in2)))))

  pub times_distributes : (l3 : List ℕ) (c3 : ℕ) → ((k : List ℕ) → Region l c k → Region l3 c3 k) → (k : List ℕ)
      → times_in l c A (plus_in l1 c1 B C) k ≡ plus_in l c (times_in l2 c2 A B) (times_in l3 c3 A C) k
  times_distributes l3 c3 in3 =
      let d = region-down l c in
      cut-same l c
      (agree_then (agree-times d agree_self (cut-agrees l1 c1 (plus B C) in1))
      (agree_then (agree_same (times_spread A B C))
      (agree-plus (agree-back (cut-agrees l2 c2 (times A B) in2)) (agree-back (cut-agrees l3 c3 (times A C) in3)))))

-- Two operands in one buffer: one at its front, the other from the place n on.
use Rattle.std.specs.Prelude.{ℕ, ◌+◌, ◌≤◌, List, ◌++◌, ◌≡◌, refl, length, take, drop, Float}
use Rattle.std.proofs.Common.{ap, ◌∙◌, arith, length-append, length-drop, take_at, drop_at, take-take, length-take-le}
use Rattle.std.proofs.lemmas.List.{take-append-le}
use borrow.Rule.Slice.PartMut.{put_mid}
use Rattle.lists.specs.Table.{table, length-table}
use Rattle.model.specs.Header.{count}
use Rattle.model.specs.Places.{index}
use Rattle.model.specs.Limits.{cut_to}
use Rattle.model.specs.Poly.{block, read_at, cut}
use Rattle.shape_words.specs.Lengths.{Lengths}
use Rattle.blocks.specs.Rows.{Inner, Cutting}

-- the places of a block with the lengths n that lie inside the lengths c
abbrev pub cut_places : List ℕ → List ℕ → List Float → List Float
cut_places n c a = table (count c) (λ k. read_at (block n a) (index c k))

pub cut-is : (l n : List ℕ) (a : List Float) {c : List ℕ} → c ≡ cut_to l n → block c (cut_places n c a) ≡ cut l (block n a)
unfolding cut
cut-is l n a e = rw e

-- la and lb the operands' lengths, ca and cb those they are cut to; ma, mb and mw the lengths of the buffers
pub record Two (la ca lb cb : List ℕ) (n ma mb mw : ℕ) : Type 0 where
  pub left : Lengths la
  pub right : Lengths lb
  pub cut_a : Lengths ca
  pub cut_b : Lengths cb
  pub in_a : Inner la ca
  pub in_b : Inner lb cb
  pub full_a : count la ≤ ma
  pub full_b : count lb ≤ mb
  pub small_a : count ca ≤ n
  pub small_b : n + count cb ≤ mw

pub record Holds (n : ℕ) (xs ys work : List Float) : Type 0 where
  pub front : take (length xs) work ≡ xs
  pub back : take (length ys) (drop n work) ≡ ys

module _ {la ca lb cb : List ℕ} {n ma mb mw : ℕ} (t : Two la ca lb cb n ma mb mw) where
  pub cutting-a : {l : ℕ} → l ≡ count ca → Cutting la ca ma l
  cutting-a e = record { from = t.left; to = t.cut_a; inner = t.in_a; room = t.full_a; full = e }

  pub cutting-b : {l : ℕ} → l ≡ count cb → Cutting lb cb mb l
  cutting-b e = record { from = t.right; to = t.cut_b; inner = t.in_b; room = t.full_b; full = e }

-- both were stored, one after the other
holds-two : (n m : ℕ) (xs ys rest : List Float) → length xs ≤ n → n ≤ length (xs ++ rest) → Holds n xs ys (put_mid n m (xs ++ rest) ys)
holds-two n m xs ys rest p q =
    let t : length (take n (xs ++ rest)) ≡ n = length-take-le n (xs ++ rest) q in
    record {
      front =
          take-append-le (length xs) (take n (xs ++ rest)) _ (omega arith)
          ∙ (take-take (length xs) n (xs ++ rest) p ∙ take_at xs rest (length xs) refl);
      back = ap (take (length ys)) (drop_at (take n (xs ++ rest)) _ n t) ∙ take_at ys _ (length ys) refl;
    }

pub two-held : (la ca lb cb : List ℕ) {n ma mb ka : ℕ} (m : ℕ) (a b w : List Float) {xs ys : List Float}
    → Two la ca lb cb n ma mb (length w) → xs ≡ cut_places la ca a → ys ≡ cut_places lb cb b
    → ka ≡ count ca → Holds n (cut_places la ca a) (cut_places lb cb b) (put_mid n m (xs ++ drop ka w) ys)
two-held la ca lb cb {n} {ka = ka} m a b w {xs} {ys} t ex ey k =
    let l : length xs ≡ count ca = ap length ex ∙ length-table _ (count ca) in
    let p = t.small_a in
    let q = t.small_b in
    rw (← ex, ← ey) (holds-two n m xs ys (drop ka w) (omega arith) (simp (length-append, length-drop) (omega arith)))

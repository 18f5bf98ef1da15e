-- 17 (document 02, W10), looked for row by row: what a row says of the places of its block, and going on by a row.
use Rattle.std.specs.Prelude.{ℕ, zero, suc, ◌+◌, ◌-◌, ◌≤◌, ◌<◌, List, Bool, true, false, ◌&&◌, ◌||◌, ◌≡◌, refl, ltb, eqb, length, get_or, take, drop, Float}
use Rattle.std.proofs.Common.{ap, ap₂, ◌∙◌, arith, add-zero, zero-add, get_or-take, get_or-drop, length-take, length-drop, lt-ltb, le-ltb, eq-eqb, ne_eqb}
use Rattle.std.specs.Float.{nan, binary64}
use Rattle.std.specs.Float.Ieee.{to_bits}
use Rattle.lists.specs.Four.{at}
use Rattle.lists.specs.Every.{every, Passing, passing-none, passing-more, passing-stop}
use Rattle.model.specs.Header.{count}
use Rattle.model_caps.specs.Cap.{clean_place}
use Rattle.shape_words.specs.Lengths.{RowAt, sizes-of}
use Rattle.blocks.specs.Rows.{AtRow, at_row, row_fits}
use Rattle.blocks_mask.specs.Masks.{Masking, row-degree}

-- a place of a row whose numbers before the last add up to d
abbrev pub clean_along : ℕ → ℕ → List Float → ℕ → Bool
clean_along d c row k = ltb (d + k) c || eqb (to_bits binary64 (get_or row k nan)) 0

-- ---- one row

-- the places below the cap pass
pub clean-from : (d c n k : ℕ) (row : List Float) → k ≤ c - d → k ≤ n → Passing (clean_along d c row) n 0 k
clean-from d c n zero row h l = passing-none (clean_along d c row) n 0
clean-from d c n (suc k) row h l =
    let e : suc k ≡ k + 1 = omega arith in
    rw e (passing-more (clean-from d c n k row (omega arith) (omega arith)) (omega arith) (rw (zero-add k, lt-ltb (d + k) c (omega arith))))

-- past the cap the word w of a place decides
module _ (d c n : ℕ) (row : List Float) {k w : ℕ} (t : Passing (clean_along d c row) n 0 k) (l : k < n) (past : c ≤ d + k)
    (e : w ≡ to_bits binary64 (get_or row k nan)) where
  decides : clean_along d c row (0 + k) ≡ eqb w 0
  decides = rw (zero-add k, le-ltb (d + k) c past, e)

  pub word_more : w ≡ 0 → Passing (clean_along d c row) n 0 (k + 1)
  word_more z = passing-more t l (decides ∙ eq-eqb w 0 z)

  pub word-stop : (w ≡ 0 → ⊥) → every (clean_along d c row) n 0 ≡ false
  word-stop z = passing-stop t l (decides ∙ ne_eqb w 0 z)

-- ---- rows of a block

every-split : (f : ℕ → Bool) (n m p : ℕ) → every f (n + m) p ≡ (every f n p && every f m (p + n))
unfolding every
every-split f zero m p = rw (zero-add m, add-zero p)
every-split f (suc n) m p =
    let e : suc n + m ≡ suc (n + m) = omega arith in
    let g : suc p + n ≡ p + suc n = omega arith in
    ap (λ (x : ℕ). every f x p) e ∙ ap (λ (x : Bool). f p && x) (every-split f n m (suc p)) ∙ rw g (both (f p) (every f n (suc p)) _)
  where
    both : (x y z : Bool) → (x && (y && z)) ≡ ((x && y) && z)
    both true y z = refl
    both false y z = refl

every-moved : (f g : ℕ → Bool) (n p q : ℕ) → ((k : ℕ) → k < n → f (p + k) ≡ g (q + k)) → every f n p ≡ every g n q
unfolding every
every-moved f g zero p q h = refl
every-moved f g (suc n) p q h =
    ap₂ (λ (x y : Bool). x && y)
    (rw (add-zero p, add-zero q) at (h 0 (omega arith)))
    (every-moved f g n (suc p) (suc q) (λ k l.
    let e : (x : ℕ) → suc x + k ≡ x + suc k = λ x. omega arith in
    rw (e p, e q) (h (suc k) (omega arith))))

module _ (n : List ℕ) (c : ℕ) (a : List Float) (s : 0 < c) (q : Masking n (length a)) {p : ℕ} {i : List ℕ} (r : AtRow n p i)
    (t : Passing (clean_place c n a) (count n) 0 p) (h : p < count n) where
  pub clean-begins : RowAt n i
  clean-begins = at_row (sizes-of q.to) r h

  pub clean-small : at i 0 + at i 1 + at i 2 ≤ 192
  clean-small = let b = clean-begins.inside in let l = q.to in omega (arith, b, l)

  pub clean-fits : p + at n 3 ≤ count n
  clean-fits = row_fits (sizes-of q.to) r.begins h

  abbrev places : ℕ → Bool
  places = clean_place c n a

  abbrev row : ℕ → Bool
  row = clean_along (at i 0 + at i 1 + at i 2) c (take (at n 3) (drop p a))

  -- what the test of the row answers
  pub clean-told : {b : Bool} → b ≡ every (clean_along (at i 0 + at i 1 + at i 2) c (take (p + at n 3 - p) (drop p a)))
      (length (take (p + at n 3 - p) (drop p a))) 0 → b ≡ every row (at n 3) 0
  clean-told e =
      let k : p + at n 3 - p ≡ at n 3 = omega arith in
      let m : length (take (at n 3) (drop p a)) ≡ at n 3 = simp (length-take, length-drop) (omega (arith, q.full, clean-fits)) in
      (rw k at e) ∙ (rw m)

  place_is : (k : ℕ) → k < at n 3 → row k ≡ places (p + k)
  place_is k l =
      rw (row-degree n r k l, ne_eqb c 0 (λ e. omega arith), get_or-take (at n 3) (drop p a) k nan l, get_or-drop p a k nan)

  row_is : every row (at n 3) 0 ≡ every places (at n 3) p
  row_is = every-moved row places (at n 3) 0 p (λ k l. rw (zero-add k) (place_is k l))

  left : every places (count n) 0 ≡ (every row (at n 3) 0 && every places (count n - (p + at n 3)) (0 + (p + at n 3)))
  left =
      let e : count n - p ≡ at n 3 + (count n - (p + at n 3)) = omega (arith, clean-fits) in
      t.left
      ∙ rw (e, zero-add p, zero-add (p + at n 3), row_is) (every-split places (at n 3) (count n - (p + at n 3)) p)

  -- a row that is clean, and one that is not
  pub clean-more : every row (at n 3) 0 ≡ true → Passing places (count n) 0 (p + at n 3)
  clean-more e = record { most = clean-fits; left = left ∙ rw e }

  pub clean-stop : every row (at n 3) 0 ≡ false → every places (count n) 0 ≡ false
  clean-stop e = left ∙ rw e

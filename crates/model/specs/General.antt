-- REFERENCE 4.7. Document 01, port order 4, 'General': recursion on the first variable, j ascending; where the result
-- has exactly one length above 1, each place sums from +0.0 and is then added. One place of the result is the source's
-- `mul` seen from that place: an accumulator that goes through the variables.
-- A missing variable is padded with length 1 on every side: its walk takes the one step j = 0 and hands the accumulator
-- on as it is, and it is never the long one. So padding changes no rounded step.
-- lx, ly and r are the lengths of the left, the right and the result, k the index of the place; n variables are left,
-- from v on.
use Rattle.std.specs.Prelude.{ℕ, zero, suc, ◌+◌, ◌-◌, ◌*◌, min, List, Bool, not, ◌&&◌, cond, eqb, get_or, drop, Float}
use Rattle.std.specs.Float.{nan, binary64}
use Rattle.std.specs.Float.Ieee.{add, mul}
use Rattle.lists.specs.Table.{table}
use Rattle.lists.specs.Walk.{walk}
use Rattle.lists.specs.Four.{at}
use Rattle.model.specs.Header.{span, count}
use Rattle.model.specs.Places.{index}
use Rattle.model.specs.Refusals.{zero_f}

-- the first j and how many there are (the source's lo and hi - lo), for lengths n and m of the left and the right
abbrev pub lo : ℕ → ℕ → ℕ
lo m k = k + 1 - m

abbrev pub steps : ℕ → ℕ → ℕ → ℕ
steps n m k = min (k + 1) n - lo m k

-- the source's `mul_1d` at the place k
abbrev pub term : List Float → List Float → ℕ → ℕ → Float → Float
term xs ys k j acc = add binary64 acc (mul binary64 (get_or xs j nan) (get_or ys (k - j) nan))

unfoldable pub line : List Float → List Float → ℕ → ℕ → ℕ → Float
line xs ys n m k = walk (term xs ys k) (steps n m k) (lo m k) zero_f

-- the first variable left is the only one with a length above 1
unfoldable pub alone : List ℕ → ℕ → ℕ → Bool
alone r n v = not (eqb (at r v) 1) && eqb (span r n (suc v)) 1

unfoldable pub product_at : List ℕ → List ℕ → List ℕ → List ℕ → ℕ → ℕ → List Float → List Float → Float → Float
unfolding walk line span alone
product_at lx ly r k zero v xs ys acc = add binary64 acc (mul binary64 (get_or xs 0 nan) (get_or ys 0 nan))
product_at lx ly r k (suc n) v xs ys acc =
    cond (alone r n v)
    (add binary64 acc (line xs ys (at lx v) (at ly v) (at k v)))
    (walk (λ j a. product_at lx ly r k n (suc v) (drop (j * span lx n (suc v)) xs) (drop ((at k v - j) * span ly n (suc v)) ys) a)
    (steps (at lx v) (at ly v) (at k v)) (lo (at ly v) (at k v)) acc)

-- every place of a result with the lengths r
unfoldable pub general : List ℕ → List ℕ → List ℕ → List Float → List Float → List Float
general lx ly r xs ys = table (count r) (λ p. product_at lx ly r (index r p) 4 0 xs ys zero_f)

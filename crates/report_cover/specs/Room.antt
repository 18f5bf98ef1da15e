-- As many coefficients as a header says are enough for the places of its first variable.
use Rattle.std.specs.Prelude.{ℕ, ◌*◌, ◌≤◌}
use Rattle.std.proofs.Common.{arith, mul-le-mul, le_refl}
use Rattle.lists.specs.Four.{at}
use Rattle.model.specs.Header.{len, stored}
use Rattle.model.specs.Word.{header_of}
use Rattle.shape_words.specs.Lengths.{count-is}
use Rattle.report_figures.specs.Lines.{word-lengths}

one-most : (a b : ℕ) → 1 ≤ a → 1 ≤ b → 1 ≤ a * b
one-most a b p q = let m : 1 * 1 ≤ a * b = mul-le-mul p q in omega (arith, m)

self-most : (a b : ℕ) → 1 ≤ b → a ≤ a * b
self-most a b p = let m : a * 1 ≤ a * b = mul-le-mul (le_refl a) p in omega (arith, m)

pub first-room : (w : ℕ) → len (header_of w) 0 ≤ stored (header_of w)
first-room w =
    let n = (header_of w).lengths in
    let l = word-lengths w in
    let m = self-most (at n 0) (at n 1 * (at n 2 * at n 3)) (one-most (at n 1) (at n 2 * at n 3) l.p1 (one-most (at n 2) (at n 3) l.p2 l.p3)) in
    rw (count-is n) m

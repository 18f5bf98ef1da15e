-- The lengths that a header word says, and the loops that print.
use Rattle.std.specs.Prelude.{ℕ, ◌≤◌, List, ◌≡◌, length}
use Rattle.std.proofs.Common.{ap, arith}
use Rattle.model.specs.Word.{header_of}
use Rattle.shape_words.specs.Lengths.{Lengths}
use Rattle.report_lines.specs.Puts.{Puts}
use Rattle.report_figures.specs.Fill.{puts-is}

-- the lengths that a header word says, good or not
pub word-lengths : (w : ℕ) → Lengths (header_of w).lengths
unfolding header_of
word-lengths w =
    record {
      p0 = omega arith;
      p1 = omega arith;
      p2 = omega arith;
      p3 = omega arith;
      m0 = omega arith;
      m1 = omega arith;
      m2 = omega arith;
      m3 = omega arith;
    }

-- a loop that prints: after k of n turns
pub record Putting (text : List ℕ) (n k at : ℕ) (old new : List ℕ) (next : ℕ) : Type 0 where
  pub most : k ≤ n
  pub len : length new ≡ length old
  pub put : Puts text at old new next

pub putting_end : (text : ℕ → List ℕ) {n k at next : ℕ} {old new : List ℕ} → Putting (text k) n k at old new next → n ≤ k → Puts (text n) at old new next
putting_end text {n} {k} p h = let e : n ≡ k = omega (arith, p.most) in puts-is (ap text e) p.put

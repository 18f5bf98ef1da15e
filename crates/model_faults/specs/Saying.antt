-- REFERENCE 9. How a sentence is put together: phrases with numbers between them, a chain of tests each with what is
-- said where it fails, and the first place of a range that fails a test.
use Rattle.std.specs.Prelude.{ℕ, zero, suc, Bool, cond, List, ◌++◌}
use Prim.Native.String.{String}
use Rattle.lists.specs.Bytes.{bytes}
use Rattle.model_texts.specs.Report.{tell}

-- a phrase, a number, a phrase; and two numbers
abbrev pub say : String → ℕ → String → List ℕ
say s n e = tell s n ++ bytes e

abbrev pub say_two : String → ℕ → String → ℕ → String → List ℕ
say_two s n m k e = tell s n ++ say m k e

-- what follows where the test holds, else what is said of it
abbrev pub unless : Bool → List ℕ → List ℕ → List ℕ
unless b said next = cond b next said

-- the first of n places from p on that fails the test; p + n where none does
unfoldable pub first_not : (ℕ → Bool) → ℕ → ℕ → ℕ
first_not f zero p = p
first_not f (suc n) p = cond (f p) (first_not f n (suc p)) p

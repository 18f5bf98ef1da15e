-- The parts of a refusal's line: a number of at most three digits, and a byte behind it.
use Rattle.std.specs.Prelude.{ℕ, ◌+◌, ◌≤◌, ◌<◌, List, [], ◌∷◌, ◌++◌, length}
use Rattle.std.proofs.Common.{arith, length-append}
use Rattle.model_texts.specs.Printed.{decimal}
use Rattle.sheet_text.specs.Put.{Put, put-len, put_then}
use Rattle.sheet_text.specs.Decimal.{decimal-most}

pub record Part (n end at : ℕ) (old new : List ℕ) (next : ℕ) : Type 0 where
  pub put : Put at (decimal n ++ (end ∷ [])) old new next
  pub short : next ≤ at + 4

three-digits : (n : ℕ) → n < 256 → length (decimal n) ≤ 3
three-digits n h = decimal-most 3 n (omega arith) (omega arith) (omega arith)

pub part-fits : (n at m : ℕ) → n < 256 → at + 4 ≤ m → at + length (decimal n) ≤ m
part-fits n at m h l = omega (arith, three-digits n h)

pub part_byte : (n : ℕ) {at next : ℕ} {old new : List ℕ} → Put at (decimal n) old new next → n < 256 → at + 4 ≤ length old → next < length new
part_byte n p h l = omega (arith, p.behind, put-len p, three-digits n h)

pub part-made : (n end : ℕ) {at next r : ℕ} {old mid new : List ℕ} → Put at (decimal n) old mid next → Put next (end ∷ []) mid new r → n < 256
    → Part n end at old new r
part-made n end p q h =
    let z = put_then p q in
    record { put = z; short = omega (arith, z.behind, length-append (decimal n) (end ∷ []), three-digits n h) }

-- What `write` and `write_2` promise, and that it admits one outcome (document 01, 'What each answer owes').
use Rattle.std.specs.Prelude.{ℕ, Bool, List, ◌≡◌, Float}
use Rattle.std.proofs.Common.{sym, ◌∙◌}
use Rattle.npy_files.specs.Results.{Written}
use Rattle.npy_files.specs.Writes.{write_answer, write_file}

-- newer: version 2.0; file the file as it came, file' as it is left, r the answer
abbrev pub WritePromise : Bool → ℕ → List Float → List ℕ → Written → List ℕ → Type 0
WritePromise newer head a file r file' = (r ≡ write_answer head a file) × (file' ≡ write_file newer head a file)

pub write-once : (newer : Bool) (head : ℕ) (a : List Float) (file : List ℕ) {r1 r2 : Written} {f1 f2 : List ℕ}
    → WritePromise newer head a file r1 f1 → WritePromise newer head a file r2 f2 → (r1 ≡ r2) × (f1 ≡ f2)
write-once newer head a file p q = (p.0 ∙ sym q.0, p.1 ∙ sym q.1)

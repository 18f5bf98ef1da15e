-- REFERENCE 5.4. Document 01, 'What each answer owes': what an entry answers: what it made or read, or why it refused.
use Rattle.std.specs.Prelude.{ℕ, Float, Result}
use Rattle.model.specs.declared.Refusal.{Refusal}
use Rattle.model.specs.declared.Linear.{Linear}

-- the header word of a polynomial that was written
abbrev pub Answer : Type 0
Answer = Result ℕ Refusal

-- a number that was read off a polynomial
abbrev pub Reading : Type 0
Reading = Result Float Refusal

-- a number of places that was read off a polynomial
abbrev pub CountReading : Type 0
CountReading = Result ℕ Refusal

-- the linear test
abbrev pub LinearReading : Type 0
LinearReading = Result Linear Refusal

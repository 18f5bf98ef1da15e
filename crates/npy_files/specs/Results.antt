-- What writing an array file answers: how many bytes it has; else why nothing was written.
use Rattle.std.specs.Prelude.{ℕ, Result}
use Rattle.model.specs.declared.Refusal.{Refusal}

abbrev pub Written : Type 0
Written = Result ℕ Refusal

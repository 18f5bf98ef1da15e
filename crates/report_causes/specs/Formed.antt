-- What is said of a step word, by the first of its tests that fails: s its fields, u which of them its kind uses.
use Rattle.std.specs.Prelude.{ℕ, true, false, ◌||◌, [], ◌++◌, ◌≡◌, eqb}
use borrow.Author.Tests.{eq-eqb, ne_eqb}
use Rattle.lists.specs.Bytes.{bytes}
use Rattle.model_recipes.specs.declared.Step.{Step}
use Rattle.model_recipes.specs.declared.Uses.{Uses}
use Rattle.model_recipes.specs.Steps.{step_of, spare_of, uses_of}
use Rattle.model_recipes.specs.Check.{named_before}
use Rattle.model_faults.specs.Saying.{say}
use Rattle.model_faults.specs.StepWord.{unused_text, operand_text, fields_cause, formed_cause}

module _ (w : ℕ) {s : Step} {u : Uses} (es : s ≡ step_of w) (eu : u ≡ uses_of s.kind) where
  module _ (p : ℕ) where
    pub formed-kind : u.kind ≡ false → say "there is no kind " s.kind "; take 0 to 11.\n" ≡ formed_cause w p
    unfolding formed_cause
    formed-kind e = rw (← es, ← eu, e)

    module _ (k : u.kind ≡ true) where
      pub formed-a : named_before p u.a s.a ≡ false → (bytes "operand a" ++ operand_text u.a s.a p s.kind) ≡ formed_cause w p
      unfolding formed_cause
      formed-a e = rw (← es, ← eu, k, e)

      module _ (a : named_before p u.a s.a ≡ true) where
        pub formed-b : named_before p u.b s.b ≡ false → (bytes "operand b" ++ operand_text u.b s.b p s.kind) ≡ formed_cause w p
        unfolding formed_cause
        formed-b e = rw (← es, ← eu, k, a, e)

        pub formed-rest : named_before p u.b s.b ≡ true → fields_cause w ≡ formed_cause w p
        unfolding formed_cause
        formed-rest e = rw (← es, ← eu, k, a, e)

  pub fields-variable : (u.variable || eqb s.variable 0) ≡ false → (bytes "the variable" ++ unused_text s.variable s.kind) ≡ fields_cause w
  unfolding fields_cause
  fields-variable e = rw (← es, ← eu, e)

  module _ (v : (u.variable || eqb s.variable 0) ≡ true) where
    pub fields-n : (u.n || eqb s.n 0) ≡ false → (bytes "n" ++ unused_text s.n s.kind) ≡ fields_cause w
    unfolding fields_cause
    fields-n e = rw (← es, ← eu, v, e)

    module _ (n : (u.n || eqb s.n 0) ≡ true) where
      pub fields-spare : {x : ℕ} → x ≡ spare_of w → (x ≡ 0 → ⊥) → say "its last 14 bits are " x "; write zeros.\n" ≡ fields_cause w
      unfolding fields_cause
      fields-spare {x} ex e = rw (← es, ← eu, v, n, ← ex, ne_eqb x 0 e)

      pub fields-none : {x : ℕ} → x ≡ spare_of w → x ≡ 0 → [] ≡ fields_cause w
      unfolding fields_cause
      fields-none {x} ex e = rw (← es, ← eu, v, n, ← ex, eq-eqb x 0 e)

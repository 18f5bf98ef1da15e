-- The table of gates has each operation's own: what the entry of that name asks of its operands' header words and
-- coefficients, of the buffer for its result and of the scratch.
use Rattle.std.specs.Prelude.{ℕ, true, false, List, ◌≡◌, refl, length, get_or, Float}
use Rattle.model.specs.declared.Refusal.{Refusal}
use Rattle.model_recipes.specs.declared.Step.{Step}
use Rattle.model.specs.Header.{ones}
use Rattle.model.specs.Word.{word_of}
use Rattle.model.specs.Refusals.{no_refusal}
use Rattle.model.specs.Gates.{with_gate}
use Rattle.model.specs.Poly.{Poly}
use Rattle.model.specs.Negate.{negate_gate}
use Rattle.model.specs.Add.{sum_gate}
use Rattle.model.specs.Product.{product_gate}
use Rattle.model.specs.Quotient.{quotient_gate}
use Rattle.model.specs.Power.{power_gate}
use Rattle.model.specs.Shifts.{shift_gate}
use Rattle.model.specs.Series.{series_gate}
use Rattle.model.specs.Substitute.{substitute_gate}
use Rattle.model_recipes.specs.Kinds.{idle}
use Rattle.model_recipes.specs.Run.{gates}

-- the step s of the operands a and b in the edition ed, lent out and scratch
module _ (ed : ℕ) (s : Step) (a b : Poly) (out scratch : List Float) where
  abbrev row : ℕ → Refusal
  row k = get_or (gates ed s a b (length out) (length scratch)) k no_refusal

  abbrev w : ℕ
  w = word_of a.head

  abbrev u : ℕ
  u = word_of b.head

  pub record OwnGates : Type 0 where
    -- `from_u32`
    pub constants : row 0 ≡ with_gate 0 ones (length out)
    pub negates : row 1 ≡ negate_gate w a.coeffs out
    pub adds : row 2 ≡ sum_gate false w a.coeffs u b.coeffs out scratch
    pub subtracts : row 3 ≡ sum_gate true w a.coeffs u b.coeffs out scratch
    pub multiplies : row 4 ≡ product_gate w a.coeffs u b.coeffs out scratch
    pub divides : row 5 ≡ quotient_gate w a.coeffs u b.coeffs out scratch
    pub powers : idle ed s.n ≡ false → row 6 ≡ power_gate w a.coeffs s.n out scratch
    pub derives : row 7 ≡ shift_gate w a.coeffs s.variable s.n out
    pub expands : row 8 ≡ shift_gate w a.coeffs s.variable s.n out
    pub shifts : row 9 ≡ shift_gate w a.coeffs s.variable s.n out
    pub substitutes : row 10 ≡ substitute_gate s.variable w a.coeffs u b.coeffs out scratch
    -- `exp`, whatever its head
    pub exponentials : (head : Float) → row 11 ≡ series_gate w a.coeffs head out scratch

  pub own-gates : OwnGates
  unfolding gates
  own-gates =
      record {
        constants = refl;
        negates = refl;
        adds = refl;
        subtracts = refl;
        multiplies = refl;
        divides = refl;
        powers = λ t. rw t;
        derives = refl;
        expands = refl;
        shifts = refl;
        substitutes = refl;
        exponentials = λ head. refl;
      }

-- REFERENCE 6.2. Document 01, 'Recipes', and document 02, W7 and W13: the table of kinds, a row each. What a kind is
-- called, which fields of the step word it uses, the family by which it announces, its operation on the operands'
-- values, and that operation's own gate.
use Rattle.std.specs.Prelude.{ℕ, List, [], ◌∷◌, Bool, true, false, ◌&&◌, cond, eqb, length}
use Prim.Native.String.{String}
use Rattle.model.specs.declared.Refusal.{Refusal}
use Rattle.model.specs.declared.Family.{Family}
use Rattle.model.specs.declared.Family.TheVariants.{Constant, Same, Sum, Product, Quotient, Power, Shift, Series, Substitution, One}
use Rattle.model.specs.Header.{no_header, ones}
use Rattle.model.specs.Word.{word_of}
use Rattle.model.specs.Gates.{one_gate, work_gate, in_gate, pair_gate, with_gate}
use Rattle.model.specs.Poly.{Poly}
use Rattle.model.specs.Announced.{announced}
use Rattle.model.specs.Readings.{one_f}
use Rattle.model.specs.Constructed.{constant, whole_f}
use Rattle.model.specs.Negate.{negated}
use Rattle.model.specs.Add.{combined}
use Rattle.model.specs.Product.{product_poly}
use Rattle.model.specs.Quotient.{quotient_poly}
use Rattle.model.specs.Power.{power_poly}
use Rattle.model.specs.Shifts.{derivative_poly, expansion_poly, shift_down_poly}
use Rattle.model.specs.Substitute.{substitute_poly}
use Rattle.model_exponential.specs.Step.{exponential_poly}
use Rattle.model_recipes.specs.declared.Step.{Step}
use Rattle.model_recipes.specs.declared.Uses.{Uses}

-- A row. The operation is of the step's fields and the values of a and b; its gate says whether it refuses them, with
-- their true header words, n places for the result and m of scratch.
pub record Kind : Type 0 where
  pub name : String
  pub uses : Uses
  pub family : Step → Family
  pub value : Step → Poly → Poly → Poly
  pub gate : Step → Poly → Poly → ℕ → ℕ → Refusal

-- a kind that uses these of a, b, variable and n
abbrev pub uses : Bool → Bool → Bool → Bool → Uses
uses a b v n = record { kind = true; a = a; b = b; variable = v; n = n }

-- ---- rows of one shape

-- two operands, by the step's variable where the family has one
abbrev pair : String → Bool → (Step → Family) → (Step → Poly → Poly → Poly) → Kind
pair name v f op =
    record {
      name = name;
      uses = uses true true v false;
      family = f;
      value = op;
      gate = λ s a b n m. pair_gate (f s) (word_of a.head) (length a.coeffs) (word_of b.head) (length b.coeffs) n m;
    }

-- a variable's limit lowered by n
abbrev shift : String → (ℕ → ℕ → Poly → Poly) → Kind
shift name op =
    record {
      name = name;
      uses = uses true false true true;
      family = λ s. Shift s.variable s.n;
      value = λ s a b. op s.variable s.n a;
      gate = λ s a b n m. in_gate (Shift s.variable s.n) s.variable s.n (word_of a.head) (length a.coeffs) n;
    }

abbrev constant_row : Kind
constant_row =
    record {
      name = "constant";
      uses = uses false false false true;
      family = λ s. Constant;
      value = λ s a b. constant no_header (whole_f s.n);
      gate = λ s a b n m. with_gate 0 ones n;
    }

abbrev negate_row : Kind
negate_row =
    record {
      name = "negate";
      uses = uses true false false false;
      family = λ s. Same;
      value = λ s a b. negated a;
      gate = λ s a b n m. one_gate Same (word_of a.head) (length a.coeffs) n;
    }

-- Document 02, W7: a power of zero, n, in edition 1 is one with the operand's limits and lengths of 1; in edition 0,
-- the source's, it has no variables.
abbrev pub idle : ℕ → ℕ → Bool
idle e n = eqb e 1 && eqb n 0

unfoldable pub one_like : Poly → Poly
one_like a = constant (announced One a.head no_header) one_f

abbrev pub power_family : ℕ → ℕ → Family
power_family e n = cond (idle e n) One (Power n)

abbrev power_row : ℕ → Kind
power_row e =
    record {
      name = "power";
      uses = uses true false false true;
      family = λ s. power_family e s.n;
      value = λ s a b. cond (idle e s.n) (one_like a) (power_poly s.n a);
      gate = λ s a b n m. work_gate (power_family e s.n) (word_of a.head) (length a.coeffs) n m;
    }

-- Document 02, W13: the constant of a gives the head. A constant that has no exponential stops the run, which is no
-- matter of the gate (`Stops`, Stops.antt).
abbrev exponential_row : Kind
exponential_row =
    record {
      name = "exp";
      uses = uses true false false false;
      family = λ s. Series;
      value = λ s a b. exponential_poly a;
      gate = λ s a b n m. work_gate Series (word_of a.head) (length a.coeffs) n m;
    }

-- 0 to 11 in the edition e; there is no other kind
abbrev pub kinds : ℕ → List Kind
kinds e =
    constant_row
    ∷ negate_row
    ∷ pair "add" false (λ s. Sum) (λ s. combined false)
    ∷ pair "subtract" false (λ s. Sum) (λ s. combined true)
    ∷ pair "multiply" false (λ s. Product) (λ s. product_poly)
    ∷ pair "divide" false (λ s. Quotient) (λ s. quotient_poly)
    ∷ power_row e
    ∷ shift "derivative" derivative_poly
    ∷ shift "taylor_expansion_of_coeff" expansion_poly
    ∷ shift "shift_down" shift_down_poly
    ∷ pair "subst_var" true (λ s. Substitution s.variable) (λ s. substitute_poly s.variable)
    ∷ exponential_row
    ∷ []

-- REFERENCE 5.4. Document 01, 'What each answer owes': the promise of each entry, under the entry's name: what is so of
-- its answer r and of each lent buffer as it leaves it, for all words, numbers and buffers. A number or a buffer with a
-- stroke is as it is after the call.
use Rattle.std.specs.Prelude.{ℕ, false, true, List, ◌≡◌, Float, length}
use Rattle.model.specs.Add.{sum_answer, sum_out, sum_scratch}
use Rattle.model.specs.Answers.{answered, out_after}
use Rattle.model.specs.Constructed.{constant, variable, whole_f}
use Rattle.model.specs.Gates.{var_gate, var_header, var_with_gate, with_gate}
use Rattle.model.specs.Header.{no_header, ones, var_with, zero_with}
use Rattle.model.specs.Least.{least_answer}
use Rattle.model.specs.Negate.{negate_answer, negate_out}
use Rattle.model.specs.Power.{power_answer, power_out, power_scratch}
use Rattle.model.specs.Product.{product_answer, product_out, product_scratch}
use Rattle.model.specs.Quotient.{quotient_answer, quotient_out, quotient_scratch}
use Rattle.model.specs.Readings.{coefficient_answer, coefficients_of_term_answer, coefficients_of_term_out, constant_term_answer}
use Rattle.model.specs.Readings.{evaluate_all_one_answer, extract_linear_answer, one_f, taylor_polynomial_answer, taylor_polynomial_out}
use Rattle.model.specs.Refusals.{zero_f}
use Rattle.model.specs.Series.{exp_answer, exp_out, log_answer, log_out, series_scratch}
use Rattle.model.specs.Shifts.{derivative_answer, derivative_out, expansion_answer, expansion_out, shift_down_answer, shift_down_out}
use Rattle.model.specs.Substitute.{substitute_answer, substitute_out, substitute_scratch}
use Rattle.model.specs.Tail.{tail_answer}
use Rattle.model.specs.Results.{Answer}
use Rattle.model.specs.Results.{CountReading}
use Rattle.model.specs.Results.{LinearReading}
use Rattle.model.specs.Results.{Reading}

abbrev pub ZeroPromise : List Float → Answer → List Float → Type 0
ZeroPromise out r out' =
    (r ≡ answered (with_gate 0 ones (length out)) (constant no_header zero_f))
    × (out' ≡ out_after (with_gate 0 ones (length out)) no_header (constant no_header zero_f) out)

abbrev pub OnePromise : List Float → Answer → List Float → Type 0
OnePromise out r out' =
    (r ≡ answered (with_gate 0 ones (length out)) (constant no_header one_f))
    × (out' ≡ out_after (with_gate 0 ones (length out)) no_header (constant no_header one_f) out)

abbrev pub FromU32Promise : ℕ → List Float → Answer → List Float → Type 0
FromU32Promise c out r out' =
    (r ≡ answered (with_gate 0 ones (length out)) (constant no_header (whole_f c)))
    × (out' ≡ out_after (with_gate 0 ones (length out)) no_header (constant no_header (whole_f c)) out)

abbrev pub ZeroWithPromise : ℕ → List ℕ → List Float → Answer → List Float → Type 0
ZeroWithPromise vars limits out r out' =
    (r ≡ answered (with_gate vars limits (length out)) (constant (zero_with vars limits) zero_f))
    × (out' ≡ out_after (with_gate vars limits (length out)) (zero_with vars limits) (constant (zero_with vars limits) zero_f) out)

abbrev pub FromU32WithPromise : ℕ → ℕ → List ℕ → List Float → Answer → List Float → Type 0
FromU32WithPromise c vars limits out r out' =
    (r ≡ answered (with_gate vars limits (length out)) (constant (zero_with vars limits) (whole_f c)))
    × (out' ≡ out_after (with_gate vars limits (length out)) (zero_with vars limits) (constant (zero_with vars limits) (whole_f c)) out)

abbrev pub VarWithDegreesP1Promise : ℕ → Float → ℕ → List ℕ → List Float → Answer → List Float → Type 0
VarWithDegreesP1Promise v x vars limits out r out' =
    (r ≡ answered (var_with_gate v vars limits (length out)) (variable (var_with v vars limits) x))
    × (out' ≡ out_after (var_with_gate v vars limits (length out)) (var_with v vars limits) (variable (var_with v vars limits) x) out)

abbrev pub VarPromise : ℕ → Float → ℕ → List Float → Answer → List Float → Type 0
VarPromise v x limit out r out' =
    (r ≡ answered (var_gate v limit (length out)) (variable (var_header v limit) x))
    × (out' ≡ out_after (var_gate v limit (length out)) (var_header v limit) (variable (var_header v limit) x) out)

abbrev pub VarAtZeroPromise : ℕ → ℕ → List Float → Answer → List Float → Type 0
VarAtZeroPromise v limit out r out' =
    (r ≡ answered (var_gate v limit (length out)) (variable (var_header v limit) zero_f))
    × (out' ≡ out_after (var_gate v limit (length out)) (var_header v limit) (variable (var_header v limit) zero_f) out)

abbrev pub CoefficientPromise : ℕ → List Float → List ℕ → Reading → Type 0
CoefficientPromise head a index r =
    r ≡ coefficient_answer head a index

abbrev pub ConstantTermPromise : ℕ → List Float → Reading → Type 0
ConstantTermPromise head a r =
    r ≡ constant_term_answer head a

abbrev pub EvaluateAllOnePromise : ℕ → List Float → Reading → Type 0
EvaluateAllOnePromise head a r =
    r ≡ evaluate_all_one_answer head a

abbrev pub ExtractLinearPromise : ℕ → List Float → LinearReading → Type 0
ExtractLinearPromise head a r =
    r ≡ extract_linear_answer head a

abbrev pub TailPromise : ℕ → List Float → ℕ → Float → Reading → Type 0
TailPromise head a k total r =
    r ≡ tail_answer head a k total

abbrev pub LeastPromise : ℕ → List Float → Float → CountReading → Type 0
LeastPromise head a q r =
    r ≡ least_answer head a q

abbrev pub TaylorPolynomialPromise : ℕ → List Float → ℕ → ℕ → List Float → Answer → List Float → Type 0
TaylorPolynomialPromise head a v order out r out' =
    (r ≡ taylor_polynomial_answer head a v order out)
    × (out' ≡ taylor_polynomial_out head a v order out)

abbrev pub CoefficientsOfTermPromise : ℕ → List Float → ℕ → ℕ → List Float → Answer → List Float → Type 0
CoefficientsOfTermPromise head a v order out r out' =
    (r ≡ coefficients_of_term_answer head a v order out)
    × (out' ≡ coefficients_of_term_out head a v order out)

abbrev pub NegatePromise : ℕ → List Float → List Float → Answer → List Float → Type 0
NegatePromise head a out r out' =
    (r ≡ negate_answer head a out)
    × (out' ≡ negate_out head a out)

abbrev pub AddPromise : ℕ → List Float → ℕ → List Float → List Float → List Float → Answer → List Float → List Float → Type 0
AddPromise ah a bh b out scratch r out' scratch' =
    (r ≡ sum_answer false ah a bh b out scratch)
    × ((out' ≡ sum_out false ah a bh b out scratch)
    × (scratch' ≡ sum_scratch false ah a bh b out scratch))

abbrev pub SubtractPromise : ℕ → List Float → ℕ → List Float → List Float → List Float → Answer → List Float → List Float → Type 0
SubtractPromise ah a bh b out scratch r out' scratch' =
    (r ≡ sum_answer true ah a bh b out scratch)
    × ((out' ≡ sum_out true ah a bh b out scratch)
    × (scratch' ≡ sum_scratch true ah a bh b out scratch))

abbrev pub MultiplyPromise : ℕ → List Float → ℕ → List Float → List Float → List Float → Answer → List Float → List Float → Type 0
MultiplyPromise ah a bh b out scratch r out' scratch' =
    (r ≡ product_answer ah a bh b out scratch)
    × ((out' ≡ product_out ah a bh b out scratch)
    × (scratch' ≡ product_scratch ah a bh b out scratch))

abbrev pub DividePromise : ℕ → List Float → ℕ → List Float → List Float → List Float → Answer → List Float → List Float → Type 0
DividePromise ah a bh b out scratch r out' scratch' =
    (r ≡ quotient_answer ah a bh b out scratch)
    × ((out' ≡ quotient_out ah a bh b out scratch)
    × (scratch' ≡ quotient_scratch ah a bh b out scratch))

abbrev pub ExpPromise : ℕ → List Float → Float → List Float → List Float → Answer → List Float → List Float → Type 0
ExpPromise word a head out scratch r out' scratch' =
    (r ≡ exp_answer word a head out scratch)
    × ((out' ≡ exp_out word a head out scratch)
    × (scratch' ≡ series_scratch word a head out scratch))

abbrev pub LogPromise : ℕ → List Float → Float → List Float → List Float → Answer → List Float → List Float → Type 0
LogPromise word a head out scratch r out' scratch' =
    (r ≡ log_answer word a head out scratch)
    × ((out' ≡ log_out word a head out scratch)
    × (scratch' ≡ series_scratch word a head out scratch))

abbrev pub DerivativePromise : ℕ → List Float → ℕ → ℕ → List Float → Answer → List Float → Type 0
DerivativePromise head a v n out r out' =
    (r ≡ derivative_answer head a v n out)
    × (out' ≡ derivative_out head a v n out)

abbrev pub TaylorExpansionOfCoeffPromise : ℕ → List Float → ℕ → ℕ → List Float → Answer → List Float → Type 0
TaylorExpansionOfCoeffPromise head a v n out r out' =
    (r ≡ expansion_answer head a v n out)
    × (out' ≡ expansion_out head a v n out)

abbrev pub ShiftDownPromise : ℕ → List Float → ℕ → ℕ → List Float → Answer → List Float → Type 0
ShiftDownPromise head a v n out r out' =
    (r ≡ shift_down_answer head a v n out)
    × (out' ≡ shift_down_out head a v n out)

abbrev pub PowPromise : ℕ → List Float → ℕ → List Float → List Float → Answer → List Float → List Float → Type 0
PowPromise head a e out scratch r out' scratch' =
    (r ≡ power_answer head a e out scratch)
    × ((out' ≡ power_out head a e out scratch)
    × (scratch' ≡ power_scratch head a e out scratch))

abbrev pub SubstVarPromise : ℕ → List Float → ℕ → List Float → ℕ → List Float → List Float → Answer → List Float → List Float → Type 0
SubstVarPromise ah a bh b v out scratch r out' scratch' =
    (r ≡ substitute_answer v ah a bh b out scratch)
    × ((out' ≡ substitute_out v ah a bh b out scratch)
    × (scratch' ≡ substitute_scratch v ah a bh b out scratch))

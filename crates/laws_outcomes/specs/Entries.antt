-- Two outcomes that keep the promise of an entry are equal (document 01, 'What each answer owes').
use Rattle.std.specs.Prelude.{ℕ, List, ◌≡◌, Float}
use Rattle.model.specs.Promises.{AddPromise, CoefficientPromise, CoefficientsOfTermPromise, ConstantTermPromise, DerivativePromise, DividePromise}
use Rattle.model.specs.Promises.{EvaluateAllOnePromise, ExpPromise, ExtractLinearPromise, FromU32Promise, FromU32WithPromise, LeastPromise}
use Rattle.model.specs.Promises.{LogPromise, MultiplyPromise, NegatePromise, OnePromise, PowPromise, ShiftDownPromise, SubstVarPromise}
use Rattle.model.specs.Promises.{SubtractPromise, TailPromise, TaylorExpansionOfCoeffPromise, TaylorPolynomialPromise, VarAtZeroPromise}
use Rattle.model.specs.Promises.{VarPromise, VarWithDegreesP1Promise, ZeroPromise, ZeroWithPromise}
use Rattle.model.specs.Results.{Answer}
use Rattle.model.specs.Results.{CountReading}
use Rattle.model.specs.Results.{LinearReading}
use Rattle.model.specs.Results.{Reading}
use Rattle.laws_outcomes.specs.Outcome.{once_1, once_2, once_3}

pub zero-once : (out : List Float) {r1 r2 : Answer} {out1 out2 : List Float}
    → ZeroPromise out r1 out1 → ZeroPromise out r2 out2
    → (r1 ≡ r2) × (out1 ≡ out2)
zero-once out p1 p2 = once_2 p1 p2

pub one-once : (out : List Float) {r1 r2 : Answer} {out1 out2 : List Float}
    → OnePromise out r1 out1 → OnePromise out r2 out2
    → (r1 ≡ r2) × (out1 ≡ out2)
one-once out p1 p2 = once_2 p1 p2

pub from_u32-once : (c : ℕ) (out : List Float) {r1 r2 : Answer} {out1 out2 : List Float}
    → FromU32Promise c out r1 out1 → FromU32Promise c out r2 out2
    → (r1 ≡ r2) × (out1 ≡ out2)
from_u32-once c out p1 p2 = once_2 p1 p2

pub zero_with-once : (vars : ℕ) (limits : List ℕ) (out : List Float) {r1 r2 : Answer} {out1 out2 : List Float}
    → ZeroWithPromise vars limits out r1 out1 → ZeroWithPromise vars limits out r2 out2
    → (r1 ≡ r2) × (out1 ≡ out2)
zero_with-once vars limits out p1 p2 = once_2 p1 p2

pub from_u32_with-once : (c vars : ℕ) (limits : List ℕ) (out : List Float) {r1 r2 : Answer} {out1 out2 : List Float}
    → FromU32WithPromise c vars limits out r1 out1 → FromU32WithPromise c vars limits out r2 out2
    → (r1 ≡ r2) × (out1 ≡ out2)
from_u32_with-once c vars limits out p1 p2 = once_2 p1 p2

pub var_with_degrees_p1-once : (v : ℕ) (x : Float) (vars : ℕ) (limits : List ℕ) (out : List Float) {r1 r2 : Answer} {out1 out2 : List Float}
    → VarWithDegreesP1Promise v x vars limits out r1 out1 → VarWithDegreesP1Promise v x vars limits out r2 out2
    → (r1 ≡ r2) × (out1 ≡ out2)
var_with_degrees_p1-once v x vars limits out p1 p2 = once_2 p1 p2

pub var-once : (v : ℕ) (x : Float) (limit : ℕ) (out : List Float) {r1 r2 : Answer} {out1 out2 : List Float}
    → VarPromise v x limit out r1 out1 → VarPromise v x limit out r2 out2
    → (r1 ≡ r2) × (out1 ≡ out2)
var-once v x limit out p1 p2 = once_2 p1 p2

pub var_at_zero-once : (v limit : ℕ) (out : List Float) {r1 r2 : Answer} {out1 out2 : List Float}
    → VarAtZeroPromise v limit out r1 out1 → VarAtZeroPromise v limit out r2 out2
    → (r1 ≡ r2) × (out1 ≡ out2)
var_at_zero-once v limit out p1 p2 = once_2 p1 p2

pub coefficient-once : (head : ℕ) (a : List Float) (index : List ℕ) {r1 r2 : Reading}
    → CoefficientPromise head a index r1 → CoefficientPromise head a index r2
    → r1 ≡ r2
coefficient-once head a index p1 p2 = once_1 p1 p2

pub constant_term-once : (head : ℕ) (a : List Float) {r1 r2 : Reading}
    → ConstantTermPromise head a r1 → ConstantTermPromise head a r2
    → r1 ≡ r2
constant_term-once head a p1 p2 = once_1 p1 p2

pub evaluate_all_one-once : (head : ℕ) (a : List Float) {r1 r2 : Reading}
    → EvaluateAllOnePromise head a r1 → EvaluateAllOnePromise head a r2
    → r1 ≡ r2
evaluate_all_one-once head a p1 p2 = once_1 p1 p2

pub extract_linear-once : (head : ℕ) (a : List Float) {r1 r2 : LinearReading}
    → ExtractLinearPromise head a r1 → ExtractLinearPromise head a r2
    → r1 ≡ r2
extract_linear-once head a p1 p2 = once_1 p1 p2

pub tail-once : (head : ℕ) (a : List Float) (k : ℕ) (total : Float) {r1 r2 : Reading}
    → TailPromise head a k total r1 → TailPromise head a k total r2
    → r1 ≡ r2
tail-once head a k total p1 p2 = once_1 p1 p2

pub least-once : (head : ℕ) (a : List Float) (q : Float) {r1 r2 : CountReading}
    → LeastPromise head a q r1 → LeastPromise head a q r2
    → r1 ≡ r2
least-once head a q p1 p2 = once_1 p1 p2

pub taylor_polynomial-once : (head : ℕ) (a : List Float) (v order : ℕ) (out : List Float) {r1 r2 : Answer} {out1 out2 : List Float}
    → TaylorPolynomialPromise head a v order out r1 out1 → TaylorPolynomialPromise head a v order out r2 out2
    → (r1 ≡ r2) × (out1 ≡ out2)
taylor_polynomial-once head a v order out p1 p2 = once_2 p1 p2

pub coefficients_of_term-once : (head : ℕ) (a : List Float) (v order : ℕ) (out : List Float) {r1 r2 : Answer} {out1 out2 : List Float}
    → CoefficientsOfTermPromise head a v order out r1 out1 → CoefficientsOfTermPromise head a v order out r2 out2
    → (r1 ≡ r2) × (out1 ≡ out2)
coefficients_of_term-once head a v order out p1 p2 = once_2 p1 p2

pub negate-once : (head : ℕ) (a out : List Float) {r1 r2 : Answer} {out1 out2 : List Float}
    → NegatePromise head a out r1 out1 → NegatePromise head a out r2 out2
    → (r1 ≡ r2) × (out1 ≡ out2)
negate-once head a out p1 p2 = once_2 p1 p2

pub add_once : (ah : ℕ) (a : List Float) (bh : ℕ) (b out scratch : List Float) {r1 r2 : Answer} {out1 out2 scratch1 scratch2 : List Float}
    → AddPromise ah a bh b out scratch r1 out1 scratch1 → AddPromise ah a bh b out scratch r2 out2 scratch2
    → (r1 ≡ r2) × ((out1 ≡ out2) × (scratch1 ≡ scratch2))
add_once ah a bh b out scratch p1 p2 = once_3 p1 p2

pub subtract-once : (ah : ℕ) (a : List Float) (bh : ℕ) (b out scratch : List Float) {r1 r2 : Answer} {out1 out2 scratch1 scratch2 : List Float}
    → SubtractPromise ah a bh b out scratch r1 out1 scratch1 → SubtractPromise ah a bh b out scratch r2 out2 scratch2
    → (r1 ≡ r2) × ((out1 ≡ out2) × (scratch1 ≡ scratch2))
subtract-once ah a bh b out scratch p1 p2 = once_3 p1 p2

pub multiply-once : (ah : ℕ) (a : List Float) (bh : ℕ) (b out scratch : List Float) {r1 r2 : Answer} {out1 out2 scratch1 scratch2 : List Float}
    → MultiplyPromise ah a bh b out scratch r1 out1 scratch1 → MultiplyPromise ah a bh b out scratch r2 out2 scratch2
    → (r1 ≡ r2) × ((out1 ≡ out2) × (scratch1 ≡ scratch2))
multiply-once ah a bh b out scratch p1 p2 = once_3 p1 p2

pub divide-once : (ah : ℕ) (a : List Float) (bh : ℕ) (b out scratch : List Float) {r1 r2 : Answer} {out1 out2 scratch1 scratch2 : List Float}
    → DividePromise ah a bh b out scratch r1 out1 scratch1 → DividePromise ah a bh b out scratch r2 out2 scratch2
    → (r1 ≡ r2) × ((out1 ≡ out2) × (scratch1 ≡ scratch2))
divide-once ah a bh b out scratch p1 p2 = once_3 p1 p2

pub exp-once : (word : ℕ) (a : List Float) (head : Float) (out scratch : List Float) {r1 r2 : Answer} {out1 out2 scratch1 scratch2 : List Float}
    → ExpPromise word a head out scratch r1 out1 scratch1 → ExpPromise word a head out scratch r2 out2 scratch2
    → (r1 ≡ r2) × ((out1 ≡ out2) × (scratch1 ≡ scratch2))
exp-once word a head out scratch p1 p2 = once_3 p1 p2

pub log-once : (word : ℕ) (a : List Float) (head : Float) (out scratch : List Float) {r1 r2 : Answer} {out1 out2 scratch1 scratch2 : List Float}
    → LogPromise word a head out scratch r1 out1 scratch1 → LogPromise word a head out scratch r2 out2 scratch2
    → (r1 ≡ r2) × ((out1 ≡ out2) × (scratch1 ≡ scratch2))
log-once word a head out scratch p1 p2 = once_3 p1 p2

pub derivative-once : (head : ℕ) (a : List Float) (v n : ℕ) (out : List Float) {r1 r2 : Answer} {out1 out2 : List Float}
    → DerivativePromise head a v n out r1 out1 → DerivativePromise head a v n out r2 out2
    → (r1 ≡ r2) × (out1 ≡ out2)
derivative-once head a v n out p1 p2 = once_2 p1 p2

pub taylor_expansion_of_coeff-once : (head : ℕ) (a : List Float) (v n : ℕ) (out : List Float) {r1 r2 : Answer} {out1 out2 : List Float}
    → TaylorExpansionOfCoeffPromise head a v n out r1 out1 → TaylorExpansionOfCoeffPromise head a v n out r2 out2
    → (r1 ≡ r2) × (out1 ≡ out2)
taylor_expansion_of_coeff-once head a v n out p1 p2 = once_2 p1 p2

pub shift_down-once : (head : ℕ) (a : List Float) (v n : ℕ) (out : List Float) {r1 r2 : Answer} {out1 out2 : List Float}
    → ShiftDownPromise head a v n out r1 out1 → ShiftDownPromise head a v n out r2 out2
    → (r1 ≡ r2) × (out1 ≡ out2)
shift_down-once head a v n out p1 p2 = once_2 p1 p2

pub pow-once : (head : ℕ) (a : List Float) (e : ℕ) (out scratch : List Float) {r1 r2 : Answer} {out1 out2 scratch1 scratch2 : List Float}
    → PowPromise head a e out scratch r1 out1 scratch1 → PowPromise head a e out scratch r2 out2 scratch2
    → (r1 ≡ r2) × ((out1 ≡ out2) × (scratch1 ≡ scratch2))
pow-once head a e out scratch p1 p2 = once_3 p1 p2

pub subst_var-once : (ah : ℕ) (a : List Float) (bh : ℕ) (b : List Float) (v : ℕ) (out scratch : List Float) {r1 r2 :
    Answer} {out1 out2 scratch1 scratch2 : List Float}
    → SubstVarPromise ah a bh b v out scratch r1 out1 scratch1 → SubstVarPromise ah a bh b v out scratch r2 out2 scratch2
    → (r1 ≡ r2) × ((out1 ≡ out2) × (scratch1 ≡ scratch2))
subst_var-once ah a bh b v out scratch p1 p2 = once_3 p1 p2

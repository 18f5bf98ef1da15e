-- Two outcomes that keep the promise of a function of the face are equal (document 01, 'What each answer owes').
use Rattle.std.specs.Prelude.{ℕ, List, ◌≡◌, Float}
use Rattle.laws_outcomes.specs.Outcome.{once_2, once_3, once_4, once_5}
use Rattle.taylor.specs.Promises.{SettingsBringBackPromise, SettingsFreshPromise, SettingsReadPromise, SettingsReadVersionPromise}
use Rattle.taylor.specs.Promises.{SettingsSavePromise, TaylorAddPromise, TaylorCheckPromise, TaylorCoefficientPromise}
use Rattle.taylor.specs.Promises.{TaylorCoefficientsOfTermPromise, TaylorConstantTermPromise, TaylorDerivativePromise, TaylorDividePromise}
use Rattle.taylor.specs.Promises.{TaylorEvaluateAllOnePromise, TaylorExpPromise, TaylorExtractLinearPromise, TaylorFromU32Promise}
use Rattle.taylor.specs.Promises.{TaylorFromU32WithPromise, TaylorLeastPromise, TaylorLogPromise, TaylorMultiplyPromise, TaylorNegatePromise}
use Rattle.taylor.specs.Promises.{TaylorNpyWrite2Promise}
use Rattle.taylor.specs.Promises.{TaylorNpyWritePromise, TaylorOnePromise, TaylorPowPromise, TaylorRunPromise, TaylorShiftDownPromise}
use Rattle.taylor.specs.Promises.{TaylorSubstVarPromise, TaylorSubtractPromise, TaylorTailPromise, TaylorTaylorExpansionOfCoeffPromise}
use Rattle.taylor.specs.Promises.{TaylorTaylorPolynomialPromise, TaylorVarAtZeroPromise, TaylorVarPromise, TaylorVarWithDegreesP1Promise}
use Rattle.taylor.specs.Promises.{TaylorZeroPromise, TaylorZeroWithPromise, TaylorExpConstantPromise}

pub taylor_zero-once : (out : List Float) {r1 r2 : ℕ} {out1 out2 : List Float}
    → TaylorZeroPromise out r1 out1 → TaylorZeroPromise out r2 out2
    → (r1 ≡ r2) × (out1 ≡ out2)
taylor_zero-once out p1 p2 = once_2 p1 p2

pub taylor_one-once : (out : List Float) {r1 r2 : ℕ} {out1 out2 : List Float}
    → TaylorOnePromise out r1 out1 → TaylorOnePromise out r2 out2
    → (r1 ≡ r2) × (out1 ≡ out2)
taylor_one-once out p1 p2 = once_2 p1 p2

pub taylor_from_u32-once : (c : ℕ) (out : List Float) {r1 r2 : ℕ} {out1 out2 : List Float}
    → TaylorFromU32Promise c out r1 out1 → TaylorFromU32Promise c out r2 out2
    → (r1 ≡ r2) × (out1 ≡ out2)
taylor_from_u32-once c out p1 p2 = once_2 p1 p2

pub taylor_zero_with-once : (vars l0 l1 l2 l3 : ℕ) (out : List Float) {r1 r2 : ℕ} {out1 out2 : List Float}
    → TaylorZeroWithPromise vars l0 l1 l2 l3 out r1 out1 → TaylorZeroWithPromise vars l0 l1 l2 l3 out r2 out2
    → (r1 ≡ r2) × (out1 ≡ out2)
taylor_zero_with-once vars l0 l1 l2 l3 out p1 p2 = once_2 p1 p2

pub taylor_from_u32_with-once : (c vars l0 l1 l2 l3 : ℕ) (out : List Float) {r1 r2 : ℕ} {out1 out2 : List Float}
    → TaylorFromU32WithPromise c vars l0 l1 l2 l3 out r1 out1 → TaylorFromU32WithPromise c vars l0 l1 l2 l3 out r2 out2
    → (r1 ≡ r2) × (out1 ≡ out2)
taylor_from_u32_with-once c vars l0 l1 l2 l3 out p1 p2 = once_2 p1 p2

pub taylor_var_with_degrees_p1-once : (v : ℕ) (x : Float) (vars l0 l1 l2 l3 : ℕ) (out : List Float) {r1 r2 : ℕ} {out1 out2 : List Float}
    → TaylorVarWithDegreesP1Promise v x vars l0 l1 l2 l3 out r1 out1 → TaylorVarWithDegreesP1Promise v x vars l0 l1 l2 l3 out r2 out2
    → (r1 ≡ r2) × (out1 ≡ out2)
taylor_var_with_degrees_p1-once v x vars l0 l1 l2 l3 out p1 p2 = once_2 p1 p2

pub taylor_var-once : (v : ℕ) (x : Float) (limit : ℕ) (out : List Float) {r1 r2 : ℕ} {out1 out2 : List Float}
    → TaylorVarPromise v x limit out r1 out1 → TaylorVarPromise v x limit out r2 out2
    → (r1 ≡ r2) × (out1 ≡ out2)
taylor_var-once v x limit out p1 p2 = once_2 p1 p2

pub taylor_var_at_zero-once : (v limit : ℕ) (out : List Float) {r1 r2 : ℕ} {out1 out2 : List Float}
    → TaylorVarAtZeroPromise v limit out r1 out1 → TaylorVarAtZeroPromise v limit out r2 out2
    → (r1 ≡ r2) × (out1 ≡ out2)
taylor_var_at_zero-once v limit out p1 p2 = once_2 p1 p2

pub taylor_coefficient-once : (head : ℕ) (a : List Float) (i0 i1 i2 i3 : ℕ) (value : Float) {r1 r2 : ℕ} {value1 value2 : Float}
    → TaylorCoefficientPromise head a i0 i1 i2 i3 value r1 value1 → TaylorCoefficientPromise head a i0 i1 i2 i3 value r2 value2
    → (r1 ≡ r2) × (value1 ≡ value2)
taylor_coefficient-once head a i0 i1 i2 i3 value p1 p2 = once_2 p1 p2

pub taylor_constant_term-once : (head : ℕ) (a : List Float) (value : Float) {r1 r2 : ℕ} {value1 value2 : Float}
    → TaylorConstantTermPromise head a value r1 value1 → TaylorConstantTermPromise head a value r2 value2
    → (r1 ≡ r2) × (value1 ≡ value2)
taylor_constant_term-once head a value p1 p2 = once_2 p1 p2

pub taylor_evaluate_all_one-once : (head : ℕ) (a : List Float) (value : Float) {r1 r2 : ℕ} {value1 value2 : Float}
    → TaylorEvaluateAllOnePromise head a value r1 value1 → TaylorEvaluateAllOnePromise head a value r2 value2
    → (r1 ≡ r2) × (value1 ≡ value2)
taylor_evaluate_all_one-once head a value p1 p2 = once_2 p1 p2

pub taylor_extract_linear-once : (head : ℕ) (a : List Float) (c m : Float) {r1 r2 : ℕ} {c1 c2 m1 m2 : Float}
    → TaylorExtractLinearPromise head a c m r1 c1 m1 → TaylorExtractLinearPromise head a c m r2 c2 m2
    → (r1 ≡ r2) × ((c1 ≡ c2) × (m1 ≡ m2))
taylor_extract_linear-once head a c m p1 p2 = once_3 p1 p2

pub taylor_tail-once : (head : ℕ) (a : List Float) (k : ℕ) (total value : Float) {r1 r2 : ℕ} {value1 value2 : Float}
    → TaylorTailPromise head a k total value r1 value1 → TaylorTailPromise head a k total value r2 value2
    → (r1 ≡ r2) × (value1 ≡ value2)
taylor_tail-once head a k total value p1 p2 = once_2 p1 p2

pub taylor_least-once : (head : ℕ) (a : List Float) (q : Float) (k : ℕ) {r1 r2 : ℕ} {k1 k2 : ℕ}
    → TaylorLeastPromise head a q k r1 k1 → TaylorLeastPromise head a q k r2 k2
    → (r1 ≡ r2) × (k1 ≡ k2)
taylor_least-once head a q k p1 p2 = once_2 p1 p2

pub taylor_taylor_polynomial-once : (head : ℕ) (a : List Float) (v order : ℕ) (out : List Float) {r1 r2 : ℕ} {out1 out2 : List Float}
    → TaylorTaylorPolynomialPromise head a v order out r1 out1 → TaylorTaylorPolynomialPromise head a v order out r2 out2
    → (r1 ≡ r2) × (out1 ≡ out2)
taylor_taylor_polynomial-once head a v order out p1 p2 = once_2 p1 p2

pub taylor_coefficients_of_term-once : (head : ℕ) (a : List Float) (v order : ℕ) (out : List Float) {r1 r2 : ℕ} {out1 out2 : List Float}
    → TaylorCoefficientsOfTermPromise head a v order out r1 out1 → TaylorCoefficientsOfTermPromise head a v order out r2 out2
    → (r1 ≡ r2) × (out1 ≡ out2)
taylor_coefficients_of_term-once head a v order out p1 p2 = once_2 p1 p2

pub taylor_negate-once : (head : ℕ) (a out : List Float) {r1 r2 : ℕ} {out1 out2 : List Float}
    → TaylorNegatePromise head a out r1 out1 → TaylorNegatePromise head a out r2 out2
    → (r1 ≡ r2) × (out1 ≡ out2)
taylor_negate-once head a out p1 p2 = once_2 p1 p2

pub taylor_add-once : (ah : ℕ) (a : List Float) (bh : ℕ) (b out scratch : List Float) {r1 r2 : ℕ} {out1 out2 scratch1 scratch2 : List Float}
    → TaylorAddPromise ah a bh b out scratch r1 out1 scratch1 → TaylorAddPromise ah a bh b out scratch r2 out2 scratch2
    → (r1 ≡ r2) × ((out1 ≡ out2) × (scratch1 ≡ scratch2))
taylor_add-once ah a bh b out scratch p1 p2 = once_3 p1 p2

pub taylor_subtract-once : (ah : ℕ) (a : List Float) (bh : ℕ) (b out scratch : List Float) {r1 r2 : ℕ} {out1 out2 scratch1 scratch2 : List Float}
    → TaylorSubtractPromise ah a bh b out scratch r1 out1 scratch1 → TaylorSubtractPromise ah a bh b out scratch r2 out2 scratch2
    → (r1 ≡ r2) × ((out1 ≡ out2) × (scratch1 ≡ scratch2))
taylor_subtract-once ah a bh b out scratch p1 p2 = once_3 p1 p2

pub taylor_multiply-once : (ah : ℕ) (a : List Float) (bh : ℕ) (b out scratch : List Float) {r1 r2 : ℕ} {out1 out2 scratch1 scratch2 : List Float}
    → TaylorMultiplyPromise ah a bh b out scratch r1 out1 scratch1 → TaylorMultiplyPromise ah a bh b out scratch r2 out2 scratch2
    → (r1 ≡ r2) × ((out1 ≡ out2) × (scratch1 ≡ scratch2))
taylor_multiply-once ah a bh b out scratch p1 p2 = once_3 p1 p2

pub taylor_divide-once : (ah : ℕ) (a : List Float) (bh : ℕ) (b out scratch : List Float) {r1 r2 : ℕ} {out1 out2 scratch1 scratch2 : List Float}
    → TaylorDividePromise ah a bh b out scratch r1 out1 scratch1 → TaylorDividePromise ah a bh b out scratch r2 out2 scratch2
    → (r1 ≡ r2) × ((out1 ≡ out2) × (scratch1 ≡ scratch2))
taylor_divide-once ah a bh b out scratch p1 p2 = once_3 p1 p2

pub taylor_exp-once : (head : ℕ) (a : List Float) (value : Float) (out scratch : List Float) {r1 r2 : ℕ} {out1 out2 scratch1 scratch2 : List Float}
    → TaylorExpPromise head a value out scratch r1 out1 scratch1 → TaylorExpPromise head a value out scratch r2 out2 scratch2
    → (r1 ≡ r2) × ((out1 ≡ out2) × (scratch1 ≡ scratch2))
taylor_exp-once head a value out scratch p1 p2 = once_3 p1 p2

pub taylor_log-once : (head : ℕ) (a : List Float) (value : Float) (out scratch : List Float) {r1 r2 : ℕ} {out1 out2 scratch1 scratch2 : List Float}
    → TaylorLogPromise head a value out scratch r1 out1 scratch1 → TaylorLogPromise head a value out scratch r2 out2 scratch2
    → (r1 ≡ r2) × ((out1 ≡ out2) × (scratch1 ≡ scratch2))
taylor_log-once head a value out scratch p1 p2 = once_3 p1 p2

pub taylor_pow-once : (head : ℕ) (a : List Float) (e : ℕ) (out scratch : List Float) {r1 r2 : ℕ} {out1 out2 scratch1 scratch2 : List Float}
    → TaylorPowPromise head a e out scratch r1 out1 scratch1 → TaylorPowPromise head a e out scratch r2 out2 scratch2
    → (r1 ≡ r2) × ((out1 ≡ out2) × (scratch1 ≡ scratch2))
taylor_pow-once head a e out scratch p1 p2 = once_3 p1 p2

pub taylor_derivative-once : (head : ℕ) (a : List Float) (v n : ℕ) (out : List Float) {r1 r2 : ℕ} {out1 out2 : List Float}
    → TaylorDerivativePromise head a v n out r1 out1 → TaylorDerivativePromise head a v n out r2 out2
    → (r1 ≡ r2) × (out1 ≡ out2)
taylor_derivative-once head a v n out p1 p2 = once_2 p1 p2

pub taylor_taylor_expansion_of_coeff-once : (head : ℕ) (a : List Float) (v n : ℕ) (out : List Float) {r1 r2 : ℕ} {out1 out2 : List Float}
    → TaylorTaylorExpansionOfCoeffPromise head a v n out r1 out1 → TaylorTaylorExpansionOfCoeffPromise head a v n out r2 out2
    → (r1 ≡ r2) × (out1 ≡ out2)
taylor_taylor_expansion_of_coeff-once head a v n out p1 p2 = once_2 p1 p2

pub taylor_shift_down-once : (head : ℕ) (a : List Float) (v n : ℕ) (out : List Float) {r1 r2 : ℕ} {out1 out2 : List Float}
    → TaylorShiftDownPromise head a v n out r1 out1 → TaylorShiftDownPromise head a v n out r2 out2
    → (r1 ≡ r2) × (out1 ≡ out2)
taylor_shift_down-once head a v n out p1 p2 = once_2 p1 p2

pub taylor_subst_var-once : (ah : ℕ) (a : List Float) (bh : ℕ) (b : List Float) (v : ℕ) (out scratch : List Float)
    {r1 r2 : ℕ} {out1 out2 scratch1 scratch2 : List Float}
    → TaylorSubstVarPromise ah a bh b v out scratch r1 out1 scratch1 → TaylorSubstVarPromise ah a bh b v out scratch r2 out2 scratch2
    → (r1 ≡ r2) × ((out1 ≡ out2) × (scratch1 ≡ scratch2))
taylor_subst_var-once ah a bh b v out scratch p1 p2 = once_3 p1 p2

pub taylor_check-once : (headers steps : List ℕ) (edition pool largest inputs : ℕ) {r1 r2 : ℕ} {pool1 pool2 largest1 largest2 inputs1 inputs2 : ℕ}
    → TaylorCheckPromise headers steps edition pool largest inputs r1 pool1 largest1 inputs1 → TaylorCheckPromise headers
    steps edition pool largest inputs r2 pool2 largest2 inputs2
    → (r1 ≡ r2) × ((pool1 ≡ pool2) × ((largest1 ≡ largest2) × (inputs1 ≡ inputs2)))
taylor_check-once headers steps edition pool largest inputs p1 p2 = once_4 p1 p2

pub taylor_run-once : (headers : List ℕ) (coefficients : List Float) (steps : List ℕ) (edition : ℕ) (pool : List Float)
    (words : List ℕ) (scratch : List Float) {r1 r2 : ℕ} {pool1 pool2 scratch1 scratch2 : List Float} {words1 words2 :
    List ℕ}
    → TaylorRunPromise headers coefficients steps edition pool words scratch r1 pool1 words1 scratch1 → TaylorRunPromise
    headers coefficients steps edition pool words scratch r2 pool2 words2 scratch2
    → (r1 ≡ r2) × ((pool1 ≡ pool2) × ((words1 ≡ words2) × (scratch1 ≡ scratch2)))
taylor_run-once headers coefficients steps edition pool words scratch p1 p2 = once_4 p1 p2

pub taylor_npy_write-once : (head : ℕ) (a : List Float) (file : List ℕ) (written : ℕ) {r1 r2 : ℕ} {file1 file2 : List ℕ} {written1 written2 : ℕ}
    → TaylorNpyWritePromise head a file written r1 file1 written1 → TaylorNpyWritePromise head a file written r2 file2 written2
    → (r1 ≡ r2) × ((file1 ≡ file2) × (written1 ≡ written2))
taylor_npy_write-once head a file written p1 p2 = once_3 p1 p2

pub taylor_npy_write_2-once : (head : ℕ) (a : List Float) (file : List ℕ) (written : ℕ) {r1 r2 : ℕ} {file1 file2 : List ℕ} {written1 written2 : ℕ}
    → TaylorNpyWrite2Promise head a file written r1 file1 written1 → TaylorNpyWrite2Promise head a file written r2 file2 written2
    → (r1 ≡ r2) × ((file1 ≡ file2) × (written1 ≡ written2))
taylor_npy_write_2-once head a file written p1 p2 = once_3 p1 p2

pub settings_fresh-once : (words : List ℕ) {r1 r2 : ℕ} {words1 words2 : List ℕ}
    → SettingsFreshPromise words r1 words1 → SettingsFreshPromise words r2 words2
    → (r1 ≡ r2) × (words1 ≡ words2)
settings_fresh-once words p1 p2 = once_2 p1 p2

pub settings_read-once : (words : List ℕ) (department version : ℕ) (chance : Float) (horizon recipe : ℕ) {r1 r2 : ℕ}
    {version1 version2 horizon1 horizon2 recipe1 recipe2 : ℕ} {chance1 chance2 : Float}
    → SettingsReadPromise words department version chance horizon recipe r1 version1 chance1 horizon1 recipe1 →
    SettingsReadPromise words department version chance horizon recipe r2 version2 chance2 horizon2 recipe2
    → (r1 ≡ r2) × ((version1 ≡ version2) × ((chance1 ≡ chance2) × ((horizon1 ≡ horizon2) × (recipe1 ≡ recipe2))))
settings_read-once words department version chance horizon recipe p1 p2 = once_5 p1 p2

pub settings_read_version-once : (words : List ℕ) (department version : ℕ) (chance : Float) (horizon recipe : ℕ) {r1
    r2 : ℕ} {chance1 chance2 : Float} {horizon1 horizon2 recipe1 recipe2 : ℕ}
    → SettingsReadVersionPromise words department version chance horizon recipe r1 chance1 horizon1 recipe1 →
    SettingsReadVersionPromise words department version chance horizon recipe r2 chance2 horizon2 recipe2
    → (r1 ≡ r2) × ((chance1 ≡ chance2) × ((horizon1 ≡ horizon2) × (recipe1 ≡ recipe2)))
settings_read_version-once words department version chance horizon recipe p1 p2 = once_4 p1 p2

pub settings_save-once : (words : List ℕ) (department from : ℕ) (chance : Float) (horizon recipe version : ℕ) {r1 r2
    : ℕ} {words1 words2 : List ℕ} {version1 version2 : ℕ}
    → SettingsSavePromise words department from chance horizon recipe version r1 words1 version1 →
    SettingsSavePromise words department from chance horizon recipe version r2 words2 version2
    → (r1 ≡ r2) × ((version1 ≡ version2) × (words1 ≡ words2))
settings_save-once words department from chance horizon recipe version p1 p2 = once_3 p1 p2

pub settings_bring_back-once : (words : List ℕ) (department from kept version : ℕ) {r1 r2 : ℕ} {words1 words2 : List ℕ} {version1 version2 : ℕ}
    → SettingsBringBackPromise words department from kept version r1 words1 version1 → SettingsBringBackPromise words
    department from kept version r2 words2 version2
    → (r1 ≡ r2) × ((version1 ≡ version2) × (words1 ≡ words2))
settings_bring_back-once words department from kept version p1 p2 = once_3 p1 p2

pub taylor_exp_constant-once : (x value : Float) {r1 r2 : ℕ} {value1 value2 : Float}
    → TaylorExpConstantPromise x value r1 value1 → TaylorExpConstantPromise x value r2 value2
    → (r1 ≡ r2) × (value1 ≡ value2)
taylor_exp_constant-once x value p1 p2 = once_2 p1.0 p2.0

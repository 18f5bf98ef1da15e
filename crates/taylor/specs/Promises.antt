-- REFERENCE 5.4. The promises of the face's functions, each under its name: the answer is one word, a number that was
-- read stands behind a pointer.
use Rattle.std.specs.Prelude.{ℕ, false, true, List, ◌≡◌, Float, length}
use Rattle.model.specs.Add.{sum_answer, sum_out, sum_scratch}
use Rattle.model.specs.Answers.{answered, out_after}
use Rattle.model.specs.Constructed.{constant, variable, whole_f}
use Rattle.model.specs.Gates.{var_gate, var_header, var_with_gate, with_gate}
use Rattle.model.specs.Header.{no_header, ones, var_with, zero_with}
use Rattle.model.specs.Least.{least_answer}
use Rattle.model.specs.Negate.{negate_answer, negate_out}
use Rattle.model.specs.Power.{power_answer, power_out, power_scratch}
use Rattle.model.specs.Product.{product_answer, product_out, product_scratch}
use Rattle.model.specs.Quotient.{quotient_answer, quotient_out, quotient_scratch}
use Rattle.model.specs.Readings.{coefficient_answer, coefficients_of_term_answer, coefficients_of_term_out, constant_term_answer, evaluate_all_one_answer}
use Rattle.model.specs.Readings.{extract_linear_answer, one_f, taylor_polynomial_answer, taylor_polynomial_out}
use Rattle.model.specs.Refusals.{zero_f}
use Rattle.model.specs.Series.{exp_answer, exp_out, log_answer, log_out, series_scratch}
use Rattle.model.specs.Shifts.{derivative_answer, derivative_out, expansion_answer, expansion_out, shift_down_answer, shift_down_out}
use Rattle.model.specs.Substitute.{substitute_answer, substitute_out, substitute_scratch}
use Rattle.model.specs.Tail.{tail_answer}
use Rattle.model_exponential.specs.Constant.{in_range, exp_constant_answer}
use Rattle.model_exponential.specs.Exact.{Near}
use Rattle.model_recipes.specs.Recipe.{recipe_of}
use Rattle.model_recipes.specs.Check.{check_answer}
use Rattle.model_recipes.specs.Run.{run_answer, run_pool, run_scratch, run_words}
use Rattle.model_settings.specs.Words.{bring_words, fresh_answer, fresh_words, read_version_words, read_words, words_brought}
use Rattle.npy_files.specs.Writes.{write_answer, write_file}
use Rattle.settings_face.specs.Face.{chance_after, horizon_after, numbered, recipe_after, save_handed, version_after}
use Rattle.settings_face.specs.Face.{word_of, words_handed}
use Rattle.taylor.specs.Face.{constant_after, count_after, factor_after, four_of, inputs_after, largest_after, length_after, pool_after, value_after}
use Rattle.taylor.specs.Face.{word_of_answer, word_of_check, word_of_count, word_of_linear, word_of_reading, word_of_run, word_of_written}

abbrev pub TaylorZeroPromise : List Float → ℕ → List Float → Type 0
TaylorZeroPromise out r out' =
    (r ≡ word_of_answer (answered (with_gate 0 ones (length out)) (constant no_header zero_f)))
    × (out' ≡ out_after (with_gate 0 ones (length out)) no_header (constant no_header zero_f) out)

abbrev pub TaylorOnePromise : List Float → ℕ → List Float → Type 0
TaylorOnePromise out r out' =
    (r ≡ word_of_answer (answered (with_gate 0 ones (length out)) (constant no_header one_f)))
    × (out' ≡ out_after (with_gate 0 ones (length out)) no_header (constant no_header one_f) out)

abbrev pub TaylorFromU32Promise : ℕ → List Float → ℕ → List Float → Type 0
TaylorFromU32Promise c out r out' =
    (r ≡ word_of_answer (answered (with_gate 0 ones (length out)) (constant no_header (whole_f c))))
    × (out' ≡ out_after (with_gate 0 ones (length out)) no_header (constant no_header (whole_f c)) out)

abbrev pub TaylorZeroWithPromise : ℕ → ℕ → ℕ → ℕ → ℕ → List Float → ℕ → List Float → Type 0
TaylorZeroWithPromise vars l0 l1 l2 l3 out r out' =
    (r ≡ word_of_answer (answered (with_gate vars (four_of l0 l1 l2 l3) (length out)) (constant (zero_with vars (four_of l0 l1 l2 l3)) zero_f)))
    × (out' ≡ out_after (with_gate vars (four_of l0 l1 l2 l3) (length out)) (zero_with vars (four_of l0 l1 l2 l3))
    (constant (zero_with vars (four_of l0 l1 l2 l3)) zero_f) out)

abbrev pub TaylorFromU32WithPromise : ℕ → ℕ → ℕ → ℕ → ℕ → ℕ → List Float → ℕ → List Float → Type 0
TaylorFromU32WithPromise c vars l0 l1 l2 l3 out r out' =
    (r ≡ word_of_answer (answered (with_gate vars (four_of l0 l1 l2 l3) (length out)) (constant (zero_with vars (four_of l0 l1 l2 l3)) (whole_f c))))
    × (out' ≡ out_after (with_gate vars (four_of l0 l1 l2 l3) (length out)) (zero_with vars (four_of l0 l1 l2 l3))
    (constant (zero_with vars (four_of l0 l1 l2 l3)) (whole_f c)) out)

abbrev pub TaylorVarWithDegreesP1Promise : ℕ → Float → ℕ → ℕ → ℕ → ℕ → ℕ → List Float → ℕ → List Float → Type 0
TaylorVarWithDegreesP1Promise v x vars l0 l1 l2 l3 out r out' =
    (r ≡ word_of_answer (answered (var_with_gate v vars (four_of l0 l1 l2 l3) (length out)) (variable (var_with v vars (four_of l0 l1 l2 l3)) x)))
    × (out' ≡ out_after (var_with_gate v vars (four_of l0 l1 l2 l3) (length out)) (var_with v vars (four_of l0 l1 l2 l3))
    (variable (var_with v vars (four_of l0 l1 l2 l3)) x) out)

abbrev pub TaylorVarPromise : ℕ → Float → ℕ → List Float → ℕ → List Float → Type 0
TaylorVarPromise v x limit out r out' =
    (r ≡ word_of_answer (answered (var_gate v limit (length out)) (variable (var_header v limit) x)))
    × (out' ≡ out_after (var_gate v limit (length out)) (var_header v limit) (variable (var_header v limit) x) out)

abbrev pub TaylorVarAtZeroPromise : ℕ → ℕ → List Float → ℕ → List Float → Type 0
TaylorVarAtZeroPromise v limit out r out' =
    (r ≡ word_of_answer (answered (var_gate v limit (length out)) (variable (var_header v limit) zero_f)))
    × (out' ≡ out_after (var_gate v limit (length out)) (var_header v limit) (variable (var_header v limit) zero_f) out)

abbrev pub TaylorCoefficientPromise : ℕ → List Float → ℕ → ℕ → ℕ → ℕ → Float → ℕ → Float → Type 0
TaylorCoefficientPromise head a i0 i1 i2 i3 value r value' =
    (r ≡ word_of_reading (coefficient_answer head a (four_of i0 i1 i2 i3)))
    × (value' ≡ value_after (coefficient_answer head a (four_of i0 i1 i2 i3)) value)

abbrev pub TaylorConstantTermPromise : ℕ → List Float → Float → ℕ → Float → Type 0
TaylorConstantTermPromise head a value r value' =
    (r ≡ word_of_reading (constant_term_answer head a))
    × (value' ≡ value_after (constant_term_answer head a) value)

abbrev pub TaylorEvaluateAllOnePromise : ℕ → List Float → Float → ℕ → Float → Type 0
TaylorEvaluateAllOnePromise head a value r value' =
    (r ≡ word_of_reading (evaluate_all_one_answer head a))
    × (value' ≡ value_after (evaluate_all_one_answer head a) value)

abbrev pub TaylorExtractLinearPromise : ℕ → List Float → Float → Float → ℕ → Float → Float → Type 0
TaylorExtractLinearPromise head a c m r c' m' =
    (r ≡ word_of_linear (extract_linear_answer head a))
    × ((c' ≡ constant_after (extract_linear_answer head a) c)
    × (m' ≡ factor_after (extract_linear_answer head a) m))

abbrev pub TaylorTailPromise : ℕ → List Float → ℕ → Float → Float → ℕ → Float → Type 0
TaylorTailPromise head a k total value r value' =
    (r ≡ word_of_reading (tail_answer head a k total))
    × (value' ≡ value_after (tail_answer head a k total) value)

abbrev pub TaylorLeastPromise : ℕ → List Float → Float → ℕ → ℕ → ℕ → Type 0
TaylorLeastPromise head a q k r k' =
    (r ≡ word_of_count (least_answer head a q))
    × (k' ≡ count_after (least_answer head a q) k)

abbrev pub TaylorTaylorPolynomialPromise : ℕ → List Float → ℕ → ℕ → List Float → ℕ → List Float → Type 0
TaylorTaylorPolynomialPromise head a v order out r out' =
    (r ≡ word_of_answer (taylor_polynomial_answer head a v order out))
    × (out' ≡ taylor_polynomial_out head a v order out)

abbrev pub TaylorCoefficientsOfTermPromise : ℕ → List Float → ℕ → ℕ → List Float → ℕ → List Float → Type 0
TaylorCoefficientsOfTermPromise head a v order out r out' =
    (r ≡ word_of_answer (coefficients_of_term_answer head a v order out))
    × (out' ≡ coefficients_of_term_out head a v order out)

abbrev pub TaylorNegatePromise : ℕ → List Float → List Float → ℕ → List Float → Type 0
TaylorNegatePromise head a out r out' =
    (r ≡ word_of_answer (negate_answer head a out))
    × (out' ≡ negate_out head a out)

abbrev pub TaylorAddPromise : ℕ → List Float → ℕ → List Float → List Float → List Float → ℕ → List Float → List Float → Type 0
TaylorAddPromise ah a bh b out scratch r out' scratch' =
    (r ≡ word_of_answer (sum_answer false ah a bh b out scratch))
    × ((out' ≡ sum_out false ah a bh b out scratch)
    × (scratch' ≡ sum_scratch false ah a bh b out scratch))

abbrev pub TaylorSubtractPromise : ℕ → List Float → ℕ → List Float → List Float → List Float → ℕ → List Float → List Float → Type 0
TaylorSubtractPromise ah a bh b out scratch r out' scratch' =
    (r ≡ word_of_answer (sum_answer true ah a bh b out scratch))
    × ((out' ≡ sum_out true ah a bh b out scratch)
    × (scratch' ≡ sum_scratch true ah a bh b out scratch))

abbrev pub TaylorMultiplyPromise : ℕ → List Float → ℕ → List Float → List Float → List Float → ℕ → List Float → List Float → Type 0
TaylorMultiplyPromise ah a bh b out scratch r out' scratch' =
    (r ≡ word_of_answer (product_answer ah a bh b out scratch))
    × ((out' ≡ product_out ah a bh b out scratch)
    × (scratch' ≡ product_scratch ah a bh b out scratch))

abbrev pub TaylorDividePromise : ℕ → List Float → ℕ → List Float → List Float → List Float → ℕ → List Float → List Float → Type 0
TaylorDividePromise ah a bh b out scratch r out' scratch' =
    (r ≡ word_of_answer (quotient_answer ah a bh b out scratch))
    × ((out' ≡ quotient_out ah a bh b out scratch)
    × (scratch' ≡ quotient_scratch ah a bh b out scratch))

abbrev pub TaylorExpPromise : ℕ → List Float → Float → List Float → List Float → ℕ → List Float → List Float → Type 0
TaylorExpPromise head a value out scratch r out' scratch' =
    (r ≡ word_of_answer (exp_answer head a value out scratch))
    × ((out' ≡ exp_out head a value out scratch)
    × (scratch' ≡ series_scratch head a value out scratch))

abbrev pub TaylorLogPromise : ℕ → List Float → Float → List Float → List Float → ℕ → List Float → List Float → Type 0
TaylorLogPromise head a value out scratch r out' scratch' =
    (r ≡ word_of_answer (log_answer head a value out scratch))
    × ((out' ≡ log_out head a value out scratch)
    × (scratch' ≡ series_scratch head a value out scratch))

abbrev pub TaylorPowPromise : ℕ → List Float → ℕ → List Float → List Float → ℕ → List Float → List Float → Type 0
TaylorPowPromise head a e out scratch r out' scratch' =
    (r ≡ word_of_answer (power_answer head a e out scratch))
    × ((out' ≡ power_out head a e out scratch)
    × (scratch' ≡ power_scratch head a e out scratch))

abbrev pub TaylorDerivativePromise : ℕ → List Float → ℕ → ℕ → List Float → ℕ → List Float → Type 0
TaylorDerivativePromise head a v n out r out' =
    (r ≡ word_of_answer (derivative_answer head a v n out))
    × (out' ≡ derivative_out head a v n out)

abbrev pub TaylorTaylorExpansionOfCoeffPromise : ℕ → List Float → ℕ → ℕ → List Float → ℕ → List Float → Type 0
TaylorTaylorExpansionOfCoeffPromise head a v n out r out' =
    (r ≡ word_of_answer (expansion_answer head a v n out))
    × (out' ≡ expansion_out head a v n out)

abbrev pub TaylorShiftDownPromise : ℕ → List Float → ℕ → ℕ → List Float → ℕ → List Float → Type 0
TaylorShiftDownPromise head a v n out r out' =
    (r ≡ word_of_answer (shift_down_answer head a v n out))
    × (out' ≡ shift_down_out head a v n out)

abbrev pub TaylorSubstVarPromise : ℕ → List Float → ℕ → List Float → ℕ → List Float → List Float → ℕ → List Float → List Float → Type 0
TaylorSubstVarPromise ah a bh b v out scratch r out' scratch' =
    (r ≡ word_of_answer (substitute_answer v ah a bh b out scratch))
    × ((out' ≡ substitute_out v ah a bh b out scratch)
    × (scratch' ≡ substitute_scratch v ah a bh b out scratch))

abbrev pub TaylorCheckPromise : List ℕ → List ℕ → ℕ → ℕ → ℕ → ℕ → ℕ → ℕ → ℕ → ℕ → Type 0
TaylorCheckPromise headers steps edition pool largest inputs r pool' largest' inputs' =
    (r ≡ word_of_check (check_answer (recipe_of edition headers steps)))
    × ((pool' ≡ pool_after (check_answer (recipe_of edition headers steps)) pool)
    × ((largest' ≡ largest_after (check_answer (recipe_of edition headers steps)) largest)
    × (inputs' ≡ inputs_after (check_answer (recipe_of edition headers steps)) inputs)))

abbrev pub TaylorRunPromise : List ℕ → List Float → List ℕ → ℕ → List Float → List ℕ → List Float → ℕ → List Float → List ℕ → List Float → Type 0
TaylorRunPromise headers coefficients steps edition pool words scratch r pool' words' scratch' =
    (r ≡ word_of_run (run_answer (recipe_of edition headers steps) coefficients pool words scratch))
    × ((pool' ≡ run_pool (recipe_of edition headers steps) coefficients pool words scratch)
    × ((words' ≡ run_words (recipe_of edition headers steps) coefficients pool words scratch)
    × (scratch' ≡ run_scratch (recipe_of edition headers steps) coefficients pool words scratch)))

abbrev pub TaylorNpyWritePromise : ℕ → List Float → List ℕ → ℕ → ℕ → List ℕ → ℕ → Type 0
TaylorNpyWritePromise head a file written r file' written' =
    (r ≡ word_of_written (write_answer head a file))
    × ((file' ≡ write_file false head a file)
    × (written' ≡ length_after (write_answer head a file) written))

abbrev pub TaylorNpyWrite2Promise : ℕ → List Float → List ℕ → ℕ → ℕ → List ℕ → ℕ → Type 0
TaylorNpyWrite2Promise head a file written r file' written' =
    (r ≡ word_of_written (write_answer head a file))
    × ((file' ≡ write_file true head a file)
    × (written' ≡ length_after (write_answer head a file) written))

abbrev pub SettingsFreshPromise : List ℕ → ℕ → List ℕ → Type 0
SettingsFreshPromise words r words' =
    (r ≡ word_of (numbered (fresh_answer words)))
    × (words' ≡ fresh_words words)

abbrev pub SettingsReadPromise : List ℕ → ℕ → ℕ → Float → ℕ → ℕ → ℕ → ℕ → Float → ℕ → ℕ → Type 0
SettingsReadPromise words department version chance horizon recipe r version' chance' horizon' recipe' =
    (r ≡ word_of (numbered (read_words words department)))
    × ((version' ≡ version_after (numbered (read_words words department)) version)
    × ((chance' ≡ chance_after (numbered (read_words words department)) chance)
    × ((horizon' ≡ horizon_after (numbered (read_words words department)) horizon)
    × (recipe' ≡ recipe_after (numbered (read_words words department)) recipe))))

abbrev pub SettingsReadVersionPromise : List ℕ → ℕ → ℕ → Float → ℕ → ℕ → ℕ → Float → ℕ → ℕ → Type 0
SettingsReadVersionPromise words department version chance horizon recipe r chance' horizon' recipe' =
    (r ≡ word_of (numbered (read_version_words words department version)))
    × ((chance' ≡ chance_after (numbered (read_version_words words department version)) chance)
    × ((horizon' ≡ horizon_after (numbered (read_version_words words department version)) horizon)
    × (recipe' ≡ recipe_after (numbered (read_version_words words department version)) recipe)))

abbrev pub SettingsSavePromise : List ℕ → ℕ → ℕ → Float → ℕ → ℕ → ℕ → ℕ → List ℕ → ℕ → Type 0
SettingsSavePromise words department from chance horizon recipe version r words' version' =
    (r ≡ word_of (numbered (save_handed words department from chance horizon recipe)))
    × ((version' ≡ version_after (numbered (save_handed words department from chance horizon recipe)) version)
    × (words' ≡ words_handed words department from chance horizon recipe))

abbrev pub SettingsBringBackPromise : List ℕ → ℕ → ℕ → ℕ → ℕ → ℕ → List ℕ → ℕ → Type 0
SettingsBringBackPromise words department from kept version r words' version' =
    (r ≡ word_of (numbered (bring_words words department from kept)))
    × ((version' ≡ version_after (numbered (bring_words words department from kept)) version)
    × (words' ≡ words_brought words department from kept))

-- what is answered, and what it is worth
abbrev pub TaylorExpConstantPromise : Float → Float → ℕ → Float → Type 0
TaylorExpConstantPromise x value r value' =
    ((r ≡ word_of_reading (exp_constant_answer x))
    × (value' ≡ value_after (exp_constant_answer x) value))
    × (in_range x ≡ true → Near x value')

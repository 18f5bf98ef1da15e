-- How wide the sentences of steps, word one and the program's own limits are, and how long.
use Rattle.std.specs.Prelude.{ℕ, ◌+◌, ◌≤◌, ◌<◌, Bool, List, [], ◌++◌, ◌≡◌, refl, leb, ltb, eqb, length, drop}
use Rattle.std.proofs.Common.{arith, leb-false}
use Rattle.std.proofs.Math.ListN.{take}
use Rattle.lists.specs.Bytes.{bytes}
use Rattle.lists.specs.Test.{decide}
use Rattle.model.specs.declared.Header.{Header}
use Rattle.model.specs.Header.{limit, stored}
use Rattle.model_recipes.specs.Check.{named_before, zero_unless}
use Rattle.model_recipes.specs.Recipe.{head_at, announced_step, total}
use Rattle.model_recipes.specs.Steps.{step_of, spare_of, uses_of}
use Rattle.model_texts.specs.Printed.{decimal}
use Rattle.model_faults.specs.WordOne.{word_one_cause, sizes_cause}
use Rattle.model_faults.specs.StepWord.{late_text, unused_text, operand_text, fields_cause, formed_cause}
use Rattle.model_faults.specs.StepCount.{has_text, variable_cause, limit_cause, count_cause}
use Rattle.model_faults.specs.StepStop.{stop_cause}
use Rattle.model_faults.specs.Own.{where_text, line_of, large_fault, totals_fault, first_large, own_fault}
use Rattle.model_faults.specs.Fault.{step_cause}
use Rattle.shape_words.specs.Lengths.{lengths_of_lem, count_most}
use Rattle.shape_words.specs.Rules.{Regular, ruled-at}
use Rattle.recipes_kinds.specs.Known.{Known, step-regular, small-kind, small-variable}
use Rattle.report_trace.specs.Small.{a_small, b-small}
use Rattle.report_lines.specs.Columns.{in_columns, Piece, piece, piece_then, piece-either, number_piece, small_piece, one-digit, two_digits}
use Rattle.report_refused.specs.Fits.{Fits, fits-up, fits-none, fits-text, fits_then, fits-either, fits-unless, fits-say, fits-two}

-- numbers of three, five and eight digits
pub three : (n : ℕ) → n < 1000 → Piece 3 (decimal n)
three n h = small_piece 3 n (omega arith) h (omega arith)

pub five : (n : ℕ) → n < 100000 → Piece 5 (decimal n)
five n h = small_piece 5 n (omega arith) h (omega arith)

eight : (n : ℕ) → n ≤ 16777216 → Piece 8 (decimal n)
eight n h = small_piece 8 n (omega arith) (omega arith) (omega arith)

-- the line and the place
pub where_piece : {a b : ℕ} (line k p : ℕ) → Piece a (decimal line) → Piece b (decimal p) → Piece (5 + a + (8 + b + 3)) (where_text line k p)
unfolding where_text bytes
where_piece line k p q r =
    piece_then (piece_then (piece 5 (bytes "line ") refl) q)
    (piece_then
    (piece-either (ltb p k) (piece_then (piece 8 (bytes " (input ") refl) r) (piece_then (piece 8 (bytes " (place ") refl) r))
    (piece 3 (bytes "): ") refl))

-- ---- a step

late-fits : (x p : ℕ) → x < 64 → Fits 41 42 (late_text x p)
unfolding late_text bytes in_columns
late-fits x p l =
    let q = two_digits x (omega arith) in
    let s = piece 10 (bytes " is place ") refl in
    fits-either (eqb p 0)
    (fits-say " is place " x "; there is no earlier place.\n" s q (fits-text 29 30 (bytes "; there is no earlier place.\n") refl))
    (fits-either (eqb x p)
    (fits-say " is place " x " itself; name an earlier one.\n" s q (fits-text 29 30 (bytes " itself; name an earlier one.\n") refl))
    (fits-say " is place " x "; name an earlier one.\n" s q (fits-text 29 30 (bytes "; name an earlier one.\n") refl)))

unused-fits : {d : ℕ} (x k : ℕ) → Piece d (decimal x) → k < 16 → Fits (35 + d) (36 + d) (unused_text x k)
unfolding unused_text bytes in_columns
unused-fits x k q l =
    fits-up
    (fits-two " is " x "; kind " k " uses none: write 0.\n" (piece 4 (bytes " is ") refl) q (piece 7 (bytes "; kind ") refl)
    (two_digits k (omega arith)) (fits-text 22 23 (bytes " uses none: write 0.\n") refl))
    (omega arith) (omega arith)

operand-fits : (used : Bool) (x p k : ℕ) → x < 64 → k < 16 → Fits 41 42 (operand_text used x p k)
unfolding operand_text
operand-fits used x p k l m =
    fits-either used (late-fits x p l) (fits-up (unused-fits x k (two_digits x (omega arith)) m) (omega arith) (omega arith))

n-ten : (w : ℕ) → Piece 10 (decimal (step_of w).n)
unfolding step_of
n-ten w = small_piece 10 _ (omega arith) (omega arith) (omega arith)

spare_five : (w : ℕ) → Piece 5 (decimal (spare_of w))
spare_five w = five (spare_of w) (omega arith)

fields-fits : (w : ℕ) → Fits 57 58 (fields_cause w)
unfolding fields_cause bytes in_columns
fields-fits w =
    let k = small-kind w in
    fits-unless (zero_unless (uses_of (step_of w).kind).variable (step_of w).variable)
    (fits-up
    (fits_then (piece 12 (bytes "the variable") refl)
    (unused-fits (step_of w).variable (step_of w).kind (one-digit (step_of w).variable (omega (arith, small-variable w))) k))
    (omega arith) (omega arith))
    (fits-unless (zero_unless (uses_of (step_of w).kind).n (step_of w).n)
    (fits-up (fits_then (piece 1 (bytes "n") refl) (unused-fits (step_of w).n (step_of w).kind (n-ten w) k)) (omega arith) (omega arith))
    (fits-unless (eqb (spare_of w) 0)
    (fits-up
    (fits-say "its last 14 bits are " (spare_of w) "; write zeros.\n" (piece 21 (bytes "its last 14 bits are ") refl) (spare_five w)
    (fits-text 14 15 (bytes "; write zeros.\n") refl)) (omega arith) (omega arith))
    fits-none))

formed-fits : (w p : ℕ) → Fits 57 58 (formed_cause w p)
unfolding formed_cause bytes in_columns
formed-fits w p =
    let k = small-kind w in
    fits-unless (uses_of (step_of w).kind).kind
    (fits-up
    (fits-say "there is no kind " (step_of w).kind "; take 0 to 11.\n" (piece 17 (bytes "there is no kind ") refl)
    (two_digits (step_of w).kind (omega (arith, k))) (fits-text 15 16 (bytes "; take 0 to 11.\n") refl)) (omega arith) (omega arith))
    (fits-unless (named_before p (uses_of (step_of w).kind).a (step_of w).a)
    (fits-up
    (fits_then (piece 9 (bytes "operand a") refl) (operand-fits (uses_of (step_of w).kind).a (step_of w).a p (step_of w).kind (a_small w) k))
    (omega arith) (omega arith))
    (fits-unless (named_before p (uses_of (step_of w).kind).b (step_of w).b)
    (fits-up
    (fits_then (piece 9 (bytes "operand b") refl) (operand-fits (uses_of (step_of w).kind).b (step_of w).b p (step_of w).kind (b-small w) k))
    (omega arith) (omega arith))
    (fields-fits w)))

has-fits : (m : ℕ) → m ≤ 4 → Fits 23 24 (has_text m)
unfolding has_text bytes in_columns
has-fits m l =
    fits-either (eqb m 0) (fits-text 23 24 (bytes " has none.\n") refl)
    (fits-say " has " m ", counted from 0.\n" (piece 5 (bytes " has ") refl) (one-digit m (omega arith)) (fits-text 17 18 (bytes ", counted from 0.\n") refl))

module _ (w : ℕ) {known : List Header} (g : Known known) where
  abbrev operand : Regular (head_at known (step_of w).a)
  operand = g.at (step_of w).a

  variable-fits : Fits 57 58 (variable_cause w known)
  unfolding variable_cause bytes
  variable-fits =
      fits-up
      (fits_then (piece_then (piece 18 (bytes "it names variable ") refl) (one-digit (step_of w).variable (omega (arith, small-variable w))))
      (fits_then (piece_then (piece 8 (bytes "; place ") refl) (two_digits (step_of w).a (omega (arith, a_small w))))
      (has-fits (head_at known (step_of w).a).vars operand.rules.few)))
      (omega arith) (omega arith)

  limit-fits : Fits 57 58 (limit_cause w known)
  unfolding limit_cause bytes in_columns
  limit-fits =
      let l = limit (head_at known (step_of w).a) (step_of w).variable in
      let m = ruled-at operand.rules (step_of w).variable (small-variable w) in
      fits-up
      (fits_then (piece_then (piece 5 (bytes "n is ") refl) (n-ten w))
      (fits-two ", not below " l ", the limit of variable " (step_of w).variable ".\n" (piece 12 (bytes ", not below ") refl)
      (two_digits l (omega (arith, m.most))) (piece 24 (bytes ", the limit of variable ") refl)
      (one-digit (step_of w).variable (omega (arith, small-variable w))) (fits-text 1 2 (bytes ".\n") refl)))
      (omega arith) (omega arith)

  count_fits : Fits 57 58 (count_cause w known)
  unfolding count_cause bytes in_columns
  count_fits =
      let n = stored (announced_step 0 w known) in
      fits-up
      (fits-say "it takes " n " coefficients; 4096 are the most.\n" (piece 9 (bytes "it takes ") refl)
      (eight n (count_most (lengths_of_lem (step-regular 0 w g).rules))) (fits-text 33 34 (bytes " coefficients; 4096 are the most.\n") refl))
      (omega arith) (omega arith)

  -- two lines
  stop-fits : Fits 57 140 (stop_cause w)
  unfolding stop_cause bytes in_columns
  stop-fits =
      fits-up
      (fits-say "the first coefficient of place " (step_of w).a
      " is not from -8 to 8;\nwhere that is meant, divide that place by n, take exp, then the power n of it.\n"
      (piece 31 (bytes "the first coefficient of place ") refl) (two_digits (step_of w).a (omega (arith, a_small w)))
      (fits-text 21 101
      (bytes " is not from -8 to 8;\nwhere that is meant, divide that place by n, take exp, then the power n of it.\n") refl))
      (omega arith) (omega arith)

  long : {t : List ℕ} → Fits 57 58 t → Fits 57 140 t
  long f = fits-up f (omega arith) (omega arith)

  pub step_fits : (n p : ℕ) → Fits 57 140 (step_cause n w p known)
  unfolding step_cause
  step_fits n p =
      fits-either (eqb n 7) (long (formed-fits w p))
      (fits-either (eqb n 3) (long variable-fits) (fits-either (eqb n 4) (long limit-fits)
      (fits-either (eqb n 12) stop-fits (long count_fits))))

-- ---- word one

pub sizes-fits : (k n x : ℕ) → k < 256 → n < 256 → Fits 72 73 (sizes_cause k n x)
unfolding sizes_cause bytes in_columns
sizes-fits k n x a b =
    let s = piece 13 (bytes "word one has ") refl in
    let q = three k (omega arith) in
    fits-unless (leb k 16)
    (fits-up (fits-say "word one has " k " inputs; 16 are the most.\n" s q (fits-text 26 27 (bytes " inputs; 16 are the most.\n") refl))
    (omega arith) (omega arith))
    (fits-unless (leb 1 n) (fits-text 72 73 (bytes "word one has no step; write 1 or more.\n") refl)
    (fits-unless (leb (k + n) 64)
    (fits-up
    (fits-two "word one has " k " inputs and " n " steps; 64 together are the most.\n" s q (piece 12 (bytes " inputs and ") refl)
    (three n (omega arith)) (fits-text 33 34 (bytes " steps; 64 together are the most.\n") refl))
    (omega arith) (omega arith))
    (fits-unless (eqb x 0) (fits-text 72 73 (bytes "word one's last 11 digits are not all zero; write zeros.\n") refl) fits-none)))

pub word-one-fits : (e k n x : ℕ) → e < 16 → k < 256 → n < 256 → Fits 72 73 (word_one_cause e k n x)
unfolding word_one_cause bytes in_columns
word-one-fits e k n x d a b =
    fits-unless (leb e 1)
    (fits-up (fits-say "word one has edition " e "; write 0 or 1.\n" (piece 21 (bytes "word one has edition ") refl) (two_digits e (omega arith))
    (fits-text 15 16 (bytes "; write 0 or 1.\n") refl)) (omega arith) (omega arith))
    (sizes-fits k n x a b)

-- ---- the program's own limits

large-fits : (k c p n : ℕ) → c + p < 99000 → p < 64 → n ≤ 16777216 → Fits 80 81 (large_fault k c p n)
unfolding large_fault line_of bytes in_columns
large-fits k c p n a b l =
    let m : line_of k c p < 100000 = decide (ltb p k) (λ t. rw t (omega arith)) (λ t. rw t (omega arith)) in
    fits-up
    (fits_then (where_piece (line_of k c p) k p (five (line_of k c p) m) (two_digits p (omega arith)))
    (fits-say "it takes " n " coefficients; 256 are the most here.\n" (piece 9 (bytes "it takes ") refl) (eight n l)
    (fits-text 37 38 (bytes " coefficients; 256 are the most here.\n") refl)))
    (omega arith) (omega arith)

totals-fits : (c d : ℕ) → Fits 80 81 (totals_fault c d)
unfolding totals_fault bytes in_columns
totals-fits c d =
    let e = fits-text 42 43 (bytes " coefficients together; 2048 are the most.\n") refl in
    fits-unless (leb c 2048)
    (fits-up (fits-say "The inputs take " c " coefficients together; 2048 are the most.\n" (piece 16 (bytes "The inputs take ") refl) (number_piece c) e)
    (omega arith) (omega arith))
    (fits-unless (leb d 2048)
    (fits-up (fits-say "The steps take " d " coefficients together; 2048 are the most.\n" (piece 15 (bytes "The steps take ") refl) (number_piece d) e)
    (omega arith) (omega arith))
    fits-none)

pub own-fits : (known : List Header) (k : ℕ) → Known known → length known ≤ 64 → total (take k known) ≤ 65536 → Fits 80 81 (own_fault known k)
unfolding own_fault
own-fits known k g few small =
    let p = first_large known in
    let c = total (take k known) in
    decide (leb (length known) p)
    (λ b. rw b (totals-fits c (total (drop k known))))
    (λ b.
    let l : p < length known = leb-false (length known) p b in
    rw b (large-fits k c p (stored (head_at known p)) (omega arith) (omega arith) (count_most (lengths_of_lem (g.at p).rules))))

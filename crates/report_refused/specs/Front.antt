-- The first 1,115,218 bytes of a sheet decide what is said where it is refused, as they decide the refusal.
use Prim.Native.Nat.{ℕ, ◌+◌, ◌*◌, ◌≤◌, ◌<◌}
use Rattle.std.specs.Prelude.{Bool, cond, ◌≡◌, leb, ltb, eqb, length, take}
use mathlib.Core.List.{List, ◌++◌}
use Rattle.std.proofs.Math.Path.{refl, sym, ap, ap₂}
use Rattle.std.proofs.Common.{◌∙◌, arith, take_all}
use borrow.Author.Tests.{leb-true, leb-false, ltb-true, ltb-false, eqb-true}
use Rattle.lists.specs.Test.{decide}
use Rattle.model.specs.declared.Refusal.{Refusal}
use Rattle.model_texts.specs.Hex.{is_digit, byte_at, digit_at}
use Rattle.model_texts.specs.Printed.{refused_text}
use Rattle.model_texts.specs.Sheet.{lined, input_count, step_count, sheet_edition, spare, coefficient_count, rest_count, read_refusal, sheet_refusal}
use Rattle.model_faults.specs.Saying.{first_not}
use Rattle.model_faults.specs.Broken.{byte_fault, asked_text, ended_text}
use Rattle.model_faults.specs.Broken.{head_lines, least_lines, all_lines, digits_on, line_cause, line_fault, rest_fault, broken_text}
use Rattle.model_faults.specs.WordOne.{sizes_fault}
use Rattle.model_faults.specs.Fault.{read_fault, fault_text, fault_report}
use Rattle.sheet_reading.specs.Reading.{count_small}
use Rattle.sheet_solving.specs.Opened.{Opened}
use Rattle.sheet.specs.Front.{read_at_most, byte-same, line_same, inputs-same, steps-same, edition-same, spare-same, count_same, length-same, read_same}
use Rattle.report_say.specs.First.{first-same}
use Rattle.report_broken.specs.Headers.{lines-most}
use Rattle.report_broken.specs.Wrong.{digits-most, broken_open}
use Rattle.report_refused.specs.Said.{read_is, said_read}
use Rattle.report_refused.specs.Small.{read_length}

-- two texts that agree as far as a sheet can go
record Alike (t u : List ℕ) : Type 0 where
  bytes : (p : ℕ) → p < read_at_most → byte_at u p ≡ byte_at t p
  lines : (k : ℕ) → k < 65601 → lined u k ≡ lined t k
  ends : (m : ℕ) → m < read_at_most → leb (length u) m ≡ leb (length t) m
  inputs : input_count u ≡ input_count t
  steps : step_count u ≡ step_count t
  edition : sheet_edition u ≡ sheet_edition t
  zeros : spare u ≡ spare t
  count : coefficient_count u ≡ coefficient_count t
  read : read_refusal u ≡ read_refusal t

front-alike : (t : List ℕ) → Alike t (take read_at_most t)
front-alike t =
    record {
      bytes = byte-same t;
      lines = line_same t;
      ends = length-same t;
      inputs = inputs-same t;
      steps = steps-same t;
      edition = edition-same t;
      zeros = spare-same t;
      count = count_same t;
      read = read_same t;
    }

-- what is said of the line k behind c right bytes: whether the text ends there, the byte, the lines of the headers
abbrev said_by : ℕ → ℕ → ℕ → Bool → ℕ → ℕ → List ℕ
said_by k n c ended b h = cond ended (ended_text k c ++ asked_text h k n) (byte_fault b c)

module _ {t u : List ℕ} (s : Alike t u) where
  -- ---- a line

  digits_same : (k : ℕ) → k < 65601 → digits_on u k ≡ digits_on t k
  unfolding digits_on
  digits_same k h =
      first-same (λ j. digit_at u (17 * k + j)) (λ j. digit_at t (17 * k + j)) 16 0 (λ q a b. ap is_digit (s.bytes (17 * k + q) (omega arith)))

  cause-same : (k n : ℕ) → k < 65601 → line_cause u k n ≡ line_cause t k n
  unfolding line_cause
  cause-same k n h =
      let d : ℕ = digits_on t k in
      let m : 17 * k + d < read_at_most = omega (arith, digits-most t k) in
      ap (λ (c : ℕ). said_by k n c (leb (length u) (17 * k + c)) (byte_at u (17 * k + c)) (head_lines u)) (digits_same k h)
      ∙ (ap (λ (e : Bool). said_by k n d e (byte_at u (17 * k + d)) (head_lines u)) (s.ends (17 * k + d) m)
      ∙ (ap (λ (b : ℕ). said_by k n d (leb (length t) (17 * k + d)) b (head_lines u)) (s.bytes (17 * k + d) m)
      ∙ ap (λ (i : ℕ). said_by k n d (leb (length t) (17 * k + d)) (byte_at t (17 * k + d)) (1 + i)) s.inputs))

  fault-same : (k n : ℕ) → k < 65601 → line_fault u k n ≡ line_fault t k n
  unfolding line_fault
  fault-same k n h = rw (cause-same k n h) refl

  wrong-same : (n from : ℕ) → from + n ≤ 65601 → first_not (lined u) n from ≡ first_not (lined t) n from
  wrong-same n from h = first-same (lined u) (lined t) n from (λ q a b. s.lines q (omega arith))

  -- ---- refused by 8

  rest-same : Opened t → rest_fault u ≡ rest_fault t
  unfolding rest_fault
  rest-same o =
      let n : ℕ = rest_count t in
      let f : ℕ = head_lines t in
      let k : ℕ = first_not (lined t) n f in
      rw (s.inputs, s.count, s.steps, wrong-same n f (omega (arith, lines-most o)))
      (decide (ltb k (all_lines t))
      (λ b. rw (b, fault-same k (all_lines t) (omega (arith, ltb-true k (all_lines t) b, lines-most o))) refl)
      (λ b. rw b refl))

  broken-same : (read_refusal t).number ≡ 8 → broken_text u ≡ broken_text t
  unfolding broken_text
  broken-same e =
      let f : ℕ = head_lines t in
      let k : ℕ = first_not (lined t) f 0 in
      rw (s.inputs, s.steps, wrong-same f 0 (omega (arith, count_small t)))
      (decide (ltb k f)
      (λ b. rw (b, fault-same k (least_lines t) (omega (arith, ltb-true k f b, count_small t))) refl)
      (λ b. rw (b, rest-same (broken_open t refl refl e (ltb-false k f b))) refl))

  -- ---- the law

  sizes-same : sizes_fault u ≡ sizes_fault t
  unfolding sizes_fault
  sizes-same = rw (s.edition, s.inputs, s.steps, s.zeros) refl

  read-said : read_fault u (read_refusal t) ≡ read_fault t (read_refusal t)
  unfolding read_fault
  read-said =
      decide (eqb (read_refusal t).number 8)
      (λ b. rw (b, broken-same (eqb-true _ _ b)) refl)
      (λ b. rw (b, sizes-same, s.inputs) refl)

  refused-same : ((read_refusal t).number ≡ 0 → ⊥) → fault_report u ≡ fault_report t
  unfolding fault_report
  refused-same n =
      let m : (read_refusal u).number ≡ 0 → ⊥ = λ z. n (ap (λ (r : Refusal). r.number) (sym s.read) ∙ z) in
      let e : sheet_refusal u ≡ read_refusal t = read_is u m ∙ s.read in
      let f : sheet_refusal t ≡ read_refusal t = read_is t n in
      let v : fault_text u ≡ read_fault u (read_refusal t) = said_read u {r = read_refusal t} (sym e) n m in
      let w : fault_text t ≡ read_fault t (read_refusal t) = said_read t {r = read_refusal t} (sym f) n n in
      ap₂ (λ (x y : List ℕ). x ++ y) (ap refused_text (e ∙ sym f)) (v ∙ (read-said ∙ sym w))

module _ (t : List ℕ) where
  long-front : read_at_most < length t → fault_report (take read_at_most t) ≡ fault_report t
  long-front l = refused-same (front-alike t) (λ z. omega (arith, read_length t z))

  pub fault-front : fault_report (take read_at_most t) ≡ fault_report t
  fault-front = decide (leb (length t) read_at_most) (λ a. ap fault_report (take_all read_at_most t (leb-true _ _ a))) (λ a. long-front (leb-false _ _ a))

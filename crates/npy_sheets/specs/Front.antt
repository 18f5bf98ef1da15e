-- What the programs print is decided by as much as they read: 98,316 bytes of a file, 69,658 of an answer.
use Rattle.std.specs.Prelude.{ℕ, ◌+◌, ◌*◌, ◌≤◌, ◌<◌, Bool, true, ◌&&◌, ◌≡◌, refl, length, take, Float}
use mathlib.Core.List.{List}
use Rattle.std.proofs.Math.Bool.{false}
use Rattle.std.proofs.Common.{true≢false, ap, ap₂, ◌∙◌, subst, arith, length-take-le, take_all}
use Rattle.std.proofs.Math.Path.{sym}
use Rattle.std.proofs.Math.Dec.{leb, ltb}
use Rattle.std.proofs.Math.ListN.{length-take}
use borrow.Author.Tests.{leb-true, leb-false, le-leb, lt-leb, ltb-false}
use Rattle.lists.specs.Test.{decide}
use Rattle.model.specs.Refusals.{refused_by}
use Rattle.model_texts.specs.Printed.{refused_word, refused_text}
use Rattle.model.specs.Results.{Answer}
use Rattle.npy_files.specs.Frame.{byte_at, little, opening, starts_with, is_version}
use Rattle.npy_files.specs.Reads.{Reading}
use Rattle.npy_files.specs.Once.{reading-once}
use Rattle.npy_laws.specs.Front.{read_at_most, ShortHead, starts-take, little-take, front_reads}
use Rattle.npy_answers.specs.Answer.{is_answer, is_refusal}
use Rattle.npy_answers.specs.Tested.{answered, answer-good, start_small}
use Rattle.npy_sheets.specs.Shown.{shown_text, is_long, Telling, ShownFile}
use Rattle.npy_sheets.specs.Arrays.{array_text}

-- ---- `from_npy`

module _ (t : List ℕ) (bytes : (k : ℕ) → byte_at t k ≤ 255) where
  abbrev u : List ℕ
  u = take read_at_most t

  long_same : is_long u ≡ is_long t
  unfolding is_long is_version
  long_same =
      rw (starts-take (opening 2) t read_at_most (omega arith), little-take 4 t 8 read_at_most (omega arith))
      (ap (λ (b : Bool). b && (starts_with (opening 2) t && ltb 65535 (little 4 t 8))) (leb-take read_at_most t))
    where
      leb-take : (n : ℕ) (t : List ℕ) → leb n (length (take n t)) ≡ leb n (length t)
      leb-take n t =
          decide (leb n (length t))
          (λ a. le-leb n (length (take n t)) (omega (arith, length-take n t, leb-true n (length t) a)) ∙ sym a)
          (λ a. lt-leb n (length (take n t)) (omega (arith, length-take n t, leb-false n (length t) a)) ∙ sym a)

  short-head : is_long t ≡ false → read_at_most ≤ length t → ShortHead t
  unfolding is_long
  short-head e l v =
      let k : ltb 65535 (little 4 t 8) ≡ false = sym (rw (le-leb read_at_most (length t) l, v)) ∙ e in
      ltb-false 65535 (little 4 t 8) k

  both : {values x y : List Float} {a b : Answer} → is_long t ≡ false → Reading t values a x → Reading u values b y → (a ≡ b) × (x ≡ y)
  both {values} {x} {y} {a} {b} e r s =
      decide (leb read_at_most (length t))
      (λ l. front_reads t bytes (short-head e (leb-true read_at_most (length t) l)) r s)
      (λ l.
      let m = leb-false read_at_most (length t) l in
      reading-once r (subst (λ (z : List ℕ). Reading z values b y) (take_all read_at_most t (omega (arith, m))) s))

  pub told-front : {values x y : List Float} {m n : List ℕ} → Telling t values x m → Telling u values y n → (x ≡ y) × (m ≡ n)
  told-front (Telling.long e) (Telling.long f) = (refl, refl)
  told-front (Telling.long e) (Telling.whole f r) = absurd (true≢false (sym e ∙ (sym long_same ∙ f)))
  told-front (Telling.whole e r) (Telling.long f) = absurd (true≢false (sym f ∙ (long_same ∙ e)))
  told-front (Telling.whole e r) (Telling.whole f s) = let k = both e r s in (k.1, ap₂ shown_text k.0 k.1)

  -- as the program prints it
  pub shown-front : {values x y : List Float} {old new old' new' : List ℕ} {n m : ℕ}
      → (a : ShownFile t values x old new n) (b : ShownFile u values y old' new' m) → a.text ≡ b.text
  shown-front a b = (told-front a.told b.told).1

-- ---- `to_npy`

abbrev pub answer_at_most : ℕ
answer_at_most = 69658

module _ (t : List ℕ) where
  answer-short : 69657 < length t → is_answer t ≡ false
  answer-short l =
      decide (is_answer t)
      (λ a. absurd (let f = answered t a in omega (arith, l, f.long, (answer-good f).most, start_small t)))
      (λ a. a)

  refusal-short : 64 < length t → is_refusal t ≡ false
  unfolding is_refusal
  refusal-short l =
      decide (starts_with refused_word t)
      (λ a. decide (leb 9 (length t)) (λ b. rw (a, b, lt-leb (length t) 64 l)) (λ b. rw (a, b)))
      (λ a. rw a)

  other_text : (newer : Bool) → 69657 < length t → array_text newer t ≡ refused_text (refused_by 8)
  unfolding array_text
  other_text newer l = rw (answer-short l, refusal-short (omega (arith, l)))

pub array-front : (newer : Bool) (t : List ℕ) → array_text newer (take answer_at_most t) ≡ array_text newer t
array-front newer t =
    decide (leb (length t) answer_at_most)
    (λ a. ap (array_text newer) (take_all answer_at_most t (leb-true (length t) answer_at_most a)))
    (λ a.
    let l = leb-false (length t) answer_at_most a in
    other_text (take answer_at_most t) newer (omega (arith, l, length-take-le answer_at_most t (omega (arith, l)))) ∙ sym (other_text t
    newer (omega (arith, l))))

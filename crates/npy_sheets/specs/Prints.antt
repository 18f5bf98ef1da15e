-- The outcomes of `to_npy`, from what the code found.
use Rattle.std.specs.Prelude.{Ok, Err, ℕ, ◌+◌, ◌-◌, ◌*◌, ◌≤◌, Bool, true, false, ◌&&◌, refl, leb, eqb, take, Float}
use mathlib.Core.List.{List, ◌++◌}
use Rattle.std.proofs.Math.Path.{◌≡◌, sym, ap, ap₂}
use Rattle.std.proofs.Common.{◌∙◌, subst, length-take-le, take_at, leb-true}
use native.Mathlib.Omega.{arith}
use Rattle.std.proofs.Math.ListN.{length, drop}
use Rattle.std.specs.Float.Ieee.{of_bits, binary64}
use Rattle.lists.specs.Every.{every}
use Rattle.lists.specs.Grow.{over}
use Rattle.lists.specs.Table.{table, front, length-table}
use Rattle.lists.specs.Test.{and_left, and_right}
use Rattle.model.specs.declared.Header.{Header}
use Rattle.model.specs.declared.Refusal.{Refusal}
use Rattle.model.specs.Header.{stored}
use Rattle.model.specs.Refusals.{refused_by}
use Rattle.model.specs.Word.{header_of}
use Rattle.model_texts.specs.Hex.{word_at}
use Rattle.model_texts.specs.Printed.{refused_word, refused_text}
use Rattle.shape_words.specs.Rules.{Good, Ruled}
use Rattle.npy_files.specs.Results.{Written}
use Rattle.npy_files.specs.Frame.{byte_at, starts_with}
use Rattle.npy_files.specs.Shapes.{shape_of}
use Rattle.npy_files.specs.Writes.{file_out, file_length, write_answer, write_file}
use Rattle.npy_laws.specs.Written.{shape-good, shape-product, write_done}
use Rattle.npy_laws.specs.Back.{file-long}
use Rattle.npy_answers.specs.Answer.{lines_start, head_word, value_count, line_value, is_answer, answer_values, is_numeral, is_refusal}
use Rattle.npy_answers.specs.Tested.{Answered, answered, answer-good, start_small}
use Rattle.sheet_text.specs.Put.{Put}
use Rattle.npy_sheets.specs.Arrays.{array_text, array_memory, Arrayed}

-- how many bytes were written
unfoldable length_of : Written → ℕ
length_of (Ok n) = n
length_of (Err r) = 0

unfoldable is_done : Written → ℕ
is_done (Ok n) = 1
is_done (Err r) = 0

module _ (newer : Bool) (t : List ℕ) (yes : is_answer t ≡ true) where
  abbrev w : ℕ
  w = head_word t

  facts : Good (header_of w)
  facts = answer-good (answered t yes)

  abbrev file : List ℕ
  file = file_out newer (shape_of (header_of w)) (answer_values t)

  many : length (answer_values t) ≡ stored (header_of w)
  unfolding answer_values
  many = length-table (line_value t) (value_count t)

  file-bytes : length file ≡ file_length w
  file-bytes =
      file-long (shape_of (header_of w)) (shape-good (header_of w) facts) newer (answer_values t) (many ∙ sym (shape-product (header_of w) facts))
      ∙ ap (λ (n : ℕ). 128 + 8 * n) many

  module _ {s v : ℕ} (es : s ≡ lines_start t) (ev : v ≡ word_at t s) where
    word-is : v ≡ w
    word-is = ev ∙ ap (word_at t) es

    pub here-small : s ≤ 8
    here-small = subst (λ (n : ℕ). n ≤ 8) (sym es) (start_small t)

    pub here_ruled : {h : Header} → h ≡ header_of v → Ruled h
    here_ruled e = subst Ruled (sym (e ∙ ap header_of word-is)) facts.regular.rules

    module _ {c : ℕ} {h : Header} (eh : h ≡ header_of v) (ec : c ≡ stored h) where
      count-is : c ≡ value_count t
      count-is = ec ∙ ap stored (eh ∙ ap header_of word-is)

      pub here-few : c ≤ 4096
      here-few = subst (λ (n : ℕ). n ≤ 4096) (sym count-is) facts.most

      module _ (values : List Float) (room : length values ≡ 4096) {x : List Float}
          (ex : x ≡ table (length (take c values)) (λ j. of_bits binary64 (word_at t (s + 17 * (1 + j))))) where
        part-long : length (take c values) ≡ c
        part-long = length-take-le c values (omega (arith, here-few, room))

        values_are : x ≡ answer_values t
        unfolding answer_values
        values_are =
            ex
            ∙ (ap (λ (n : ℕ). table n (λ j. of_bits binary64 (word_at t (s + 17 * (1 + j))))) part-long
            ∙ ap₂ (λ (n p : ℕ). table n (λ j. of_bits binary64 (word_at t (p + 17 * (1 + j))))) count-is es)

        memory-is : x ++ drop c values ≡ array_memory t values
        unfolding array_memory answer_values
        memory-is = rw yes (ap₂ (λ (y : List Float) (n : ℕ). y ++ drop n values) values_are count-is)

        pub x-long : length x ≡ c
        x-long = ap length values_are ∙ (many ∙ sym count-is)

        given_are : take c (x ++ drop c values) ≡ answer_values t
        given_are = take_at x (drop c values) c x-long ∙ values_are

        module _ (old : List ℕ) (fit : 32896 ≤ length old) {r : Written} {new : List ℕ}
            (er : r ≡ write_answer v (take c (x ++ drop c values)) old) (en : new ≡ write_file newer v (take c (x ++ drop c values)) old) where
          done-is : (write_answer w (answer_values t) old ≡ Ok (file_length w)) × (write_file newer w (answer_values t) old ≡ over file old)
          done-is = write_done newer w (answer_values t) old (answered t yes).good many (omega (arith, facts.most, fit))

          r-is : r ≡ Ok (file_length w)
          r-is = er ∙ (ap₂ (λ (k : ℕ) (a : List Float). write_answer k a old) word-is given_are ∙ done-is.0)

          new_is : new ≡ over file old
          new_is = en ∙ (ap₂ (λ (k : ℕ) (a : List Float). write_file newer k a old) word-is given_are ∙ done-is.1)

          pub array-done : (n : ℕ) → r ≡ Ok n → Arrayed newer t values (x ++ drop c values) old new n
          unfolding array_text length_of
          array-done n e =
              let long : n ≡ length file = ap length_of (sym e ∙ r-is) ∙ sym file-bytes in
              record {
                put = rw yes (record { behind = omega (arith, long); fits = omega (arith, long, file-bytes, facts.most, fit); is = new_is });
                memory = memory-is;
              }

          pub array-never : (e : Refusal) → r ≡ Err e → ⊥
          unfolding is_done
          array-never e k = let z : ◌≡◌ {A = ℕ} 0 1 = ap is_done (sym k ∙ r-is) in omega arith

-- a refusal's line fits
pub passed-short : (t : List ℕ) → is_refusal t ≡ true → length t ≤ 64
unfolding is_refusal
passed-short t h =
    let a = starts_with refused_word t in
    let b = leb 9 (length t) in
    let c = leb (length t) 64 in
    let e = eqb (byte_at t (length t - 1)) 10 && every (is_numeral t) (length t - 9) 8 in
    leb-true (length t) 64 (and_left c e (and_right b (c && e) (and_right a (b && (c && e)) h)))

-- a text that is no answer
module _ (newer : Bool) (t : List ℕ) (no : is_answer t ≡ false) (values : List Float) where
  kept : values ≡ array_memory t values
  unfolding array_memory
  kept = rw no

  pub array-passed : {old new : List ℕ} {n : ℕ} → is_refusal t ≡ true → Put 0 t old new n → Arrayed newer t values values old new n
  unfolding array_text
  array-passed h p = record { put = rw (no, h) p; memory = kept }

  pub array-other : {old new : List ℕ} {n : ℕ} {r : Refusal} → r ≡ refused_by 8 → is_refusal t ≡ false → Put 0 (refused_text r) old new n
      → Arrayed newer t values values old new n
  unfolding array_text
  array-other {old} {new} {n} e h p =
      record { put = rw (no, h) (subst (λ (x : Refusal). Put 0 (refused_text x) old new n) e p); memory = kept }

-- What the tests of an answer found.
use Rattle.std.specs.Prelude.{ℕ, zero, suc, ◌+◌, ◌-◌, ◌*◌, ◌≤◌, ◌<◌, List, Bool, true, false, ◌&&◌, ◌||◌, ◌≡◌, refl, ltb, length}
use Rattle.std.proofs.Math.Path.{sym, ap}
use Rattle.std.proofs.Common.{ap₂, ◌∙◌, subst, arith}
use Rattle.std.proofs.Math.Dec.{eqb}
use borrow.Author.Tests.{ltb-true, lt-ltb, le-ltb, eqb-true, eq-eqb, ne_eqb, le-leb, lt-leb}
use Rattle.lists.specs.Every.{every, Passing, passing-more, passing-stop}
use Rattle.lists.specs.Test.{and_left, and_right, decide}
use Rattle.model.specs.declared.Header.{Header}
use Rattle.model.specs.Header.{stored}
use Rattle.model.specs.Word.{header_of, good_word}
use Rattle.model_texts.specs.Hex.{is_line, word_at}
use Rattle.model_texts.specs.Printed.{done_word, refused_word}
use Rattle.npy_files.specs.Frame.{byte_at, starts_with}
use Rattle.shape_words.specs.Rules.{Good, Ruled}
use Rattle.shape_words.specs.Words.{good_word_lem}
use Rattle.npy_answers.specs.Answer.{is_decimal, lines_start, line_place, line_here, head_word, value_count, is_answer, is_numeral, is_refusal}

-- the lines begin at 7 or 8, or there are none
pub start_small : (t : List ℕ) → lines_start t ≤ 8
unfolding lines_start
start_small t =
    decide (starts_with done_word t && is_decimal (byte_at t 5))
    (λ a. decide (eqb (byte_at t 6) 10)
    (λ b. rw (a, b) (omega arith))
    (λ b. decide (is_decimal (byte_at t 6) && eqb (byte_at t 7) 10)
    (λ c. rw (a, b, c) (omega arith))
    (λ c. rw (a, b, c) (omega arith))))
    (λ a. rw a (omega arith))

-- the ways of `lines_start`
module _ (t : List ℕ) {g d : Bool} {b : ℕ} (eg : g ≡ starts_with done_word t) (eb : b ≡ byte_at t 5) (ed : d ≡ is_decimal b) where
  begins_so : (starts_with done_word t && is_decimal (byte_at t 5)) ≡ (g && d)
  begins_so = sym (ap₂ (λ (x y : Bool). x && y) eg (ed ∙ ap is_decimal eb))

  pub start_none : (g && d) ≡ false → 0 ≡ lines_start t
  unfolding lines_start
  start_none h = sym (rw (begins_so ∙ h))

  module _ (h : (g && d) ≡ true) {b6 : ℕ} (e6 : b6 ≡ byte_at t 6) where
    pub start_seven : b6 ≡ 10 → 7 ≡ lines_start t
    unfolding lines_start
    start_seven e = sym (rw (begins_so ∙ h, eq-eqb (byte_at t 6) 10 (sym e6 ∙ e)))

    module _ (n : b6 ≡ 10 → ⊥) {c b7 : ℕ} {k : Bool} (ec : c ≡ byte_at t 6) (ek : k ≡ is_decimal c) (e7 : b7 ≡ byte_at t 7) where
      not-ten : eqb (byte_at t 6) 10 ≡ false
      not-ten = ne_eqb (byte_at t 6) 10 (λ e. n (e6 ∙ e))

      second : (is_decimal (byte_at t 6) && eqb (byte_at t 7) 10) ≡ (k && eqb b7 10)
      second = sym (ap₂ (λ (x : Bool) (y : ℕ). x && eqb y 10) (ek ∙ ap is_decimal ec) e7)

      pub start-eight : (k && eqb b7 10) ≡ true → 8 ≡ lines_start t
      unfolding lines_start
      start-eight e = sym (rw (begins_so ∙ h, not-ten, second ∙ e))

      pub start-last : (k && eqb b7 10) ≡ false → 0 ≡ lines_start t
      unfolding lines_start
      start-last e = sym (rw (begins_so ∙ h, not-ten, second ∙ e))

-- the loop over the numbers of a refusal's line
module _ (t : List ℕ) {n k : ℕ} (s : Passing (is_numeral t) n 8 k) (l : k < n) {b : ℕ} {d : Bool} (eb : b ≡ byte_at t (8 + k)) (ed : d ≡ is_decimal b) where
  seen : is_numeral t (8 + k) ≡ (d || eqb b 32)
  unfolding is_numeral
  seen = sym (ap₂ (λ (x : Bool) (y : ℕ). x || eqb y 32) (ed ∙ ap is_decimal eb) eb)

  pub numerals-more : (d || eqb b 32) ≡ true → Passing (is_numeral t) n 8 (k + 1)
  numerals-more h = passing-more s l (seen ∙ h)

  pub numerals-stop : (d || eqb b 32) ≡ false → false ≡ every (is_numeral t) n 8
  numerals-stop h = sym (passing-stop s l (seen ∙ h))

-- the ways of `is_answer`
module _ (t : List ℕ) {s : ℕ} (es : s ≡ lines_start t) where
  pub start-here : s ≤ 8
  start-here = subst (λ (n : ℕ). n ≤ 8) (sym es) (start_small t)

  pub not-begun : s ≡ 0 → false ≡ is_answer t
  unfolding is_answer
  not-begun e = sym (rw (le-ltb 0 (lines_start t) (omega (arith, e, es))))

  module _ (some : s ≡ 0 → ⊥) {l : Bool} (el : l ≡ is_line t s) where
    begun : ltb 0 (lines_start t) ≡ true
    begun = lt-ltb 0 (lines_start t) (omega (arith, positive s some, es))
      where
        positive : (n : ℕ) → (n ≡ 0 → ⊥) → 0 < n
        positive zero f = absurd (f refl)
        positive (suc n) f = omega arith

    line-is : is_line t (lines_start t) ≡ l
    line-is = sym (el ∙ ap (is_line t) es)

    pub not-lined : l ≡ false → false ≡ is_answer t
    unfolding is_answer
    not-lined e = sym (rw (begun, line-is ∙ e))

    module _ (yes : l ≡ true) {w : ℕ} (ew : w ≡ word_at t s) {g : Bool} (eg : g ≡ good_word w) where
      word-is : w ≡ head_word t
      word-is = ew ∙ ap (word_at t) es

      good-is : good_word (head_word t) ≡ g
      good-is = sym (eg ∙ ap good_word word-is)

      pub not_good : g ≡ false → false ≡ is_answer t
      unfolding is_answer
      not_good e = sym (rw (begun, line-is ∙ yes, good-is ∙ e))

      module _ (good : g ≡ true) {h : Header} (eh : h ≡ header_of w) where
        here-good : Good h
        here-good = subst Good (sym (eh ∙ ap header_of word-is)) (good_word_lem (head_word t) (good-is ∙ good))

        pub here_ruled : Ruled h
        here_ruled = here-good.regular.rules

        module _ {c : ℕ} (ec : c ≡ stored h) where
          count-is : c ≡ value_count t
          count-is = ec ∙ ap stored (eh ∙ ap header_of word-is)

          pub here-few : c ≤ 4096
          here-few = subst (λ (n : ℕ). n ≤ 4096) (sym ec) here-good.most

          place_is : s + 17 * (1 + c) ≡ line_place t (1 + value_count t)
          place_is = omega (arith, es, count-is)

          pub not-long : (length t ≡ s + 17 * (1 + c) → ⊥) → false ≡ is_answer t
          unfolding is_answer
          not-long n =
              sym (rw (
                begun,
                line-is ∙ yes,
                good-is ∙ good,
                ne_eqb (length t) (line_place t (1 + value_count t)) (λ e. n (e ∙ sym place_is)),
              ))

          pub lines_decide : length t ≡ s + 17 * (1 + c) → {r : Bool} → r ≡ every (λ k. is_line t (s + 17 * k)) c 1 → r ≡ is_answer t
          unfolding is_answer
          lines_decide e {r} er =
              er
              ∙ (ap₂ (λ (p n : ℕ). every (λ k. is_line t (p + 17 * k)) n 1) es count-is
              ∙ sym (rw (
                begun,
                line-is ∙ yes,
                good-is ∙ good,
                eq-eqb (length t) (line_place t (1 + value_count t)) (e ∙ place_is),
              )))

-- the ways of `is_refusal`
module _ (t : List ℕ) {g : Bool} (eg : g ≡ starts_with refused_word t) where
  pub not_refused : g ≡ false → false ≡ is_refusal t
  unfolding is_refusal
  not_refused h = sym (rw (sym eg ∙ h))

  module _ (yes : g ≡ true) where
    pub too_short : length t < 9 → false ≡ is_refusal t
    unfolding is_refusal
    too_short l = sym (rw (sym eg ∙ yes, lt-leb 9 (length t) l))

    module _ (some : 9 ≤ length t) where
      pub too_long : 64 < length t → false ≡ is_refusal t
      unfolding is_refusal
      too_long l = sym (rw (sym eg ∙ yes, le-leb 9 (length t) some, lt-leb (length t) 64 l))

      module _ (few : length t ≤ 64) {b : ℕ} (eb : b ≡ byte_at t (length t - 1)) where
        pub not-ended : (b ≡ 10 → ⊥) → false ≡ is_refusal t
        unfolding is_refusal
        not-ended n =
            sym (rw (
              sym eg ∙ yes,
              le-leb 9 (length t) some,
              le-leb (length t) 64 few,
              ne_eqb (byte_at t (length t - 1)) 10 (λ e. n (eb ∙ e)),
            ))

        pub numerals_decide : b ≡ 10 → {r : Bool} → r ≡ every (is_numeral t) (length t - 9) 8 → r ≡ is_refusal t
        unfolding is_refusal
        numerals_decide e {r} er =
            er
            ∙ sym (rw (
              sym eg ∙ yes,
              le-leb 9 (length t) some,
              le-leb (length t) 64 few,
              eq-eqb (byte_at t (length t - 1)) 10 (sym eb ∙ e),
            ))

-- a text that is an answer
pub record Answered (t : List ℕ) : Type 0 where
  pub begins : 0 < lines_start t
  pub line : is_line t (lines_start t) ≡ true
  pub good : good_word (head_word t) ≡ true
  pub long : length t ≡ line_place t (1 + value_count t)
  pub lines : every (line_here t) (value_count t) 1 ≡ true

pub answered : (t : List ℕ) → is_answer t ≡ true → Answered t
unfolding is_answer
answered t h =
    let s = lines_start t in
    let e = every (line_here t) (value_count t) 1 in
    let d = eqb (length t) (line_place t (1 + value_count t)) in
    let h1 = and_right (ltb 0 s) (is_line t s && (good_word (head_word t) && (d && e))) h in
    let h2 = and_right (is_line t s) (good_word (head_word t) && (d && e)) h1 in
    let h3 = and_right (good_word (head_word t)) (d && e) h2 in
    record {
      begins = ltb-true 0 s (and_left (ltb 0 s) (is_line t s && (good_word (head_word t) && (d && e))) h);
      line = and_left (is_line t s) (good_word (head_word t) && (d && e)) h1;
      good = and_left (good_word (head_word t)) (d && e) h2;
      long = eqb-true (length t) (line_place t (1 + value_count t)) (and_left d e h3);
      lines = and_right d e h3;
    }

-- its header keeps the rules
pub answer-good : {t : List ℕ} → Answered t → Good (header_of (head_word t))
answer-good {t} a = good_word_lem (head_word t) a.good

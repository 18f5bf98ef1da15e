-- What is printed for a text, by how it ends: too few right lines, inputs too large, or mended.
use Rattle.std.specs.Prelude.{ℕ, ◌+◌, ◌≤◌, Bool, true, false, ◌&&◌, ◌≡◌, leb, length, take}
use mathlib.Core.List.{List, ◌++◌}
use Rattle.std.proofs.Math.Path.{sym, ap}
use Rattle.std.proofs.Common.{◌∙◌, subst, arith, length-take-le, leb-true}
use Rattle.lists.specs.Test.{and_right}
use Rattle.model.specs.declared.Refusal.{Refusal}
use Rattle.model.specs.Refusals.{refused_by}
use Rattle.model_recipes.specs.Recipe.{input_heads, total, largest}
use Rattle.model_texts.specs.Printed.{refused_text}
use Rattle.model_texts.specs.Report.{joined}
use Rattle.recipes_kinds.specs.Known.{Known}
use Rattle.sheet_reading.specs.Headers.{good-known}
use Rattle.model_mending.specs.Mended.{inputs_in, steps_in, headers_in, count_in, lines_in, is_readable, is_within, mend_refusal}
use Rattle.model_mending.specs.Mended.{change_text, new_line, report_text, mended_sheet, mended_text}
use Rattle.mending.specs.Reading.{Readable, Opened, opened, opened-good}

module _ (t : List ℕ) where
  pub refused_8 : is_readable t ≡ false → mended_text t ≡ refused_text (refused_by 8)
  unfolding mended_text mend_refusal
  refused_8 e = rw e

  module _ (e : is_readable t ≡ true) where
    pub refused_5 : is_within t ≡ false → mended_text t ≡ refused_text (refused_by 5)
    unfolding mended_text mend_refusal
    refused_5 f = rw (e, f)

    pub mended : is_within t ≡ true → mended_text t ≡ report_text t ++ mended_sheet t
    unfolding mended_text mend_refusal
    mended f = rw (e, f)

-- a text that can be mended: n inputs, x coefficients, k lines
pub record Mends (t : List ℕ) (n x k : ℕ) : Type 0 where
  pub few : n ≤ 16
  pub most : x ≤ 2048
  pub lines : k ≤ 2113
  pub text : mended_text t ≡ joined (change_text t n x) k ++ joined (new_line t n x) k

-- r whether all lines are right; old, new: the buffer of headers
module _ {t old new : List ℕ} {r : Bool} (d : Readable t old new r) where
  pub not-readable : {q : Refusal} → r ≡ false → q ≡ refused_by 8 → mended_text t ≡ refused_text q
  not-readable z e = refused_8 t (sym d.answer ∙ z) ∙ ap refused_text (sym e)

  -- n inputs
  module _ (z : r ≡ true) {n : ℕ} (e : n ≡ inputs_in t) (m : 16 ≤ length new) where
    readable : is_readable t ≡ true
    readable = sym d.answer ∙ z

    open_is : Opened t
    open_is = opened t readable

    pub few : n ≤ 16
    few = omega (arith, open_is.sizes.few)

    pub taken : n ≡ length (take n new)
    taken = sym (length-take-le n new (omega (arith, few)))

    pub taken-few : length (take n new) ≤ 64
    taken-few = omega (arith, few, taken)

    heads : take n new ≡ headers_in t
    heads = ap (λ (k : ℕ). take k new) e ∙ d.headers z

    pub known : Known (input_heads (take n new))
    known = subst (λ (hs : List ℕ). Known (input_heads hs)) (sym heads) (good-known (opened-good open_is))

    -- x coefficients, y of the largest input
    module _ {x y : ℕ} (ex : x ≡ total (input_heads (take n new))) (ey : y ≡ largest (input_heads (take n new))) where
      count-is : x ≡ count_in t
      unfolding count_in
      count-is = ex ∙ ap (λ (hs : List ℕ). total (input_heads hs)) heads

      largest-is : y ≡ largest (input_heads (headers_in t))
      largest-is = ey ∙ ap (λ (hs : List ℕ). largest (input_heads hs)) heads

      within-is : (leb y 256 && leb x 2048) ≡ is_within t
      unfolding is_within
      within-is = rw (largest-is, count-is)

      pub not_within : {q : Refusal} → (leb y 256 && leb x 2048) ≡ false → q ≡ refused_by 5 → mended_text t ≡ refused_text q
      not_within f h = refused_5 t readable (sym within-is ∙ f) ∙ ap refused_text (sym h)

      -- s steps
      module _ (w : (leb y 256 && leb x 2048) ≡ true) {s : ℕ} (es : s ≡ steps_in t) where
        count_most : x ≤ 2048
        count_most = leb-true x 2048 (and_right (leb y 256) (leb x 2048) w)

        lines-is : 1 + n + (x + s) ≡ lines_in t
        unfolding lines_in
        lines-is = rw (e, count-is, es)

        done-is : mended_text t ≡ joined (change_text t n x) (1 + n + (x + s)) ++ joined (new_line t n x) (1 + n + (x + s))
        unfolding report_text mended_sheet
        done-is = mended t readable (sym within-is ∙ w) ∙ sym (rw (lines-is, e, count-is))

        pub can-mend : Mends t n x (1 + n + (x + s))
        can-mend = record { few = few; most = count_most; lines = omega (arith, count_most, open_is.sizes.fit); text = done-is }

-- What mending does to a word, as the code does it.
use Rattle.std.specs.Prelude.{Bool, MatchBool, ℕ, ◌+◌, ◌-◌, ◌%◌, ◌^◌, ◌≤◌, ◌<◌, false, ◌≡◌}
use Rattle.std.proofs.Math.Bool.{true}
use Rattle.std.proofs.Math.Path.{sym, ap}
use Rattle.std.proofs.Common.{◌∙◌, subst, arith}
use borrow.Author.Tests.{eq-eqb, ne_eqb, le-leb, lt-leb}
use Rattle.lists.specs.Test.{of-both}
use Rattle.model_recipes.specs.declared.Step.{Step}
use Rattle.model_recipes.specs.declared.Uses.{Uses}
use Rattle.model_recipes.specs.Steps.{step_of, word_of_step, uses_of}
use Rattle.recipes_kinds.specs.Packed.{Fields, step_fields_lem}
use Rattle.model_mending.specs.Words.{word_one_spare, header_spare, mended_one, mended_header, if_used, used_fields, mended_step, mended_word}

pub one-is : (w : ℕ) → w - w % 2 ^ word_one_spare ≡ mended_one w
unfolding mended_one
one-is w = omega arith

pub header_is : (w : ℕ) → w - w % 2 ^ header_spare ≡ mended_header w
unfolding mended_header
header_is w = omega arith

-- fields that are left out fit their bits
pub used_fields_lem : (u : Uses) {s : Step} → Fields s → Fields (used_fields u s)
used_fields_lem u {s} f =
    record {
      kind = f.kind;
      a = of-both (λ (x : ℕ). x < 2 ^ 6) u.a f.a (omega arith);
      b = of-both (λ (x : ℕ). x < 2 ^ 6) u.b f.b (omega arith);
      variable = of-both (λ (x : ℕ). x < 2 ^ 2) u.variable f.variable (omega arith);
      n = of-both (λ (x : ℕ). x < 2 ^ 32) u.n f.n (omega arith);
    }

-- a field, or the default of its type
pub used_is : (b : Bool) (r x : ℕ) → MatchBool b (r ≡ x) (r ≡ 0) → r ≡ if_used b x
used_is true r x h = h
used_is false r x h = h

-- w a step word, s its fields, u what its kind uses
module _ (w : ℕ) {s : Step} {u : Uses} (es : s ≡ step_of w) (eu : u ≡ uses_of s.kind) where
  uses-is : u.kind ≡ (uses_of (step_of w).kind).kind
  uses-is = ap (λ (x : Uses). x.kind) eu ∙ ap (λ (x : Step). (uses_of x.kind).kind) es

  pub step-refused : u.kind ≡ false → w ≡ mended_step w
  unfolding mended_step
  step-refused e = sym (rw (sym uses-is ∙ e))

  module _ {a b v n : ℕ} (ea : a ≡ if_used u.a s.a) (eb : b ≡ if_used u.b s.b) (ev : v ≡ if_used u.variable s.variable)
      (en : n ≡ if_used u.n s.n) where
    abbrev made : Step
    made = record { kind = s.kind; a = a; b = b; variable = v; n = n }

    made-is : made ≡ used_fields u s
    made-is = λ i. record { kind = s.kind; a = ea i; b = eb i; variable = ev i; n = en i }

    pub step-ready : Fields made
    step-ready = subst (λ (x : Step). Fields x) (sym made-is) (used_fields_lem u (subst (λ (x : Step). Fields x) (sym es) (step_fields_lem w)))

    pub step_used : {r : ℕ} → u.kind ≡ true → r ≡ word_of_step made → r ≡ mended_step w
    unfolding mended_step
    step_used {r} e er =
        let f : used_fields u s ≡ used_fields (uses_of (step_of w).kind) (step_of w) =
        ap (λ (x : Uses). used_fields x s) eu ∙ ap (λ (x : Step). used_fields (uses_of x.kind) x) es in
        let g : r ≡ word_of_step (used_fields (uses_of (step_of w).kind) (step_of w)) = er ∙ ap word_of_step (made-is ∙ f) in
        let h : (uses_of (step_of w).kind).kind ≡ true = sym uses-is ∙ e in
        rw h g

module _ (inputs count k w : ℕ) where
  pub word-one : k ≡ 0 → mended_one w ≡ mended_word inputs count k w
  unfolding mended_word
  word-one e = sym (rw (eq-eqb k 0 e))

  module _ (z : k ≡ 0 → ⊥) where
    pub word-header : k ≤ inputs → mended_header w ≡ mended_word inputs count k w
    unfolding mended_word
    word-header l = sym (rw (ne_eqb k 0 z, le-leb k inputs l))

    module _ (l : inputs < k) where
      pub word-coefficient : k ≤ inputs + count → w ≡ mended_word inputs count k w
      unfolding mended_word
      word-coefficient m = sym (rw (ne_eqb k 0 z, lt-leb k inputs l, le-leb k (inputs + count) m))

      pub word-step : inputs + count < k → mended_step w ≡ mended_word inputs count k w
      unfolding mended_word
      word-step m = sym (rw (ne_eqb k 0 z, lt-leb k inputs l, lt-leb k (inputs + count) m))

-- The places of a recipe, one by one: each step from the places before it, whether headers, values or full lengths are
-- asked.
use Prim.Native.Nat.{ℕ, ◌+◌, ◌-◌, ◌*◌, ◌/◌, ◌%◌, ◌≤◌, ◌<◌}
use mathlib.Core.List.{List, []}
use Rattle.std.specs.Prelude.{◌≡◌, length, get_or, take}
use Rattle.std.proofs.Math.Path.{sym, ap}
use Rattle.std.proofs.Common.{◌∙◌, get_or-take}
use native.Mathlib.Omega.{arith}
use borrow.Author.Tests.{lt-ltb, le-ltb}
use Rattle.lists.specs.Chain.{chain, chain-at, chain-take, chain-keeps}
use Rattle.lists.specs.Grow.{grow, grow-at, length-grow}
use Rattle.model.specs.declared.Header.{Header}
use Rattle.model.specs.Header.{len}
use Rattle.model_recipes.specs.Recipe.{family_of, head_at}
use Rattle.model_texts.specs.Trace.{step_word}
use Rattle.model_texts.specs.Full.{counted, full_after, full_at, step_full, full_next, fulls}
use Rattle.recipes_kinds.specs.Known.{small-variable}
use Rattle.laws_full.specs.Made.{step_at}

-- ---- a list that grows by words

module _ {A : Type 0} (s : ℕ → List A → A) (d : A) (xs : List A) (ws : List ℕ) where
  pub chain_first : (p : ℕ) → p < length xs → get_or (chain s xs ws) p d ≡ get_or xs p d
  chain_first p l =
      sym (get_or-take (length xs) (chain s xs ws) p d l)
      ∙ (ap (λ (t : List A). get_or t p d) (chain-keeps s xs ws (length xs) (omega arith))
      ∙ get_or-take (length xs) xs p d l)

  pub chain-step : (p : ℕ) → length xs ≤ p → p < length xs + length ws
      → get_or (chain s xs ws) p d ≡ s (get_or ws (p - length xs) 0) (take p (chain s xs ws))
  chain-step p i l =
      let e : length xs + (p - length xs) ≡ p = omega arith in
      let q = p - length xs in
      ap (λ (j : ℕ). get_or (chain s xs ws) j d) (sym e)
      ∙ (chain-at s d 0 xs ws q (omega arith)
      ∙ (ap (s (get_or ws q 0)) (sym (chain-take s xs ws q (omega arith))) ∙ ap
      (λ (j : ℕ). s (get_or ws q 0) (take j (chain s xs ws))) e))

-- ---- full lengths

module _ (known : List Header) (ss : List ℕ) (inputs n : ℕ) where
  abbrev fs : List ℕ
  fs = fulls known ss inputs n

  abbrev before : ℕ → List ℕ
  before j = grow j (full_next known ss inputs) []

  place_of : (p v : ℕ) → v < 4 → ((4 * p + v) / 4 ≡ p) × ((4 * p + v) % 4 ≡ v)
  place_of p v l = (omega arith, omega arith)

  full_next_lem : (p v : ℕ) → p < n → v < 4 → full_at fs p v ≡ counted (full_next known ss inputs (before (4 * p + v)))
  unfolding fulls
  full_next_lem p v l m =
      let j : ℕ = 4 * p + v in
      let z : 0 + j ≡ j = omega arith in
      ap (λ (i : ℕ). counted (get_or (before (4 * n)) i 1)) (sym z)
      ∙ ap counted (grow-at 1 (4 * n) j (full_next known ss inputs) [] (omega arith))

  many-before : (j : ℕ) → length (before j) ≡ j
  many-before j = omega (arith, length-grow j (full_next known ss inputs) [])

  pub full-input : (p v : ℕ) → p < inputs → p < n → v < 4 → full_at fs p v ≡ counted (len (head_at known p) v)
  unfolding full_next
  full-input p v i l m =
      full_next_lem p v l m ∙ rw (many-before (4 * p + v), (place_of p v m).0, (place_of p v m).1, lt-ltb p inputs i)

  -- what was known of an earlier place is what is known of it in the end
  earlier : (p v x w : ℕ) → p < n → x < p → w < 4 → full_at (before (4 * p + v)) x w ≡ full_at fs x w
  unfolding fulls
  earlier p v x w l h m =
      let j : ℕ = 4 * x + w in
      let z : 0 + j ≡ j = omega arith in
      ap (λ (i : ℕ). counted (get_or (before (4 * p + v)) i 1)) (sym z)
      ∙ ap counted (grow-at 1 (4 * p + v) j (full_next known ss inputs) [] (omega arith))
      ∙ sym (full_next_lem x w (omega arith) m)

  -- a step in the variable v: x, y, z what is known of its operands, which is right where they stand before it
  pub record Fulls (p v x y z : ℕ) : Type 0 where
    pub is : full_at fs p v ≡ counted (full_after (family_of 0 (step_at ss inputs p)) v x y z)
    pub in_the_variable : (step_at ss inputs p).a < p → x ≡ full_at fs (step_at ss inputs p).a (step_at ss inputs p).variable
    pub of_the_first : (step_at ss inputs p).a < p → y ≡ full_at fs (step_at ss inputs p).a v
    pub of_the_second : (step_at ss inputs p).b < p → z ≡ full_at fs (step_at ss inputs p).b v

  abbrev asked : ℕ → ℕ → ℕ → ℕ → ℕ
  asked p v x w = full_at (before (4 * p + v)) x w

  pub full-step : (p v : ℕ) → inputs ≤ p → p < n → v < 4
      → Fulls p v (asked p v (step_at ss inputs p).a (step_at ss inputs p).variable)
      (asked p v (step_at ss inputs p).a v) (asked p v (step_at ss inputs p).b v)
  unfolding full_next step_full
  full-step p v i l m =
      record {
        is = full_next_lem p v l m ∙ rw (many-before (4 * p + v), (place_of p v m).0, (place_of p v m).1, le-ltb p inputs i);
        in_the_variable = λ h.
            earlier p v (step_at ss inputs p).a (step_at ss inputs p).variable l h
            (small-variable (step_word ss inputs p));
        of_the_first = λ h. earlier p v (step_at ss inputs p).a v l h m;
        of_the_second = λ h. earlier p v (step_at ss inputs p).b v l h m;
      }

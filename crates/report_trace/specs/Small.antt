-- The places that are named are among the first 64, whatever the step words hold: an operand's field has six bits.
use Prim.Native.Nat.{ℕ, zero, suc, ◌<◌}
use Rattle.std.specs.Prelude.{◌||◌, List, ltb}
use Rattle.std.proofs.Common.{arith}
use Rattle.lists.specs.Test.{of-both}
use Rattle.lists.specs.Walk.{walk}
use Rattle.model.specs.declared.Header.{Header}
use Rattle.model_recipes.specs.Steps.{step_of}
use Rattle.model_texts.specs.Trace.{uses_in, step_word, shifts_in, lowering, cut_from, cut_operand, equals, follow, decider, seek, lowerer}

pub a_small : (w : ℕ) → (step_of w).a < 64
unfolding step_of
a_small w = omega arith

pub b-small : (w : ℕ) → (step_of w).b < 64
unfolding step_of
b-small w = omega arith

abbrev In64 : ℕ → Type 0
In64 x = x < 64

module _ (known : List Header) (v : ℕ) where
  pub cut_small : (w p : ℕ) → cut_operand known v w p < 64
  unfolding cut_operand
  cut_small w p = of-both In64 (cut_from known v p (uses_in w).a (step_of w).a) (a_small w) (b-small w)

  module _ (ss : List ℕ) (inputs : ℕ) where
    pub follow-small : (p : ℕ) → p < 64 → follow known v ss inputs p < 64
    unfolding follow
    follow-small p l =
        let w = step_word ss inputs p in
        of-both In64 (ltb p inputs) l
        (of-both In64 (shifts_in v w || equals known v p (uses_in w).a (step_of w).a) (a_small w)
        (of-both In64 (equals known v p (uses_in w).b (step_of w).b) (b-small w) l))

    -- n steps back, each of which stays among them
    walk-small : (f : ℕ → ℕ) → ((p : ℕ) → p < 64 → f p < 64) → (n k p : ℕ) → p < 64 → walk (λ j. f) n k p < 64
    unfolding walk
    walk-small f s zero k p l = l
    walk-small f s (suc n) k p l = walk-small f s n (suc k) (f p) (s p l)

    pub decider-small : (p : ℕ) → p < 64 → decider known v ss inputs p < 64
    unfolding decider
    decider-small p l = walk-small (follow known v ss inputs) follow-small 64 0 p l

    pub lowerer-small : (p : ℕ) → p < 64 → lowerer known v ss inputs p < 64
    unfolding lowerer
    lowerer-small p l =
        walk-small (seek known v ss inputs) (λ q h. of-both In64 (lowering v ss inputs q) h (follow-small q h)) 64 0 p l

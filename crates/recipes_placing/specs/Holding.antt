-- What the pool holds: each value written at its offset is there as long as its part is live, and the last at the end.
use Rattle.std.specs.Prelude.{ℕ, ◌+◌, ◌-◌, ◌≤◌, ◌<◌, List, [], ◌≡◌, ltb, length, get_or, drop}
use Rattle.std.proofs.Common.{sym, ap, ◌∙◌, arith, drop-drop, ltb-true, ltb-false}
use Rattle.lists.specs.Test.{decide}
use Rattle.lists.specs.Part.{part, Kept}
use Rattle.model_placing.specs.Placing.{offsets}
use Rattle.shape_operands.specs.Apart.{kept-apart}
use Rattle.recipes_placing.specs.Placed.{live-apart}

-- what lies behind a part that was written is as it was
pub kept-rest : {A : Type 0} {at end : ℕ} {xs w w' : List A} (m : ℕ) → Kept at end xs w w' → end ≤ m → drop m w' ≡ drop m w
kept-rest {A} {end = end} {w = w} {w' = w'} m k h =
    let e : end + (m - end) ≡ m = omega arith in
    let cut : (l : List A) → drop m l ≡ drop (m - end) (drop end l) = λ l. ap (λ (n : ℕ). drop n l) (sym e) ∙ sym (drop-drop (m - end) end l) in
    cut w' ∙ (ap (drop (m - end)) k.above ∙ sym (cut w))

-- ls the last readers, cs the counts: what lies in the part of the step j
abbrev pub lies : {A : Type 0} → List ℕ → List ℕ → ℕ → List A → List A
lies ls cs j pool = part (get_or (offsets ls cs) j 0) (get_or (offsets ls cs) j 0 + get_or cs j 0) pool

-- vs the steps' values
module _ {A : Type 0} (ls cs : List ℕ) (vs : List (List A)) where
  -- i steps have written their values
  pub record Holding (i : ℕ) (pool : List A) : Type 0 where
    pub operands : (j : ℕ) → j < i → i ≤ get_or ls j 0 → lies ls cs j pool ≡ get_or vs j []
    pub latest : (j : ℕ) → j + 1 ≡ i → lies ls cs j pool ≡ get_or vs j []

  pub holding-none : (pool : List A) → Holding 0 pool
  holding-none pool = record { operands = λ j l a. absurd (omega arith); latest = λ j e. absurd (omega arith) }

  -- the step i writes its value and nothing else
  pub holding-more : {i : ℕ} {pool pool' : List A} → i < length cs → Holding i pool
      → Kept (get_or (offsets ls cs) i 0) (get_or (offsets ls cs) i 0 + get_or cs i 0) (get_or vs i []) pool pool' → Holding (i + 1) pool'
  holding-more {i} {pool} {pool'} l h k =
      let own : (j : ℕ) → j ≡ i → lies ls cs j pool' ≡ get_or vs j [] = λ j e. rw e k.holds in
      record {
        operands = λ j m a.
            decide (ltb j i)
            (λ t. let q = ltb-true j i t in kept-apart (live-apart ls cs j i q l (omega arith)) k ∙ h.operands j q (omega arith))
            (λ t. own j (omega (arith, ltb-false j i t)));
        latest = λ j e. own j (omega arith);
      }

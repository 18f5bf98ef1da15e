-- The answer of the second check, from its refusal and the words that the places announce; and that its promise admits
-- one.
use Rattle.std.specs.Prelude.{Err, ℕ, ◌-◌, ◌≤◌, ◌≡◌, drop}
use mathlib.Core.List.{List, map}
use Rattle.std.proofs.Common.{sym, ◌∙◌, arith, eq-eqb, ne_eqb}
use Rattle.std.proofs.Math.Path.{ap}
use Rattle.std.proofs.Math.ListN.{length, get_or, get_or-append}
use Rattle.lists.specs.Grow.{over}
use Rattle.model.specs.declared.Refusal.{Refusal}
use Rattle.model.specs.Header.{stored}
use Rattle.model.specs.Word.{header_of}
use Rattle.model_recipes.specs.Recipe.{Recipe, input_heads, announced_steps, total, largest}
use Rattle.model_recipes.specs.Check.{check_refusal}
use Rattle.model_placing.specs.Results.{ReuseAnswer, accepting}
use Rattle.model_placing.specs.Placing.{last_readers, offsets, needed, step_readers, step_counts, step_offsets, pool_needed, last_offset}
use Rattle.model_placing.specs.Reuse.{reuse_by, check_reuse_answer, CheckReusePromise}
use Rattle.recipes_placing.specs.Placed.{length-offsets}
use Rattle.recipes_placing.specs.Counted.{counts_of, length-counts}

-- two answers that keep the promise are equal
pub check_reuse-once : (it : Recipe) {r1 r2 : ReuseAnswer} → CheckReusePromise it r1 → CheckReusePromise it r2 → r1 ≡ r2
check_reuse-once it p q = p ∙ sym q

pub reuse_no : (it : Recipe) {r : Refusal} → r ≡ check_refusal it → (r.number ≡ 0 → ⊥) → Err r ≡ check_reuse_answer it
unfolding check_reuse_answer reuse_by
reuse_no it {r} e n = rw (← e) (simp (ne_eqb r.number 0 n))

pub reuse-yes : (it : Recipe) {r : Refusal} {x y z o : ℕ} → r ≡ check_refusal it → r.number ≡ 0 → x ≡ pool_needed it
    → y ≡ largest (announced_steps it) → z ≡ total (input_heads it.headers) → o ≡ last_offset it → accepting x y z o ≡ check_reuse_answer it
unfolding check_reuse_answer reuse_by
reuse-yes it {r} e n p q u w = rw (← e) (simp (eq-eqb r.number 0 n, p, q, u, w))

-- ws the words that the steps announce: their counts are the steps'
module _ (it : Recipe) (ws : List ℕ) (e : map header_of ws ≡ announced_steps it) where
  counts_are : counts_of ws ≡ step_counts it
  unfolding step_counts
  counts_are = ap (map stored) e

  pub needed-is : {x : ℕ} → x ≡ needed (last_readers (length it.headers) it.steps) (counts_of ws) → x ≡ pool_needed it
  unfolding pool_needed step_readers
  needed-is h = h ∙ ap (needed (last_readers (length it.headers) it.steps)) counts_are

  pub offsets_are : {starts : List ℕ} (old : List ℕ) → starts ≡ over (offsets (last_readers (length it.headers) it.steps) (counts_of ws)) old
      → starts ≡ over (step_offsets it) old
  unfolding step_offsets step_readers
  offsets_are old h = h ∙ ap (λ (cs : List ℕ). over (offsets (last_readers (length it.headers) it.steps) cs) old) counts_are

  length-steps : length ws ≡ length it.steps → length (step_offsets it) ≡ length it.steps
  unfolding step_offsets
  length-steps l = length-offsets (step_readers it) (step_counts it) ∙ (sym (ap length counts_are) ∙ (length-counts ws ∙ l))

  pub last-is : length ws ≡ length it.steps → 1 ≤ length it.steps → {starts : List ℕ} (old : List ℕ)
      → starts ≡ over (offsets (last_readers (length it.headers) it.steps) (counts_of ws)) old → get_or starts (length it.steps - 1) 0 ≡ last_offset it
  unfolding last_offset
  last-is l o old h =
      ap (λ (s : List ℕ). get_or s (length it.steps - 1) 0) (offsets_are old h)
      ∙ get_or-append (step_offsets it) (drop (length (step_offsets it)) old) 0 (length it.steps - 1) (omega (arith, length-steps l))

-- What rests on laws of specs/ (Lacking).
use Rattle.std.specs.Prelude.{ℕ, zero, suc, ◌≤◌, ◌<◌, ◌≡◌, ltb, length}
use Rattle.std.proofs.Math.Path.{ap}
use Rattle.std.proofs.Common.{◌∙◌, arith, ltb-true, ltb-false}
use Rattle.std.proofs.Math.ListN.{take}
use Rattle.lists.specs.Test.{decide}
use Rattle.model_recipes.specs.Recipe.{Recipe, head_at, announced_step}
use Rattle.model_recipes.specs.Check.{check_refusal}
use Rattle.model_texts.specs.Full.{counted}
use Rattle.recipes_kinds.specs.Known.{small-variable}
use Rattle.laws_full.specs.Places.{full-step}
use Rattle.laws_full.specs.Missing.{missing-one}
use Rattle.laws_full.specs.Accepted.{accepted-ordered}
use Rattle.laws_full.specs.Setting.{size, known, head, full, word, step}
use Rattle.laws_full.specs.Chained.{head_step}
use Rattle.laws_full.specs.Lacking.{Lacks, input_lacks, taken}

module _ (it : Recipe) (z : (check_refusal it).number ≡ 0) where
  pub step_lacks : (p : ℕ) → length it.headers ≤ p → p < size it → ((x : ℕ) → x < p → (w : ℕ) → w < 4 → (Lacks it z) x w) → (w : ℕ)
      → w < 4 → (Lacks it z) p w
  unfolding Lacks announced_step
  step_lacks p i l ih w m v =
      let s = step it p in
      let o = accepted-ordered it z in
      let before = take p (known it) in
      let f = full-step (known it) it.steps (length it.headers) (size it) p w i l m in
      f.is
      ∙ ap counted
      (missing-one it.edition s (head_at before s.a) (head_at before s.b) w _ _ _ s.kind
      (λ u k.
      let b = o.first p i l u in
      f.in_the_variable b ∙ ih s.a b s.variable (small-variable (word it p)) (rw ((taken it z) p s.a b) at k))
      (λ u k. let b = o.first p i l u in f.of_the_first b ∙ ih s.a b w m (rw ((taken it z) p s.a b) at k))
      (λ u k. let b = o.second p i l u in f.of_the_second b ∙ ih s.b b w m (rw ((taken it z) p s.b b) at k))
      (rw (head_step it p i l) at v))

  pub below : (n p : ℕ) → p < n → p < size it → (w : ℕ) → w < 4 → (Lacks it z) p w
  below zero p h l = absurd (omega arith)
  below (suc n) p h l =
      decide (ltb p (length it.headers))
      (λ t. (input_lacks it z) p (ltb-true _ _ t) l)
      (λ t. step_lacks p (ltb-false _ _ t) l (λ x b. below n x (omega arith) (omega arith)))

  pub lacking-one : (p : ℕ) → p < size it → (w : ℕ) → w < 4 → (head it p).vars ≤ w → full it p w ≡ 1
  unfolding Lacks
  lacking-one p l w m = below (suc p) p (omega arith) l w m

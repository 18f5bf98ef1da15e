-- What refuses a run: the check, by 7 at most, or a buffer that is too short, by 2, 5 or 6; then a stop, by 12.
use Rattle.std.specs.Prelude.{ℕ, ◌*◌, ◌≤◌, ◌&&◌, List, ◌≡◌, length, get_or, Float}
use Rattle.std.proofs.Math.Bool.{true}
use Rattle.std.proofs.Common.{◌∙◌, arith}
use Rattle.std.proofs.Math.Dec.{leb}
use borrow.Author.Tests.{le-leb, leb-true}
use Rattle.lists.specs.Test.{and_left, and_right}
use Rattle.model.specs.declared.Header.{Header}
use Rattle.model.specs.declared.Refusal.{Refusal}
use Rattle.model.specs.Refusals.{no_refusal}
use Rattle.model_recipes.specs.Recipe.{Recipe, input_heads, announced_steps, total, largest}
use Rattle.model_recipes.specs.Check.{check_refusal}
use Rattle.model_recipes.specs.Reasons.{StepReason, wrong_word, no_variable, large_n, large_count}
use Rattle.model_recipes.specs.Run.{lent_refusal, run_stop, run_refusal}
use Rattle.gates.specs.Gate.{passed}
use Rattle.gates.specs.Small.{Small, at_small, word_small, asked-small}
use Rattle.recipes_check.specs.Asks.{or-first, or-next, or-none, by-refusal}
use Rattle.recipes_check.specs.Judged.{accepts}
use Rattle.recipes_laws.specs.StepReasons.{Stopped, step-stopped}
use Rattle.recipes_laws.specs.Outcome.{Outcome, by_sizes, at_input, at_step, not_refused, outcome}
use Rattle.recipes_laws.specs.Exact.{known, length-known}
use Rattle.recipes_laws.specs.Stopped.{stop-small}

-- ---- the check refuses by 7 at most, at an input, a step or no place

reason-small : {ed w : ℕ} {known : List Header} {n : ℕ} → StepReason ed w known n → n ≤ 7
reason-small (wrong_word x) = omega arith
reason-small (no_variable x s l) = omega arith
reason-small (large_n x s l) = omega arith
reason-small (large_count x l) = omega arith

outcome-small : {it : Recipe} {r : Refusal} → Outcome it r → Small 7 64 r
outcome-small (by_sizes x) = at_small 7 64 (omega arith) (omega arith)
outcome-small {it} (at_input i s l g b) = word_small (get_or it.headers i 0) i (omega arith) (omega (arith, s.few))
outcome-small {it} (at_step i r s g e l c n) =
    let t : Stopped it.edition (get_or it.steps i 0) (known it i) r =
    rw (← e) at (step-stopped it.edition (get_or it.steps i 0) (known it i) (rw e at n)) in
    record {
      number = reason-small t.reason;
      place = omega (arith, t.at, length-known it i l, s.fit);
      variable = omega (arith, t.alone.0);
      cause = omega (arith, t.alone.1);
    }
outcome-small (not_refused s g c) = at_small 0 64 (omega arith) (omega arith)

pub check-small : (it : Recipe) → Small 7 64 (check_refusal it)
check-small it = outcome-small (outcome it)

-- ---- tests 2, 5, 6, by the lengths of coefficients, pool, words and scratch

pub record Lent (it : Recipe) (c p w s : ℕ) : Type 0 where
  pub coeffs : total (input_heads it.headers) ≤ c
  pub pool : total (announced_steps it) ≤ p
  pub words : length it.steps ≤ w
  pub scratch : 8 * largest (announced_steps it) ≤ s

module _ (it : Recipe) (c p w s : ℕ) where
  pub lent-small : Small 7 64 (lent_refusal it c p w s)
  unfolding lent_refusal
  lent-small =
      asked-small (leb (total (input_heads it.headers)) c) (at_small 2 64 (omega arith) (omega arith))
      (asked-small (leb (total (announced_steps it)) p && leb (length it.steps) w) (at_small 5 64 (omega arith) (omega arith))
      (asked-small (leb (8 * largest (announced_steps it)) s) (at_small 6 64 (omega arith) (omega arith))
      (at_small 0 64 (omega arith) (omega arith))))

  pub lent_none : Lent it c p w s → lent_refusal it c p w s ≡ no_refusal
  unfolding lent_refusal
  lent_none l = simp (le-leb _ _ l.coeffs, le-leb _ _ l.pool, le-leb _ _ l.words, le-leb _ _ l.scratch)

  pub lent-enough : (lent_refusal it c p w s).number ≡ 0 → Lent it c p w s
  unfolding lent_refusal
  lent-enough e =
      let x = leb (total (announced_steps it)) p in
      let y = leb (length it.steps) w in
      let t = passed true (leb (total (input_heads it.headers)) c) true true (x && y) (leb (8 * largest (announced_steps it)) s) e in
      record {
        coeffs = leb-true _ _ t.t2;
        pool = leb-true _ _ (and_left x y t.t5);
        words = leb-true _ _ (and_right x y t.t5);
        scratch = leb-true _ _ t.t6;
      }

-- ---- the run

module _ (it : Recipe) (cs : List Float) (pool : List Float) (words : List ℕ) (scratch : List Float) where
  abbrev lent : Refusal
  lent = lent_refusal it (length cs) (length pool) (length words) (length scratch)

  pub run_none : (check_refusal it).number ≡ 0 → Lent it (length cs) (length pool) (length words) (length scratch)
      → run_refusal it cs pool words scratch ≡ no_refusal
  unfolding run_refusal
  run_none none l = or-next (check_refusal it) lent none ∙ lent_none it _ _ _ _ l

  pub run_small : Small 7 64 (run_refusal it cs pool words scratch)
  unfolding run_refusal
  run_small =
      by-refusal (check_refusal it)
      (λ z. rw (or-next (check_refusal it) lent z) (lent-small it (length cs) (length pool) (length words) (length scratch)))
      (λ n. rw (or-first {r = check_refusal it} lent n) (check-small it))

  -- the stop of a run that is not refused before its first step
  pub run_stop-small : (run_refusal it cs pool words scratch).number ≡ 0 → Small 12 64 (run_stop it cs)
  unfolding run_refusal
  run_stop-small z = stop-small it cs (accepts it (or-none (check_refusal it) lent z).0).sizes.fit

-- A run is refused exactly for the documents' reasons: by the check, or else by 2, 5 or 6 for a buffer that is too
-- short, or else by 12 at the first step that stops it, and for nothing else. Where there is no reason it is done.
use Rattle.std.specs.Prelude.{Ok, Err, ℕ, ◌*◌, Bool, true, false, ◌&&◌, List, ◌≡◌, leb, length, Float}
use Rattle.std.proofs.Math.Path.{refl, ap}
use Rattle.std.proofs.Common.{sym, ◌∙◌, arith}
use borrow.Author.Tests.{le-leb, lt-leb, leb-true, leb-false}
use Rattle.model.specs.declared.Refusal.{Refusal}
use Rattle.model.specs.Refusals.{ask, no_refusal, refused_by}
use Rattle.model_recipes.specs.Recipe.{Recipe, input_heads, announced_steps, total, largest}
use Rattle.model_recipes.specs.Check.{or_else, check_refusal, check_answer}
use Rattle.model_recipes.specs.Reasons.{FirstReason, NoReason, RunReason, of_check, few_coefficients, short_pool, few_words, short_scratch}
use Rattle.model_recipes.specs.Run.{lent_refusal, run_stop, run_refusal, run_end, run_answer}
use Rattle.model_recipes.specs.Stops.{RunRefused, before, at_step}
use Rattle.recipes_check.specs.Asks.{or-first, or-next, by-refusal}
use Rattle.recipes_check.specs.Answered.{answer_no, answer-yes}
use Rattle.recipes_laws.specs.Ends.{end_refused, end-stopped, end-done, answer-refused}
use Rattle.recipes_laws.specs.Stopped.{Stopping, goes_on, stops, stopping, stop-at}

pub and_no : (b : Bool) → (b && false) ≡ false
and_no true = refl
and_no false = refl

module _ (it : Recipe) where
  abbrev check : Refusal
  check = check_refusal it

  -- ---- the check's refusal and its reasons

  -- ---- tests 2, 5, 6, by the lengths of coefficients, pool, words and scratch

  module _ (c p w s : ℕ) where
    abbrev lent : Refusal
    lent = lent_refusal it c p w s

    by_tests : NoReason it → (t2 t5 u5 t6 : Bool) → leb (total (input_heads it.headers)) c ≡ t2 → leb (total (announced_steps it)) p ≡ t5
        → leb (length it.steps) w ≡ u5 → leb (8 * largest (announced_steps it)) s ≡ t6
        → ((ask t2 2 (ask (t5 && u5) 5 (ask t6 6 no_refusal))).number ≡ 0 → ⊥)
        → RunReason it c p w s (ask t2 2 (ask (t5 && u5) 5 (ask t6 6 no_refusal)))
    by_tests f false t5 u5 t6 a b d e n = few_coefficients f (leb-false _ _ a)
    by_tests f true false u5 t6 a b d e n = short_pool f (leb-true _ _ a) (leb-false _ _ b)
    by_tests f true true false t6 a b d e n = few_words f (leb-true _ _ a) (leb-false _ _ d)
    by_tests f true true true false a b d e n = short_scratch f (leb-true _ _ a) (leb-true _ _ b) (leb-true _ _ d) (leb-false _ _ e)
    by_tests f true true true true a b d e n = absurd (n refl)

    pub lent-reason : NoReason it → (lent.number ≡ 0 → ⊥) → RunReason it c p w s lent
    unfolding lent_refusal
    lent-reason f n = by_tests f _ _ _ _ refl refl refl refl n
    -- ---- both

-- ---- the run

-- any words, coefficients and buffers
module _ (it : Recipe) (cs : List Float) (pool : List Float) (words : List ℕ) (scratch : List Float) where
  abbrev pub Reason : Refusal → Type 0
  Reason r = RunRefused it cs (length pool) (length words) (length scratch) r

  pub record RunExact : Type 0 where
    -- done where there is no reason
    pub done : ((r : Refusal) → Reason r → ⊥) → run_answer it cs pool words scratch ≡ (Ok tt)
    -- refused for a reason
    pub refuses : (r : Refusal) → Reason r → run_answer it cs pool words scratch ≡ Err r
    -- and for nothing else
    pub refused : (r : Refusal) → run_answer it cs pool words scratch ≡ Err r → Reason r

  -- before the first step
  abbrev Early : Refusal → Type 0
  Early r = RunReason it (length cs) (length pool) (length words) (length scratch) r

  abbrev q : Refusal
  q = run_refusal it cs pool words scratch

  abbrev s : Refusal
  s = run_stop it cs

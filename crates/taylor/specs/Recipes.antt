-- The face: what the check and the run of a recipe answered is read back, from the word and, of the check, from the
-- totals that were written. The check refuses by 1 to 7, the run by these or by 12, so that the 0 of accepted or done
-- stands for nothing else. What stood where the totals go makes no difference.
use Rattle.std.specs.Prelude.{Ok, Err, ℕ, true, false, cond, List, ◌≡◌, eqb, Float}
use Rattle.std.proofs.Common.{ap, arith, eqb-true, ne_eqb}
use Rattle.std.proofs.lemmas.Bool.{eqb-false}
use Rattle.lists.specs.Test.{decide}
use Rattle.model.specs.declared.Refusal.{Refusal}
use Rattle.model_recipes.specs.Results.{CheckAnswer, accepting}
use Rattle.model_recipes.specs.Results.{RunAnswer}
use Rattle.model.specs.Refusals.{is_none}
use Rattle.model_recipes.specs.Recipe.{Recipe}
use Rattle.model_recipes.specs.Check.{check_refusal, check_by, check_answer}
use Rattle.model_recipes.specs.Run.{end_by, end_answer, run_stop, run_refusal, run_end, run_answer}
use Rattle.recipes_laws.specs.Refuses.{check-small, run_small, run_stop-small}
use Rattle.taylor.specs.Face.{word_of_refusal, word_of_check, pool_after, largest_after, inputs_after, word_of_run}
use Rattle.gates.specs.Small.{small-up}
use Rattle.taylor.specs.Apart.{Few, refusal_from, refusal_from_lem}

-- what a word and three totals stand for
unfoldable pub check_from : ℕ → ℕ → ℕ → ℕ → CheckAnswer
check_from w pool largest inputs = cond (eqb w 0) (accepting pool largest inputs) (Err (refusal_from w))

-- what a word stands for
unfoldable pub run_from : ℕ → RunAnswer
run_from w = cond (eqb w 0) (Ok tt) (Err (refusal_from w))

-- the answer x, read back; pool, largest, inputs: what stood where the totals go
abbrev CheckBack : CheckAnswer → ℕ → ℕ → ℕ → Type 0
CheckBack x pool largest inputs = check_from (word_of_check x) (pool_after x pool) (largest_after x largest) (inputs_after x inputs) ≡ x

-- any refusal r that decides
module _ (r : Refusal) (few : Few r) where
  word-not-zero : is_none r ≡ false → eqb (word_of_refusal r) 0 ≡ false
  word-not-zero t = ne_eqb (word_of_refusal r) 0 (λ z. eqb-false r.number 0 t (omega (arith, z)))

  by-check : (p l i pool largest inputs : ℕ) → CheckBack (check_by r p l i) pool largest inputs
  unfolding check_by check_from
  by-check p l i pool largest inputs =
      decide (is_none r) (λ t. rw t) (λ t. rw (t, word-not-zero t) (ap Err (refusal_from_lem r few)))

-- the refusal before the first step, and then the stop
by-run : (r s : Refusal) → Few r → (is_none r ≡ true → Few s) → run_from (word_of_run (end_answer (end_by r s))) ≡ end_answer (end_by r s)
unfolding end_by run_from
by-run r s few late =
    decide (is_none r)
    (λ t. decide (is_none s) (λ u. rw (t, u)) (λ u. rw (t, u, word-not-zero s (late t) u) (ap Err (refusal_from_lem s (late t)))))
    (λ t. rw (t, word-not-zero r few t) (ap Err (refusal_from_lem r few)))

-- ---- the entries

pub check-back : (it : Recipe) (pool largest inputs : ℕ)
    → check_from (word_of_check (check_answer it)) (pool_after (check_answer it) pool)
    (largest_after (check_answer it) largest) (inputs_after (check_answer it) inputs)
    ≡ check_answer it
unfolding check_answer
check-back it pool largest inputs = by-check (check_refusal it) (small-up (check-small it) (omega arith) (omega arith)) _ _ _ pool largest inputs

pub run-back : (it : Recipe) (cs : List Float) (pool : List Float) (words : List ℕ) (scratch : List Float)
    → run_from (word_of_run (run_answer it cs pool words scratch)) ≡ run_answer it cs pool words scratch
unfolding run_answer run_end
run-back it cs pool words scratch =
    by-run (run_refusal it cs pool words scratch) (run_stop it cs)
    (small-up (run_small it cs pool words scratch) (omega arith) (omega arith))
    (λ t. small-up (run_stop-small it cs pool words scratch (eqb-true (run_refusal it cs pool words scratch).number 0 t)) (omega arith) (omega arith))

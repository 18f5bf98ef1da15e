-- What a run answers and leaves behind: everything as it was where it is refused before its first step; else a clear
-- scratch, and each step's value and true header or, where a step stopped it, zeros for them.
use Rattle.std.specs.Prelude.{Ok, Err, OnOk, OnErr, refl, ℕ, ◌+◌, ◌≤◌, List, map, ◌++◌, ◌≡◌, length, drop, Float}
use Rattle.std.proofs.Common.{sym, ap, ◌∙◌}
use Rattle.model.specs.declared.Refusal.{Refusal}
use Rattle.model.specs.Word.{word_of}
use Rattle.model.specs.Passes.{Says}
use Rattle.model_recipes.specs.Results.{RunAnswer}
use Rattle.model.specs.Refusals.{cleared}
use Rattle.model_recipes.specs.Recipe.{Recipe, announced_steps, total, largest}
use Rattle.model_recipes.specs.Check.{check_refusal}
use Rattle.model_recipes.specs.Run.{step_values, laid, zero_pool, zero_words, lent_refusal, run_stop, run_refusal}
use Rattle.model_recipes.specs.Run.{run_end, run_answer, run_pool, run_words, run_scratch}
use Rattle.recipes_check.specs.Asks.{or-none}
use Rattle.recipes_laws.specs.Ends.{end_refused, end-stopped, end-done}
use Rattle.recipes_laws.specs.Refuses.{Lent, lent-enough}
use Rattle.recipes.specs.Running.{Admitted}
use Rattle.recipes.specs.Admission.{Admits}

module _ (it : Recipe) (cs : List Float) (pool : List Float) (words : List ℕ) (scratch : List Float) {old new : List ℕ} {r : Refusal}
    (a : Admits it (length cs) (length pool) (length words) (length scratch) old new r) where
  refusal : r ≡ run_refusal it cs pool words scratch
  unfolding run_refusal
  refusal = a.answer

  module _ (n : r.number ≡ 0 → ⊥) where
    pub no_answer : Err r ≡ run_answer it cs pool words scratch
    unfolding run_answer run_end
    no_answer = rw (← refusal, end_refused r (run_stop it cs) n)

    pub no-pool : pool ≡ run_pool it cs pool words scratch
    unfolding run_pool run_end
    no-pool = rw (← refusal, end_refused r (run_stop it cs) n)

    pub no_words : words ≡ run_words it cs pool words scratch
    unfolding run_words run_end
    no_words = rw (← refusal, end_refused r (run_stop it cs) n)

    pub no-scratch : scratch ≡ run_scratch it cs pool words scratch
    unfolding run_scratch run_end
    no-scratch = rw (← refusal, end_refused r (run_stop it cs) n)

  module _ (z : r.number ≡ 0) where
    both : ((check_refusal it).number ≡ 0) × ((lent_refusal it (length cs) (length pool) (length words) (length scratch)).number ≡ 0)
    both = or-none _ _ (ap (λ (q : Refusal). q.number) (sym a.answer) ∙ z)

    lent : Lent it (length cs) (length pool) (length words) (length scratch)
    lent = lent-enough it (length cs) (length pool) (length words) (length scratch) both.1

    pub admitted : 64 ≤ length new → Admitted it cs new (length pool) (length scratch)
    admitted m = record { none = both.0; full = lent.coeffs; pool = lent.pool; room = lent.scratch; noted = a.noted z; many = m }

    pub enough-words : length it.steps ≤ length words
    enough-words = lent.words

    -- a step stopped it, q what is told
    module _ {q : Refusal} (eq : q ≡ run_stop it cs) (n : q.number ≡ 0 → ⊥) where
      stopped_by : (run_stop it cs).number ≡ 0 → ⊥
      stopped_by y = n (ap (λ (x : Refusal). x.number) eq ∙ y)

      pub stop-answer : Err q ≡ run_answer it cs pool words scratch
      unfolding run_answer run_end
      stop-answer = rw (← refusal, end-stopped r (run_stop it cs) z stopped_by, eq)

      pub stop-pool : {p : List Float} → p ≡ zero_pool (total (announced_steps it)) pool → p ≡ run_pool it cs pool words scratch
      unfolding run_pool run_end
      stop-pool e = rw (← refusal, end-stopped r (run_stop it cs) z stopped_by) e

      pub stop-words : {w : List ℕ} → w ≡ zero_words (length it.steps) words → w ≡ run_words it cs pool words scratch
      unfolding run_words run_end
      stop-words e = rw (← refusal, end-stopped r (run_stop it cs) z stopped_by) e

      pub stop-scratch : {s : List Float} → s ≡ cleared (largest (announced_steps it)) scratch → s ≡ run_scratch it cs pool words scratch
      unfolding run_scratch run_end
      stop-scratch e = rw (← refusal, end-stopped r (run_stop it cs) z stopped_by) e

    -- every step was made
    module _ {q : Refusal} (eq : q ≡ run_stop it cs) (y : q.number ≡ 0) where
      made_all : (run_stop it cs).number ≡ 0
      made_all = ap (λ (x : Refusal). x.number) (sym eq) ∙ y

      pub yes-answer : (Ok tt) ≡ run_answer it cs pool words scratch
      unfolding run_answer run_end
      yes-answer = rw (← refusal, end-done r (run_stop it cs) z made_all)

      pub yes-pool : {p : List Float} → p ≡ laid (announced_steps it) (step_values it cs)
          ++ drop (total (announced_steps it)) pool → p ≡ run_pool it cs pool words scratch
      unfolding run_pool run_end
      yes-pool e = rw (← refusal, end-done r (run_stop it cs) z made_all) e

      pub yes-words : {w : List ℕ} → w ≡ map (λ v. word_of v.head) (step_values it cs) ++ drop (length it.steps) words
          → w ≡ run_words it cs pool words scratch
      unfolding run_words run_end
      yes-words e = rw (← refusal, end-done r (run_stop it cs) z made_all) e

      pub yes-scratch : {s : List Float} → s ≡ cleared (largest (announced_steps it)) scratch → s ≡ run_scratch it cs pool words scratch
      unfolding run_scratch run_end
      yes-scratch e = rw (← refusal, end-done r (run_stop it cs) z made_all) e

    -- how it ends, and what it leaves
    pub ended : (stop : RunAnswer) {p s : List Float} {w : List ℕ}
        → Says (λ q. q ≡ run_stop it cs) stop
        → OnOk stop (p ≡ laid (announced_steps it) (step_values it cs) ++ drop (total (announced_steps it)) pool)
        → OnOk stop (w ≡ map (λ v. word_of v.head) (step_values it cs) ++ drop (length it.steps) words)
        → OnErr stop (p ≡ zero_pool (total (announced_steps it)) pool)
        → OnErr stop (w ≡ zero_words (length it.steps) words)
        → s ≡ cleared (largest (announced_steps it)) scratch
        → (stop ≡ run_answer it cs pool words scratch) × ((p ≡ run_pool it cs pool words scratch)
        × ((w ≡ run_words it cs pool words scratch) × (s ≡ run_scratch it cs pool words scratch)))
    ended (Ok u) e v x _ _ k = (yes-answer e refl, (yes-pool e refl v, (yes-words e refl x, yes-scratch e refl k)))
    ended (Err q) e _ _ v x k =
        (stop-answer e.holds e.some, (stop-pool e.holds e.some v, (stop-words e.holds e.some x, stop-scratch e.holds e.some k)))

-- What rests on laws of specs/ (RunExact).
use Rattle.std.specs.Prelude.{Err, ℕ, List, ◌≡◌, leb, length, Float}
use Rattle.std.proofs.Math.Path.{refl, ap}
use Rattle.std.proofs.Common.{sym, ◌∙◌, arith}
use borrow.Author.Tests.{le-leb, lt-leb}
use Rattle.model.specs.declared.Refusal.{Refusal}
use Rattle.model_recipes.specs.Recipe.{Recipe, announced_steps, total}
use Rattle.model_recipes.specs.Check.{or_else, check_refusal}
use Rattle.model_recipes.specs.Reasons.{FirstReason, NoReason, RunReason, of_check, few_coefficients, short_pool, few_words, short_scratch}
use Rattle.model_recipes.specs.Run.{lent_refusal, run_stop, run_refusal, run_end, run_answer}
use Rattle.model_recipes.specs.Stops.{before, at_step}
use Rattle.recipes_check.specs.Asks.{or-first, or-next, by-refusal}
use Rattle.recipes_check.specs.Answered.{answer_no, answer-yes}
use Rattle.recipes_laws.proofs.Exact.{check-exact}
use Rattle.recipes_laws.specs.Ends.{end_refused, end-stopped, end-done, answer-refused}
use Rattle.recipes_laws.specs.Stopped.{Stopping, goes_on, stops, stopping, stop-at}
use Rattle.recipes_laws.specs.RunExact.{Reason, RunExact, and_no, lent-reason}

module _ (it : Recipe) where
  abbrev check : Refusal
  check = check_refusal it

  pub not_refused : check.number ≡ 0 → NoReason it
  not_refused z = (check-exact it).accepted _ _ _ (sym (answer-yes it {r = check} refl z refl refl refl))

  pub first-reason : (check.number ≡ 0 → ⊥) → FirstReason it check
  first-reason n = (check-exact it).refused check (sym (answer_no it {r = check} refl n))

  pub none_due : NoReason it → check.number ≡ 0
  none_due f = by-refusal check (λ z. z) (λ n. absurd (f _ _ (first-reason n).reason))

  pub is-refused : {r : Refusal} → FirstReason it r → check.number ≡ 0 → ⊥
  is-refused f z = not_refused z _ _ f.reason

  pub is-first : {r : Refusal} → FirstReason it r → check ≡ r
  is-first {r} f =
      let e : Err check ≡ Err r =
      answer_no it {r = check} refl (is-refused f) ∙ (check-exact it).refuses r f in
      cc

  -- ---- tests 2, 5, 6, by the lengths of coefficients, pool, words and scratch

  module _ (c p w s : ℕ) where
    abbrev lent : Refusal
    lent = lent_refusal it c p w s

    pub reason-of : ((or_else check lent).number ≡ 0 → ⊥) → RunReason it c p w s (or_else check lent)
    reason-of n =
        by-refusal check
        (λ z. rw (or-next check lent z) ((lent-reason it c p w s) (not_refused z) (rw (or-next check lent z) at n)))
        (λ y. rw (or-first {r = check} lent y) (of_check check (first-reason y)))

    -- a reason is the one that is due
    pub record Due (r : Refusal) : Type 0 where
      is : or_else check lent ≡ r
      some : r.number ≡ 0 → ⊥

    pub past-check : {r : Refusal} → NoReason it → lent ≡ r → (r.number ≡ 0 → ⊥) → Due r
    past-check f e n = record { is = or-next check lent (none_due f) ∙ e; some = n }

    pub due : {r : Refusal} → RunReason it c p w s r → Due r
    unfolding lent_refusal
    due (of_check r f) =
        record {
          is = or-first {r = check} lent (is-refused f) ∙ is-first f;
          some = λ z. is-refused f (ap (λ (x : Refusal). x.number) (is-first f) ∙ z);
        }
    due (few_coefficients f a) = past-check f (simp (lt-leb _ _ a)) (λ z. omega (arith, z))
    due (short_pool f a b) = past-check f (simp (le-leb _ _ a, lt-leb _ _ b)) (λ z. omega (arith, z))
    due (few_words f a b) = past-check f (simp (le-leb _ _ a, lt-leb _ _ b, and_no (leb (total (announced_steps it)) p))) (λ z. omega (arith, z))
    due (short_scratch f a b d e) = past-check f (simp (le-leb _ _ a, le-leb _ _ b, le-leb _ _ d, lt-leb _ _ e)) (λ z. omega (arith, z))

-- ---- the run

-- any words, coefficients and buffers
module _ (it : Recipe) (cs : List Float) (pool : List Float) (words : List ℕ) (scratch : List Float) where
  -- before the first step
  abbrev Early : Refusal → Type 0
  Early r = RunReason it (length cs) (length pool) (length words) (length scratch) r

  abbrev q : Refusal
  q = run_refusal it cs pool words scratch

  abbrev s : Refusal
  s = run_stop it cs

  pub early : (q.number ≡ 0 → ⊥) → Early q
  unfolding run_refusal
  early n = reason-of it _ _ _ _ n

  pub is_due : {r : Refusal} → Early r → Due it (length cs) (length pool) (length words) (length scratch) r
  is_due x = due it _ _ _ _ x

  pub none_early : q.number ≡ 0 → (r : Refusal) → Early r → ⊥
  unfolding run_refusal
  none_early z r x = (is_due x).some (ap (λ (y : Refusal). y.number) (sym (is_due x).is) ∙ z)

  pub is_none : ((r : Refusal) → Early r → ⊥) → q.number ≡ 0
  is_none f = by-refusal q (λ z. z) (λ n. absurd (f q (early n)))

  pub late_by : {r : Refusal} → q.number ≡ 0 → Stopping it cs r → (r.number ≡ 0 → ⊥) → (Reason it cs pool words scratch) r
  late_by z (goes_on f) n = absurd (n refl)
  late_by z (stops i t) n = at_step i (none_early z) t

  pub late : q.number ≡ 0 → (s.number ≡ 0 → ⊥) → (Reason it cs pool words scratch) s
  late z = late_by z (stopping it cs)

  pub no_stop : ((r : Refusal) → (Reason it cs pool words scratch) r → ⊥) → q.number ≡ 0 → s.number ≡ 0
  no_stop f z = by-refusal s (λ y. y) (λ n. absurd (f s (late z n)))

  pub refuses-by : {r : Refusal} → (Reason it cs pool words scratch) r → run_answer it cs pool words scratch ≡ Err r
  unfolding run_answer run_end run_refusal
  refuses-by (before r x) = rw ((is_due x).is, end_refused r s (is_due x).some)
  refuses-by (at_step i f t) =
      let e = stop-at it cs i t in
      let n : s.number ≡ 0 → ⊥ = λ z. let k = ap (λ (y : Refusal). y.number) e in omega (arith, z, k) in
      rw (end-stopped q s (is_none f) n, e)

  -- the first of the two is a reason
  pub either : ((or_else q s).number ≡ 0 → ⊥) → (Reason it cs pool words scratch) (or_else q s)
  either n =
      by-refusal q
      (λ z. rw (or-next q s z) (late z (rw (or-next q s z) at n)))
      (λ y. rw (or-first {r = q} s y) (before q (early y)))

  pub run-exact : (RunExact it cs pool words scratch)
  unfolding run_answer run_end
  run-exact =
      record {
        done = λ f. let z = is_none (λ r x. f r (before r x)) in rw (end-done q s z (no_stop f z));
        refuses = λ r x. refuses-by x;
        refused = λ r e.
            let a = answer-refused q s (sym e) in let n : (or_else q s).number ≡ 0 → ⊥ = rw (← a.0) at a.1 in rw a.0 at (either n);
      }

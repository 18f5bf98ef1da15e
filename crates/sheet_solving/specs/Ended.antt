-- By what a sheet is refused, where it is read, judged or run.
use Rattle.std.specs.Prelude.{Result, ℕ, ◌+◌, ◌*◌, ◌≤◌, ◌≡◌, eqb, Float, take, drop}
use mathlib.Core.List.{List, ◌++◌, map}
use Rattle.std.proofs.Math.Path.{refl, ap}
use Rattle.std.proofs.Common.{sym, ◌∙◌, arith, length-append, length-drop, length-take-le, take_all, eqb-true, eq-eqb, ne_eqb}
use Rattle.std.proofs.Math.ListN.{length}
use Rattle.std.proofs.Math.Seq.{take_at}
use Rattle.std.proofs.lemmas.Bool.{eqb-false}
use Rattle.lists.specs.Table.{table, length-table}
use Rattle.lists.specs.Test.{decide}
use Rattle.model.specs.declared.Refusal.{Refusal}
use Rattle.model.specs.Word.{header_of}
use Rattle.model.specs.Refusals.{zeros}
use Rattle.model_recipes.specs.Recipe.{Recipe, recipe_of, announced_places, announced_steps, total, largest}
use Rattle.model_recipes.specs.Check.{or_else, check_refusal}
use Rattle.model_recipes.specs.Run.{run_refusal, run_stop, zero_pool}
use Rattle.model_texts.specs.Sheet.{word_on, input_count, step_count, sheet_headers, coefficient_count, sheet_coefficients}
use Rattle.model_texts.specs.Sheet.{sheet_steps, sheet_recipe, own_refusal, recipe_refusal, read_refusal, sheet_refusal}
use Rattle.recipes_kinds.specs.Known.{Known}
use Rattle.recipes_check.specs.Asks.{or-first, or-next, or-none}
use Rattle.sheet_reading.specs.Headers.{good-known}
use Rattle.sheet_solving.specs.Opened.{Opened, opened, opened-good, opened-few, headers-many, steps-many}
use Rattle.sheet_limits.specs.Limits.{OwnJudged}
use Rattle.sheet_solving.specs.declared.Solved.{Solved}
use Rattle.sheet_solving.specs.Running.{Opening, Running, running-is, running-passed, running-known}
use Rattle.std.proofs.lemmas.Result.{IfOk-weaker}
use Rattle.sheet_solving.specs.Solves.{before_run, left_pool, Ends, Ended, Ending, Solution}

-- refused as it is read
pub read-refused : (t : List ℕ) {r : Refusal} → r ≡ read_refusal t → (r.number ≡ 0 → ⊥) → r ≡ sheet_refusal t
unfolding sheet_refusal
read-refused t {r} e z = sym (ap (λ (x : Refusal). or_else x (recipe_refusal (sheet_recipe t) (sheet_coefficients t))) (sym e) ∙ or-first _ z)

or_assoc : (a b c : Refusal) → or_else a (or_else b c) ≡ or_else (or_else a b) c
or_assoc a b c =
    decide (eqb a.number 0)
    (λ e. let z = eqb-true a.number 0 e in or-next a (or_else b c) z ∙ sym (ap (λ (x : Refusal). or_else x c) (or-next a b z)))
    (λ e. let z = eqb-false a.number 0 e in or-first (or_else b c) z ∙ sym (ap (λ (x : Refusal). or_else x c) (or-first b z) ∙ or-first c z))

-- the run of a sheet's recipe: refused before its first step, and stopped at a step
abbrev pub ran_refusal : Recipe → List Float → Refusal
ran_refusal it cs =
    run_refusal it cs (zeros (total (announced_steps it))) (table (length it.steps) (λ k. 0)) (zeros (8 * largest (announced_steps it)))

abbrev pub end_refusal : Recipe → List Float → Refusal
end_refusal it cs = or_else (ran_refusal it cs) (run_stop it cs)

-- ---- what is left of the pool

pub left-kept : (t : List ℕ) (ps : List Float) → ((before_run t).number ≡ 0 → ⊥) → ps ≡ left_pool t ps
unfolding left_pool
left-kept t ps n = rw (ne_eqb (before_run t).number 0 n) refl

pub left-zeros : (t : List ℕ) (ps : List Float) → (before_run t).number ≡ 0 → zero_pool (total (announced_steps (sheet_recipe t))) ps ≡ left_pool t ps
unfolding left_pool
left-zeros t ps z = rw (eq-eqb (before_run t).number 0 z) refl

-- refused as it is read
pub read_left : (t : List ℕ) (ps : List Float) {r : Refusal} → r ≡ read_refusal t → (r.number ≡ 0 → ⊥) → ps ≡ left_pool t ps
unfolding before_run
read_left t ps {r} e n =
    let m : (read_refusal t).number ≡ 0 → ⊥ = λ z. n (ap (λ (x : Refusal). x.number) e ∙ z) in
    left-kept t ps (λ z. m (or-none (read_refusal t) (or_else (check_refusal (sheet_recipe t)) (own_refusal (sheet_recipe t))) z).0)

-- ---- a text that is read, with its input headers

module _ {t hs : List ℕ} {ed : ℕ} (o : Opening t hs ed) where
  open-t : Opened t
  open-t = opened t o.read

  pub opening-few : length hs ≤ 16
  opening-few = omega (arith, ap length o.headers ∙ headers-many t, open-t.sizes.few)

  pub opening-fit : length hs + step_count t ≤ 64
  opening-fit = omega (arith, ap length o.headers ∙ headers-many t, open-t.sizes.fit)

  pub opening-known : Known (map header_of hs)
  opening-known = rw o.headers (good-known (opened-good open-t))

  pub opening-count : total (map header_of hs) ≡ coefficient_count t
  unfolding coefficient_count
  opening-count = ap (λ (l : List ℕ). total (map header_of l)) o.headers

  pub opening-small : total (map header_of hs) ≤ 65536
  opening-small = omega (arith, opening-count, opened-few open-t, open-t.sizes.few)

  -- the steps were read into the first n places of old, which hold `part` now
  module _ {n x : ℕ} (old : List ℕ) {part : List ℕ} (en : n ≡ step_count t) (ex : x ≡ total (map header_of hs)) (m : 64 ≤ length old)
      (ep : part ≡ table (length (take n old)) (λ j. word_on t (1 + length hs + x + j))) where
    pub steps-places : n ≤ length old
    steps-places = omega (arith, opening-fit)

    steps-taken : length (take n old) ≡ n
    steps-taken = length-take-le n old steps-places

    part-len : length part ≡ n
    part-len = ap length ep ∙ (length-table (λ j. word_on t (1 + length hs + x + j)) (length (take n old)) ∙ steps-taken)

    pub steps-room : length (part ++ drop n old) ≡ length old
    steps-room = omega (arith, length-append part (drop n old), length-drop n old, part-len, steps-places)

    pub steps-read : take n (part ++ drop n old) ≡ sheet_steps t
    unfolding sheet_steps
    steps-read =
        let eh : length hs ≡ input_count t = ap length o.headers ∙ headers-many t in
        take_at part (drop n old) n part-len ∙ (ep ∙ rw (steps-taken, en, ex, opening-count, eh) refl)

  -- what comes before the run is the check and the limits
  pub opening-before : {ss : List ℕ} → ss ≡ sheet_steps t
      → before_run t ≡ or_else (check_refusal (recipe_of ed hs ss)) (own_refusal (recipe_of ed hs ss))
  unfolding before_run sheet_recipe
  opening-before {ss} es =
      or-next (read_refusal t) (or_else (check_refusal (sheet_recipe t)) (own_refusal (sheet_recipe t))) o.read
      ∙ rw (← o.headers, ← es, ← o.edition) refl

  -- the run's own refusal and its stop come last
  pub opening-refusal : {ss : List ℕ} → ss ≡ sheet_steps t
      → sheet_refusal t ≡ or_else (or_else (check_refusal (recipe_of ed hs ss)) (own_refusal (recipe_of ed hs ss)))
      (end_refusal (recipe_of ed hs ss) (sheet_coefficients t))
  unfolding sheet_refusal recipe_refusal sheet_recipe
  opening-refusal {ss} es =
      or-next (read_refusal t) (recipe_refusal (sheet_recipe t) (sheet_coefficients t)) o.read
      ∙ (rw (← o.headers, ← es, ← o.edition)
      (or_assoc (check_refusal (recipe_of ed hs ss)) (own_refusal (recipe_of ed hs ss)) (end_refusal (recipe_of ed hs ss) (sheet_coefficients t))))

  -- judged, and refused
  pub judged-refused : {ss old new : List ℕ} {r : Refusal} → ss ≡ sheet_steps t → OwnJudged (recipe_of ed hs ss) old new r → (r.number ≡ 0 → ⊥) → r
      ≡ sheet_refusal t
  judged-refused {ss} {old} {new} {r} es j z =
      sym (opening-refusal es ∙ (ap (λ (x : Refusal). or_else x (end_refusal (recipe_of ed hs ss) (sheet_coefficients t))) (sym j.answer) ∙ or-first _ z))

  pub judged-left : (ps : List Float) {ss old new : List ℕ} {r : Refusal} → ss ≡ sheet_steps t → OwnJudged (recipe_of ed hs ss) old new r
      → (r.number ≡ 0 → ⊥) → ps ≡ left_pool t ps
  judged-left ps es j n = left-kept t ps (λ z. n (ap (λ (x : Refusal). x.number) (j.answer ∙ sym (opening-before es)) ∙ z))

  pub running : {ss old new : List ℕ} {r : Refusal} {end c : ℕ} → ss ≡ sheet_steps t → OwnJudged (recipe_of ed hs ss) old new r
      → r.number ≡ 0 → end ≡ length hs + length ss → c ≡ total (map header_of hs) → Running t (recipe_of ed hs ss) (take end new) c
  running es j z ee ec =
      record {
        opened = o;
        steps = es;
        judged = ap (λ (x : Refusal). x.number) (sym j.answer) ∙ z;
        places = rw ee (j.noted z);
        given = ec;
      }

-- the run has ended: its n steps stand at the front of `steps`, the words of its k places at the front of `known`
module _ {t hs : List ℕ} {ed : ℕ} (steps known : List ℕ) (old : List Float) {n k c : ℕ}
    (r : Running t (recipe_of ed hs (take n steps)) (take k known) c) (en : n ≡ step_count t) (ek : k ≡ length hs + n) where
  ended-steps : length (take n steps) ≡ n
  ended-steps = ap length r.steps ∙ (steps-many t ∙ sym en)

  ended-solved : {pool : List Float} {s : Solved} → Ending t hs (take n steps) pool s → Solution t hs steps known pool s
  ended-solved {pool} {s} d =
      let i : s.inputs ≡ length hs = d.inputs in
      let m : s.steps ≡ n = d.steps ∙ ended-steps in
      let both : s.inputs + s.steps ≡ k = omega (arith, i, m, ek) in
      let some = (running-passed r).accepts.sizes.some in
      record {
        inputs = i ∙ (ap length r.opened.headers ∙ headers-many t);
        few = omega (arith, i, opening-few r.opened);
        steps = m ∙ en;
        some = omega (arith, d.steps, some);
        fit = omega (arith, i, m, en, opening-fit r.opened);
        header_words = take_all s.inputs hs (omega (arith, i)) ∙ r.opened.headers;
        step_words = ap (λ (x : ℕ). take x steps) m ∙ r.steps;
        places = rw both (r.places ∙ ap announced_places (running-is r));
        known = rw both (running-known r);
        last = d.last;
      }

  pub ended-done : {pool : List Float} {x : Result Solved Refusal} → Ends t hs (take n steps) old pool x → Ended t hs steps known old pool x
  ended-done {pool} {x} e =
      record {
        says = e.says;
        refused = e.refused;
        done = IfOk-weaker x (λ s. Ending t hs (take n steps) pool s) (λ s. Solution t hs steps known pool s) (λ s d. ended-solved d) e.done;
      }

-- A run of a sheet's recipe, stopped or done, and where its last value lies.
use Rattle.std.specs.Prelude.{Ok, Err, ℕ, zero, suc, ◌+◌, ◌-◌, ◌*◌, ◌≤◌, ◌<◌, List, [], ◌∷◌, ◌++◌, map, ◌≡◌, Float, get_or, take, drop}
use Rattle.std.proofs.Math.Path.{refl, sym, ap}
use Rattle.std.proofs.Common.{◌∙◌, take-take, take_at, get_or-drop}
use native.Mathlib.Omega.{arith}
use Rattle.std.specs.Float.Ieee.{of_bits, binary64}
use Rattle.std.proofs.Math.ListN.{length}
use Rattle.lists.specs.Table.{table, length-table}
use Rattle.model.specs.declared.Header.{Header}
use Rattle.model.specs.declared.Refusal.{Refusal}
use Rattle.model.specs.Header.{no_header, stored}
use Rattle.model.specs.Word.{header_of, word_of}
use Rattle.model.specs.Refusals.{no_refusal, zero_f, zeros, padded}
use Rattle.model.specs.Poly.{Poly}
use Rattle.model_recipes.specs.Recipe.{Recipe, recipe_of, head_at, input_heads, announced_places, announced_steps, total, largest}
use Rattle.model_recipes.specs.Check.{or_else}
use Rattle.model_recipes.specs.Run.{no_value, value_at, values, step_values, laid, done, run_refusal, run_stop, run_end, run_pool, run_words, zero_pool}
use Rattle.model_texts.specs.Sheet.{word_on, input_count, step_count, coefficient_count, sheet_coefficients, sheet_recipe, sheet_refusal, last_value}
use Rattle.shape_words.specs.Rules.{Ruled}
use Rattle.shape_words.specs.Words.{unpack-pack}
use Rattle.shape.specs.Keeps.{Keeps}
use Rattle.shape.specs.Under.{count_under}
use Rattle.recipes_check.specs.Asks.{or-next}
use Rattle.recipes_laws.specs.Follows.{Follows}
use Rattle.recipes_laws.specs.Ends.{end-done}
use Rattle.recipes_laws.specs.Refuses.{run_none}
use Rattle.recipes_laws.specs.Ahead.{announced-at, length-announced, step-largest}
use Rattle.recipes_laws.specs.Values.{follows-all}
use Rattle.recipes_laws.specs.Buffers.{word_kept, coeffs-kept}
use Rattle.recipes_laws.specs.Stopped.{Stopping, goes_on, stops, stopping}
use Rattle.recipes.specs.Running.{Admitted}
use Rattle.sheet_solving.specs.Opened.{headers-many, steps-many}
use Rattle.sheet_solving.specs.declared.Solved.{Solved}
use Rattle.sheet_solving.specs.Running.{RunningIn, Passed, passed, steps-largest}
use Rattle.sheet_solving.specs.Solves.{solved_by, LastAt, Ends}
use Rattle.sheet_solving.specs.Ended.{ran_refusal, left-zeros, opening-few, opening-count, opening-before, opening-refusal}

-- the places of a value end before the pool does
total-take : (hs : List Header) (i : ℕ) → i < length hs → total (take i hs) + stored (get_or hs i no_header) ≤ total hs
unfolding total
total-take [] i l = absurd (omega arith)
total-take (h ∷ hs) zero l = omega arith
total-take (h ∷ hs) (suc i) l = omega (arith, total-take hs i (omega arith))

-- a stop of the number 0 is none
no_stop : {it : Recipe} {cs : List Float} {q : Refusal} → Stopping it cs q → q.number ≡ 0 → no_refusal ≡ q
no_stop (goes_on f) z = refl
no_stop (stops i s) z = absurd (omega (arith, z))

-- c: how many coefficients are given; pool, words and scratch as they came
module _ {t : List ℕ} {it : Recipe} {known : List ℕ} {c : ℕ} (pool : List Float) (words : List ℕ) (scratch : List Float)
    (r : RunningIn t it known c (length pool) (length words) (length scratch)) where
  in-steps : length it.steps ≡ step_count t
  in-steps = ap length r.steps ∙ steps-many t

  in_is : it ≡ sheet_recipe t
  unfolding sheet_recipe
  in_is = λ i. recipe_of (r.opened.edition i) (r.opened.headers i) (r.steps i)

  in-passed : Passed it
  in-passed = passed it r.judged

  pub in-few : 1 + length it.headers + c ≤ 65600
  in-few = omega (arith, opening-few r.opened, r.given, in-passed.inputs)

  pub in_some : 1 ≤ length it.steps
  in_some = in-passed.accepts.sizes.some

  pub in-fit : length it.steps ≤ 64
  in-fit = omega (arith, in-passed.accepts.sizes.fit)

  pub in_words : length it.steps ≤ length words
  in_words = omega (arith, r.words, in-passed.accepts.sizes.fit)

  -- the coefficients, as they were read
  pub floats-read : {n : ℕ} {cs : List Float} → n ≡ c → cs ≡ table n (λ j. of_bits binary64 (word_on t (1 + length it.headers + j))) → cs ≡ sheet_coefficients t
  unfolding sheet_coefficients
  floats-read {n} {cs} en e =
      let ec : n ≡ coefficient_count t = en ∙ (r.given ∙ opening-count r.opened) in
      let eh : length it.headers ≡ input_count t = ap length r.opened.headers ∙ headers-many t in
      e ∙ rw (ec, eh) refl

  module _ {cs : List Float} (e : cs ≡ sheet_coefficients t) where
    given-len : total (input_heads it.headers) ≤ length cs
    unfolding sheet_coefficients
    given-len =
        omega (
          arith,
          ap length e ∙ length-table (λ j. of_bits binary64 (word_on t (1 + input_count t + j))) (coefficient_count t),
          opening-count r.opened,
        )

    pub in_admitted : Admitted it cs known (length pool) (length scratch)
    in_admitted =
        record {
          none = in-passed.check;
          full = given-len;
          pool = omega (arith, r.pool, in-passed.pool);
          room = omega (arith, r.scratch, steps-largest in-passed);
          noted = r.places;
          many = r.many;
        }

    -- no run refuses, in this memory or in memory of exactly the lengths that it takes
    none : (run_refusal it cs pool words scratch).number ≡ 0
    none =
        ap (λ (x : Refusal). x.number) (run_none it cs pool words scratch in-passed.check
        (record { coeffs = given-len; pool = in_admitted.pool; words = in_words; scratch = in_admitted.room }))

    -- so the sheet is refused by its stop alone
    ran_refusal_lem : run_stop it cs ≡ sheet_refusal t
    ran_refusal_lem =
        let p : ℕ = total (announced_steps it) in
        let s : ℕ = 8 * largest (announced_steps it) in
        let exact : ran_refusal it cs ≡ no_refusal =
        run_none it cs (zeros p) (table (length it.steps) (λ k. 0)) (zeros s) in-passed.check
        (record {
          coeffs = given-len;
          pool = omega (arith, length-table (λ (k : ℕ). zero_f) p);
          words = omega (arith, length-table {A = ℕ} (λ k. 0) (length it.steps));
          scratch = omega (arith, length-table (λ (k : ℕ). zero_f) s);
        }) in
        let stop : or_else (ran_refusal it cs) (run_stop it cs) ≡ run_stop it cs = rw exact (or-next no_refusal (run_stop it cs) refl) in
        sym (opening-refusal r.opened r.steps ∙ (or-next _ _ r.judged ∙ rw (← e) stop))

    -- it stopped, and the announced places of the pool were cleared
    pub ran-stopped : {q : Refusal} {ps : List Float} → q ≡ run_stop it cs → (q.number ≡ 0 → ⊥)
        → ps ≡ zero_pool (total (announced_steps it)) pool → Ends t it.headers it.steps pool ps (Err q)
    ran-stopped eq n ep =
        let before = ap (λ (x : Refusal). x.number) (opening-before r.opened r.steps) ∙ r.judged in
        let left = ap (λ (x : Recipe). zero_pool (total (announced_steps x)) pool) in_is ∙ left-zeros t pool before in
        record { says = record { some = n; holds = eq ∙ ran_refusal_lem }; refused = ep ∙ left; done = tt }

    -- ws, ps: words and pool as the run left them, which did not stop; the last value lies from the place f on
    module _ {ws : List ℕ} {ps : List Float} {f : ℕ} (y : (run_stop it cs).number ≡ 0)
        (pe : ps ≡ laid (announced_steps it) (step_values it cs) ++ drop (total (announced_steps it)) pool)
        (we : ws ≡ map (λ v. word_of v.head) (step_values it cs) ++ drop (length it.steps) words)
        (ef : f ≡ total (take (length it.steps - 1) (announced_steps it))) (lp : length ps ≡ length pool) where
      ended : run_end it cs pool words scratch ≡ done
      unfolding run_end
      ended = end-done (run_refusal it cs pool words scratch) (run_stop it cs) none y

      ep : ps ≡ run_pool it cs pool words scratch
      unfolding run_pool
      ep = rw ended pe

      ew : ws ≡ run_words it cs pool words scratch
      unfolding run_words
      ew = rw ended we

      follow : Follows (announced_places it) (values it cs)
      follow = follows-all it cs in-passed.check given-len in_admitted.room

      value-last : value_at (values it cs) (length it.headers + (length it.steps - 1)) ≡ last_value t
      unfolding last_value step_values
      value-last =
          sym (get_or-drop (length it.headers) (values it cs) (length it.steps - 1) no_value)
          ∙ rw (in-steps, ← in_is, ← e) refl

      -- the last value keeps what its step announced
      keep : Keeps (head_at (announced_places it) (length it.headers + (length it.steps - 1))) (last_value t)
      keep = rw value-last at (follow.keeps (length it.headers + (length it.steps - 1)))

      last_in : length it.steps - 1 < length it.steps
      last_in = omega (arith, in_some)

      word-is : get_or ws (length it.steps - 1) 0 ≡ word_of (last_value t).head
      word-is =
          ap (λ (l : List ℕ). get_or l (length it.steps - 1) 0) ew
          ∙ (word_kept it cs follow pool words scratch none y (length it.steps - 1) last_in ∙ ap (λ (v : Poly). word_of v.head) value-last)

      head-is : header_of (get_or ws (length it.steps - 1) 0) ≡ (last_value t).head
      head-is = ap header_of word-is ∙ unpack-pack (last_value t).head keep.regular

      count-is : stored (header_of (get_or ws (length it.steps - 1) 0)) ≡ length (last_value t).coeffs
      count-is = ap stored head-is ∙ sym keep.full

      -- as many places as the last step announced
      abbrev most : ℕ
      most = stored (head_at (announced_places it) (length it.headers + (length it.steps - 1)))

      value-fits : length (last_value t).coeffs ≤ most
      value-fits = omega (arith, keep.full, count_under keep.under)

      places_in : f + most ≤ total (announced_steps it)
      unfolding announced_steps
      places_in =
          let s : stored (get_or (announced_steps it) (length it.steps - 1) no_header) ≡ most =
          ap stored (get_or-drop (length it.headers) (announced_places it) (length it.steps - 1) no_header) in
          omega (arith, ef, total-take (announced_steps it) (length it.steps - 1) (omega (arith, length-announced it, in_some)), s)

      pub ran_ruled : Ruled (header_of (get_or ws (length it.steps - 1) 0))
      ran_ruled = rw head-is keep.regular.rules

      coefficients_are : take (stored (header_of (get_or ws (length it.steps - 1) 0))) (drop f ps) ≡ (last_value t).coeffs
      coefficients_are =
          let xs : List Float = (last_value t).coeffs in
          let kept : take most (drop f ps) ≡ padded most xs =
          rw (ep, ef) (coeffs-kept it cs follow pool words scratch none y (length it.steps - 1) last_in
          ∙ ap (λ (v : Poly). padded most v.coeffs) value-last) in
          ap (λ (i : ℕ). take i (drop f ps)) count-is
          ∙ (sym (take-take (length xs) most (drop f ps) value-fits) ∙ (ap (take (length xs)) kept ∙ take_at xs (zeros (most - length xs)) (length xs) refl))

      ran-last : LastAt t ps (get_or ws (length it.steps - 1) 0) f (stored (header_of (get_or ws (length it.steps - 1) 0)))
      ran-last =
          let p = in-passed in
          let l : most ≤ largest (announced_steps it) =
          rw (announced-at it (length it.steps - 1) last_in) (step-largest it (length it.steps - 1) last_in) in
          record {
            header = word-is;
            count = count-is;
            full = refl;
            few = omega (arith, count-is, value-fits, l, steps-largest p);
            within = omega (arith, count-is, value-fits, places_in, p.pool);
            held = omega (arith, count-is, value-fits, places_in, lp, in_admitted.pool);
            coefficients = coefficients_are;
          }

      pub ran-done : {s : Solved} → s ≡ solved_by (length it.headers) (length it.steps) (get_or ws (length it.steps - 1) 0) f
          → Ends t it.headers it.steps pool ps (Ok s)
      ran-done e =
          rw e
          (record {
            says = no_stop (stopping it cs) y ∙ ran_refusal_lem;
            refused = tt;
            done = record { inputs = refl; steps = refl; last = ran-last };
          })

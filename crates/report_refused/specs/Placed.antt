-- Where a sheet that is read is refused: at one of its steps, or at no place.
use Rattle.std.specs.Prelude.{ℕ, ◌+◌, ◌*◌, ◌≤◌, ◌<◌, Bool, true, false, ◌&&◌, List, ◌≡◌, refl, leb, length, get_or, take, Float}
use Rattle.std.proofs.Common.{sym, ap, ◌∙◌}
use native.Mathlib.Omega.{arith}
use Rattle.lists.specs.Table.{table, table_at}
use Rattle.model.specs.declared.Refusal.{Refusal}
use Rattle.model.specs.Word.{good_word}
use Rattle.model.specs.Refusals.{ask_for, ask, refused_by, no_refusal, zeros}
use Rattle.model_recipes.specs.Recipe.{Recipe, input_heads, announced_places, announced_steps, total, largest}
use Rattle.model_recipes.specs.Check.{ask_at, or_else, check_refusal}
use Rattle.model_recipes.specs.Run.{lent_refusal, run_refusal, run_stop}
use Rattle.model_texts.specs.Sheet.{input_count, step_count, sheet_headers, sheet_edition, sheet_coefficients, sheet_steps, sheet_recipe}
use Rattle.model_texts.specs.Sheet.{own_refusal, recipe_refusal, read_refusal, sheet_refusal}
use Rattle.shape_words.specs.Faults.{not-both}
use Rattle.recipes_check.specs.Asks.{or-first, or-next, by-refusal}
use Rattle.recipes_laws.specs.StepReasons.{Stopped, step-stopped}
use Rattle.recipes_laws.specs.Outcome.{GoodInputs, Outcome, by_sizes, at_input, at_step, not_refused, outcome}
use Rattle.recipes_laws.specs.Exact.{known, length-known}
use Rattle.recipes_laws.specs.Stopped.{Stopping, goes_on, stops, stopping}
use Rattle.sheet_reading.specs.Headers.{header_on, good-at}
use Rattle.sheet_solving.specs.Opened.{Opened, opened, headers-many, steps-many}
use Rattle.sheet_reading.specs.Reading.{Read}
use Rattle.sheet_solving.specs.Running.{Opening}
use Rattle.sheet_solving.specs.Ended.{ran_refusal, end_refusal}

-- k inputs, n steps
pub record Placed (k n : ℕ) (r : Refusal) : Type 0 where
  pub from : r.place < 64 → k ≤ r.place
  pub to : r.place < 64 → r.place < k + n

-- at no place
nowhere : {k n : ℕ} {r : Refusal} → r.place ≡ 64 → Placed k n r
nowhere e = record { from = λ l. absurd (omega (arith, e)); to = λ l. absurd (omega (arith, e)) }

-- ---- the program's own limits, and lent memory

asked : (b : Bool) (q next : Refusal) → q.place ≡ 64 → next.place ≡ 64 → (ask_for b q next).place ≡ 64
asked true q next e f = f
asked false q next e f = e

own_nowhere : (b : Bool) → (ask_at b 5 64 no_refusal).place ≡ 64
own_nowhere true = refl
own_nowhere false = refl

lent_nowhere : (it : Recipe) (c p w s : ℕ) → (lent_refusal it c p w s).place ≡ 64
unfolding lent_refusal
lent_nowhere it c p w s =
    let a : Bool = leb (total (input_heads it.headers)) c in
    let b : Bool = leb (total (announced_steps it)) p && leb (length it.steps) w in
    let d : Bool = leb (8 * largest (announced_steps it)) s in
    let third : Refusal = ask d 6 no_refusal in
    let second : Refusal = ask b 5 third in
    asked a (refused_by 2) second refl (asked b (refused_by 5) third refl (asked d (refused_by 6) no_refusal refl refl))

-- ---- the check, where every header is good

check-placed : (it : Recipe) {r : Refusal} → Outcome it r → GoodInputs it.headers (length it.headers)
    → Placed (length it.headers) (length it.steps) r
check-placed it (by_sizes x) g = nowhere refl
check-placed it (at_input i s l f b) g = absurd (not-both (good_word (get_or it.headers i 0)) (g i l) b)
check-placed it (at_step i r s f e l c n) g =
    let t : Stopped it.edition (get_or it.steps i 0) (known it i) r =
    rw (← e) at (step-stopped it.edition (get_or it.steps i 0) (known it i) (rw e at n)) in
    let p : r.place ≡ length it.headers + i = t.at ∙ length-known it i l in
    record { from = λ m. omega (arith, p); to = λ m. omega (arith, p) }
check-placed it (not_refused s f c) g = nowhere refl

or-placed : {k n : ℕ} (a b : Refusal) → Placed k n a → Placed k n b → Placed k n (or_else a b)
or-placed a b p q = by-refusal a (λ z. rw (or-next a b z) q) (λ z. rw (or-first {r = a} b z) p)

-- ---- the run's stop

stopping-placed : (it : Recipe) (cs : List Float) {r : Refusal} → Stopping it cs r → Placed (length it.headers) (length it.steps) r
stopping-placed it cs (goes_on f) = nowhere refl
stopping-placed it cs (stops i s) = record { from = λ l. omega arith; to = λ l. omega (arith, s.among) }

recipe-placed : (it : Recipe) (cs : List Float) → GoodInputs it.headers (length it.headers)
    → Placed (length it.headers) (length it.steps) (recipe_refusal it cs)
unfolding recipe_refusal own_refusal run_refusal
recipe-placed it cs g =
    let c = check-placed it (outcome it) g in
    let pool : List Float = zeros (total (announced_steps it)) in
    let words : List ℕ = table (length it.steps) (λ k. 0) in
    let scratch : List Float = zeros (8 * largest (announced_steps it)) in
    or-placed (check_refusal it) (or_else (own_refusal it) (end_refusal it cs)) c
    (or-placed (own_refusal it) (end_refusal it cs)
    (nowhere (own_nowhere ((leb (largest (announced_places it)) 256 && leb (total (input_heads it.headers)) 2048) && leb (total (announced_steps it)) 2048)))
    (or-placed (ran_refusal it cs) (run_stop it cs)
    (or-placed (check_refusal it) (lent_refusal it (length cs) (length pool) (length words) (length scratch)) c
    (nowhere (lent_nowhere it (length cs) (length pool) (length words) (length scratch))))
    (stopping-placed it cs (stopping it cs))))

-- ---- the sheet

module _ (t : List ℕ) (z : (read_refusal t).number ≡ 0) where
  good-headers : GoodInputs (sheet_headers t) (length (sheet_headers t))
  unfolding sheet_headers
  good-headers j l =
      let o : Opened t = opened t z in
      let m : j < input_count t = omega (arith, headers-many t) in
      let e : 0 + j ≡ j = omega arith in
      rw (table_at 0 (header_on t) (input_count t) j m) (rw e at (good-at t (input_count t) 0 o.headers j m))

  pub sheet-placed : Placed (length (sheet_headers t)) (step_count t) (sheet_refusal t)
  unfolding sheet_refusal sheet_recipe
  sheet-placed =
      rw (or-next (read_refusal t) (recipe_refusal (sheet_recipe t) (sheet_coefficients t)) z, ← steps-many t)
      (recipe-placed (sheet_recipe t) (sheet_coefficients t) good-headers)

-- the headers that were read stand at the front of a buffer
module _ {t old new : List ℕ} {q : Refusal} {n : ℕ} (d : Read t old new q) (z : q.number ≡ 0) (e : n ≡ input_count t) where
  pub read_none : (read_refusal t).number ≡ 0
  read_none = ap (λ (x : Refusal). x.number) (sym d.answer) ∙ z

  pub read-few : n ≤ 16
  read-few = omega (arith, e, (opened t read_none).sizes.few)

  pub read-opening : {ed : ℕ} → ed ≡ sheet_edition t → Opening t (take n new) ed
  read-opening f = record { read = read_none; headers = ap (λ (k : ℕ). take k new) e ∙ d.headers z; edition = f }

  pub read-placed : {r : Refusal} → r ≡ sheet_refusal t → Placed (length (take n new)) (step_count t) r
  read-placed {r} f = rw ((read-opening refl).headers, f) (sheet-placed t read_none)

-- A sheet is refused by 12 at most; and what is read without a refusal is shorter than a program reads.
use Prim.Native.Nat.{ℕ, zero, suc, ◌+◌, ◌*◌, ◌≤◌, ◌<◌}
use Rattle.std.specs.Prelude.{Bool, true, false, ◌&&◌, List, ◌≡◌, leb, length, Float}
use Rattle.std.proofs.Common.{arith, leb-true}
use Rattle.lists.specs.Every.{every}
use Rattle.lists.specs.Table.{table}
use Rattle.lists.specs.Test.{of-both}
use Rattle.model.specs.declared.Refusal.{Refusal}
use Rattle.model.specs.Word.{good_word}
use Rattle.model.specs.Refusals.{no_refusal, is_none, zeros}
use Rattle.model_recipes.specs.Recipe.{Recipe, input_heads, announced_places, announced_steps, total, largest}
use Rattle.model_recipes.specs.Check.{ask_at, or_else, check_refusal}
use Rattle.model_texts.specs.Sheet.{lined, word_on, input_count, rest_count, headers_refusal, read_refusal, sheet_coefficients, sheet_recipe}
use Rattle.model_texts.specs.Sheet.{own_refusal, recipe_refusal, sheet_refusal}
use Rattle.gates.specs.Small.{Small, at_small, word_small, asked-small, small-up}
use Rattle.model_recipes.specs.Run.{run_stop}
use Rattle.recipes_check.specs.Asks.{or-first, or-next, by-refusal, or-none, ask-none}
use Rattle.recipes_check.specs.Judged.{accepts}
use Rattle.recipes_laws.specs.Refuses.{check-small, run_small}
use Rattle.recipes_laws.specs.Stopped.{stop-small}
use Rattle.sheet_reading.specs.Reading.{sizes_test, rest_refusal, after-sizes, count_small}
use Rattle.sheet_solving.specs.Opened.{opened, opened-few}
use Rattle.sheet_solving.specs.Ended.{ran_refusal, end_refusal}
use Rattle.sheet.specs.Front.{read_at_most}

none-small : Small 12 512 no_refusal
none-small = at_small 0 64 (omega arith) (omega arith)

ask-small : (b : Bool) (k p : ℕ) {next : Refusal} → k ≤ 12 → p ≤ 512 → Small 12 512 next → Small 12 512 (ask_at b k p next)
ask-small true k p a c s = s
ask-small false k p a c s = at_small k p a c

or-small : {r next : Refusal} → Small 12 512 r → Small 12 512 next → Small 12 512 (or_else r next)
unfolding or_else
or-small {r} s n = of-both (Small 12 512) (is_none r) n s

-- the check, the program's own limits, and the run
own-small : (it : Recipe) → Small 12 512 (own_refusal it)
unfolding own_refusal
own-small it =
    ask-small ((leb (largest (announced_places it)) 256 && leb (total (input_heads it.headers)) 2048) && leb (total (announced_steps it)) 2048) 5 64
    (omega arith) (omega arith) none-small

recipe-small : (it : Recipe) (cs : List Float) → Small 12 512 (recipe_refusal it cs)
unfolding recipe_refusal
recipe-small it cs =
    by-refusal (check_refusal it)
    (λ z.
    rw (or-next (check_refusal it) (or_else (own_refusal it) (end_refusal it cs)) z)
    (or-small {r = own_refusal it} {next = end_refusal it cs} (own-small it)
    (or-small {r = ran_refusal it cs} {next = run_stop it cs}
    (small-up
    (run_small it cs (zeros (total (announced_steps it))) (table (length it.steps) (λ k. 0)) (zeros (8 * largest (announced_steps it))))
    (omega arith) (omega arith))
    (small-up (stop-small it cs (accepts it z).sizes.fit) (omega arith) (omega arith)))))
    (λ n. rw (or-first {r = check_refusal it} (or_else (own_refusal it) (end_refusal it cs)) n) (small-up (check-small it) (omega arith) (omega arith)))

module _ (t : List ℕ) where
  headers-small : (n i : ℕ) → i + n ≤ 512 → Small 12 512 (headers_refusal t n i)
  unfolding headers_refusal
  headers-small zero i h = none-small
  headers-small (suc n) i h =
      ask-small (lined t (1 + i)) 8 64 (omega arith) (omega arith)
      (asked-small (good_word (word_on t (1 + i))) (word_small (word_on t (1 + i)) i (omega arith) (omega arith)) (headers-small n (suc i) (omega arith)))

  read_small : Small 12 512 (read_refusal t)
  unfolding read_refusal
  read_small =
      ask-small (lined t 0) 8 64 (omega arith) (omega arith)
      (ask-small (sizes_test t) 7 64 (omega arith) (omega arith)
      (or-small (headers-small (input_count t) 0 (omega (arith, count_small t)))
      (ask-small (every (lined t) (rest_count t) (1 + input_count t)) 8 64 (omega arith) (omega arith)
      (ask-small (leb (length t) (17 * (1 + input_count t + rest_count t))) 8 64 (omega arith) (omega arith) none-small))))

  pub refusal-small : Small 12 512 (sheet_refusal t)
  unfolding sheet_refusal
  refusal-small = or-small read_small (recipe-small (sheet_recipe t) (sheet_coefficients t))

  -- what is read without a refusal is at most 65,601 lines long
  pub read_length : (read_refusal t).number ≡ 0 → length t < read_at_most
  read_length z =
      let o = opened t z in
      let n = or-none (headers_refusal t (input_count t) 0) (rest_refusal t (rest_count t) (1 + input_count t)) (rw (after-sizes t o.sizes) at z) in
      let fits : Bool = leb (length t) (17 * (1 + input_count t + rest_count t)) in
      let a = ask-none (every (lined t) (rest_count t) (1 + input_count t)) 64 (ask_at fits 8 64 no_refusal) (λ e. omega (arith, e)) n.1 in
      let b = ask-none fits 64 no_refusal (λ e. omega (arith, e)) a.1 in
      omega (arith, leb-true (length t) (17 * (1 + input_count t + rest_count t)) b.0, opened-few o, o.sizes.few, o.sizes.fit)

use Rattle.std.proofs.lemmas.Result.{err_from_is_err_and}
use mathlib.Core.Path.{refl}
use mathlib.Core.Path.{◌≡◌, sym, ap, ◌∙◌}
use mathlib.Core.List.{List}
use native.Mathlib.Omega.{arith}
use Prim.Native.Nat.{ℕ, ◌+◌, ◌-◌, ◌≤◌}
use lib.ListN.{length, length-take, length-drop}
use Rattle.lists.specs.Part.{part}
use Rattle.model.specs.declared.Refusal.{Refusal}
use Rattle.model_recipes.specs.Recipe.{Recipe, recipe_of, largest}
use Rattle.recipes_check.specs.Judged.{accepts, Judged}
use Rattle.recipes_check.specs.Answered.{Passed, passed}
use Rattle.recipes_reuse.specs.Answered.{reuse_no, reuse-yes, needed-is, last-is}
use Rattle.recipes_reuse.proofs.check_reuse.Goals as goal

pass : (it : Recipe) {old new : List ℕ} {r : Refusal} → Judged it old new r → r.number ≡ 0 → Passed it new
pass it j z = passed j z

some : (it : Recipe) {old new : List ℕ} {r : Refusal} → Judged it old new r → r.number ≡ 0 → 1 ≤ length it.steps
some it j z = (accepts it (ap (λ (x : Refusal). x.number) (sym j.answer) ∙ z)).sizes.some

-- the words that the steps announce
told-long : (it : Recipe) {new : List ℕ} → Passed it new → length new ≡ 64
    → length (part (length it.headers) (length it.headers + length it.steps) new) ≡ length it.steps
told-long it p l = simp (length-take, length-drop) (omega (arith, p.fit, l))

pub returns-in_err-judge : goal.returns-in_err-judge
returns-in_err-judge c =
    let p = err_from_is_err_and c.from_residual.result c.from_residual.ensures.1 in
    let q = c.in_err-judge.ensures in
    rw (p.1, p.2) (reuse_no _ q.holds.answer q.some)

pub slice_bounds-largest_of-end : goal.slice_bounds-largest_of-end
slice_bounds-largest_of-end c =
    let p = pass (recipe_of c.args.edition c.args.headers.now c.args.steps.now) c.in_ok-judge.ensures refl in
    omega (arith, p.fit, c.in_ok-judge.ensures.len)

pub largest_of-largest-requires : goal.largest_of-largest-requires
largest_of-largest-requires c =
    let p = pass (recipe_of c.args.edition c.args.headers.now c.args.steps.now) c.in_ok-judge.ensures refl in
    rw p.part p.steps

pub slice_bounds-place_recipe-end : goal.slice_bounds-place_recipe-end
slice_bounds-place_recipe-end c =
    let p = pass (recipe_of c.args.edition c.args.headers.now c.args.steps.now) c.in_ok-judge.ensures refl in
    omega (arith, p.fit, c.in_ok-judge.ensures.len)

pub place_recipe-pool-requires-clause-fact_1 : goal.place_recipe-pool-requires-clause-fact_1
place_recipe-pool-requires-clause-fact_1 c =
    let p = pass (recipe_of c.args.edition c.args.headers.now c.args.steps.now) c.in_ok-judge.ensures refl in
    rw p.part p.steps

pub place_recipe-pool-requires-clause-fact_2 : goal.place_recipe-pool-requires-clause-fact_2
place_recipe-pool-requires-clause-fact_2 c =
    let it = recipe_of c.args.edition c.args.headers.now c.args.steps.now in
    let p = pass it c.in_ok-judge.ensures refl in
    let l = told-long it p c.in_ok-judge.ensures.len in
    (sym l, omega (arith, l, p.fit), omega (arith, l, p.fit), omega (arith, p.fit))

pub overflow_sub-last : goal.overflow_sub-last
overflow_sub-last c =
    some (recipe_of c.args.edition c.args.headers.now c.args.steps.now) c.in_ok-judge.ensures refl

pub bounds-starts-count : goal.bounds-starts-count
bounds-starts-count c =
    let it = recipe_of c.args.edition c.args.headers.now c.args.steps.now in
    let p = pass it c.in_ok-judge.ensures refl in
    omega (arith, some it c.in_ok-judge.ensures refl, p.fit)

pub total_of-requires : goal.total_of-requires
total_of-requires c =
    let p = pass (recipe_of c.args.edition c.args.headers.now c.args.steps.now) c.in_ok-judge.ensures refl in
    record { fact_1 = p.inputs; fact_2 = omega (arith, p.fit) }

pub returns : goal.returns
returns c =
    let it = recipe_of c.args.edition c.args.headers.now c.args.steps.now in
    let p = pass it c.in_ok-judge.ensures refl in
    reuse-yes it c.in_ok-judge.ensures.answer refl
    (needed-is it (part (length it.headers) (length it.headers + length it.steps) c.judge.new.known) p.part c.place_recipe-pool.ensures.length)
    (c.largest_of-largest.ensures ∙ ap largest p.part)
    c.total_of.ensures
    (last-is it (part (length it.headers) (length it.headers + length it.steps) c.judge.new.known) p.part
    (told-long it p c.in_ok-judge.ensures.len) (some it c.in_ok-judge.ensures refl) _ c.place_recipe-pool.ensures.offsets)

use native.Mathlib.Omega.{arith}
use mathlib.Core.Path.{◌≡◌, sym, ap, ◌∙◌}
use mathlib.Core.List.{◌++◌}
use Prim.Native.Nat.{ℕ, ◌*◌, ◌≤◌}
use lib.ListN.{length, drop, length-append, length-take}
use lib.Seq.{length-take-le}
use Rattle.model.specs.declared.Refusal.{Refusal}
use Rattle.model_recipes.specs.Recipe.{recipe_of, announced_steps, input_heads, total, largest}
use Rattle.recipes.specs.Standing.{Placing}
use Rattle.recipes.specs.Admission.{largest-most, run-passed, run-some, last-start, admitted_exactly, words_end, pool_end, scratch_end}
use borrow.Author.Rules.{rules}
use Rattle.recipes.proofs.admit.run_admitted.Goals as goal

pub slice_bounds-total_of-end : goal.slice_bounds-total_of-end
slice_bounds-total_of-end c =
    omega (arith, (run-passed c.requires.fact_1).fit, c.requires.fact_1.many)

pub total_of-total-requires : goal.total_of-total-requires
total_of-total-requires c =
    record {
      fact_1 = rw (run-passed c.requires.fact_1).part (run-passed c.requires.fact_1).steps;
      fact_2 = simp length-take (omega
          (arith, (run-passed c.requires.fact_1).fit));
    }

pub slice_bounds-largest_of-end : goal.slice_bounds-largest_of-end
slice_bounds-largest_of-end c =
    omega (arith, (run-passed c.requires.fact_1).fit, c.requires.fact_1.many)

pub largest_of-room-requires : goal.largest_of-room-requires
largest_of-room-requires c =
    rw (run-passed c.requires.fact_1).part (run-passed c.requires.fact_1).steps

pub overflow_mul-room : goal.overflow_mul-room
overflow_mul-room c =
    let most_is : c.largest_of-room.result ≡ largest (announced_steps (recipe_of c.args.edition c.args.headers.now c.args.steps.now)) =
    c.largest_of-room.ensures ∙ ap largest (run-passed c.requires.fact_1).part in
    omega (
      arith,
      most_is,
      largest-most (announced_steps (recipe_of c.args.edition c.args.headers.now c.args.steps.now))
          (run-passed c.requires.fact_1).steps,
    )

pub slice_bounds-place-end : goal.slice_bounds-place-end
slice_bounds-place-end c =
    omega (arith, (run-passed c.requires.fact_1).fit, c.requires.fact_1.many)

pub place-requires : goal.place-requires
place-requires c =
    record {
      fact_1 = (run-passed c.requires.fact_1).inputs;
      fact_2 = rw (run-passed c.requires.fact_1).part (run-passed c.requires.fact_1).steps;
      fact_3 = (
        simp length-take (omega
            (arith, (run-passed c.requires.fact_1).fit)),
        simp length-take (omega (arith, (run-passed c.requires.fact_1).fit)),
      );
    }

pub slice_bounds-run_steps-end-2 : goal.slice_bounds-run_steps-end-2
slice_bounds-run_steps-end-2 c =
    let most_is : c.largest_of-room.result ≡ largest (announced_steps (recipe_of c.args.edition c.args.headers.now c.args.steps.now)) =
    c.largest_of-room.ensures ∙ ap largest (run-passed c.requires.fact_1).part in
    let fits : 8 * c.largest_of-room.result ≤ length c.args.scratch.now =
    omega (arith, most_is, c.requires.fact_1.room) in
    fits

pub slice_bounds-run_steps-end-3 : goal.slice_bounds-run_steps-end-3
slice_bounds-run_steps-end-3 c =
    let most_is : c.largest_of-room.result ≡ largest (announced_steps (recipe_of c.args.edition c.args.headers.now c.args.steps.now)) =
    c.largest_of-room.ensures ∙ ap largest (run-passed c.requires.fact_1).part in
    let fits : 8 * c.largest_of-room.result ≤ length c.args.scratch.now =
    omega (arith, most_is, c.requires.fact_1.room) in
    sym (length-take-le _ _ (fits))

pub run_steps-made-requires : goal.run_steps-made-requires
run_steps-made-requires c =
    let most_is : c.largest_of-room.result ≡ largest (announced_steps (recipe_of c.args.edition c.args.headers.now c.args.steps.now)) =
    c.largest_of-room.ensures ∙ ap largest (run-passed c.requires.fact_1).part in
    let fits : 8 * c.largest_of-room.result ≤ length c.args.scratch.now =
    omega (arith, most_is, c.requires.fact_1.room) in
    let placed : Placing (input_heads c.args.headers.now) (announced_steps (recipe_of c.args.edition c.args.headers.now
    c.args.steps.now)) c.place.new.starts =
    rw (run-passed c.requires.fact_1).part at c.place.ensures in
    record {
      fact_1 = admitted_exactly c.requires.fact_1 (length-take-le _ _ (fits) ∙ ap (λ (k : ℕ). 8 * k) (most_is));
      fact_2 = placed;
      fact_3 = omega
          (arith, c.place.auto.starts);
    }

pub slice_bounds-clear-end : goal.slice_bounds-clear-end
slice_bounds-clear-end c =
    let most_is : c.largest_of-room.result ≡ largest (announced_steps (recipe_of c.args.edition c.args.headers.now c.args.steps.now)) =
    c.largest_of-room.ensures ∙ ap largest (run-passed c.requires.fact_1).part in
    let fits : 8 * c.largest_of-room.result ≤ length c.args.scratch.now =
    omega (arith, most_is, c.requires.fact_1.room) in
    let used : length c.run_steps-made.new.scratch ≡ 8 * c.largest_of-room.result =
    c.run_steps-made.auto.scratch ∙ length-take-le _ _ (fits) in
    let again : 8 * c.largest_of-room.result ≤ length (c.run_steps-made.new.scratch ++ drop (8 * c.largest_of-room.result)
    c.args.scratch.now) =
    simp length-append (omega (arith, used)) in
    again

pub slice_bounds-clear-end-2 : goal.slice_bounds-clear-end-2
slice_bounds-clear-end-2 c =
    let most_is : c.largest_of-room.result ≡ largest (announced_steps (recipe_of c.args.edition c.args.headers.now c.args.steps.now)) =
    c.largest_of-room.ensures ∙ ap largest (run-passed c.requires.fact_1).part in
    let fits : 8 * c.largest_of-room.result ≤ length c.args.scratch.now =
    omega (arith, most_is, c.requires.fact_1.room) in
    let used : length c.run_steps-made.new.scratch ≡ 8 * c.largest_of-room.result =
    c.run_steps-made.auto.scratch ∙ length-take-le _ _ (fits) in
    let again : 8 * c.largest_of-room.result ≤ length (c.run_steps-made.new.scratch ++ drop (8 * c.largest_of-room.result)
    c.args.scratch.now) =
    simp length-append (omega (arith, used)) in
    sym (length-take-le _ _ (again))

pub overflow_sub-last : goal.overflow_sub-last
overflow_sub-last c =
    omega (arith, run-some c.requires.fact_1)

pub offset_bounds-starts-to : goal.offset_bounds-starts-to
offset_bounds-starts-to c =
    omega (arith, (run-passed c.requires.fact_1).fit)

pub bounds-starts-to : goal.bounds-starts-to
bounds-starts-to c =
    omega (arith, run-some c.requires.fact_1, (run-passed c.requires.fact_1).fit, c.place.auto.starts)

pub leave_zeros-requires : goal.leave_zeros-requires
leave_zeros-requires c =
    let total-is : c.total_of-total.result ≡ total (announced_steps (recipe_of c.args.edition c.args.headers.now c.args.steps.now)) =
    c.total_of-total.ensures ∙ ap total (run-passed c.requires.fact_1).part in
    (omega (arith, total-is, c.requires.fact_1.pool, c.run_steps-made.auto.pool), c.requires.fact_2)

pub overflow_add-place : goal.overflow_add-place
overflow_add-place c =
    omega (arith, (run-passed c.requires.fact_1).fit, c.if-made-steps.true)

pub overflow_cast-place : goal.overflow_cast-place
overflow_cast-place c =
    record { fits = omega (arith, (run-passed c.requires.fact_1).fit, c.if-made-steps.true) }

pub returns-then-made-steps : goal.returns-then-made-steps
returns-then-made-steps c =
    let total-is : c.total_of-total.result ≡ total (announced_steps (recipe_of c.args.edition c.args.headers.now c.args.steps.now)) =
    c.total_of-total.ensures ∙ ap total (run-passed c.requires.fact_1).part in
    let most_is : c.largest_of-room.result ≡ largest (announced_steps (recipe_of c.args.edition c.args.headers.now c.args.steps.now)) =
    c.largest_of-room.ensures ∙ ap largest (run-passed c.requires.fact_1).part in
    let fits : 8 * c.largest_of-room.result ≤ length c.args.scratch.now =
    omega (arith, most_is, c.requires.fact_1.room) in
    let used : length c.run_steps-made.new.scratch ≡ 8 * c.largest_of-room.result =
    c.run_steps-made.auto.scratch ∙ length-take-le _ _ (fits) in
    let again : 8 * c.largest_of-room.result ≤ length (c.run_steps-made.new.scratch ++ drop (8 * c.largest_of-room.result)
    c.args.scratch.now) =
    simp length-append (omega (arith, used)) in
    let placed : Placing (input_heads c.args.headers.now) (announced_steps (recipe_of c.args.edition c.args.headers.now
    c.args.steps.now)) c.place.new.starts =
    rw (run-passed c.requires.fact_1).part at c.place.ensures in
    record {
      stop = record {
        some = λ z. omega (arith, z, ap (λ (x : Refusal). x.number) c.at.ensures);
        holds = c.at.ensures ∙ sym (c.run_steps-made.ensures.made.stop c.if-made-steps.true);
      };
      values = tt;
      words = tt;
      no_values = pool_end (total (announced_steps
          (recipe_of c.args.edition c.args.headers.now c.args.steps.now))) c.args.pool.now
          c.run_steps-made.new.pool (total-is) c.run_steps-made.ensures.behind c.leave_zeros.ensures.values;
      no_words = c.leave_zeros.ensures.words;
      cleared = scratch_end (largest (announced_steps (recipe_of c.args.edition c.args.headers.now
          c.args.steps.now))) c.args.scratch.now c.run_steps-made.new.scratch (ap (λ
          (k : ℕ). 8 * k) (most_is))
          (used) c.clear.ensures (length-take-le _ _ (again));
      last = last-start c.requires.fact_1 (placed);
      spent = search rules;
    }

pub offset_bounds-known-from-4 : goal.offset_bounds-known-from-4
offset_bounds-known-from-4 c =
    omega (arith, (run-passed c.requires.fact_1).fit)

pub slice_bounds-note_inputs-end : goal.slice_bounds-note_inputs-end
slice_bounds-note_inputs-end c =
    omega (arith, (run-passed c.requires.fact_1).fit, c.requires.fact_1.many, c.run_steps-made.auto.known)

pub note_inputs-requires : goal.note_inputs-requires
note_inputs-requires c =
    simp length-take (omega (arith, c.requires.fact_2))

pub returns : goal.returns
returns c =
    let most_is : c.largest_of-room.result ≡ largest (announced_steps (recipe_of c.args.edition c.args.headers.now c.args.steps.now)) =
    c.largest_of-room.ensures ∙ ap largest (run-passed c.requires.fact_1).part in
    let fits : 8 * c.largest_of-room.result ≤ length c.args.scratch.now =
    omega (arith, most_is, c.requires.fact_1.room) in
    let used : length c.run_steps-made.new.scratch ≡ 8 * c.largest_of-room.result =
    c.run_steps-made.auto.scratch ∙ length-take-le _ _ (fits) in
    let again : 8 * c.largest_of-room.result ≤ length (c.run_steps-made.new.scratch ++ drop (8 * c.largest_of-room.result)
    c.args.scratch.now) =
    simp length-append (omega (arith, used)) in
    let placed : Placing (input_heads c.args.headers.now) (announced_steps (recipe_of c.args.edition c.args.headers.now
    c.args.steps.now)) c.place.new.starts =
    rw (run-passed c.requires.fact_1).part at c.place.ensures in
    record {
      stop = sym (c.run_steps-made.ensures.made.whole (omega (arith, c.run_steps-made.ensures.made.most, c.if-made-steps.false)));
      values = c.run_steps-made.ensures.values (omega (arith, c.run_steps-made.ensures.made.most, c.if-made-steps.false));
      words = words_end (length
          c.args.headers.now) (length c.args.steps.now) c.run_steps-made.new.known _ c.args.words.now
          (c.run_steps-made.ensures.words (omega (arith, c.run_steps-made.ensures.made.most, c.if-made-steps.false))) (omega (
            arith,
            (run-passed
                c.requires.fact_1).fit,
            c.requires.fact_1.many,
            c.run_steps-made.auto.known,
          )) c.note_inputs.ensures;
      no_values = tt;
      no_words = tt;
      cleared = scratch_end
          (largest (announced_steps (recipe_of c.args.edition c.args.headers.now c.args.steps.now)))
          c.args.scratch.now
          c.run_steps-made.new.scratch (ap (λ (k : ℕ). 8 * k) (most_is)) (used) c.clear.ensures (length-take-le _ _
          (again));
      last = last-start c.requires.fact_1 (placed);
      spent = search rules;
    }

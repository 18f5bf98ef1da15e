use lib.ListN.{length, take, drop}
use mathlib.Core.List.{List}
use Rattle.model.specs.Places.{place}
use native.Mathlib.Omega.{arith}
use native.Mathlib.Nat.{le_refl}
use mathlib.Core.Path.{◌≡◌, sym, ap, ◌∙◌}
use Prim.Native.Nat.{◌+◌, ◌-◌, ◌≤◌}
use lib.Ieee.{Float}
use Rattle.lists.specs.Four.{at}
use Rattle.lists.specs.Table.{table}
use Rattle.shape_words.specs.Lengths.{Inside, inside_is}
use Rattle.blocks.specs.Rows.{along-fits, line_joined}
use Rattle.blocks.specs.ByRow.{row-joined, row_kept}
use Rattle.blocks.proofs.join_row.Goals as goal

pub place_of-from-requires : goal.place_of-from-requires
place_of-from-requires c =
    let within : Inside c.args.n c.args.i =
    inside_is _ _ (sym c.is_inside.ensures ∙ c.if-is_inside.true) in
    record { fact_1 = c.requires.fact_1; fact_2 = within }

pub overflow_add-from : goal.overflow_add-from
overflow_add-from c =
    let within : Inside c.args.n c.args.i =
    inside_is _ _ (sym c.is_inside.ensures ∙ c.if-is_inside.true) in
    let fits : c.place_of-from.result + at c.args.n 3 ≤ length c.args.a.now =
    omega (arith, c.place_of-from.ensures, along-fits c.requires.fact_1 (within) c.requires.fact_3 (le_refl _), c.requires.fact_2) in
    omega (arith, fits)

pub offset_bounds-a-from : goal.offset_bounds-a-from
offset_bounds-a-from c =
    let within : Inside c.args.n c.args.i =
    inside_is _ _ (sym c.is_inside.ensures ∙ c.if-is_inside.true) in
    let fits : c.place_of-from.result + at c.args.n 3 ≤ length c.args.a.now =
    omega (arith, c.place_of-from.ensures, along-fits c.requires.fact_1 (within) c.requires.fact_3 (le_refl _), c.requires.fact_2) in
    omega (arith, fits)

pub slice_bounds-join_line-end : goal.slice_bounds-join_line-end
slice_bounds-join_line-end c =
    let within : Inside c.args.n c.args.i =
    inside_is _ _ (sym c.is_inside.ensures ∙ c.if-is_inside.true) in
    let fits : c.place_of-from.result + at c.args.n 3 ≤ length c.args.a.now =
    omega (arith, c.place_of-from.ensures, along-fits c.requires.fact_1 (within) c.requires.fact_3 (le_refl _), c.requires.fact_2) in
    fits

pub returns-then-is_inside : goal.returns-then-is_inside
returns-then-is_inside c =
    let within : Inside c.args.n c.args.i =
    inside_is _ _ (sym c.is_inside.ensures ∙ c.if-is_inside.true) in
    let part-is : take (c.place_of-from.result + at c.args.n 3 - c.place_of-from.result)
    (drop c.place_of-from.result c.args.a.now)
    ≡ take (at c.args.n 3) (drop (place c.args.n c.args.i) c.args.a.now) =
    let e : c.place_of-from.result + at c.args.n 3 - c.place_of-from.result ≡ at c.args.n 3 = omega arith in rw (e, c.place_of-from.ensures) in
    row-joined c.args.minus c.args.n c.args.a.now c.args.to.now c.args.i c.requires.fact_3 c.requires.fact_1
    (within) c.requires.fact_2.0
    (c.join_line.ensures ∙ ap
    (λ (l : List Float). table (length c.args.to.now) (line_joined c.args.minus l c.args.to.now))
    (part-is))

pub returns-else-is_inside : goal.returns-else-is_inside
returns-else-is_inside c =
    row_kept c.args.minus c.args.n c.args.a.now c.args.to.now c.args.i c.requires.fact_3 c.requires.fact_1 (sym c.is_inside.ensures ∙ c.if-is_inside.false)

use native.Mathlib.Omega.{arith}
use mathlib.Core.Path.{◌≡◌, sym, ap, ◌∙◌}
use Prim.Native.Nat.{◌≤◌}
use lib.ListN.{length}
use lib.Seq.{length-take-le}
use Rattle.lists.specs.Table.{length-table}
use Rattle.model.specs.Header.{stored, count}
use Rattle.shape_operands.specs.Operand.{taken, within-full, within-ends, within-is}
use Rattle.substitution_turn.specs.Turn.{front_kept}
use Rattle.substitution.proofs.kernel.put_from.Goals as goal

pub stretch-put-requires : goal.stretch-put-requires
stretch-put-requires c = within-ends c.requires.fact_3

pub slice_bounds-load-end-2 : goal.slice_bounds-load-end-2
slice_bounds-load-end-2 c =
    let small : c.count_of-z.result ≤ length c.args.work.now =
    omega (arith, c.count_of-z.ensures, c.requires.fact_2) in
    sym (length-take-le _ _ (small))

pub load-requires : goal.load-requires
load-requires c =
    let part-is : c.stretch-put.result.now ≡ (taken c.args.q c.args.b.now c.args.earlier.now).coeffs =
    within-is c.requires.fact_3 c.stretch-put.ensures in
    let part-full : length c.stretch-put.result.now ≡ stored c.args.q.head =
    ap length (part-is) ∙ within-full c.requires.fact_3 in
    let small : c.count_of-z.result ≤ length c.args.work.now =
    omega (arith, c.count_of-z.ensures, c.requires.fact_2) in
    rw (part-full, length-take-le _ _ (small), c.count_of-z.ensures) c.requires.fact_1

pub returns : goal.returns
returns c =
    let part-is : c.stretch-put.result.now ≡ (taken c.args.q c.args.b.now c.args.earlier.now).coeffs =
    within-is c.requires.fact_3 c.stretch-put.ensures in
    let small : c.count_of-z.result ≤ length c.args.work.now =
    omega (arith, c.count_of-z.ensures, c.requires.fact_2) in
    front_kept c.args.work.now (rw (part-is) at c.load.ensures)
    (length-table _ (count c.args.c)) c.count_of-z.ensures (small)

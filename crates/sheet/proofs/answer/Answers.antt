use native.Mathlib.Omega.{arith}
use mathlib.Core.Path.{sym, ap, ◌∙◌}
use lib.ListN.{length-take}
use Rattle.model.specs.declared.Refusal.{Refusal}
use Rattle.sheet_text.specs.Put.{put_front_lem}
use Rattle.sheet.specs.Output.{output-refused, output_solved}
use Rattle.sheet.proofs.answer.Goals as goal

pub returns-in-Err : goal.returns-in-Err
returns-in-Err c =
    let q = c.in-Err.ensures.says in
    let p = put_front_lem c.put_refusal.ensures in
    rw (output-refused _ (sym q.holds) q.some) (p.0, (omega (arith, c.put_refusal.ensures.fits), p.1))

pub overflow_add-end : goal.overflow_add-end
overflow_add-end c =
    omega (arith, c.in-Ok.ensures.done.last.within)

pub overflow_cast-solved : goal.overflow_cast-solved
overflow_cast-solved c =
    omega (arith, c.in-Ok.ensures.done.fit)

pub offset_bounds-pool-from : goal.offset_bounds-pool-from
offset_bounds-pool-from c =
    omega (arith, c.in-Ok.ensures.done.last.within)

pub slice_bounds-put_done-end : goal.slice_bounds-put_done-end
slice_bounds-put_done-end c =
    omega (arith, c.in-Ok.ensures.done.last.held)

pub put_done-requires : goal.put_done-requires
put_done-requires c =
    simp length-take (omega (arith, c.in-Ok.ensures.done.last.few))

pub returns : goal.returns
returns c =
    let p = put_front_lem c.put_done.ensures in
    rw (output_solved c.in-Ok.ensures.done
    (ap (λ (r : Refusal). r.number) (sym c.in-Ok.ensures.says)))
    (p.0, (omega (arith, c.put_done.ensures.fits), p.1))

use Rattle.std.specs.Prelude.{Ok}
use Rattle.std.proofs.lemmas.Result.{err_from_is_err_and}
use mathlib.Core.Path.{refl, sym, ap, ◌∙◌}
use lib.Seq.{length-take-le}
use Rattle.lists.specs.Table.{length-table}
use Rattle.model.specs.Header.{stored}
use Rattle.model.specs.Word.{word_of}
use Rattle.model.specs.Gates.{announced_one}
use Rattle.model.specs.Poly.{held}
use Rattle.model.specs.declared.Family.TheVariants.{Order}
use Rattle.model.specs.Readings.{taylor_polynomial, taylor_polynomial_answer, taylor_polynomial_out}
use Rattle.gates.specs.Gate.{entry-refused, entry_done}
use Rattle.gates.specs.Open.{told-by, one-given, one-count, in-opened, in-fits}
use Rattle.readings_row.specs.Term.{part-written, padded-full, order_cutting}
use Rattle.readings.proofs.taylor_polynomial.Goals as goal

pub returns-in_err-o : goal.returns-in_err-o
unfolding taylor_polynomial_answer taylor_polynomial_out
returns-in_err-o c =
    let p = err_from_is_err_and c.from_residual.result c.from_residual.ensures.1 in
    rw (p.1, p.2)
    (entry-refused c.in_err-o.ensures.is c.in_err-o.ensures.some (announced_one (Order c.args.v c.args.order) c.args.head)
    (taylor_polynomial c.args.v c.args.order (held c.args.head c.args.a.now)) c.args.out.now)

pub slice_bounds-load-end : goal.slice_bounds-load-end
slice_bounds-load-end c = sym (length-take-le _ _ (in-fits _ _ _ _ c.in_ok-o.ensures).0)

pub slice_bounds-load-end-2 : goal.slice_bounds-load-end-2
slice_bounds-load-end-2 c = (in-fits _ _ _ _ c.in_ok-o.ensures).1

pub slice_bounds-load-end-3 : goal.slice_bounds-load-end-3
slice_bounds-load-end-3 c = sym (length-take-le _ _ (in-fits _ _ _ _ c.in_ok-o.ensures).1)

pub load-requires : goal.load-requires
load-requires c =
    let t = c.in_ok-o.ensures.tells in
    let fits = in-fits _ _ _ _ c.in_ok-o.ensures in
    order_cutting c.args.v c.args.order (rw t.left (in-opened _ _ _ _ c.in_ok-o.ensures).one.good.regular.rules)
    (rw t.right at (told-by (Order c.args.v c.args.order) t)) (length-take-le _ _ fits.0 ∙ t.count_a) (length-take-le _ _ fits.1 ∙ t.count)

pub pack-requires : goal.pack-requires
pack-requires c = rw c.in_ok-o.ensures.tells.told (in-opened _ _ _ _ c.in_ok-o.ensures).one.announced.regular.rules

pub returns : goal.returns
unfolding taylor_polynomial taylor_polynomial_answer taylor_polynomial_out
returns c =
    let t = c.in_ok-o.ensures.tells in
    entry_done refl c.in_ok-o.ensures.none (announced_one (Order c.args.v c.args.order) c.args.head)
    (taylor_polynomial c.args.v c.args.order (held c.args.head c.args.a.now)) c.args.out.now
    (ap Ok (c.pack.ensures ∙ ap word_of t.told))
    (rw (one-count c.in_ok-o.ensures)
    (part-written (stored (announced_one (Order c.args.v c.args.order) c.args.head))
    (taylor_polynomial c.args.v c.args.order (held c.args.head c.args.a.now)).coeffs c.args.out.now
    ((rw (one-given c.in_ok-o.ensures, t.left, t.told) at c.load.ensures)
    ∙ padded-full _ (length-table _ (stored (announced_one (Order c.args.v c.args.order) c.args.head))))))

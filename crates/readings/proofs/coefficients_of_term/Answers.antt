use Rattle.std.specs.Prelude.{Ok}
use Rattle.std.proofs.lemmas.Result.{err_from_is_err_and}
use mathlib.Core.Path.{◌≡◌, refl, sym, ap, ◌∙◌}
use native.Mathlib.Omega.{arith}
use lib.Seq.{length-take-le}
use Rattle.model.specs.Header.{stored}
use Rattle.model.specs.Word.{word_of}
use Rattle.model.specs.Gates.{announced_one}
use Rattle.model.specs.Poly.{held}
use Rattle.model.specs.declared.Family.TheVariants.{Term}
use Rattle.model.specs.Readings.{coefficients_of_term, coefficients_of_term_answer, coefficients_of_term_out}
use Rattle.gates.specs.Gate.{entry-refused, entry_done}
use Rattle.gates.specs.Open.{told-by, one-given, one-count, in-opened, in-fits}
use Rattle.readings_row.specs.Term.{part-written}
use Rattle.readings.specs.Kept.{coefficients_of_term-keeps}
use Rattle.readings.proofs.coefficients_of_term.Goals as goal

pub returns-in_err-o : goal.returns-in_err-o
unfolding coefficients_of_term_answer coefficients_of_term_out
returns-in_err-o c =
    let p = err_from_is_err_and c.from_residual.result c.from_residual.ensures.1 in
    rw (p.1, p.2)
    (entry-refused c.in_err-o.ensures.is c.in_err-o.ensures.some (announced_one (Term c.args.v) c.args.head)
    (coefficients_of_term c.args.v c.args.order (held c.args.head c.args.a.now)) c.args.out.now)

pub slice_bounds-take_term-end : goal.slice_bounds-take_term-end
slice_bounds-take_term-end c = sym (length-take-le _ _ (in-fits _ _ _ _ c.in_ok-o.ensures).0)

pub slice_bounds-take_term-end-2 : goal.slice_bounds-take_term-end-2
slice_bounds-take_term-end-2 c = (in-fits _ _ _ _ c.in_ok-o.ensures).1

pub slice_bounds-take_term-end-3 : goal.slice_bounds-take_term-end-3
slice_bounds-take_term-end-3 c = sym (length-take-le _ _ (in-fits _ _ _ _ c.in_ok-o.ensures).1)

pub take_term-x-requires : goal.take_term-x-requires
take_term-x-requires c =
    let t = c.in_ok-o.ensures.tells in
    let fits = in-fits _ _ _ _ c.in_ok-o.ensures in
    let ready = in-opened _ _ _ _ c.in_ok-o.ensures in
    record {
      rules = rw t.left ready.one.good.regular.rules;
      is = rw t.right at (told-by (Term c.args.v) t);
      var = omega (arith, ready.known, ready.one.good.regular.rules.few);
      full = length-take-le _ _ fits.0 ∙ t.count_a;
      room = length-take-le _ _ fits.1 ∙ t.count;
    }

pub pack-requires : goal.pack-requires
pack-requires c =
    let o = c.in_ok-o.ensures in
    let head : c.take_term-x.result ≡ (coefficients_of_term c.args.v c.args.order (held c.args.head c.args.a.now)).head =
    rw (one-given o, o.tells.left) at c.take_term-x.ensures.head in
    rw head
    (coefficients_of_term-keeps c.args.v c.args.order (held c.args.head c.args.a.now)
    (in-opened _ _ _ _ o).one.good.regular.rules).regular.rules

pub returns : goal.returns
unfolding coefficients_of_term_answer coefficients_of_term_out
returns c =
    let o = c.in_ok-o.ensures in
    let head : c.take_term-x.result ≡ (coefficients_of_term c.args.v c.args.order (held c.args.head c.args.a.now)).head =
    rw (one-given o, o.tells.left) at c.take_term-x.ensures.head in
    entry_done refl o.none (announced_one (Term c.args.v) c.args.head)
    (coefficients_of_term c.args.v c.args.order (held c.args.head c.args.a.now)) c.args.out.now
    (ap Ok (c.pack.ensures ∙ ap word_of head))
    (rw (one-count o)
    (part-written (stored (announced_one (Term c.args.v) c.args.head))
    (coefficients_of_term c.args.v c.args.order (held c.args.head c.args.a.now)).coeffs c.args.out.now
    (rw (one-given o, o.tells.left, o.tells.told) at c.take_term-x.ensures.places)))

use Rattle.std.proofs.lemmas.Result.{err_from_is_err_and}
use mathlib.Core.Path.{refl}
use mathlib.Core.Path.{sym, ap, ◌∙◌}
use native.Mathlib.Omega.{arith}
use lib.ListN.{length}
use Rattle.gates.specs.Gate.{entry-refused, entry_done, VarWithReady, var_with-ready}
use Rattle.model.specs.Header.{zero_with, var_with}
use Rattle.model.specs.Constructed.{variable}
use Rattle.readings_short.specs.Short.{var-count}
use Rattle.readings.proofs.var_with_degrees_p1.Goals as goal

pub returns-in_err-h : goal.returns-in_err-h
returns-in_err-h c =
    let p = err_from_is_err_and c.from_residual.result c.from_residual.ensures.1 in rw (p.1, p.2)
    (entry-refused c.in_err-h.ensures.is c.in_err-h.ensures.some
    (var_with c.args.v c.args.vars c.args.limits)
    (variable (var_with c.args.v c.args.vars c.args.limits) c.args.x)
    c.args.out.now)

pub write_short-requires : goal.write_short-requires
unfolding var_with zero_with
write_short-requires c =
    let ready : VarWithReady c.args.v c.args.vars c.args.limits (length c.args.out.now) =
    var_with-ready _ _ _ _ c.in_ok-h.ensures.none in
    record {
      fact_1 = rw c.in_ok-h.ensures.holds ((ready).header);
      fact_2 = rw c.in_ok-h.ensures.holds (var-count c.args.vars c.args.limits c.args.v
          (omega (
            arith,
            (ready).known,
            (ready).header.good.regular.rules.few,
          )));
    }

pub returns : goal.returns
returns c =
    entry_done refl c.in_ok-h.ensures.none
    (var_with c.args.v c.args.vars c.args.limits)
    (variable (var_with c.args.v c.args.vars c.args.limits) c.args.x)
    c.args.out.now (rw c.in_ok-h.ensures.holds at c.write_short.ensures.answer)
    (rw c.in_ok-h.ensures.holds at c.write_short.ensures.written)

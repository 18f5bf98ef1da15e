use Rattle.std.proofs.lemmas.Result.{err_from_is_err_and}
use mathlib.Core.Path.{refl}
use mathlib.Core.Path.{sym, ap, ◌∙◌}
use native.Mathlib.Omega.{arith}
use lib.ListN.{length}
use Rattle.model.specs.Refusals.{written}
use Rattle.gates.specs.Gate.{HeaderReady, entry-refused, entry_done, with-ready}
use Rattle.model.specs.Header.{stored, zero_with}
use Rattle.model.specs.Constructed.{constant}
use Rattle.readings_short.specs.Short.{zero-count, constant-is}
use Rattle.readings_short.proofs.constant_with.Goals as goal

pub returns-in_err-h : goal.returns-in_err-h
returns-in_err-h c =
    let p = err_from_is_err_and c.from_residual.result c.from_residual.ensures.1 in rw (p.1, p.2)
    (let whole = entry-refused c.in_err-h.ensures.is c.in_err-h.ensures.some
    (zero_with c.args.vars c.args.limits)
    (constant (zero_with c.args.vars c.args.limits) c.args.x) c.args.out.now in record { answer = whole.0; written = whole.1 })

pub write_short-requires : goal.write_short-requires
write_short-requires c =
    let ready : HeaderReady (zero_with c.args.vars c.args.limits) (length c.args.out.now) =
    with-ready _ _ _ c.in_ok-h.ensures.none in
    record { fact_1 = rw c.in_ok-h.ensures.holds (ready); fact_2 = rw c.in_ok-h.ensures.holds (omega (arith, zero-count c.args.vars c.args.limits)) }

pub returns : goal.returns
returns c =
    let whole = entry_done refl c.in_ok-h.ensures.none (zero_with c.args.vars c.args.limits)
    (constant (zero_with c.args.vars c.args.limits) c.args.x) c.args.out.now
    (rw c.in_ok-h.ensures.holds at c.write_short.ensures.answer)
    ((rw c.in_ok-h.ensures.holds at c.write_short.ensures.written)
    ∙ ap (λ l. written (stored (zero_with c.args.vars c.args.limits)) l c.args.out.now)
    (constant-is c.args.vars c.args.limits c.args.x)) in record { answer = whole.0; written = whole.1 }

use mathlib.Core.Path.{refl, ◌∙◌}
use Rattle.std.proofs.lemmas.Result.{err_from_is_err_and}
use Rattle.gates.specs.Open.{one-given}
use Rattle.sums.specs.Negate.{negate-refused, negate-kept, negate-ready, negate-done, negate_out_lem, negate-room}
use Rattle.sums.proofs.negate.Goals as goal

pub returns-in_err-o : goal.returns-in_err-o
returns-in_err-o c =
    let q = c.in_err-o.ensures in
    let p = err_from_is_err_and c.from_residual.result c.from_residual.ensures.1 in
    rw (p.1, p.2) (
      negate-refused c.args.head c.args.a.now c.args.out.now q.is q.some,
      negate-kept c.args.head c.args.a.now c.args.out.now q.is q.some,
    )

pub negate_into-requires : goal.negate_into-requires
negate_into-requires c =
    negate-room c.args.head c.args.a.now c.args.out.now
    (negate-ready c.args.head c.args.a.now c.args.out.now c.ranges.head.fits refl c.in_ok-o.ensures.none) (one-given c.in_ok-o.ensures)

pub returns : goal.returns
returns c =
    let z = c.in_ok-o.ensures.none in (
      negate-done c.args.head c.args.a.now c.args.out.now c.ranges.head.fits refl z,
      c.negate_into.ensures
          ∙ negate_out_lem c.args.head c.args.a.now c.args.out.now c.ranges.head.fits refl z (one-given c.in_ok-o.ensures),
    )

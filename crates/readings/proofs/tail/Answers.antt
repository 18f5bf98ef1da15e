use Rattle.std.proofs.lemmas.Result.{err_from_is_err_and}
use mathlib.Core.Path.{refl}
use mathlib.Core.Path.{sym, ap, ◌∙◌}
use native.Mathlib.Omega.{arith}
use lib.ListN.{length}
use Rattle.model.specs.Tail.{tail_answer}
use Rattle.gates.specs.Gate.{read-refused, read_done}
use Rattle.gates.specs.Sole.{TailReady, tail-ready}
use Rattle.readings.specs.Read.{tail-room}
use Rattle.readings.proofs.tail.Goals as goal

pub returns-in_err-h : goal.returns-in_err-h
unfolding tail_answer
returns-in_err-h c =
    let p = err_from_is_err_and c.from_residual.result c.from_residual.ensures.1 in rw (p.1, p.2)
    (read-refused c.in_err-h.ensures.is c.in_err-h.ensures.some _)

pub tail_at-requires : goal.tail_at-requires
tail_at-requires c =
    let ready : TailReady c.args.head (length c.args.a.now) c.args.k c.args.total =
    tail-ready _ _ _ _ c.in_ok-h.ensures.none in
    rw c.in_ok-h.ensures.holds (let t = tail-room (ready).sole.read in omega arith)

pub returns : goal.returns
unfolding tail_answer
returns c =
    read_done refl c.in_ok-h.ensures.none
    (rw c.in_ok-h.ensures.holds at c.tail_at.ensures)

use Rattle.std.proofs.lemmas.Result.{err_from_is_err_and}
use mathlib.Core.Path.{refl}
use mathlib.Core.Path.{◌≡◌, sym, ap, ◌∙◌}
use lib.ListN.{length}
use Rattle.model.specs.Header.{len}
use Rattle.model.specs.Word.{header_of}
use Rattle.model.specs.Least.{least_of}
use Rattle.gates.specs.Sole.{SoleReady, sole-ready}
use Rattle.readings.specs.Read.{tail-room}
use Rattle.readings.specs.Least.{least-stopped, least_lacking, least_had}
use Rattle.readings.proofs.least.Goals as goal

pub returns-in_err-h : goal.returns-in_err-h
returns-in_err-h c =
    let p = err_from_is_err_and c.from_residual.result c.from_residual.ensures.1 in rw (p.1, p.2)
    (least-stopped _ _ _ c.in_err-h.ensures.is c.in_err-h.ensures.some)

pub least_at-k-requires : goal.least_at-k-requires
least_at-k-requires c =
    let ready : SoleReady c.args.head (length c.args.a.now) =
    sole-ready _ _ c.in_ok-h.ensures.none in
    rw c.in_ok-h.ensures.holds (tail-room (ready).read)

pub returns-then-n-k : goal.returns-then-n-k
returns-then-n-k c =
    let found : c.least_at-k.result ≡ least_of c.args.a.now (len (header_of c.args.head) 0) c.args.q =
    rw c.in_ok-h.ensures.holds at c.least_at-k.ensures in
    least_lacking _ _ _ refl c.in_ok-h.ensures.none
    _ (found) c.by.ensures (rw c.in_ok-h.ensures.holds at c.if-n-k.true)

pub returns : goal.returns
returns c =
    let found : c.least_at-k.result ≡ least_of c.args.a.now (len (header_of c.args.head) 0) c.args.q =
    rw c.in_ok-h.ensures.holds at c.least_at-k.ensures in
    least_had _ _ _ refl c.in_ok-h.ensures.none
    _ (found) (rw c.in_ok-h.ensures.holds at c.if-n-k.false)

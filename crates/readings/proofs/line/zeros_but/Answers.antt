use Rattle.std.proofs.Common.{sym, arith}
use Rattle.readings.specs.Line.{zeros-none, zeros-more, zeros-stop}
use Rattle.readings.proofs.line.zeros_but.Goals as goal

pub loop-k-init : goal.loop-k-init
loop-k-init c = zeros-none c.args.a.now c.args.s

pub returns-then-not-k-s : goal.returns-then-not-k-s
returns-then-not-k-s c =
    sym (zeros-stop c.args.a.now c.args.s c.loop-k.k _ c.loop-k.invariant c.if-not-k-s.true (omega arith))

pub loop-k-preserved : goal.loop-k-preserved
loop-k-preserved c = zeros-more c.args.a.now c.args.s c.loop-k.k c.loop-k.invariant c.if-not-k-s.false

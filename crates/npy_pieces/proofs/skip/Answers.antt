use lib.ListN.{length}
use native.Mathlib.Omega.{arith}
use mathlib.Core.Path.{◌≡◌, refl, sym, ◌∙◌}
use Rattle.npy_pieces.specs.Places.{passed-more, passed-stop, passed_end}
use Rattle.npy_pieces.proofs.skip.Goals as goal

pub loop-k-init : goal.loop-k-init
loop-k-init c = record { inside = c.requires; left = refl }

pub returns-then-not-is_of : goal.returns-then-not-is_of
returns-then-not-is_of c =
    passed-stop c.loop-k.invariant c.loop-k-test.true
    (sym c.is_of.ensures ∙ c.if-not-is_of.true)

pub loop-k-preserved : goal.loop-k-preserved
loop-k-preserved c =
    passed-more c.loop-k.invariant c.loop-k-test.true
    (sym c.is_of.ensures ∙ c.if-not-is_of.false)

pub returns : goal.returns
returns c =
    let e : c.loop-k.k ≡ length c.args.text.now = omega (arith, c.loop-k.invariant.inside) in
    rw (← e) (passed_end c.loop-k.invariant c.loop-k-test.false)

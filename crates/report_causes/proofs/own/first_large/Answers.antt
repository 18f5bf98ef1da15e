use native.Mathlib.Omega.{arith}
use lib.ListN.{length}
use mathlib.Core.Path.{ap, ◌∙◌, ◌≡◌}
use Rattle.model.specs.Header.{stored}
use Rattle.recipes_check.specs.Counts.{word_ruled}
use Rattle.report_say.specs.First.{looking-none, front-more}
use Rattle.report_causes.specs.Counts.{small_at_lem, large-at, large-stop, large_end}
use Rattle.report_causes.proofs.own.first_large.Goals as goal

pub loop-p-init : goal.loop-p-init
loop-p-init c = looking-none _ _ _

pub stored_of-requires : goal.stored_of-requires
stored_of-requires c =
    rw c.header_of.ensures (word_ruled c.args.known.now c.requires c.loop-p.p)

pub returns-then-stored_of-gt256 : goal.returns-then-stored_of-gt256
returns-then-stored_of-gt256 c =
    large-stop c.args.known.now c.loop-p.invariant c.loop-p-test.true (large-at
    c.args.known.now c.loop-p.p (c.stored_of.ensures ∙ ap stored c.header_of.ensures)
    c.if-stored_of-gt256.true)

pub loop-p-preserved : goal.loop-p-preserved
loop-p-preserved c =
    front-more c.loop-p.invariant c.loop-p-test.true (small_at_lem
    c.args.known.now c.loop-p.p (c.stored_of.ensures
    ∙ ap stored c.header_of.ensures) c.if-stored_of-gt256.false)

pub returns : goal.returns
returns c =
    let all : length c.args.known.now ≡ c.loop-p.p = omega (arith, c.loop-p.invariant.most, c.loop-p-test.false) in
    all ∙ large_end c.args.known.now c.loop-p.invariant c.loop-p-test.false

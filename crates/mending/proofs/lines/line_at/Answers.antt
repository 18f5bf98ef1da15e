use native.Mathlib.Omega.{arith}
use Rattle.mending.specs.Lines.{going-none, going-small, going_more, end-most}
use Rattle.mending.proofs.lines.line_at.Goals as goal

pub loop-init : goal.loop-init
loop-init c = going-none _ _

pub line_end-at-requires : goal.line_end-at-requires
line_end-at-requires c = omega (arith, going-small c.loop.invariant)

pub overflow_add-at : goal.overflow_add-at
overflow_add-at c =
    omega (
      arith,
      going-small c.loop.invariant,
      c.line_end-at.ensures,
      end-most c.args.text.now
          c.loop.at,
    )

pub loop-preserved : goal.loop-preserved
loop-preserved c = going_more c.loop.invariant c.loop-test.true c.line_end-at.ensures

use native.Mathlib.Omega.{arith}
use Prim.Native.Nat.{◌≤◌}
use mathlib.Core.Path.{sym}
use lib.ListN.{length, get_or}
use lib.Seq.{length-take-le}
use Rattle.lists.specs.Walk.{walked_none, walked_more, walked_end}
use Rattle.settings_command.specs.Tests.{slash-most}
use Rattle.settings_command.specs.Argument.{folder_length}
use Rattle.settings_command.proofs.argument.folder_length.Goals as goal

pub loop-k-init : goal.loop-k-init
loop-k-init c = (omega arith, walked_none _ 0 0)

pub loop-k-preserved : goal.loop-k-preserved
loop-k-preserved c = (
  slash-most (get_or c.args.path.now c.loop-k.k 0) c.loop-k.k c.behind_slash-n.ensures c.loop-k.invariant.0,
  walked_more c.loop-k.invariant.1 c.behind_slash-n.ensures,
)

pub returns : goal.returns
unfolding folder_length
returns c =
    let e : c.loop-k.n ≤ length c.args.path.now = omega (arith, c.loop-k.invariant.0) in
    record { is = walked_end _ c.loop-k.invariant.1 (omega arith); within = (e, sym (length-take-le _ _ e)) }

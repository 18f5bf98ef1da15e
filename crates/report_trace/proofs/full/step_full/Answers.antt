use native.Mathlib.Omega.{arith}
use Rattle.report_trace.specs.Counted.{step_is}
use Rattle.report_trace.specs.Small.{a_small, b-small}
use Rattle.recipes_kinds.specs.Known.{small-variable}
use Rattle.report_trace.proofs.full.step_full.Goals as goal

pub full_at-p-requires : goal.full_at-p-requires
full_at-p-requires c = rw c.step_of-s.ensures (a_small _, small-variable _)

pub full_at-a-requires : goal.full_at-a-requires
full_at-a-requires c = rw c.step_of-s.ensures (a_small _, omega arith)

pub full_at-b-requires : goal.full_at-b-requires
full_at-b-requires c = rw c.step_of-s.ensures (b-small _, omega arith)

pub returns : goal.returns
returns c =
    step_is _ _ _ c.step_of-s.ensures
    c.full_at-p.ensures c.full_at-a.ensures
    c.full_at-b.ensures c.family_of.ensures c.full_after.ensures

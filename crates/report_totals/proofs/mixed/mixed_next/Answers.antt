use Rattle.report_trace.specs.Small.{a_small}
use Rattle.recipes_kinds.specs.Known.{small-variable}
use Rattle.report_totals.specs.Mixings.{mixed-input, mixed-is}
use Rattle.report_totals.proofs.mixed.mixed_next.Goals as goal

pub returns-then-p-inputs : goal.returns-then-p-inputs
returns-then-p-inputs c = mixed-input _ _ _ _ _ c.if-p-inputs.true

pub full_at-rows-requires : goal.full_at-rows-requires
full_at-rows-requires c = rw c.step_of-s.ensures (a_small _, small-variable _)

pub mixes-requires : goal.mixes-requires
mixes-requires c = rw c.step_of-s.ensures (a_small _)

pub returns : goal.returns
returns c =
    mixed-is _ _ _ _ _ c.if-p-inputs.false c.step_word.ensures c.step_of-s.ensures c.full_at-rows.ensures c.mixes.ensures c.pick-own.ensures
    c.family_of.ensures c.needs_first.ensures c.found_at.ensures c.pick-first.ensures c.family_of-2.ensures c.needs_second.ensures
    c.found_at-2.ensures c.pick-second.ensures c.least.ensures c.least-2.ensures

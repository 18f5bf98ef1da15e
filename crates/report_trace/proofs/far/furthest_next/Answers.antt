use Rattle.report_trace.specs.Traced.{next-is}
use Rattle.report_trace.proofs.far.furthest_next.Goals as goal

pub returns : goal.returns
returns c =
    next-is _ _ _ _ _ c.step_word-word.ensures c.step_of-s.ensures c.uses_in-u.ensures c.has-here.ensures
    c.has.ensures
    c.found_at.ensures
    c.farther-last.ensures c.has-2.ensures
    c.found_at-2.ensures c.farther-first.ensures c.pick.ensures

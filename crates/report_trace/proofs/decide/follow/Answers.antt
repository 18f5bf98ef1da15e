use Rattle.report_trace.specs.Traced.{follow-is}
use Rattle.report_trace.proofs.decide.follow.Goals as goal

pub returns : goal.returns
returns c =
    follow-is _ _ _ _ _ c.step_word-word.ensures
    c.step_of-s.ensures
    c.uses_in-u.ensures
    c.is_equal.ensures
    c.pick-last.ensures c.is_shift_in.ensures
    c.is_equal-2.ensures c.pick-first.ensures c.pick.ensures

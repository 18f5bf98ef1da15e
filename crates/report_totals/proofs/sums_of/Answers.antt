use Rattle.report_totals.specs.Reckonings.{sums-is}
use Rattle.report_totals.proofs.sums_of.Goals as goal

pub returns : goal.returns
returns c =
    sums-is _ _ _ _ _ _ _ c.first_out-first.ensures c.answer_bar-bar.ensures c.step_word.ensures c.step_of-step.ensures
    c.answer_amount-amount.ensures c.sum_to-shown.ensures c.requires.full c.header_of-h.ensures

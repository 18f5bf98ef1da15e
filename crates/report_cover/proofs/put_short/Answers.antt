use Rattle.lists.specs.Bytes.{bytes}
use borrow.Author.Tests.{le-leb, lt-leb}
use Rattle.model_texts.specs.Whole.{is_whole}
use Rattle.model_forecast.specs.Covered.{short_text}
use Rattle.report_cover.proofs.put_short.Goals as goal

pub returns-then-first-ge64 : goal.returns-then-first-ge64
unfolding short_text is_whole bytes
returns-then-first-ge64 c =
    rw (← c.first_out-first.ensures, le-leb _ _ c.if-first-ge64.true)
    c.put.ensures

pub returns : goal.returns
unfolding short_text is_whole
returns c =
    rw (← c.first_out-first.ensures, lt-leb _ _ c.if-first-ge64.false) c.put_cut_by.ensures

use mathlib.Core.Path.{sym, ◌∙◌}
use Rattle.npy_sheets.specs.Shown.{file-whole, file-long}
use Rattle.npy_sheets.proofs.show.Goals as goal

pub returns-then-is_long : goal.returns-then-is_long
returns-then-is_long c =
    file-long (sym c.is_long.ensures ∙ c.if-is_long.true) c.by.ensures c.put_refusal.ensures

pub returns : goal.returns
returns c =
    file-whole (sym c.is_long.ensures ∙ c.if-is_long.false) c.show_whole.ensures

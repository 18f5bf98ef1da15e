use mathlib.Core.Path.{sym, ◌∙◌}
use Rattle.settings_text.specs.Tests.{not_taken, are-taken}
use Rattle.settings_text.proofs.file.take_store.Goals as goal

pub returns-then-not-is_store : goal.returns-then-not-is_store
returns-then-not-is_store c = let f = sym c.is_store.ensures ∙ c.if-not-is_store.true in (sym f, not_taken _ _ f)

pub returns : goal.returns
returns c =
    let f = sym c.is_store.ensures ∙ c.if-not-is_store.false in
    (sym f, are-taken _ _ f c.read_store.ensures)

use mathlib.Core.Path.{◌∙◌}
use Rattle.taylor.proofs.settings.settings_save.Goals as goal

pub returns : goal.returns
returns c =
    rw (← c.content_of-content.ensures, ← c.save.ensures.0, ← c.numbered-a.ensures)
    (c.word_of.ensures, (c.put_version.ensures, c.save.ensures.1 ∙ rw (← c.save.ensures.0)))

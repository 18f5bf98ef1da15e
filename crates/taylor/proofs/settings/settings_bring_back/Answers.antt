use mathlib.Core.Path.{◌∙◌}
use Rattle.taylor.proofs.settings.settings_bring_back.Goals as goal

pub returns : goal.returns
returns c =
    rw (← c.bring_back.ensures.0, ← c.numbered-a.ensures) (
      c.word_of.ensures,
      (c.put_version.ensures, c.bring_back.ensures.1 ∙ rw (← c.bring_back.ensures.0)),
    )

use Rattle.taylor.proofs.settings.settings_fresh.Goals as goal

pub returns : goal.returns
returns c =
    rw (← c.fresh.ensures.0, ← c.numbered.ensures) (c.word_of.ensures, c.fresh.ensures.1)

use Rattle.taylor.proofs.settings.settings_read_version.Goals as goal

pub returns : goal.returns
returns c =
    rw (← c.read_version.ensures, ← c.numbered-a.ensures) (
      c.word_of.ensures,
      (
        c.put_chance.ensures,
        (c.put_horizon.ensures, c.put_recipe.ensures),
      ),
    )

use Rattle.taylor.proofs.settings.settings_read.Goals as goal

pub returns : goal.returns
returns c =
    rw (← c.read.ensures, ← c.numbered-a.ensures) (
      c.word_of.ensures,
      (
        c.put_version.ensures,
        (
          c.put_chance.ensures,
          (c.put_horizon.ensures, c.put_recipe.ensures),
        ),
      ),
    )

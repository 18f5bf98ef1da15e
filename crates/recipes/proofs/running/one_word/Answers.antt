use mathlib.Core.Path.{refl, ap, ◌∙◌}
use Rattle.model.specs.declared.Family.TheVariants.{One}
use Rattle.model.specs.Announced.{announced}
use Rattle.model.specs.Word.{word_of}
use Rattle.shape_words.specs.Rules.{none-regular}
use Rattle.shape.specs.Announced.{single-regular}
use Rattle.recipes.proofs.running.one_word.Goals as goal

pub announced_of-requires : goal.announced_of-requires
announced_of-requires c = record { fact_1 = rw c.header_of.ensures c.requires; fact_2 = rw c.none.ensures none-regular.rules }

pub pack-requires : goal.pack-requires
unfolding announced
pack-requires c =
    rw (c.announced_of.ensures, c.header_of.ensures) (single-regular One c.requires).rules

pub returns : goal.returns
returns c =
    c.pack.ensures
    ∙ ap word_of (c.announced_of.ensures
    ∙ rw (c.header_of.ensures, c.none.ensures) refl)

use Rattle.substitution_turn.specs.Turn.{first_some, first_adding, first-turned}
use Rattle.substitution_turn.proofs.first_turn.Goals as goal

pub zero_to-k-requires : goal.zero_to-k-requires
zero_to-k-requires c = first_some c.requires

pub plus_row-requires : goal.plus_row-requires
plus_row-requires c =
    first_adding c.requires c.zero_to-k.ensures c.zero_to-k.auto.out

pub returns : goal.returns
returns c =
    first-turned c.requires c.zero_to-k.ensures c.plus_row.ensures

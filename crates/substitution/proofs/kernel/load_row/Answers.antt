use Rattle.lists.specs.Table.{length-table}
use Rattle.model.specs.Header.{count}
use Rattle.substitution_turn.specs.Turn.{row_kept}
use Rattle.substitution.proofs.kernel.load_row.Goals as goal

pub returns : goal.returns
returns c =
    row_kept c.args.at c.args.work.now c.pick.ensures
    (length-table _ (count c.args.c)) c.count_of.ensures c.requires.fact_2

use mathlib.Core.Bool.{false}
use mathlib.Core.List.{List}
use mathlib.Core.Path.{ap, ◌∙◌}
use lib.ListN.{get_or}
use lib.Ieee.{Float, nan}
use Rattle.lists.specs.Table.{table}
use Rattle.model.specs.Header.{count}
use Rattle.model.specs.Places.{index}
use Rattle.model.specs.Poly.{block}
use Rattle.model.specs.Add.{join_at}
use borrow.Author.Rules.{rules}
use Rattle.series_log.proofs.add_operand.Goals as goal

pub returns : goal.returns
returns c = record {
  row_after = c.join_block.ensures ∙ ap
      (λ (l : List Float). table (count c.args.ar)
      (λ i. join_at false (get_or c.args.row.now i nan) (block c.args.ax l)
      (index c.args.ar i))) c.multiply.ensures;
  spent = (search rules);
}

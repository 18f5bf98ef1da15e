use Prim.Native.Nat.{ℕ}
use mathlib.Core.List.{List}
use mathlib.Core.Path.{sym, ap}
use Rattle.model_texts.specs.Report.{joined}
use Rattle.report_lines.specs.Puts.{puts_then}
use Rattle.lists.specs.Bytes.{bytes}
use Rattle.model_figures.specs.Figures.{part_text, index_text}
use Rattle.report_figures.specs.Fill.{puts-is}
use Rattle.report_figures.proofs.line.put_index.Goals as goal

pub returns : goal.returns
unfolding index_text bytes
returns c =
    puts_then c.put-a.ensures
    (puts_then (puts-is (ap (λ (i : List ℕ). joined (part_text c.args.h.vars i) 4)
    (sym c.index_of-i.ensures)) c.put_parts-b.ensures)
    c.put.ensures)

use mathlib.Core.Path.{sym, ap, ◌∙◌}
use Rattle.model.specs.Header.{stored}
use Rattle.model_texts.specs.Report.{joined}
use Rattle.model_figures.specs.Figures.{figure_text, figures_text}
use Rattle.model.specs.declared.Header.{Header}
use Rattle.report_lines.specs.Puts.{puts_then}
use Rattle.report_figures.specs.Fill.{puts-is}
use Rattle.report_figures.specs.Lines.{word-lengths}
use Rattle.report_figures.proofs.line.put_figures.Goals as goal

pub put_lines-requires : goal.put_lines-requires
put_lines-requires c =
    rw c.header_of-h.ensures (word-lengths c.args.header)

pub returns : goal.returns
unfolding figures_text
returns c =
    puts-is (ap (λ (h : Header). figures_text h c.args.xs.now c.args.total c.args.parts) (sym c.header_of-h.ensures))
    (puts_then c.put_heading-next.ensures
    (puts-is (ap (joined (figure_text c.header_of-h.result c.args.xs.now c.args.total c.args.parts))
    (ap (λ (h : Header). stored h) c.header_of-h.ensures ∙ sym c.requires))
    c.put_lines.ensures))

use mathlib.Core.Path.{sym, ap, ◌∙◌}
use Rattle.model.specs.declared.Refusal.{Refusal}
use Rattle.model_faults.specs.Fault.{read_fault}
use Rattle.report_lines.specs.Puts.{puts_then}
use borrow.Author.Tests.{eq-eqb, ne_eqb}
use Rattle.report_refused.proofs.read.put_read_fault.Goals as goal

pub put_broken-requires : goal.put_broken-requires
put_broken-requires c = ap (λ (x : Refusal). x.number) (sym c.requires) ∙ c.if-r-eq8.true

pub returns-then-r-eq8 : goal.returns-then-r-eq8
unfolding read_fault
returns-then-r-eq8 c = rw (eq-eqb _ _ c.if-r-eq8.true) c.put_broken.ensures

pub returns-then-r-eq7 : goal.returns-then-r-eq7
unfolding read_fault
returns-then-r-eq7 c =
    rw (ne_eqb _ _ c.if-r-eq8.false, eq-eqb _ _ c.if-r-eq7.true) c.put_sizes_fault.ensures

pub returns : goal.returns
unfolding read_fault
returns c =
    rw (
      ne_eqb _ _ c.if-r-eq8.false,
      ne_eqb _ _ c.if-r-eq7.false,
      ← c.input_count.ensures,
    ) (puts_then c.put_where-next.ensures c.put_cause.ensures)

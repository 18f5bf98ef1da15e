use Rattle.lists.specs.Bytes.{bytes}
use mathlib.Core.Path.{sym, ap, ◌∙◌}
use Rattle.model.specs.declared.Header.{Header}
use borrow.Author.Tests.{eq-eqb, ne_eqb}
use Rattle.model_forecast.specs.Covered.{wanted_text}
use Rattle.report_cover.proofs.put_wanted.Goals as goal

pub returns-then-h-ne1 : goal.returns-then-h-ne1
unfolding wanted_text bytes
returns-then-h-ne1 c =
    rw (
      ← c.header_of-h.ensures,
      ne_eqb _ _ c.if-h-ne1.true,
    ) c.put.ensures

pub returns-then-is_total : goal.returns-then-is_total
unfolding wanted_text
returns-then-is_total c =
    rw (
      eq-eqb _ _ (sym (ap (λ (h : Header). h.vars) c.header_of-h.ensures) ∙ c.if-h-ne1.false),
      ← c.is_total.ensures,
      c.if-is_total.true,
    ) c.put_cover.ensures

pub returns : goal.returns
unfolding wanted_text bytes
returns c =
    rw (
      ← c.header_of-h.ensures,
      eq-eqb _ _ c.if-h-ne1.false,
      ← c.is_total.ensures,
      c.if-is_total.false,
    ) c.put-2.ensures

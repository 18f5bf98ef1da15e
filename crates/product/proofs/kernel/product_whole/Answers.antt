use mathlib.Core.Path.{refl, sym, ◌∙◌}
use Rattle.model.specs.Poly.{block}
use Rattle.product.specs.Chosen.{by_number}
use Rattle.product.specs.declared.kernel.Way.TheVariants.{LineRight, LineLeft}
use Rattle.product.specs.Ways.{plain-lens}
use Rattle.product.specs.Line.{whole_four, whole_five, stands-four, stands_five, stands_plain}
use borrow.Author.Rules.{rules}
use Rattle.product.proofs.kernel.product_whole.Goals as goal

pub choose-w-requires : goal.choose-w-requires
choose-w-requires c = let p = c.requires.plain in record { fact_1 = (plain-lens p).0; fact_2 = (plain-lens p).1; fact_3 = p.full_a; fact_4 = p.full_b }

pub line_whole-requires : goal.line_whole-requires
line_whole-requires c =
    whole_four c.args.a.now c.args.b.now c.requires (LineRight c.in-LineRight.line) (sym c.in-LineRight.is ∙ c.choose-w.ensures) refl

pub line_whole-requires-in-LineLeft : goal.line_whole-requires-in-LineLeft
line_whole-requires-in-LineLeft c =
    whole_five c.args.a.now c.args.b.now c.requires (LineLeft c.in-LineLeft.line) (sym c.in-LineLeft.is ∙ c.choose-w.ensures) refl

pub returns-in-LineRight-clause-stands : goal.returns-in-LineRight-clause-stands
returns-in-LineRight-clause-stands c =
    stands-four c.args.limits (block c.args.la c.args.a.now) (block c.args.lb c.args.b.now) (LineRight c.in-LineRight.line)
    (sym c.in-LineRight.is ∙ c.choose-w.ensures) refl c.line_whole.ensures.stands

pub returns-in-LineLeft-clause-stands : goal.returns-in-LineLeft-clause-stands
returns-in-LineLeft-clause-stands c =
    stands_five c.args.limits (block c.args.la c.args.a.now) (block c.args.lb c.args.b.now) (LineLeft c.in-LineLeft.line)
    (sym c.in-LineLeft.is ∙ c.choose-w.ensures) refl c.line_whole-in-LineLeft.ensures.stands

pub returns-in_default : goal.returns-in_default
returns-in_default c = record {
  stands = stands_plain c.args.limits (block c.args.la c.args.a.now) (block c.args.lb c.args.b.now) c.choose-w.result
      c.choose-w.ensures
      (λ z. c.in_default.not-LineRight _ (by_number _ z))
      (λ z. c.in_default.not-LineLeft _ (by_number _ z)) c.plain.ensures;
  spent = search rules;
}

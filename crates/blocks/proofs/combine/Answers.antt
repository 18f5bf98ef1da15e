use mathlib.Core.Path.{sym, ◌∙◌}
use Rattle.model.specs.Poly.{block}
use Rattle.blocks.specs.Combine.{combine-left, combine-right, combine-some, way-left, way-right, way-both}
use Rattle.blocks.proofs.combine.Goals as goal

pub first_joined-requires : goal.first_joined-requires
first_joined-requires c =
    record { fact_1 = combine-some (c.requires); fact_2 = combine-left (c.requires) c.if-b-eq1.true }

pub returns-then-b-eq1 : goal.returns-then-b-eq1
returns-then-b-eq1 c =
    c.first_joined.ensures ∙ way-left _ c.args.r (block c.args.n c.args.a.now) (block c.args.m c.args.b.now)
    (sym c.requires.full_b ∙ c.if-b-eq1.true)

pub turned_joined-requires : goal.turned_joined-requires
turned_joined-requires c =
    record { fact_1 = combine-some (c.requires); fact_2 = combine-right (c.requires) c.if-a-eq1.true }

pub returns-then-a-eq1 : goal.returns-then-a-eq1
returns-then-a-eq1 c =
    c.turned_joined.ensures
    ∙ way-right _ c.args.r (block c.args.n c.args.a.now) (block c.args.m c.args.b.now)
    (λ e. c.if-b-eq1.false (c.requires.full_b ∙ e))
    (sym c.requires.full_a ∙ c.if-a-eq1.true)

pub returns : goal.returns
returns c =
    c.join_both.ensures ∙ way-both c.args.minus c.args.r (block c.args.n c.args.a.now)
    (block c.args.m c.args.b.now) (λ e. c.if-b-eq1.false (c.requires.full_b ∙ e))
    (λ e. c.if-a-eq1.false (c.requires.full_a ∙ e))

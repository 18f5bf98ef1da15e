use mathlib.Core.Path.{◌≡◌, sym, ap, ◌∙◌}
use mathlib.Core.Bool.{true, false}
use Rattle.model.specs.Poly.{block}
use Rattle.model.specs.Linear.{linear}
use Rattle.model.specs.declared.Linear.{Linear}
use Rattle.product.proofs.kernel.choose_line.Goals as goal

pub returns-then-f : goal.returns-then-f
returns-then-f c =
    let y : (linear (block c.args.la c.args.a.now)).yes ≡ true =
    sym (ap (λ (l : Linear). l.yes) c.linear_of-f.ensures) ∙ c.if-f.true in
    simp (y, c.linear_of-f.ensures)

pub returns-then-g : goal.returns-then-g
returns-then-g c =
    let y : (linear (block c.args.la c.args.a.now)).yes ≡ false =
    sym (ap (λ (l : Linear). l.yes) c.linear_of-f.ensures)
    ∙ c.if-f.false in
    let z : (linear (block c.args.lb c.args.b.now)).yes ≡ true =
    sym (ap (λ (l : Linear). l.yes) c.linear_of-g.ensures) ∙ c.if-g.true in
    simp (y, z, c.linear_of-g.ensures)

pub returns : goal.returns
returns c =
    let y : (linear (block c.args.la c.args.a.now)).yes ≡ false =
    sym (ap (λ (l : Linear). l.yes) c.linear_of-f.ensures)
    ∙ c.if-f.false in
    let z : (linear (block c.args.lb c.args.b.now)).yes ≡ false =
    sym (ap (λ (l : Linear). l.yes) c.linear_of-g.ensures) ∙ c.if-g.false in
    simp (y, z)

use borrow.Author.Tests.{eq-eqb, ne_eqb}
use Rattle.npy_grammar.specs.Text.{is_blank, is_lead, is_space, is_digit}
use Rattle.npy_pieces.specs.Places.{passes}
use Rattle.npy_pieces.proofs.is_of.Goals as goal

pub returns-then-class-eq0 : goal.returns-then-class-eq0
unfolding passes is_blank
returns-then-class-eq0 c = rw (eq-eqb c.args.class 0 c.if-class-eq0.true)

pub returns-then-class-eq1 : goal.returns-then-class-eq1
unfolding passes is_lead
returns-then-class-eq1 c = rw (ne_eqb c.args.class 0 c.if-class-eq0.false, eq-eqb c.args.class 1 c.if-class-eq1.true)

pub returns-then-class-eq2 : goal.returns-then-class-eq2
unfolding passes is_space
returns-then-class-eq2 c =
    rw (
      ne_eqb c.args.class 0 c.if-class-eq0.false,
      ne_eqb c.args.class 1 c.if-class-eq1.false,
      eq-eqb c.args.class 2 c.if-class-eq2.true,
    )

pub returns : goal.returns
unfolding passes is_digit
returns c =
    rw (
      ne_eqb c.args.class 0 c.if-class-eq0.false,
      ne_eqb c.args.class 1 c.if-class-eq1.false,
      ne_eqb c.args.class 2 c.if-class-eq2.false,
    )

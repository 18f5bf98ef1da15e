use Rattle.model.specs.Announced.{announced}
use borrow.Author.Tests.{lt-ltb, le-ltb}
use native.Mathlib.Omega.{arith}
use Rattle.shape_words.specs.Rules.{ruled-at}
use Rattle.shape.proofs.announce.substitution_header.Goals as goal

pub returns-then-a-v : goal.returns-then-a-v
unfolding announced
returns-then-a-v c = simp (le-ltb _ _ c.if-a-v.true)

pub paired_header-requires : goal.paired_header-requires
paired_header-requires c =
    let few = c.requires.fact_1.few in record {
      fact_1 = c.requires.fact_1;
      fact_2 = c.requires.fact_2;
      fact_3 = (let g = ruled-at
          c.requires.fact_1 c.args.v (omega arith) in (g.pos, omega (arith, g)));
    }

pub returns : goal.returns
unfolding announced
returns c = simp (lt-ltb _ _ c.if-a-v.false) c.paired_header.ensures

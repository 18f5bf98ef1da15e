use Rattle.model.specs.Announced.{paired}
use native.Mathlib.Omega.{arith}
use Rattle.shape.specs.Limits.{min_limit-pos}
use lib.Dec.{lit<}
use Rattle.shape.proofs.announce.paired_header.Goals as goal

pub paired_length-requires : goal.paired_length-requires
paired_length-requires c =
    record {
      fact_1 = record {
        p1 = omega arith;
        a1 = c.requires.fact_1.v0.pos;
        b1 = c.requires.fact_2.v0.pos;
        p64 = omega arith;
        a64 = omega (arith, c.requires.fact_1.v0);
        b64 = omega (arith, c.requires.fact_2.v0);
      };
      fact_2 = (rw c.min_degrees_p1-l.ensures (min_limit-pos _ _ c.requires.fact_1 c.requires.fact_2 0 (lit< tt)));
    }

pub paired_length-requires-2 : goal.paired_length-requires-2
paired_length-requires-2 c =
    record {
      fact_1 = record {
        p1 = omega arith;
        a1 = c.requires.fact_1.v1.pos;
        b1 = c.requires.fact_2.v1.pos;
        p64 = omega arith;
        a64 = omega (arith, c.requires.fact_1.v1);
        b64 = omega (arith, c.requires.fact_2.v1);
      };
      fact_2 = (rw c.min_degrees_p1-l.ensures (min_limit-pos _ _ c.requires.fact_1 c.requires.fact_2 1 (lit< tt)));
    }

pub paired_length-requires-3 : goal.paired_length-requires-3
paired_length-requires-3 c =
    record {
      fact_1 = record {
        p1 = omega arith;
        a1 = c.requires.fact_1.v2.pos;
        b1 = c.requires.fact_2.v2.pos;
        p64 = omega arith;
        a64 = omega (arith, c.requires.fact_1.v2);
        b64 = omega (arith, c.requires.fact_2.v2);
      };
      fact_2 = (rw c.min_degrees_p1-l.ensures (min_limit-pos _ _ c.requires.fact_1 c.requires.fact_2 2 (lit< tt)));
    }

pub paired_length-requires-4 : goal.paired_length-requires-4
paired_length-requires-4 c =
    record {
      fact_1 = record {
        p1 = omega arith;
        a1 = c.requires.fact_1.v3.pos;
        b1 = c.requires.fact_2.v3.pos;
        p64 = omega arith;
        a64 = omega (arith, c.requires.fact_1.v3);
        b64 = omega (arith, c.requires.fact_2.v3);
      };
      fact_2 = (rw c.min_degrees_p1-l.ensures (min_limit-pos _ _ c.requires.fact_1 c.requires.fact_2 3 (lit< tt)));
    }

pub returns : goal.returns
unfolding paired
returns c =
    simp (
      c.min_cap.ensures,
      c.paired_length-4.ensures,
      c.paired_length-3.ensures,
      c.paired_length-2.ensures,
      c.paired_length.ensures,
      c.most.ensures,
      c.min_degrees_p1-l.ensures,
    )

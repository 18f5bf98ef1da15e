use native.Mathlib.Omega.{arith}
use Prim.Native.Nat.{◌+◌, ◌<◌}
use mathlib.Core.Bool.{true, ◌&&◌}
use mathlib.Core.Path.{◌≡◌}
use lib.Dec.{ltb}
use borrow.Author.Tests.{ltb-true}
use Rattle.lists.specs.Test.{and_left, and_right}
use Rattle.product_lines.proofs.four_at.Goals as goal

pub four_full-requires : goal.four_full-requires
four_full-requires c =
    let reach : (c.args.k + 3 < c.args.nx) × (c.args.k + 3 < c.args.ny) =
    let t : ltb (c.args.k + 3) c.args.nx && ltb (c.args.k + 3) c.args.ny ≡ true = c.if-k-nx.true in (
      ltb-true (c.args.k + 3) c.args.nx (and_left (ltb (c.args.k + 3) c.args.nx) (ltb (c.args.k + 3) c.args.ny) t),
      ltb-true (c.args.k + 3) c.args.ny (and_right (ltb (c.args.k + 3) c.args.nx) (ltb (c.args.k + 3) c.args.ny) t),
    ) in
    record { fact_1 = (omega (arith, (reach).0), omega (arith, (reach).1)); fact_2 = c.requires.fact_2 }

pub returns-then-k-nx : goal.returns-then-k-nx
returns-then-k-nx c =
    let reach : (c.args.k + 3 < c.args.nx) × (c.args.k + 3 < c.args.ny) =
    let t : ltb (c.args.k + 3) c.args.nx && ltb (c.args.k + 3) c.args.ny ≡ true = c.if-k-nx.true in (
      ltb-true (c.args.k + 3) c.args.nx (and_left (ltb (c.args.k + 3) c.args.nx) (ltb (c.args.k + 3) c.args.ny) t),
      ltb-true (c.args.k + 3) c.args.ny (and_right (ltb (c.args.k + 3) c.args.nx) (ltb (c.args.k + 3) c.args.ny) t),
    ) in
    c.four_full.ensures _ _ (reach).0 (reach).1

pub four_by-requires : goal.four_by-requires
four_by-requires c = record {
  left = c.requires.fact_1.0;
  right = c.requires.fact_1.1;
  small = c.requires.fact_2;
  first = c.from-a.ensures;
  last = c.upto-b.ensures;
  shared = c.if-a-b.true;
}

pub returns-then-a-b : goal.returns-then-a-b
returns-then-a-b c = c.four_by.ensures

pub line_at-z0-requires : goal.line_at-z0-requires
line_at-z0-requires c = record { fact_1 = c.requires.fact_1; fact_2 = omega arith }

pub line_at-z1-requires : goal.line_at-z1-requires
line_at-z1-requires c = record { fact_1 = c.requires.fact_1; fact_2 = omega arith }

pub line_at-z2-requires : goal.line_at-z2-requires
line_at-z2-requires c = record { fact_1 = c.requires.fact_1; fact_2 = omega arith }

pub line_at-z3-requires : goal.line_at-z3-requires
line_at-z3-requires c =
    record { fact_1 = c.requires.fact_1; fact_2 = omega arith }

pub returns : goal.returns
returns c =
    record {
      z0 = c.line_at-z0.ensures;
      z1 = c.line_at-z1.ensures;
      z2 = c.line_at-z2.ensures;
      z3 = c.line_at-z3.ensures;
    }

use native.Mathlib.Omega.{arith}
use mathlib.Core.Path.{refl, ap}
use mathlib.Core.List.{List}
use Prim.Native.Nat.{ℕ}
use Rattle.lists.specs.Four.{at}
use Rattle.product_linear.specs.Raise.{raise_rows_lem, raise-small, lined_rows, lined-is}
use Rattle.product.proofs.kernel.line_up.Goals as goal

pub strides_of-strides-requires : goal.strides_of-strides-requires
strides_of-strides-requires c = c.requires.fact_1.from

pub offset_bounds-strides-v : goal.offset_bounds-strides-v
offset_bounds-strides-v c = omega (arith, c.requires.fact_1.var)

pub bounds-strides-v : goal.bounds-strides-v
bounds-strides-v c = omega (arith, c.requires.fact_1.var)

pub offset_bounds-n-v : goal.offset_bounds-n-v
offset_bounds-n-v c = omega (arith, c.requires.fact_1.var)

pub bounds-n-v : goal.bounds-n-v
bounds-n-v c = omega (arith, c.requires.fact_1.var)

pub overflow_mul-n : goal.overflow_mul-n
overflow_mul-n c =
    omega (arith, (raise-small c.requires.fact_1 (ap (λ (l : List ℕ). at l c.args.v) c.strides_of-strides.ensures) refl refl).0)

pub offset_bounds-r-v : goal.offset_bounds-r-v
offset_bounds-r-v c = omega (arith, c.requires.fact_1.var)

pub bounds-r-v : goal.bounds-r-v
bounds-r-v c = omega (arith, c.requires.fact_1.var)

pub overflow_mul-r : goal.overflow_mul-r
overflow_mul-r c =
    omega (arith, (raise-small c.requires.fact_1 (ap (λ (l : List ℕ). at l c.args.v) c.strides_of-strides.ensures) refl refl).1)

pub line_rows-requires : goal.line_rows-requires
line_rows-requires c =
    let t = raise_rows_lem c.requires.fact_1 (ap (λ (l : List ℕ). at l c.args.v) c.strides_of-strides.ensures) refl refl in
    let l = lined_rows c.requires.fact_1 (ap (λ (l : List ℕ). at l c.args.v) c.strides_of-strides.ensures) refl refl c.requires.fact_2 in record {
      fact_1 = record {
        turns = t.turns;
        full = t.full;
        room = t.room;
        small = omega (arith, t.small);
        most = omega (arith, t.most);
        pos = t.pos;
      };
      fact_2 = (omega (arith, l), omega (arith, l));
    }

pub returns : goal.returns
returns c =
    lined-is c.requires.fact_1 (ap (λ (l : List ℕ). at l c.args.v)
    c.strides_of-strides.ensures) refl refl c.args.c c.args.m
    c.args.a.now c.line_rows.ensures

use Rattle.change.specs.Shift.{shift_rows_lem, shift_small, one-room, many-room, shift_one, shift-many}
use native.Mathlib.Omega.{arith}
use mathlib.Core.Path.{refl, ap}
use mathlib.Core.List.{List}
use Prim.Native.Nat.{ℕ}
use Rattle.lists.specs.Four.{at}
use Rattle.change.proofs.kernel.shift_rows.Goals as goal

pub overflow_mul-l : goal.overflow_mul-l
overflow_mul-l c =
    omega (arith, (shift_small c.requires (ap (λ (l : List ℕ). at l c.args.v) c.strides_of-strides.ensures) refl refl).0)

pub overflow_mul-c : goal.overflow_mul-c
overflow_mul-c c =
    omega (arith, (shift_small c.requires (ap (λ (l : List ℕ). at l c.args.v) c.strides_of-strides.ensures) refl refl).1)

pub drop_parts-requires : goal.drop_parts-requires
drop_parts-requires c =
    record {
      fact_1 = shift_rows_lem c.requires (ap (λ (l : List ℕ). at l c.args.v) c.strides_of-strides.ensures) refl
          refl;
      fact_2 = one-room c.requires (ap (λ (l : List ℕ). at l c.args.v) c.strides_of-strides.ensures) refl refl c.if-l-v.true;
    }

pub returns-then-l-v : goal.returns-then-l-v
returns-then-l-v c =
    shift_one c.requires (ap (λ (l : List ℕ). at l c.args.v)
    c.strides_of-strides.ensures) refl refl c.args.a.now
    c.if-l-v.true c.drop_parts.ensures

pub overflow_mul-l-2 : goal.overflow_mul-l-2
overflow_mul-l-2 c =
    omega (arith, (shift_small c.requires (ap (λ (l : List ℕ). at l c.args.v) c.strides_of-strides.ensures) refl refl).0)

pub overflow_mul-c-2 : goal.overflow_mul-c-2
overflow_mul-c-2 c =
    omega (arith, (shift_small c.requires (ap (λ (l : List ℕ). at l c.args.v) c.strides_of-strides.ensures) refl refl).1)

pub drop_parts-requires-2 : goal.drop_parts-requires-2
drop_parts-requires-2 c =
    record {
      fact_1 = shift_rows_lem c.requires (ap (λ (l : List ℕ). at l c.args.v) c.strides_of-strides.ensures) refl
          refl;
      fact_2 = many-room c.requires (ap (λ (l : List ℕ). at l c.args.v) c.strides_of-strides.ensures) refl refl c.if-l-v.false;
    }

pub returns : goal.returns
returns c =
    shift-many c.requires (ap (λ (l : List ℕ). at l c.args.v)
    c.strides_of-strides.ensures) refl refl c.args.a.now
    c.if-l-v.false c.drop_parts-2.ensures

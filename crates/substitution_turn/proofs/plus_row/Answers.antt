use native.Mathlib.Omega.{arith}
use mathlib.Core.Path.{refl}
use Prim.Native.Nat.{◌-◌}
use Rattle.substitution_turn.specs.Turn.{add-lens, add_small, add_joins, add-whole, add-fits, add_turned}
use Rattle.substitution_turn.proofs.plus_row.Goals as goal

pub overflow_mul-row : goal.overflow_mul-row
overflow_mul-row c = omega (arith, c.requires.small)

pub overflow_mul-spare : goal.overflow_mul-spare
overflow_mul-spare c = omega (arith, c.requires.small)

pub count_of-z-requires : goal.count_of-z-requires
count_of-z-requires c = (add-lens c.requires).0

pub keep-requires : goal.keep-requires
keep-requires c =
    let s = add_small c.requires in (
      omega (arith, c.count_of-z.ensures, c.requires.out),
      omega (arith, c.count_of-z.ensures, c.requires.work),
    )

pub count_of-requires : goal.count_of-requires
count_of-requires c = (add-lens c.requires).1

pub overflow_add-end : goal.overflow_add-end
overflow_add-end c =
    let s = add_small c.requires in omega (arith, c.count_of.ensures, c.requires.small)

pub overflow_add-top : goal.overflow_add-top
overflow_add-top c =
    let s = add_small c.requires in omega (arith, c.count_of-z.ensures, c.requires.small)

pub slice_bounds-add_blocks-end : goal.slice_bounds-add_blocks-end
slice_bounds-add_blocks-end c =
    let s = add_small c.requires in
    omega (
      arith,
      c.count_of-z.ensures,
      c.requires.work,
      c.keep.ensures.below.len,
    )

pub slice_bounds-add_blocks-end-2 : goal.slice_bounds-add_blocks-end-2
slice_bounds-add_blocks-end-2 c =
    let s = add_small c.requires in
    omega (
      arith,
      c.count_of.ensures,
      c.requires.work,
      c.keep.ensures.below.len,
    )

pub add_blocks-r-requires : goal.add_blocks-r-requires
add_blocks-r-requires c =
    add_joins c.requires c.args.out.now refl refl c.count_of-z.ensures
    c.count_of.ensures
    c.keep.ensures

pub count_of-y-requires : goal.count_of-y-requires
count_of-y-requires c =
    add-whole c.requires c.args.out.now refl refl c.count_of-z.ensures
    c.count_of.ensures c.keep.ensures
    c.add_blocks-r.ensures

pub keep-requires-2 : goal.keep-requires-2
keep-requires-2 c =
    let f =
    add-fits c.requires c.args.out.now refl refl c.count_of-z.ensures c.count_of.ensures
    c.keep.ensures c.add_blocks-r.ensures
    c.count_of-y.ensures in
    (omega (arith, c.requires.out), omega (arith, c.requires.work, c.keep.ensures.below.len))

pub returns : goal.returns
returns c =
    add_turned c.requires c.args.out.now refl refl c.count_of-z.ensures c.count_of.ensures
    c.keep.ensures c.add_blocks-r.ensures c.count_of-y.ensures
    c.keep-2.ensures

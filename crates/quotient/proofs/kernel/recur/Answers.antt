use native.Mathlib.Omega.{arith}
use mathlib.Core.Path.{refl, ◌∙◌}
use lib.ListN.{length-take, length-drop}
use borrow.Author.Rules.{rules}
use Rattle.quotient.specs.Into.{recur_dividing, recur-first, recur-room, recur-is}
use Rattle.quotient.proofs.kernel.recur.Goals as goal

pub strides_of-sy-requires : goal.strides_of-sy-requires
strides_of-sy-requires c = c.requires.right

pub strides_of-sr-requires : goal.strides_of-sr-requires
strides_of-sr-requires c = c.requires.result

pub overflow_mul-q : goal.overflow_mul-q
overflow_mul-q c = omega (arith, c.requires.work, c.requires.out)

pub overflow_mul-p : goal.overflow_mul-p
overflow_mul-p c = omega (arith, c.requires.work, c.requires.out)

pub overflow_add-n : goal.overflow_add-n
overflow_add-n c =
    omega (arith, (recur-room c.requires).before, (recur-room c.requires).apart, (recur-room c.requires).room)

pub each_first-requires : goal.each_first-requires
each_first-requires c =
    record {
      fact_1 = recur_dividing c.requires c.strides_of-sy.ensures
          c.strides_of-sr.ensures;
      fact_2 = recur-first c.requires;
      fact_3 = recur-room c.requires;
    }

pub offset_bounds-work-q : goal.offset_bounds-work-q
offset_bounds-work-q c =
    omega (arith, c.requires.work, c.requires.out)

pub slice_bounds-copy-start : goal.slice_bounds-copy-start
slice_bounds-copy-start c =
    let n = c.each_first.ensures.laid.len in omega (arith, c.requires.work, c.requires.out)

pub slice_bounds-copy-end : goal.slice_bounds-copy-end
slice_bounds-copy-end c =
    let n = c.each_first.ensures.laid.len in omega (arith, c.requires.work, c.requires.out)

pub copy-requires : goal.copy-requires
copy-requires c =
    let n = c.each_first.ensures.laid.len in
    let m = c.each_first.auto.row in
    simp (length-take, length-drop) (omega (arith, c.requires.work, c.requires.out))

pub returns : goal.returns
returns c = record {
  out_after = recur-is c.requires _ _ refl c.each_first.ensures.laid c.each_first.auto.row
      c.copy.ensures;
  spent = search rules;
}

use native.Mathlib.Omega.{arith}
use mathlib.Core.Path.{◌≡◌, sym, ap, ◌∙◌}
use mathlib.Core.List.{List, ◌++◌}
use Prim.Native.Nat.{ℕ, ◌+◌, ◌-◌, ◌≤◌}
use lib.ListN.{length, take, drop, length-append}
use lib.Seq.{length-take-le, take_at, drop_at}
use lib.Ieee.{Float}
use Rattle.lists.specs.Four.{at}
use Rattle.lists.specs.Table.{length-table}
use Rattle.model.specs.Header.{count}
use Rattle.product.specs.Ways.{put_front_lem}
use Rattle.substitution.specs.Sizes.{cuts-lens, cuts-fits, cuts_loads, cuts-own}
use Rattle.substitution.specs.Powers.{parts_whole, rows_whole, rows-small, powered-put}
use Rattle.substitution.proofs.kernel.line_put.Goals as goal

pub count_of-z-requires : goal.count_of-z-requires
count_of-z-requires c = cuts-lens c.requires c.cut_to-c.ensures

pub slice_bounds-load-end : goal.slice_bounds-load-end
slice_bounds-load-end c = (cuts-fits c.requires c.cut_to-c.ensures c.count_of-z.ensures)

pub slice_bounds-load-end-2 : goal.slice_bounds-load-end-2
slice_bounds-load-end-2 c =
    sym (length-take-le _ c.args.out.now (cuts-fits c.requires c.cut_to-c.ensures c.count_of-z.ensures))

pub load-requires : goal.load-requires
load-requires c =
    cuts_loads c.requires c.cut_to-c.ensures
    (length-take-le _ c.args.out.now
    (cuts-fits c.requires c.cut_to-c.ensures c.count_of-z.ensures)
    ∙ c.count_of-z.ensures)

pub strides_of-strides-requires : goal.strides_of-strides-requires
strides_of-strides-requires c =
    cuts-lens c.requires c.cut_to-c.ensures

pub offset_bounds-strides-v : goal.offset_bounds-strides-v
offset_bounds-strides-v c = omega (arith, c.requires.var)

pub bounds-strides-v : goal.bounds-strides-v
bounds-strides-v c = c.requires.var

pub offset_bounds-c-v : goal.offset_bounds-c-v
offset_bounds-c-v c = omega (arith, c.requires.var)

pub bounds-c-v : goal.bounds-c-v
bounds-c-v c = c.requires.var

pub overflow_mul-c : goal.overflow_mul-c
overflow_mul-c c =
    omega (
      arith,
      rows-small (cuts-own c.requires c.cut_to-c.ensures)
          c.count_of-z.ensures
          (ap (λ (q : List ℕ). at q c.args.v) c.strides_of-strides.ensures),
    )

pub slice_bounds-power_parts-end : goal.slice_bounds-power_parts-end
slice_bounds-power_parts-end c =
    let loaded : length c.load.new.to ≡ c.count_of-z.result =
    ap length c.load.ensures ∙ (length-table _ (count c.cut_to-c.result) ∙ sym c.count_of-z.ensures) in
    let again : c.count_of-z.result
    ≤ length (c.load.new.to ++ drop c.count_of-z.result
    c.args.out.now) =
    simp length-append (omega (arith, loaded)) in
    again

pub slice_bounds-power_parts-end-2 : goal.slice_bounds-power_parts-end-2
slice_bounds-power_parts-end-2 c =
    let loaded : length c.load.new.to ≡ c.count_of-z.result =
    ap length c.load.ensures ∙ (length-table _ (count c.cut_to-c.result) ∙ sym c.count_of-z.ensures) in
    let again : c.count_of-z.result
    ≤ length (c.load.new.to ++ drop c.count_of-z.result
    c.args.out.now) =
    simp length-append (omega (arith, loaded)) in
    sym (length-take-le _ _ (again))

pub power_parts-requires : goal.power_parts-requires
power_parts-requires c =
    let loaded : length c.load.new.to ≡ c.count_of-z.result =
    ap length c.load.ensures ∙ (length-table _ (count c.cut_to-c.result) ∙ sym c.count_of-z.ensures) in
    let again : c.count_of-z.result
    ≤ length (c.load.new.to ++ drop c.count_of-z.result
    c.args.out.now) =
    simp length-append (omega (arith, loaded)) in
    let t = cuts-own c.requires c.cut_to-c.ensures in record {
      fact_1 = rows_whole t c.count_of-z.ensures (ap (λ (q : List ℕ). at q c.args.v)
          c.strides_of-strides.ensures);
      fact_2 = rw (length-take-le c.count_of-z.result
          (c.load.new.to ++ drop c.count_of-z.result c.args.out.now) (again))
          (parts_whole t c.count_of-z.ensures (ap (λ (q : List ℕ). at q c.args.v)
          c.strides_of-strides.ensures));
    }

pub returns : goal.returns
returns c =
    let loaded : length c.load.new.to ≡ c.count_of-z.result =
    ap length c.load.ensures ∙ (length-table _ (count c.cut_to-c.result) ∙ sym c.count_of-z.ensures) in
    let front : take c.count_of-z.result
    (c.load.new.to ++ drop c.count_of-z.result
    c.args.out.now) ≡ c.load.new.to =
    take_at c.load.new.to (drop c.count_of-z.result
    c.args.out.now)
    c.count_of-z.result (loaded) in
    let again : c.count_of-z.result
    ≤ length (c.load.new.to ++ drop c.count_of-z.result
    c.args.out.now) =
    simp length-append (omega (arith, loaded)) in
    let x = front in
    let l =
    length-take-le c.count_of-z.result (c.load.new.to
    ++ drop c.count_of-z.result c.args.out.now) (again) in
    let j =
    powered-put c.args.limits c.args.la c.args.v c.args.m c.args.a.now
    (cuts-own c.requires c.cut_to-c.ensures) c.cut_to-c.ensures c.count_of-z.ensures
    (ap (λ (q : List ℕ). at q c.args.v) c.strides_of-strides.ensures)
    (x ∙ c.load.ensures) c.power_parts.ensures l in
    put_front_lem c.count_of-z.result j.0 j.1 (c.power_parts.auto.to ∙ l)
    (ap (λ (y : List Float). c.power_parts.new.to ++ y)
    (drop_at c.load.new.to (drop c.count_of-z.result c.args.out.now)
    c.count_of-z.result (loaded)))

use native.Mathlib.Omega.{arith}
use mathlib.Core.Path.{◌≡◌, refl, ap}
use Prim.Native.Nat.{ℕ, ◌+◌, ◌-◌, ◌≤◌}
use lib.ListN.{length, take, drop, length-take, length-drop}
use Rattle.sums_cut.specs.Summing.{small_a, small_b, summing-two, summing-lens, summing-combine, summing-is}
use borrow.Author.Rules.{rules}
use Rattle.sums_cut.proofs.sum_into.Goals as goal

pub load_two-requires : goal.load_two-requires
load_two-requires c =
    summing-two c.requires c.cut_to-ca.ensures
    c.cut_to-cb.ensures

pub count_of-na-requires : goal.count_of-na-requires
count_of-na-requires c =
    (summing-lens c.requires c.cut_to-ca.ensures c.cut_to-cb.ensures).0

pub count_of-requires : goal.count_of-requires
count_of-requires c =
    (summing-lens c.requires c.cut_to-ca.ensures
    c.cut_to-cb.ensures).1

pub overflow_add-end : goal.overflow_add-end
overflow_add-end c =
    let ends : (c.count_of-na.result ≤ c.args.n) × (c.args.n + c.count_of.result ≤ length c.args.work.now) =
    let w = c.requires.work in (
      omega (arith, c.count_of-na.ensures, small_a (c.requires) c.cut_to-ca.ensures c.cut_to-cb.ensures),
      omega (arith, c.count_of.ensures, small_b (c.requires) c.cut_to-ca.ensures c.cut_to-cb.ensures),
    ) in
    omega (arith, ends)

pub slice_bounds-combine-end : goal.slice_bounds-combine-end
slice_bounds-combine-end c =
    let ends : (c.count_of-na.result ≤ c.args.n) × (c.args.n + c.count_of.result ≤ length c.args.work.now) =
    let w = c.requires.work in (
      omega (arith, c.count_of-na.ensures, small_a (c.requires) c.cut_to-ca.ensures c.cut_to-cb.ensures),
      omega (arith, c.count_of.ensures, small_b (c.requires) c.cut_to-ca.ensures c.cut_to-cb.ensures),
    ) in
    let kept : length c.load_two.new.work ≡ length c.args.work.now =
    c.load_two.auto.work in
    omega (arith, ends, kept)

pub slice_bounds-combine-end-2 : goal.slice_bounds-combine-end-2
slice_bounds-combine-end-2 c =
    let ends : (c.count_of-na.result ≤ c.args.n) × (c.args.n + c.count_of.result ≤ length c.args.work.now) =
    let w = c.requires.work in (
      omega (arith, c.count_of-na.ensures, small_a (c.requires) c.cut_to-ca.ensures c.cut_to-cb.ensures),
      omega (arith, c.count_of.ensures, small_b (c.requires) c.cut_to-ca.ensures c.cut_to-cb.ensures),
    ) in
    let kept : length c.load_two.new.work ≡ length c.args.work.now =
    c.load_two.auto.work in
    omega (arith, ends, kept)

pub combine-requires : goal.combine-requires
combine-requires c =
    let ends : (c.count_of-na.result ≤ c.args.n) × (c.args.n + c.count_of.result ≤ length c.args.work.now) =
    let w = c.requires.work in (
      omega (arith, c.count_of-na.ensures, small_a (c.requires) c.cut_to-ca.ensures c.cut_to-cb.ensures),
      omega (arith, c.count_of.ensures, small_b (c.requires) c.cut_to-ca.ensures c.cut_to-cb.ensures),
    ) in
    let kept : length c.load_two.new.work ≡ length c.args.work.now =
    c.load_two.auto.work in
    let e = ends in
    let k = kept in
    summing-combine c.requires c.cut_to-ca.ensures c.cut_to-cb.ensures
    (simp (length-take, length-drop) (omega (arith, c.count_of-na.ensures)))
    (simp (length-take, length-drop) (omega (arith, c.count_of.ensures))) refl

pub returns : goal.returns
returns c =
    let first_part : take (c.count_of-na.result - 0) (drop 0 c.load_two.new.work)
    ≡ take c.count_of-na.result c.load_two.new.work =
    let e : c.count_of-na.result - 0 ≡ c.count_of-na.result = omega arith in
    ap (λ (k : ℕ). take k c.load_two.new.work) e in
    let second-part : take (c.args.n + c.count_of.result - c.args.n)
    (drop c.args.n c.load_two.new.work)
    ≡ take c.count_of.result (drop c.args.n c.load_two.new.work) =
    let e : c.args.n + c.count_of.result - c.args.n ≡ c.count_of.result = omega arith in
    ap (λ (k : ℕ). take k (drop c.args.n c.load_two.new.work))
    e in
    record {
      out_after = summing-is c.requires c.cut_to-ca.ensures c.cut_to-cb.ensures c.args.minus c.args.a.now c.args.b.now
          c.load_two.new.work c.load_two.ensures
          (rw (← c.count_of-na.ensures) (first_part)) (rw (← c.count_of.ensures) (second-part))
          c.combine.ensures;
      spent = search rules;
    }

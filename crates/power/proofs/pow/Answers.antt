use Rattle.std.proofs.lemmas.Result.{err_from_is_err_and}
use mathlib.Core.Path.{refl}
use native.Mathlib.Omega.{arith}
use mathlib.Core.Path.{◌≡◌, sym, ap, ◌∙◌}
use mathlib.Core.List.{◌++◌}
use Prim.Native.Nat.{ℕ, ◌*◌, ◌≤◌}
use lib.ListN.{length, drop, length-append}
use lib.Seq.{length-take-le}
use Rattle.model.specs.declared.Family.TheVariants.{Power}
use Rattle.model.specs.Header.{with_lengths}
use Rattle.model.specs.Word.{word_of}
use Rattle.model.specs.Poly.{held}
use Rattle.model.specs.Gates.{announced_one}
use Rattle.model.specs.Power.{power_poly, power_answer, power_out, power_scratch}
use Rattle.gates.specs.Gate.{WorkReady}
use Rattle.gates.specs.Open.{one-count, work-opened, work-fits}
use Rattle.blocks.specs.Entry.{refused-answer, refused-out, refused-scratch, done-answer, done-out, done-scratch}
use Rattle.power.specs.Entry.{entry-powers, entry_ruled, entry-head, entry-out}
use Rattle.power.proofs.pow.Goals as goal

pub returns-in_err-o : goal.returns-in_err-o
unfolding power_answer power_out power_scratch
returns-in_err-o c =
    let p = err_from_is_err_and c.from_residual.result c.from_residual.ensures.1 in rw (p.1, p.2)
    (let e = c.in_err-o.ensures.is in
    let h = announced_one (Power c.args.e) c.args.head in (
      refused-answer e h ((power_poly c.args.e (held c.args.head c.args.a.now))) c.in_err-o.ensures.some,
      (
        refused-out e h ((power_poly c.args.e (held c.args.head c.args.a.now))) c.in_err-o.ensures.some c.args.out.now,
        refused-scratch e h ((power_poly c.args.e (held c.args.head c.args.a.now))) c.in_err-o.ensures.some c.args.scratch.now,
      ),
    ))

pub overflow_mul-room : goal.overflow_mul-room
overflow_mul-room c =
    let ready : WorkReady (Power c.args.e) c.args.head (length c.args.a.now) (length c.args.out.now) (length c.args.scratch.now) =
    work-opened _ _ _ c.in_ok-o.ensures in
    omega (arith, one-count c.in_ok-o.ensures, (ready).one.announced.most)

pub slice_bounds-power_into-end : goal.slice_bounds-power_into-end
slice_bounds-power_into-end c =
    let fits : let o = c.in_ok-o.o in (o.na ≤ length c.args.a.now) × (o.n ≤ length c.args.out.now) × (8 * o.n ≤ length c.args.scratch.now) =
    work-fits _ _ _ c.in_ok-o.ensures in
    sym (length-take-le _ _ (fits).0)

pub slice_bounds-power_into-end-2 : goal.slice_bounds-power_into-end-2
slice_bounds-power_into-end-2 c =
    let fits : let o = c.in_ok-o.o in (o.na ≤ length c.args.a.now) × (o.n ≤ length c.args.out.now) × (8 * o.n ≤ length c.args.scratch.now) =
    work-fits _ _ _ c.in_ok-o.ensures in
    (fits).1

pub slice_bounds-power_into-end-3 : goal.slice_bounds-power_into-end-3
slice_bounds-power_into-end-3 c =
    let fits : let o = c.in_ok-o.o in (o.na ≤ length c.args.a.now) × (o.n ≤ length c.args.out.now) × (8 * o.n ≤ length c.args.scratch.now) =
    work-fits _ _ _ c.in_ok-o.ensures in
    sym (length-take-le _ _ (fits).1)

pub slice_bounds-power_into-end-4 : goal.slice_bounds-power_into-end-4
slice_bounds-power_into-end-4 c =
    let fits : let o = c.in_ok-o.o in (o.na ≤ length c.args.a.now) × (o.n ≤ length c.args.out.now) × (8 * o.n ≤ length c.args.scratch.now) =
    work-fits _ _ _ c.in_ok-o.ensures in
    (fits).2

pub slice_bounds-power_into-end-5 : goal.slice_bounds-power_into-end-5
slice_bounds-power_into-end-5 c =
    let fits : let o = c.in_ok-o.o in (o.na ≤ length c.args.a.now) × (o.n ≤ length c.args.out.now) × (8 * o.n ≤ length c.args.scratch.now) =
    work-fits _ _ _ c.in_ok-o.ensures in
    sym (length-take-le _ _ (fits).2)

pub power_into-r-requires : goal.power_into-r-requires
power_into-r-requires c =
    let fits : let o = c.in_ok-o.o in (o.na ≤ length c.args.a.now) × (o.n ≤ length c.args.out.now) × (8 * o.n ≤ length c.args.scratch.now) =
    work-fits _ _ _ c.in_ok-o.ensures in
    let ready : WorkReady (Power c.args.e) c.args.head (length c.args.a.now) (length c.args.out.now) (length c.args.scratch.now) =
    work-opened _ _ _ c.in_ok-o.ensures in
    let t = c.in_ok-o.ensures.tells in
    let f = fits in record {
      fact_1 = entry-powers (ready) t.left t.told t.count (length-take-le _ _ f.2) (length-take-le _ _ f.1);
      fact_2 = length-take-le _ _ f.0
          ∙ t.count_a;
    }

pub slice_bounds-clear-end : goal.slice_bounds-clear-end
slice_bounds-clear-end c =
    let fits : let o = c.in_ok-o.o in (o.na ≤ length c.args.a.now) × (o.n ≤ length c.args.out.now) × (8 * o.n ≤ length c.args.scratch.now) =
    work-fits _ _ _ c.in_ok-o.ensures in
    let used : length c.power_into-r.new.work
    ≡ 8 * c.in_ok-o.o.n =
    c.power_into-r.auto.work ∙ length-take-le _ _ (fits).2 in
    let rooms : 8 * c.in_ok-o.o.n ≤ length (c.power_into-r.new.work ++ drop (8 * c.in_ok-o.o.n) c.args.scratch.now) =
    simp length-append (omega (arith, used)) in
    rooms

pub slice_bounds-clear-end-2 : goal.slice_bounds-clear-end-2
slice_bounds-clear-end-2 c =
    let fits : let o = c.in_ok-o.o in (o.na ≤ length c.args.a.now) × (o.n ≤ length c.args.out.now) × (8 * o.n ≤ length c.args.scratch.now) =
    work-fits _ _ _ c.in_ok-o.ensures in
    let used : length c.power_into-r.new.work
    ≡ 8 * c.in_ok-o.o.n =
    c.power_into-r.auto.work ∙ length-take-le _ _ (fits).2 in
    let rooms : 8 * c.in_ok-o.o.n ≤ length (c.power_into-r.new.work ++ drop (8 * c.in_ok-o.o.n) c.args.scratch.now) =
    simp length-append (omega (arith, used)) in
    sym (length-take-le _ _ (rooms))

pub pack-requires : goal.pack-requires
pack-requires c =
    let ready : WorkReady (Power c.args.e) c.args.head (length c.args.a.now) (length c.args.out.now) (length c.args.scratch.now) =
    work-opened _ _ _ c.in_ok-o.ensures in
    let head : with_lengths c.in_ok-o.o.told c.power_into-r.result ≡ ((power_poly c.args.e (held c.args.head c.args.a.now))).head =
    let t = c.in_ok-o.ensures.tells in
    entry-head c.args.head c.args.a.now c.args.e t.left t.told t.count_a
    (ready).one.good.regular c.power_into-r.ensures.lengths in
    rw (c.with_lengths.ensures ∙ head) (entry_ruled (ready) c.args.a.now (length-take-le _ _ (ready).one.full))

pub returns : goal.returns
unfolding power_answer power_out power_scratch
returns c =
    let ready : WorkReady (Power c.args.e) c.args.head (length c.args.a.now) (length c.args.out.now) (length c.args.scratch.now) =
    work-opened _ _ _ c.in_ok-o.ensures in
    let head : with_lengths c.in_ok-o.o.told c.power_into-r.result ≡ ((power_poly c.args.e (held c.args.head c.args.a.now))).head =
    let t = c.in_ok-o.ensures.tells in
    entry-head c.args.head c.args.a.now c.args.e t.left t.told t.count_a
    (ready).one.good.regular c.power_into-r.ensures.lengths in
    let fits : let o = c.in_ok-o.o in (o.na ≤ length c.args.a.now) × (o.n ≤ length c.args.out.now) × (8 * o.n ≤ length c.args.scratch.now) =
    work-fits _ _ _ c.in_ok-o.ensures in
    let used : length c.power_into-r.new.work
    ≡ 8 * c.in_ok-o.o.n =
    c.power_into-r.auto.work ∙ length-take-le _ _ (fits).2 in
    let rooms : 8 * c.in_ok-o.o.n ≤ length (c.power_into-r.new.work ++ drop (8 * c.in_ok-o.o.n) c.args.scratch.now) =
    simp length-append (omega (arith, used)) in
    let e = refl in let z = c.in_ok-o.ensures.none in let t = c.in_ok-o.ensures.tells in
    let n = one-count c.in_ok-o.ensures in
    let h = announced_one (Power c.args.e) c.args.head in (
      done-answer e h ((power_poly c.args.e (held c.args.head c.args.a.now))) z (c.pack.ensures ∙ ap word_of (c.with_lengths.ensures ∙ head)),
      (
        done-out e h ((power_poly c.args.e (held c.args.head c.args.a.now))) z c.args.out.now n
            (entry-out c.args.head c.args.a.now c.args.e t.left t.told t.count_a
            (ready).one.good.regular c.in_ok-o.o.n c.power_into-r.ensures.written),
        done-scratch e h ((power_poly c.args.e (held c.args.head c.args.a.now))) z c.args.scratch.now c.power_into-r.new.work
            (ap (λ (k : ℕ). 8 * k) n) (used) c.clear.ensures (length-take-le _ _ (rooms)),
      ),
    )

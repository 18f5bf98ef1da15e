use Rattle.std.proofs.lemmas.Result.{err_from_is_err_and}
use mathlib.Core.Path.{refl}
use native.Mathlib.Omega.{arith}
use mathlib.Core.Path.{◌≡◌, sym, ap, ◌∙◌}
use mathlib.Core.List.{◌++◌}
use Prim.Native.Nat.{ℕ, ◌*◌, ◌≤◌}
use lib.ListN.{length, drop, length-append}
use lib.Seq.{length-take-le}
use Rattle.model.specs.declared.Family.TheVariants.{Series}
use Rattle.model.specs.Word.{word_of}
use Rattle.model.specs.Poly.{held}
use Rattle.model.specs.Gates.{announced_one}
use Rattle.gates.specs.Gate.{WorkReady}
use Rattle.gates.specs.Open.{one-count, work-opened, work-fits}
use Rattle.blocks.specs.Entry.{refused-answer, refused-out, refused-scratch, done-answer, done_full, done-scratch}
use Rattle.series.specs.Entry.{series_poly, entry_whole, entry-long, entry-head, entry-coeffs}
use Rattle.series.proofs.kernel.series.Goals as goal

pub returns-in_err-o : goal.returns-in_err-o
returns-in_err-o c =
    let p = err_from_is_err_and c.from_residual.result c.from_residual.ensures.1 in rw (p.1, p.2)
    (let e = c.in_err-o.ensures.is in
    let h = announced_one Series c.args.word in record {
      answer = refused-answer e h
          ((series_poly c.args.logs c.args.head (held c.args.word c.args.a.now))) c.in_err-o.ensures.some;
      written = refused-out e h
          ((series_poly c.args.logs c.args.head (held c.args.word c.args.a.now))) c.in_err-o.ensures.some c.args.out.now;
      cleared =
          refused-scratch e h ((series_poly c.args.logs c.args.head (held c.args.word c.args.a.now))) c.in_err-o.ensures.some c.args.scratch.now;
    })

pub overflow_mul-room : goal.overflow_mul-room
overflow_mul-room c =
    let ready : WorkReady Series c.args.word (length c.args.a.now) (length c.args.out.now) (length c.args.scratch.now) =
    work-opened _ _ _ c.in_ok-o.ensures in
    omega (arith, one-count c.in_ok-o.ensures, (ready).one.announced.most)

pub slice_bounds-series_into-end : goal.slice_bounds-series_into-end
slice_bounds-series_into-end c =
    let fits : let o = c.in_ok-o.o in (o.na ≤ length c.args.a.now) × (o.n ≤ length c.args.out.now) × (8 * o.n ≤ length c.args.scratch.now) =
    work-fits _ _ _ c.in_ok-o.ensures in
    sym (length-take-le _ _ (fits).0)

pub slice_bounds-series_into-end-2 : goal.slice_bounds-series_into-end-2
slice_bounds-series_into-end-2 c =
    let fits : let o = c.in_ok-o.o in (o.na ≤ length c.args.a.now) × (o.n ≤ length c.args.out.now) × (8 * o.n ≤ length c.args.scratch.now) =
    work-fits _ _ _ c.in_ok-o.ensures in
    (fits).1

pub slice_bounds-series_into-end-3 : goal.slice_bounds-series_into-end-3
slice_bounds-series_into-end-3 c =
    let fits : let o = c.in_ok-o.o in (o.na ≤ length c.args.a.now) × (o.n ≤ length c.args.out.now) × (8 * o.n ≤ length c.args.scratch.now) =
    work-fits _ _ _ c.in_ok-o.ensures in
    sym (length-take-le _ _ (fits).1)

pub slice_bounds-series_into-end-4 : goal.slice_bounds-series_into-end-4
slice_bounds-series_into-end-4 c =
    let fits : let o = c.in_ok-o.o in (o.na ≤ length c.args.a.now) × (o.n ≤ length c.args.out.now) × (8 * o.n ≤ length c.args.scratch.now) =
    work-fits _ _ _ c.in_ok-o.ensures in
    (fits).2

pub slice_bounds-series_into-end-5 : goal.slice_bounds-series_into-end-5
slice_bounds-series_into-end-5 c =
    let fits : let o = c.in_ok-o.o in (o.na ≤ length c.args.a.now) × (o.n ≤ length c.args.out.now) × (8 * o.n ≤ length c.args.scratch.now) =
    work-fits _ _ _ c.in_ok-o.ensures in
    sym (length-take-le _ _ (fits).2)

pub series_into-requires : goal.series_into-requires
series_into-requires c =
    let fits : let o = c.in_ok-o.o in (o.na ≤ length c.args.a.now) × (o.n ≤ length c.args.out.now) × (8 * o.n ≤ length c.args.scratch.now) =
    work-fits _ _ _ c.in_ok-o.ensures in
    let ready : WorkReady Series c.args.word (length c.args.a.now) (length c.args.out.now) (length c.args.scratch.now) =
    work-opened _ _ _ c.in_ok-o.ensures in
    let t = c.in_ok-o.ensures.tells in
    let f = fits in record {
      fact_1 = entry_whole (ready) t.left t.told t.count_a t.count (length-take-le _ _ f.0)
          (length-take-le _ _ f.1) (length-take-le _ _ f.2);
      fact_2 = entry-long c.args.logs c.args.head c.args.word c.args.a.now t.left t.told;
    }

pub slice_bounds-clear-end : goal.slice_bounds-clear-end
slice_bounds-clear-end c =
    let fits : let o = c.in_ok-o.o in (o.na ≤ length c.args.a.now) × (o.n ≤ length c.args.out.now) × (8 * o.n ≤ length c.args.scratch.now) =
    work-fits _ _ _ c.in_ok-o.ensures in
    let used : length c.series_into.new.work
    ≡ 8 * c.in_ok-o.o.n =
    c.series_into.auto.work ∙ length-take-le _ _ (fits).2 in
    let rooms : 8 * c.in_ok-o.o.n ≤ length (c.series_into.new.work ++ drop (8 * c.in_ok-o.o.n) c.args.scratch.now) =
    simp length-append (omega (arith, used)) in
    rooms

pub slice_bounds-clear-end-2 : goal.slice_bounds-clear-end-2
slice_bounds-clear-end-2 c =
    let fits : let o = c.in_ok-o.o in (o.na ≤ length c.args.a.now) × (o.n ≤ length c.args.out.now) × (8 * o.n ≤ length c.args.scratch.now) =
    work-fits _ _ _ c.in_ok-o.ensures in
    let used : length c.series_into.new.work
    ≡ 8 * c.in_ok-o.o.n =
    c.series_into.auto.work ∙ length-take-le _ _ (fits).2 in
    let rooms : 8 * c.in_ok-o.o.n ≤ length (c.series_into.new.work ++ drop (8 * c.in_ok-o.o.n) c.args.scratch.now) =
    simp length-append (omega (arith, used)) in
    sym (length-take-le _ _ (rooms))

pub pack-requires : goal.pack-requires
pack-requires c =
    let ready : WorkReady Series c.args.word (length c.args.a.now) (length c.args.out.now) (length c.args.scratch.now) =
    work-opened _ _ _ c.in_ok-o.ensures in
    let t = c.in_ok-o.ensures.tells in
    rw t.told (ready).one.announced.regular.rules

pub returns : goal.returns
returns c =
    let fits : let o = c.in_ok-o.o in (o.na ≤ length c.args.a.now) × (o.n ≤ length c.args.out.now) × (8 * o.n ≤ length c.args.scratch.now) =
    work-fits _ _ _ c.in_ok-o.ensures in
    let used : length c.series_into.new.work
    ≡ 8 * c.in_ok-o.o.n =
    c.series_into.auto.work ∙ length-take-le _ _ (fits).2 in
    let rooms : 8 * c.in_ok-o.o.n ≤ length (c.series_into.new.work ++ drop (8 * c.in_ok-o.o.n) c.args.scratch.now) =
    simp length-append (omega (arith, used)) in
    let e = refl in let z = c.in_ok-o.ensures.none in let t = c.in_ok-o.ensures.tells in
    let n = one-count c.in_ok-o.ensures in
    let h = announced_one Series c.args.word in record {
      answer = done-answer e h ((series_poly c.args.logs c.args.head (held c.args.word c.args.a.now))) z
          (c.pack.ensures ∙ ap word_of (entry-head c.args.logs c.args.head c.args.word
          c.args.a.now t.left t.told));
      written = done_full e h ((series_poly c.args.logs c.args.head (held c.args.word c.args.a.now))) z c.args.out.now n
          (entry-coeffs c.args.logs c.args.head c.args.word c.args.a.now t.left
          t.told t.count_a c.series_into.ensures.out_after)
          (c.series_into.auto.out ∙ length-take-le _ _ (fits).1);
      cleared = done-scratch e h ((series_poly c.args.logs c.args.head (held c.args.word c.args.a.now))) z c.args.scratch.now c.series_into.new.work
          (ap (λ (k : ℕ). 8 * k) n) (used) c.clear.ensures (length-take-le _ _ (rooms));
    }

use Rattle.std.proofs.lemmas.Result.{err_from_is_err_and}
use mathlib.Core.Path.{refl}
use native.Mathlib.Omega.{arith}
use mathlib.Core.Path.{◌≡◌, sym, ap, ◌∙◌}
use mathlib.Core.List.{◌++◌}
use Prim.Native.Nat.{ℕ, ◌*◌, ◌≤◌}
use lib.ListN.{length, drop, length-append}
use lib.Seq.{length-take-le}
use Rattle.model.specs.Poly.{held}
use Rattle.model.specs.Gates.{announced_pair}
use Rattle.model.specs.Word.{word_of}
use Rattle.gates.specs.Open.{told-by, opened-ready, opened-count, opened-fits}
use Rattle.model.specs.declared.Family.TheVariants.{Sum}
use Rattle.model.specs.Add.{combined, sum_answer, sum_out, sum_scratch}
use Rattle.blocks.specs.Entry.{refused-answer, refused-out, refused-scratch, done-answer, done_full, done-scratch}
use Rattle.sums_cut.specs.Summing.{summing, sum_head, sum-coeffs}
use Rattle.sums.proofs.kernel.sum.Goals as goal

pub returns-in_err-o : goal.returns-in_err-o
unfolding sum_answer sum_out sum_scratch
returns-in_err-o c =
    let p = err_from_is_err_and c.from_residual.result c.from_residual.ensures.1 in rw (p.1, p.2)
    (let e = c.in_err-o.ensures.is in
    let n = c.in_err-o.ensures.some in record {
      answer = refused-answer e (announced_pair Sum c.args.ah c.args.bh)
          ((combined c.args.minus (held c.args.ah c.args.a.now) (held c.args.bh c.args.b.now))) n;
      written = refused-out e (announced_pair Sum
          c.args.ah c.args.bh) ((combined c.args.minus (held c.args.ah c.args.a.now) (held c.args.bh c.args.b.now))) n c.args.out.now;
      cleared
          = refused-scratch e (announced_pair Sum c.args.ah c.args.bh) ((combined c.args.minus (held c.args.ah c.args.a.now) (held c.args.bh
          c.args.b.now))) n c.args.scratch.now;
    })

pub overflow_mul-room : goal.overflow_mul-room
overflow_mul-room c =
    omega (arith, (opened-count c.in_ok-o.ensures), (opened-ready c.in_ok-o.ensures).announced.most)

pub slice_bounds-sum_into-end : goal.slice_bounds-sum_into-end
slice_bounds-sum_into-end c =
    sym (length-take-le _ _ (opened-fits c.in_ok-o.ensures).0)

pub slice_bounds-sum_into-end-2 : goal.slice_bounds-sum_into-end-2
slice_bounds-sum_into-end-2 c =
    sym (length-take-le _ _ (opened-fits c.in_ok-o.ensures).1)

pub slice_bounds-sum_into-end-3 : goal.slice_bounds-sum_into-end-3
slice_bounds-sum_into-end-3 c =
    (opened-fits c.in_ok-o.ensures).2

pub slice_bounds-sum_into-end-4 : goal.slice_bounds-sum_into-end-4
slice_bounds-sum_into-end-4 c =
    sym (length-take-le _ _ (opened-fits c.in_ok-o.ensures).2)

pub slice_bounds-sum_into-end-5 : goal.slice_bounds-sum_into-end-5
slice_bounds-sum_into-end-5 c =
    (opened-fits c.in_ok-o.ensures).3

pub slice_bounds-sum_into-end-6 : goal.slice_bounds-sum_into-end-6
slice_bounds-sum_into-end-6 c =
    sym (length-take-le _ _ (opened-fits c.in_ok-o.ensures).3)

pub sum_into-requires : goal.sum_into-requires
sum_into-requires c =
    let f = opened-fits c.in_ok-o.ensures in
    let t = c.in_ok-o.ensures.tells in
    summing (opened-ready c.in_ok-o.ensures) t.left t.right (told-by Sum t)
    t.count_a t.count_b t.count (length-take-le _ _ f.0) (length-take-le _ _ f.1)
    (length-take-le _ _ f.2) (length-take-le _ _ f.3)

pub slice_bounds-clear-end : goal.slice_bounds-clear-end
slice_bounds-clear-end c =
    let used : length c.sum_into.new.work ≡ 8 * c.in_ok-o.o.n =
    c.sum_into.auto.work ∙ length-take-le _ _ (opened-fits c.in_ok-o.ensures).3 in
    let rooms : 8 * c.in_ok-o.o.n ≤ length (c.sum_into.new.work ++ drop (8 * c.in_ok-o.o.n) c.args.scratch.now) =
    simp length-append (omega (arith, used)) in
    rooms

pub slice_bounds-clear-end-2 : goal.slice_bounds-clear-end-2
slice_bounds-clear-end-2 c =
    let used : length c.sum_into.new.work ≡ 8 * c.in_ok-o.o.n =
    c.sum_into.auto.work ∙ length-take-le _ _ (opened-fits c.in_ok-o.ensures).3 in
    let rooms : 8 * c.in_ok-o.o.n ≤ length (c.sum_into.new.work ++ drop (8 * c.in_ok-o.o.n) c.args.scratch.now) =
    simp length-append (omega (arith, used)) in
    sym (length-take-le _ _ (rooms))

pub pack-requires : goal.pack-requires
pack-requires c =
    let t = c.in_ok-o.ensures.tells in
    rw t.told (opened-ready c.in_ok-o.ensures).announced.regular.rules

pub returns : goal.returns
unfolding sum_answer sum_out sum_scratch
returns c =
    let used : length c.sum_into.new.work ≡ 8 * c.in_ok-o.o.n =
    c.sum_into.auto.work ∙ length-take-le _ _ (opened-fits c.in_ok-o.ensures).3 in
    let rooms : 8 * c.in_ok-o.o.n ≤ length (c.sum_into.new.work ++ drop (8 * c.in_ok-o.o.n) c.args.scratch.now) =
    simp length-append (omega (arith, used)) in
    let e = refl in let z = c.in_ok-o.ensures.none in
    let n = (opened-count c.in_ok-o.ensures) in
    let t = c.in_ok-o.ensures.tells in record {
      answer = done-answer e (announced_pair Sum c.args.ah c.args.bh) ((combined c.args.minus (held c.args.ah c.args.a.now) (held c.args.bh c.args.b.now))) z
          (c.pack.ensures
          ∙ ap word_of (sum_head c.args.minus c.args.ah c.args.a.now c.args.bh
          c.args.b.now t.left t.right (told-by Sum t)));
      written = done_full e (announced_pair Sum c.args.ah c.args.bh) ((combined c.args.minus (held c.args.ah c.args.a.now) (held c.args.bh
          c.args.b.now))) z c.args.out.now n
          (sum-coeffs c.args.minus c.args.ah c.args.a.now c.args.bh
          c.args.b.now t.left t.right (told-by Sum t) t.count_a t.count_b c.sum_into.ensures.out_after)
          (c.sum_into.auto.out
          ∙ length-take-le _ _ (opened-fits c.in_ok-o.ensures).2);
      cleared = done-scratch e (announced_pair Sum c.args.ah c.args.bh) ((combined c.args.minus (held c.args.ah c.args.a.now) (held c.args.bh c.args.b.now))) z
          c.args.scratch.now c.sum_into.new.work (ap (λ (k : ℕ). 8 * k) n)
          (used) c.clear.ensures (length-take-le _ _ (rooms));
    }

use Rattle.std.proofs.lemmas.Result.{err_from_is_err_and}
use native.Mathlib.Omega.{arith}
use mathlib.Core.Path.{◌≡◌, refl, sym, ap, ◌∙◌}
use mathlib.Core.List.{◌++◌}
use Prim.Native.Nat.{ℕ, ◌*◌, ◌≤◌}
use lib.ListN.{length, drop, length-append}
use lib.Seq.{length-take-le}
use Rattle.model.specs.Poly.{held}
use Rattle.model.specs.Gates.{announced_pair}
use Rattle.model.specs.Word.{word_of}
use Rattle.gates.specs.Open.{told-by, opened-ready, opened-count, opened-fits}
use Rattle.model.specs.declared.Family.TheVariants.{Quotient}
use Rattle.model.specs.Quotient.{quotient_poly, quotient_answer, quotient_out, quotient_scratch}
use Rattle.blocks.specs.Entry.{refused-answer, refused-out, refused-scratch, done-answer, done_full, done-scratch}
use Rattle.quotient.specs.Entry.{entry_ruled, entry-divides, entry-head, entry-places}
use Rattle.quotient.proofs.divide.Goals as goal

pub returns-in_err-o : goal.returns-in_err-o
unfolding quotient_answer quotient_out quotient_scratch
returns-in_err-o c =
    let p = err_from_is_err_and c.from_residual.result c.from_residual.ensures.1 in rw (p.1, p.2)
    (let e = c.in_err-o.ensures.is in
    let n = c.in_err-o.ensures.some in (
      refused-answer e (announced_pair Quotient c.args.ah c.args.bh) ((quotient_poly (held c.args.ah c.args.a.now) (held c.args.bh c.args.b.now))) n,
      (
        refused-out e (announced_pair Quotient c.args.ah c.args.bh) ((quotient_poly (held c.args.ah c.args.a.now) (held c.args.bh c.args.b.now))) n
            c.args.out.now,
        refused-scratch e (announced_pair Quotient c.args.ah c.args.bh)
            ((quotient_poly (held c.args.ah c.args.a.now) (held c.args.bh c.args.b.now))) n c.args.scratch.now,
      ),
    ))

pub overflow_mul-room : goal.overflow_mul-room
overflow_mul-room c =
    omega (arith, (opened-count c.in_ok-o.ensures), (opened-ready c.in_ok-o.ensures).announced.most)

pub slice_bounds-divide_into-end : goal.slice_bounds-divide_into-end
slice_bounds-divide_into-end c =
    sym (length-take-le _ _ (opened-fits c.in_ok-o.ensures).0)

pub slice_bounds-divide_into-end-2 : goal.slice_bounds-divide_into-end-2
slice_bounds-divide_into-end-2 c =
    sym (length-take-le _ _ (opened-fits c.in_ok-o.ensures).1)

pub slice_bounds-divide_into-end-3 : goal.slice_bounds-divide_into-end-3
slice_bounds-divide_into-end-3 c =
    (opened-fits c.in_ok-o.ensures).2

pub slice_bounds-divide_into-end-4 : goal.slice_bounds-divide_into-end-4
slice_bounds-divide_into-end-4 c =
    sym (length-take-le _ _ (opened-fits c.in_ok-o.ensures).2)

pub slice_bounds-divide_into-end-5 : goal.slice_bounds-divide_into-end-5
slice_bounds-divide_into-end-5 c =
    (opened-fits c.in_ok-o.ensures).3

pub slice_bounds-divide_into-end-6 : goal.slice_bounds-divide_into-end-6
slice_bounds-divide_into-end-6 c =
    sym (length-take-le _ _ (opened-fits c.in_ok-o.ensures).3)

pub divide_into-requires : goal.divide_into-requires
divide_into-requires c =
    let f = opened-fits c.in_ok-o.ensures in
    let t = c.in_ok-o.ensures.tells in
    entry-divides (opened-ready c.in_ok-o.ensures) t.left t.right
    (told-by Quotient t) t.count_a t.count_b t.count (length-take-le _ _ f.0)
    (length-take-le _ _ f.1) (length-take-le _ _ f.2) (length-take-le _ _ f.3)

pub slice_bounds-clear-end : goal.slice_bounds-clear-end
slice_bounds-clear-end c =
    let used : length c.divide_into.new.work ≡ 8 * c.in_ok-o.o.n =
    c.divide_into.auto.work ∙ length-take-le _ _ (opened-fits c.in_ok-o.ensures).3 in
    let rooms : 8 * c.in_ok-o.o.n ≤ length (c.divide_into.new.work ++ drop (8 * c.in_ok-o.o.n) c.args.scratch.now) =
    simp length-append (omega (arith, used)) in
    rooms

pub slice_bounds-clear-end-2 : goal.slice_bounds-clear-end-2
slice_bounds-clear-end-2 c =
    let used : length c.divide_into.new.work ≡ 8 * c.in_ok-o.o.n =
    c.divide_into.auto.work ∙ length-take-le _ _ (opened-fits c.in_ok-o.ensures).3 in
    let rooms : 8 * c.in_ok-o.o.n ≤ length (c.divide_into.new.work ++ drop (8 * c.in_ok-o.o.n) c.args.scratch.now) =
    simp length-append (omega (arith, used)) in
    sym (length-take-le _ _ (rooms))

pub pack-requires : goal.pack-requires
pack-requires c =
    let t = c.in_ok-o.ensures.tells in
    entry_ruled (opened-ready c.in_ok-o.ensures) t.left t.right (told-by Quotient t)

pub returns : goal.returns
unfolding quotient_answer quotient_out quotient_scratch
returns c =
    let used : length c.divide_into.new.work ≡ 8 * c.in_ok-o.o.n =
    c.divide_into.auto.work ∙ length-take-le _ _ (opened-fits c.in_ok-o.ensures).3 in
    let rooms : 8 * c.in_ok-o.o.n ≤ length (c.divide_into.new.work ++ drop (8 * c.in_ok-o.o.n) c.args.scratch.now) =
    simp length-append (omega (arith, used)) in
    let e = refl in let z = c.in_ok-o.ensures.none in
    let n = (opened-count c.in_ok-o.ensures) in
    let t = c.in_ok-o.ensures.tells in (
      done-answer e (announced_pair Quotient c.args.ah c.args.bh) ((quotient_poly (held c.args.ah c.args.a.now) (held c.args.bh c.args.b.now))) z
          (c.pack.ensures
          ∙ ap word_of (entry-head (opened-ready c.in_ok-o.ensures) t.left t.right
          (told-by Quotient t) c.args.a.now c.args.b.now t.count_a t.count_b
          (entry-divides (opened-ready c.in_ok-o.ensures) t.left t.right
          (told-by Quotient t) t.count_a t.count_b t.count refl refl refl refl))),
      (
        done_full e (announced_pair Quotient c.args.ah c.args.bh) ((quotient_poly (held c.args.ah c.args.a.now) (held c.args.bh c.args.b.now))) z
            c.args.out.now n (entry-places (opened-ready c.in_ok-o.ensures) t.left
            t.right (told-by Quotient t) c.args.a.now c.args.b.now t.count_a t.count_b
            c.divide_into.ensures.out_after) (c.divide_into.auto.out
            ∙ length-take-le _ _ (opened-fits c.in_ok-o.ensures).2),
        done-scratch e (announced_pair Quotient c.args.ah c.args.bh) ((quotient_poly (held c.args.ah c.args.a.now) (held c.args.bh c.args.b.now))) z
            c.args.scratch.now c.divide_into.new.work (ap (λ (k : ℕ). 8 * k) n)
            (used) c.clear.ensures (length-take-le _ _ (rooms)),
      ),
    )

use Rattle.std.proofs.lemmas.Result.{err_from_is_err_and}
use native.Mathlib.Omega.{arith}
use mathlib.Core.Path.{◌≡◌, refl, sym, ap, ◌∙◌}
use mathlib.Core.List.{◌++◌}
use Prim.Native.Nat.{ℕ, ◌*◌, ◌≤◌}
use lib.ListN.{length, drop, length-append}
use lib.Seq.{length-take-le}
use Rattle.model.specs.Poly.{Poly, held}
use Rattle.model.specs.Gates.{announced_pair}
use Rattle.model.specs.Word.{word_of}
use Rattle.gates.specs.Open.{opened-ready, opened-count, opened-fits}
use Rattle.model.specs.declared.Family.TheVariants.{Substitution}
use Rattle.model.specs.Refusals.{padded}
use Rattle.model.specs.Substitute.{substitute_poly, substitute_answer, substitute_out, substitute_scratch}
use Rattle.blocks.specs.Entry.{refused-answer, refused-out, refused-scratch, done-answer, done-out, done-scratch}
use Rattle.shape_operands.specs.Lent.{kept_as}
use Rattle.shape_operands.specs.Operand.{taken, kept-front}
use Rattle.shape_operands.specs.Announces.{given, opened-announces, opened-left, opened-right, opened-lent, opened-held, opened-held-right}
use Rattle.substitution.specs.Entry.{entry_ruled}
use Rattle.substitution.proofs.subst_var.Goals as goal

pub returns-in_err-o : goal.returns-in_err-o
unfolding substitute_answer substitute_out substitute_scratch
returns-in_err-o c =
    let p = err_from_is_err_and c.from_residual.result c.from_residual.ensures.1 in rw (p.1, p.2)
    (let e = c.in_err-o.ensures.is in
    let n = c.in_err-o.ensures.some in (
      refused-answer e (announced_pair (Substitution c.args.v) c.args.ah c.args.bh)
          ((substitute_poly c.args.v (held c.args.ah c.args.a.now) (held c.args.bh c.args.b.now))) n,
      (
        refused-out e (announced_pair (Substitution c.args.v) c.args.ah c.args.bh)
            ((substitute_poly c.args.v (held c.args.ah c.args.a.now) (held c.args.bh c.args.b.now))) n
            c.args.out.now,
        refused-scratch e (announced_pair (Substitution c.args.v) c.args.ah c.args.bh)
            ((substitute_poly c.args.v (held c.args.ah c.args.a.now) (held c.args.bh c.args.b.now))) n c.args.scratch.now,
      ),
    ))

pub overflow_mul-room : goal.overflow_mul-room
overflow_mul-room c =
    omega (arith, (opened-count c.in_ok-o.ensures), (opened-ready c.in_ok-o.ensures).announced.most)

pub slice_bounds-substitute_to-end : goal.slice_bounds-substitute_to-end
slice_bounds-substitute_to-end c =
    (opened-fits c.in_ok-o.ensures).3

pub slice_bounds-substitute_to-end-2 : goal.slice_bounds-substitute_to-end-2
slice_bounds-substitute_to-end-2 c =
    sym (length-take-le _ _ (opened-fits c.in_ok-o.ensures).3)

pub substitute_to-r-requires : goal.substitute_to-r-requires
substitute_to-r-requires c =
    let z = c.in_ok-o.ensures.none in
    record {
      fact_1 = opened-announces c.in_ok-o.ensures;
      fact_2 = opened-left c.in_ok-o.ensures;
      fact_3 = opened-right
          c.in_ok-o.ensures;
      fact_4 = opened-lent c.in_ok-o.ensures (length-take-le _ _ (opened-fits c.in_ok-o.ensures).3);
    }

pub slice_bounds-clear-end : goal.slice_bounds-clear-end
slice_bounds-clear-end c =
    let used : length c.substitute_to-r.new.scratch ≡ 8 * c.in_ok-o.o.n =
    c.substitute_to-r.auto.scratch ∙ length-take-le _ _ (opened-fits c.in_ok-o.ensures).3 in
    let rooms : 8 * c.in_ok-o.o.n ≤ length (c.substitute_to-r.new.scratch
    ++ drop (8 * c.in_ok-o.o.n) c.args.scratch.now) =
    simp length-append (omega (arith, used)) in
    rooms

pub slice_bounds-clear-end-2 : goal.slice_bounds-clear-end-2
slice_bounds-clear-end-2 c =
    let used : length c.substitute_to-r.new.scratch ≡ 8 * c.in_ok-o.o.n =
    c.substitute_to-r.auto.scratch ∙ length-take-le _ _ (opened-fits c.in_ok-o.ensures).3 in
    let rooms : 8 * c.in_ok-o.o.n ≤ length (c.substitute_to-r.new.scratch
    ++ drop (8 * c.in_ok-o.o.n) c.args.scratch.now) =
    simp length-append (omega (arith, used)) in
    sym (length-take-le _ _ (rooms))

pub pack-requires : goal.pack-requires
pack-requires c =
    let value-is : let o = c.in_ok-o.o in
    substitute_poly c.args.v (taken (given o.a o.na) c.args.a.now c.args.out.now)
    (taken (given o.b o.nb) c.args.b.now c.args.out.now) ≡ (substitute_poly c.args.v (held c.args.ah c.args.a.now) (held c.args.bh c.args.b.now)) =
    let o = c.in_ok-o.o in
    let z = c.in_ok-o.ensures.none in
    ap (λ (x : Poly). substitute_poly c.args.v x (taken (given o.b o.nb) c.args.b.now c.args.out.now))
    (opened-held c.in_ok-o.ensures c.args.a.now c.args.out.now)
    ∙ ap (substitute_poly c.args.v (held c.args.ah c.args.a.now))
    (opened-held-right c.in_ok-o.ensures c.args.b.now c.args.out.now) in
    let head : c.substitute_to-r.result ≡ ((substitute_poly c.args.v (held c.args.ah c.args.a.now) (held c.args.bh c.args.b.now))).head =
    c.substitute_to-r.ensures.head ∙ ap (λ (x : Poly). x.head) (value-is) in
    rw (head) (entry_ruled (opened-ready c.in_ok-o.ensures) c.args.a.now c.args.b.now refl)

pub returns : goal.returns
unfolding substitute_answer substitute_out substitute_scratch
returns c =
    let value-is : let o = c.in_ok-o.o in
    substitute_poly c.args.v (taken (given o.a o.na) c.args.a.now c.args.out.now)
    (taken (given o.b o.nb) c.args.b.now c.args.out.now) ≡ (substitute_poly c.args.v (held c.args.ah c.args.a.now) (held c.args.bh c.args.b.now)) =
    let o = c.in_ok-o.o in
    let z = c.in_ok-o.ensures.none in
    ap (λ (x : Poly). substitute_poly c.args.v x (taken (given o.b o.nb) c.args.b.now c.args.out.now))
    (opened-held c.in_ok-o.ensures c.args.a.now c.args.out.now)
    ∙ ap (substitute_poly c.args.v (held c.args.ah c.args.a.now))
    (opened-held-right c.in_ok-o.ensures c.args.b.now c.args.out.now) in
    let head : c.substitute_to-r.result ≡ ((substitute_poly c.args.v (held c.args.ah c.args.a.now) (held c.args.bh c.args.b.now))).head =
    c.substitute_to-r.ensures.head ∙ ap (λ (x : Poly). x.head) (value-is) in
    let used : length c.substitute_to-r.new.scratch ≡ 8 * c.in_ok-o.o.n =
    c.substitute_to-r.auto.scratch ∙ length-take-le _ _ (opened-fits c.in_ok-o.ensures).3 in
    let rooms : 8 * c.in_ok-o.o.n ≤ length (c.substitute_to-r.new.scratch
    ++ drop (8 * c.in_ok-o.o.n) c.args.scratch.now) =
    simp length-append (omega (arith, used)) in
    let e = refl in let z = c.in_ok-o.ensures.none in
    let n = (opened-count c.in_ok-o.ensures) in
    let h = announced_pair (Substitution c.args.v) c.args.ah c.args.bh in (
      done-answer e h ((substitute_poly c.args.v (held c.args.ah c.args.a.now) (held c.args.bh c.args.b.now))) z (c.pack.ensures ∙ ap word_of (head)),
      (
        kept-front c.in_ok-o.o.n
            (kept_as (ap (λ (x : Poly). padded c.in_ok-o.o.n x.coeffs) (value-is)) c.substitute_to-r.ensures.kept)
            ∙ done-out e h ((substitute_poly c.args.v (held c.args.ah c.args.a.now) (held c.args.bh c.args.b.now))) z c.args.out.now n refl,
        done-scratch e h ((substitute_poly c.args.v (held c.args.ah c.args.a.now) (held c.args.bh c.args.b.now))) z c.args.scratch.now
            c.substitute_to-r.new.scratch
            (ap (λ (k : ℕ). 8 * k) n) (used) c.clear.ensures (length-take-le _ _ (rooms)),
      ),
    )

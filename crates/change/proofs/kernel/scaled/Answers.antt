use Rattle.std.proofs.lemmas.Result.{err_from_is_err_and}
use mathlib.Core.Path.{refl}
use Rattle.std.specs.Prelude.{Ok}
use mathlib.Core.Path.{◌≡◌, sym, ap, ◌∙◌}
use native.Mathlib.Omega.{arith}
use Prim.Native.Nat.{◌≤◌}
use lib.ListN.{length}
use lib.Seq.{length-take-le}
use Rattle.model.specs.declared.Family.TheVariants.{Shift}
use Rattle.model.specs.Header.{stored}
use Rattle.model.specs.Word.{word_of}
use Rattle.model.specs.Gates.{announced_one}
use Rattle.model.specs.Poly.{held}
use Rattle.gates.specs.Gate.{InReady, entry-refused, entry_done}
use Rattle.gates.specs.Open.{one-given, one-count, in-opened, in-fits}
use Rattle.readings_row.specs.Term.{part-written}
use Rattle.change_factors.specs.Scale.{scaled_poly}
use Rattle.change.specs.Taken.{scaled-keeps}
use Rattle.change.proofs.kernel.scaled.Goals as goal

pub returns-in_err-o : goal.returns-in_err-o
returns-in_err-o c =
    let p = err_from_is_err_and c.from_residual.result c.from_residual.ensures.1 in rw (p.1, p.2)
    (let whole = entry-refused c.in_err-o.ensures.is c.in_err-o.ensures.some
    (announced_one (Shift c.args.v c.args.n) c.args.head) ((scaled_poly c.args.plain c.args.v c.args.n (held c.args.head c.args.a.now)))
    c.args.out.now in record { answer = whole.0; written = whole.1 })

pub slice_bounds-take_rows-end : goal.slice_bounds-take_rows-end
slice_bounds-take_rows-end c =
    let fits : let o = c.in_ok-o.o in (o.na ≤ length c.args.a.now) × (o.n ≤ length c.args.out.now) =
    in-fits _ _ _ _ c.in_ok-o.ensures in
    sym (length-take-le _ _ (fits).0)

pub slice_bounds-take_rows-end-2 : goal.slice_bounds-take_rows-end-2
slice_bounds-take_rows-end-2 c =
    let fits : let o = c.in_ok-o.o in (o.na ≤ length c.args.a.now) × (o.n ≤ length c.args.out.now) =
    in-fits _ _ _ _ c.in_ok-o.ensures in
    (fits).1

pub slice_bounds-take_rows-end-3 : goal.slice_bounds-take_rows-end-3
slice_bounds-take_rows-end-3 c =
    let fits : let o = c.in_ok-o.o in (o.na ≤ length c.args.a.now) × (o.n ≤ length c.args.out.now) =
    in-fits _ _ _ _ c.in_ok-o.ensures in
    sym (length-take-le _ _ (fits).1)

pub take_rows-x-requires : goal.take_rows-x-requires
take_rows-x-requires c =
    let ready : InReady (Shift c.args.v c.args.n) c.args.v c.args.n c.args.head
    (length c.args.a.now) (length c.args.out.now) =
    in-opened _ _ _ _ c.in_ok-o.ensures in
    let fits : let o = c.in_ok-o.o in (o.na ≤ length c.args.a.now) × (o.n ≤ length c.args.out.now) =
    in-fits _ _ _ _ c.in_ok-o.ensures in
    let g = ready in
    let t = c.in_ok-o.ensures.tells in
    record {
      rules = rw t.left g.one.good.regular.rules;
      is = rw t.left t.told;
      var = omega (arith, g.known, g.one.good.regular.rules.few);
      below = rw t.left g.below;
      full = length-take-le _ _ (fits).0 ∙ t.count_a;
      room = length-take-le _ _ (fits).1 ∙ t.count;
    }

pub pack-requires : goal.pack-requires
pack-requires c =
    let head-is : c.take_rows-x.result ≡ ((scaled_poly c.args.plain c.args.v c.args.n (held c.args.head c.args.a.now))).head =
    let z = c.in_ok-o.ensures.none in
    rw (c.in_ok-o.ensures.tells.left, one-given c.in_ok-o.ensures) at c.take_rows-x.ensures.head in
    let ready : InReady (Shift c.args.v c.args.n) c.args.v c.args.n c.args.head
    (length c.args.a.now) (length c.args.out.now) =
    in-opened _ _ _ _ c.in_ok-o.ensures in
    rw (head-is) (scaled-keeps c.args.plain c.args.v c.args.n
    (held c.args.head c.args.a.now) (ready).one.good.regular.rules).regular.rules

pub returns : goal.returns
returns c =
    let head-is : c.take_rows-x.result ≡ ((scaled_poly c.args.plain c.args.v c.args.n (held c.args.head c.args.a.now))).head =
    let z = c.in_ok-o.ensures.none in
    rw (c.in_ok-o.ensures.tells.left, one-given c.in_ok-o.ensures) at c.take_rows-x.ensures.head in
    let z = c.in_ok-o.ensures.none in let t = c.in_ok-o.ensures.tells in
    let h = announced_one (Shift c.args.v c.args.n) c.args.head in
    let whole = entry_done refl z h ((scaled_poly c.args.plain c.args.v c.args.n (held c.args.head c.args.a.now))) c.args.out.now
    (ap Ok (c.pack.ensures ∙ ap word_of (head-is)))
    (rw (one-count c.in_ok-o.ensures)
    (part-written (stored h) ((scaled_poly c.args.plain c.args.v c.args.n (held c.args.head c.args.a.now))).coeffs c.args.out.now
    (rw (t.left, one-given c.in_ok-o.ensures, t.told) at c.take_rows-x.ensures.places))) in record { answer = whole.0; written = whole.1 }

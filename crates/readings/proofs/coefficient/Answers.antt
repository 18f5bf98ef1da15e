use Rattle.std.proofs.lemmas.Result.{err_from_is_err_and}
use mathlib.Core.Path.{refl}
use mathlib.Core.Path.{◌≡◌, sym, ap, ◌∙◌}
use native.Mathlib.Omega.{arith}
use lib.ListN.{length, get_or}
use Rattle.model.specs.Word.{header_of}
use mathlib.Core.Bool.{true}
use Prim.Native.Nat.{◌<◌}
use lib.Ieee.{nan}
use Rattle.model.specs.Places.{place, inside}
use Rattle.model.specs.Readings.{coefficient_answer}
use Rattle.shape_words.specs.Lengths.{inside_is, sizes-of}
use Rattle.gates.specs.Gate.{IndexReady, index-ready, read-refused, read_done}
use Rattle.readings.specs.Read.{read-lengths, read-place, coefficient-stored, coefficient-past}
use Rattle.readings.proofs.coefficient.Goals as goal

pub returns-in_err-h : goal.returns-in_err-h
unfolding coefficient_answer
returns-in_err-h c =
    let p = err_from_is_err_and c.from_residual.result c.from_residual.ensures.1 in rw (p.1, p.2)
    (read-refused c.in_err-h.ensures.is c.in_err-h.ensures.some _)

pub returns-then-not-is_inside : goal.returns-then-not-is_inside
unfolding coefficient_answer
returns-then-not-is_inside c =
    read_done refl c.in_ok-h.ensures.none
    (coefficient-past c.args.head c.args.a.now c.args.index
    ((rw (c.is_inside.ensures, c.in_ok-h.ensures.holds) at
    c.if-not-is_inside.true)))

pub place_of-k-requires : goal.place_of-k-requires
place_of-k-requires c =
    let ready : IndexReady c.args.head (length c.args.a.now) c.args.index =
    index-ready _ _ _ c.in_ok-h.ensures.none in
    let there : inside (header_of c.args.head).lengths c.args.index ≡ true =
    (rw (c.is_inside.ensures, c.in_ok-h.ensures.holds) at c.if-not-is_inside.false) in
    record {
      fact_1 = rw c.in_ok-h.ensures.holds
          (sizes-of (read-lengths (ready).read));
      fact_2 = rw c.in_ok-h.ensures.holds
          (inside_is _ _ (there));
    }

pub offset_bounds-a-k : goal.offset_bounds-a-k
offset_bounds-a-k c =
    let placed : c.place_of-k.result ≡ place (header_of c.args.head).lengths c.args.index =
    rw c.in_ok-h.ensures.holds at c.place_of-k.ensures in
    let ready : IndexReady c.args.head (length c.args.a.now) c.args.index =
    index-ready _ _ _ c.in_ok-h.ensures.none in
    let there : inside (header_of c.args.head).lengths c.args.index ≡ true =
    (rw (c.is_inside.ensures, c.in_ok-h.ensures.holds) at c.if-not-is_inside.false) in
    let low : c.place_of-k.result < length c.args.a.now =
    rw (placed) (read-place c.args.head c.args.a.now c.args.index
    (ready).read (there)) in
    omega (arith, low)

pub bounds-a-k : goal.bounds-a-k
bounds-a-k c =
    let placed : c.place_of-k.result ≡ place (header_of c.args.head).lengths c.args.index =
    rw c.in_ok-h.ensures.holds at c.place_of-k.ensures in
    let ready : IndexReady c.args.head (length c.args.a.now) c.args.index =
    index-ready _ _ _ c.in_ok-h.ensures.none in
    let there : inside (header_of c.args.head).lengths c.args.index ≡ true =
    (rw (c.is_inside.ensures, c.in_ok-h.ensures.holds) at c.if-not-is_inside.false) in
    let low : c.place_of-k.result < length c.args.a.now =
    rw (placed) (read-place c.args.head c.args.a.now c.args.index
    (ready).read (there)) in
    low

pub returns : goal.returns
unfolding coefficient_answer
returns c =
    let placed : c.place_of-k.result ≡ place (header_of c.args.head).lengths c.args.index =
    rw c.in_ok-h.ensures.holds at c.place_of-k.ensures in
    let there : inside (header_of c.args.head).lengths c.args.index ≡ true =
    (rw (c.is_inside.ensures, c.in_ok-h.ensures.holds) at c.if-not-is_inside.false) in
    read_done refl c.in_ok-h.ensures.none
    (ap (λ k. get_or c.args.a.now k nan) (placed)
    ∙ coefficient-stored c.args.head c.args.a.now c.args.index (there))

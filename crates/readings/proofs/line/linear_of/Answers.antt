use mathlib.Core.Path.{◌≡◌, sym, ◌∙◌}
use mathlib.Core.Bool.{true}
use native.Mathlib.Omega.{arith}
use Prim.Native.Nat.{◌<◌}
use lib.ListN.{length}
use Rattle.lists.specs.Four.{at}
use Rattle.model.specs.Poly.{block}
use Rattle.model.specs.Linear.{linear_in, line_of}
use Rattle.shape_words.specs.Lengths.{count-pos}
use Rattle.readings.specs.Line.{from_found, from_next, from_end, fits-is, fits_low}
use Rattle.readings.proofs.line.linear_of.Goals as goal

pub bounds-a-0 : goal.bounds-a-0
bounds-a-0 c =
    omega (arith, c.requires.fact_2, count-pos c.requires.fact_1)

pub offset_bounds-a-t : goal.offset_bounds-a-t
offset_bounds-a-t c =
    let low : c.fits_in.result ≡ true
    → at c.strides_of-s.result c.loop-v.v
    < length c.args.a.now =
    λ t. fits_low c.args.a.now c.args.n c.requires.fact_2 c.strides_of-s.ensures
    c.loop-v.v c.fits_in.ensures c.requires.fact_1 (omega arith) t in
    omega (arith, low c.if-fits_in.true)

pub bounds-a-t : goal.bounds-a-t
bounds-a-t c =
    let low : c.fits_in.result ≡ true
    → at c.strides_of-s.result c.loop-v.v
    < length c.args.a.now =
    λ t. fits_low c.args.a.now c.args.n c.requires.fact_2 c.strides_of-s.ensures
    c.loop-v.v c.fits_in.ensures c.requires.fact_1 (omega arith) t in
    low c.if-fits_in.true

pub returns-then-fits_in : goal.returns-then-fits_in
unfolding line_of
returns-then-fits_in c =
    let is : c.fits_in.result ≡ linear_in (block c.args.n c.args.a.now) c.loop-v.v =
    fits-is c.args.a.now c.args.n c.requires.fact_2 c.strides_of-s.ensures
    c.loop-v.v c.fits_in.ensures in
    rw c.strides_of-s.ensures
    (sym (c.loop-v.invariant ∙ from_found (block c.args.n c.args.a.now) c.loop-v.v
    (omega arith) (sym (is) ∙ c.if-fits_in.true)))

pub loop-v-preserved : goal.loop-v-preserved
loop-v-preserved c =
    let is : c.fits_in.result ≡ linear_in (block c.args.n c.args.a.now) c.loop-v.v =
    fits-is c.args.a.now c.args.n c.requires.fact_2 c.strides_of-s.ensures
    c.loop-v.v c.fits_in.ensures in
    c.loop-v.invariant ∙ from_next (block c.args.n c.args.a.now) c.loop-v.v (omega arith) (sym is ∙ c.if-fits_in.false)

pub returns : goal.returns
returns c =
    c.none.ensures ∙ sym (c.loop-v.invariant
    ∙ from_end (block c.args.n c.args.a.now) c.loop-v.v (omega arith))

use mathlib.Core.Path.{◌≡◌, ap, ◌∙◌}
use native.Mathlib.Omega.{arith}
use Rattle.lists.specs.Four.{at}
use Rattle.model.specs.Places.{strides}
use Rattle.readings_row.specs.Whole.{whole-step, whole_from, whole_stretches, whole-written, whole-every, every-written}
use Rattle.readings_row.proofs.pick_whole.Goals as goal

pub overflow_mul-step : goal.overflow_mul-step
overflow_mul-step c =
    let wide_lem : at c.strides_of-s.result c.args.v ≡ at (strides c.args.n) c.args.v =
    ap (λ s. at s c.args.v) c.strides_of-s.ensures in
    omega (arith, whole-step c.requires (wide_lem))

pub pick_every-requires : goal.pick_every-requires
pick_every-requires c =
    let wide_lem : at c.strides_of-s.result c.args.v ≡ at (strides c.args.n) c.args.v =
    ap (λ s. at s c.args.v) c.strides_of-s.ensures in
    whole-every c.requires (wide_lem) c.if-width-eq1.true

pub overflow_mul-order : goal.overflow_mul-order
overflow_mul-order c =
    let wide_lem : at c.strides_of-s.result c.args.v ≡ at (strides c.args.n) c.args.v =
    ap (λ s. at s c.args.v) c.strides_of-s.ensures in
    omega (arith, whole_from c.requires (wide_lem))

pub pick_stretches-requires : goal.pick_stretches-requires
pick_stretches-requires c =
    let wide_lem : at c.strides_of-s.result c.args.v ≡ at (strides c.args.n) c.args.v =
    ap (λ s. at s c.args.v) c.strides_of-s.ensures in
    whole_stretches c.requires (wide_lem)

pub returns-then-width-eq1 : goal.returns-then-width-eq1
returns-then-width-eq1 c =
    let wide_lem : at c.strides_of-s.result c.args.v ≡ at (strides c.args.n) c.args.v =
    ap (λ s. at s c.args.v) c.strides_of-s.ensures in
    c.pick_every.ensures ∙ every-written c.requires (wide_lem) c.if-width-eq1.true c.args.a.now

pub returns-else-width-eq1 : goal.returns-else-width-eq1
returns-else-width-eq1 c =
    let wide_lem : at c.strides_of-s.result c.args.v ≡ at (strides c.args.n) c.args.v =
    ap (λ s. at s c.args.v) c.strides_of-s.ensures in
    c.pick_stretches.ensures ∙ whole-written c.requires (wide_lem) c.args.a.now

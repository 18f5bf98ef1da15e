use Rattle.change_factors.specs.Scale.{scaled_flat, rowed-first, rowed-more, rowed_end}
use Rattle.change_factors.specs.Scale.{scaling-pos, scaling_stripes}
use Rattle.lists.specs.Walk.{walked_none, walked_more}
use Rattle.lists.specs.Table.{table}
use native.Mathlib.Omega.{arith}
use mathlib.Core.Path.{◌≡◌, refl, ap, ◌∙◌}
use Prim.Native.Nat.{ℕ}
use lib.ListN.{length}
use Rattle.change_factors.proofs.scale_rows.Goals as goal

pub loop-at-init : goal.loop-at-init
loop-at-init c =
    let whole : length c.scale_stripe.new.to
    ≡ length c.args.to.now =
    c.scale_stripe.auto.to in
    let r =
    rowed-first c.args.plain c.args.start c.args.n c.args.s c.args.width c.args.step
    c.args.a.now refl c.scale_stripe.ensures in (
      (omega arith, omega arith),
      (refl, (walked_none _ 1 _, record { len = refl; is = λ p l h. r.is p (omega (arith, whole)) h })),
    )

pub scale_stripe-requires-in-loop-at : goal.scale_stripe-requires-in-loop-at
scale_stripe-requires-in-loop-at c =
    let whole : length c.scale_stripe.new.to
    ≡ length c.args.to.now =
    c.scale_stripe.auto.to in
    scaling_stripes c.requires c.loop-at.k c.loop-at.invariant.0.0 c.loop-at-test.true
    (c.loop-at.invariant.1.1.1.len ∙ whole)

pub loop-at-preserved : goal.loop-at-preserved
loop-at-preserved c =
    let w = walked_more c.loop-at.invariant.1.1.0 refl in (
      (omega (arith, c.loop-at.invariant.0.0), omega arith),
      (
        c.loop-at.invariant.1.0,
        (
          w,
          rowed-more c.args.plain c.args.start c.args.n c.args.s c.args.width
              c.args.step c.args.a.now c.loop-at.invariant.1.0 c.loop-at.invariant.0.0 c.loop-at.invariant.0.1 w
              c.loop-at.invariant.1.1.1 c.scale_stripe-in-loop-at.ensures,
        ),
      ),
    )

pub returns : goal.returns
returns c =
    let whole : length c.scale_stripe.new.to
    ≡ length c.args.to.now =
    c.scale_stripe.auto.to in
    rowed_end c.loop-at.invariant.1.1.1 c.loop-at-test.false (scaling-pos c.requires)
    ∙ ap (λ (m : ℕ). table m (scaled_flat c.args.plain c.args.start c.args.n c.args.s
    c.args.width c.args.step c.args.a.now)) (whole)

use native.Mathlib.Omega.{arith}
use mathlib.Core.List.{List}
use mathlib.Core.Path.{refl, ap}
use Prim.Native.Nat.{ℕ}
use lib.ListN.{length}
use native.Mathlib.Nat.{le_refl}
use Rattle.lists.specs.Four.{at}
use Rattle.product_linear.specs.Raise.{raise_rows_lem, raise-small, lined_rows, lined-is}
use Rattle.product.specs.declared.kernel.Way.TheVariants.{LineLeft}
use Rattle.product.specs.Own.{ShortBlock}
use Rattle.product.specs.Short.{short_raising, lined-short}
use Rattle.product.proofs.own.short_into.Goals as goal

pub overflow_mul-width : goal.overflow_mul-width
overflow_mul-width c =
    let line = c.in-LineLeft.line in
    let asked : ShortBlock (LineLeft line) c.args.n (length c.args.a.now) (length c.args.to.now) = rw c.in-LineLeft.is at c.requires in
    let t = short_raising asked (λ z. omega (arith, z)) in
    let stride = ap (λ (l : List ℕ). at l line.variable) c.strides_of-strides.ensures in
    omega (arith, (raise-small t stride refl refl).0)

pub line_rows-requires : goal.line_rows-requires
line_rows-requires c =
    let line = c.in-LineLeft.line in
    let asked : ShortBlock (LineLeft line) c.args.n (length c.args.a.now) (length c.args.to.now) = rw c.in-LineLeft.is at c.requires in
    let t = short_raising asked (λ z. omega (arith, z)) in
    let stride = ap (λ (l : List ℕ). at l line.variable) c.strides_of-strides.ensures in
    record { fact_1 = raise_rows_lem t stride refl refl; fact_2 = lined_rows t stride refl refl (le_refl _) }

pub returns : goal.returns
returns c =
    let line = c.in-LineLeft.line in
    let asked : ShortBlock (LineLeft line) c.args.n (length c.args.a.now) (length c.args.to.now) = rw c.in-LineLeft.is at c.requires in
    let t = short_raising asked (λ z. omega (arith, z)) in
    let stride = ap (λ (l : List ℕ). at l line.variable) c.strides_of-strides.ensures in
    rw c.in-LineLeft.is
    (lined-short (LineLeft line) c.args.n c.args.a.now (λ z. omega (arith, z))
    (lined-is t stride refl refl line.c line.m c.args.a.now c.line_rows.ensures))

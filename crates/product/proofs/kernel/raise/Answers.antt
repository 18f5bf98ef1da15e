use native.Mathlib.Omega.{arith}
use mathlib.Core.Path.{refl, ap}
use mathlib.Core.List.{List}
use Prim.Native.Nat.{ℕ}
use Rattle.lists.specs.Four.{at}
use Rattle.product_linear.specs.Raise.{raise_rows_lem, raise-small, raise-is}
use Rattle.product.proofs.kernel.raise.Goals as goal

pub strides_of-strides-requires : goal.strides_of-strides-requires
strides_of-strides-requires c = c.requires.from

pub overflow_mul-n : goal.overflow_mul-n
overflow_mul-n c =
    omega (arith, (raise-small c.requires (ap (λ (l : List ℕ). at l c.args.v) c.strides_of-strides.ensures) refl refl).0)

pub overflow_mul-r : goal.overflow_mul-r
overflow_mul-r c =
    omega (arith, (raise-small c.requires (ap (λ (l : List ℕ). at l c.args.v) c.strides_of-strides.ensures) refl refl).1)

pub raise_rows-requires : goal.raise_rows-requires
raise_rows-requires c =
    let t = raise_rows_lem c.requires (ap (λ (l : List ℕ). at l c.args.v) c.strides_of-strides.ensures) refl refl in
    record { turns = t.turns; full = t.full; room = t.room; small = omega (arith, t.small); most = omega (arith, t.most); pos = t.pos }

pub returns : goal.returns
returns c =
    raise-is c.requires (ap (λ (l : List ℕ). at l c.args.v)
    c.strides_of-strides.ensures) refl refl c.args.m c.args.a.now
    c.raise_rows.ensures

use Rattle.change.specs.Drop.{kept-start, kept-rest}
use Rattle.product_linear.specs.Raised.{rows_more}
use Rattle.lists.specs.Fill.{filled-all}
use native.Mathlib.Omega.{arith}
use mathlib.Core.Path.{◌≡◌}
use mathlib.Core.List.{◌++◌}
use Prim.Native.Nat.{◌+◌, ◌*◌, ◌-◌}
use lib.ListN.{length, drop, take, length-take, length-drop, length-append}
use lib.Seq.{length-take-le}
use Rattle.change.proofs.kernel.kept_rows.Goals as goal

pub returns : goal.returns
returns c =
    let cut : length (take c.args.s c.args.to.now) ≡ c.args.s =
    length-take-le c.args.s c.args.to.now c.requires.0 in
    let next-is : c.front_row-next.result ≡ c.args.m * c.args.s + c.args.s =
    rw (cut) at c.front_row-next.ensures.places in
    let whole : length (c.front_row-next.new.to ++ drop c.args.s c.args.to.now) ≡ length c.args.to.now =
    simp (length-append, length-drop) (omega (arith, c.front_row-next.auto.to, cut)) in
    let n = next-is in
    let w = whole in
    let f =
    kept-start c.args.s c.args.m c.args.a.now c.args.to.now
    c.front_row-next.ensures.sum (cut) c.requires.0 in
    let g =
    rows_more (length c.args.to.now - c.args.s)
    (length (c.front_row-next.new.to ++ drop c.args.s c.args.to.now) - c.args.s) f
    (kept-rest c.args.s c.args.m c.args.a.now
    (length (take (length (c.front_row-next.new.to ++ drop c.args.s c.args.to.now)
    - c.args.s) (drop c.args.s
    (c.front_row-next.new.to ++ drop c.args.s c.args.to.now))))
    (length c.args.a.now - c.front_row-next.result) (length c.args.to.now - c.args.s)
    c.copy.ensures (simp (length-take, length-drop) (omega arith)) (omega arith) n
    (omega arith)) (omega arith) (omega arith) in
    filled-all g (omega arith) (omega arith)

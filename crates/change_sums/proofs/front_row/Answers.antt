use Rattle.change_sums.specs.Sums.{front-is}
use native.Mathlib.Omega.{arith}
use mathlib.Core.Path.{refl, ap, ◌∙◌}
use Prim.Native.Nat.{ℕ, ◌+◌, ◌*◌, ◌-◌}
use lib.ListN.{length}
use Rattle.change_sums.proofs.front_row.Goals as goal

pub returns : goal.returns
returns c =
    let w = c.sum_rows-end.auto.to in
    let p = c.sum_rows-end.ensures.places in record {
      places = ap (λ (x : ℕ). x + length c.sum_rows-end.new.to) p
          ∙ ap (λ (x : ℕ). c.args.m * length c.args.to.now + x) w;
      sum = front-is (length c.args.to.now) c.args.m c.args.a.now
          (c.sum_rows-end.result + length c.sum_rows-end.new.to - c.sum_rows-end.result)
          (length c.sum_rows-end.new.to) c.sum_rows-end.ensures.sum p refl (omega (arith, w)) w
          c.add_to_row.ensures;
    }

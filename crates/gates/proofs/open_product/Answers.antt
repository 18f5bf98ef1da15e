use Rattle.model.specs.declared.Family.TheVariants.{Product}
use Rattle.gates.specs.Open.{left-ruled, right-ruled, both-told}
use Rattle.gates.proofs.open_product.Goals as goal

pub product_header-told-requires : goal.product_header-told-requires
product_header-told-requires c = record {
  fact_1 = left-ruled _ _ _ _ c.in_ok-a.ensures.none c.in_ok-a.ensures.holds;
  fact_2 = right-ruled _ _ _ _ c.in_ok-a.ensures.none c.in_ok-a.ensures.holds;
}

pub room_gate-requires : goal.room_gate-requires
room_gate-requires c = both-told _ _ _ _ c.in_ok-a.ensures.none c.in_ok-a.ensures.holds Product c.product_header-told.ensures

pub telling-requires : goal.telling-requires
telling-requires c =
    record {
      left = left-ruled _ _ _ _ c.in_ok-a.ensures.none c.in_ok-a.ensures.holds;
      right = right-ruled _ _ _ _ c.in_ok-a.ensures.none c.in_ok-a.ensures.holds;
      announced = both-told _ _ _ _ c.in_ok-a.ensures.none c.in_ok-a.ensures.holds Product c.product_header-told.ensures;
    }

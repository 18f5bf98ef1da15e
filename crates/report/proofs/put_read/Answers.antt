use native.Mathlib.Omega.{arith}
use Rattle.lists.specs.Table.{length-table}
use Rattle.report.proofs.put_read.Goals as goal

pub fill_floats-requires : goal.fill_floats-requires
fill_floats-requires c =
    omega (arith, c.requires.held.few, c.requires.held.small)

pub put_forecast-requires : goal.put_forecast-requires
put_forecast-requires c =
    rw (c.fill_floats.ensures, length-table) c.requires

pub returns : goal.returns
returns c =
    rw (← c.fill_floats.ensures) (c.put_forecast.ensures _ _ c.put_edition-first.ensures)

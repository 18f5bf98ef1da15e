use native.Mathlib.Omega.{arith}
use mathlib.Core.Path.{refl}
use Rattle.npy_reading.specs.Opening.{not-begun, not-framed, opens-none, opens-found}
use Rattle.npy_reading.proofs.open_file.Goals as goal

pub slice_bounds-read_header-count : goal.slice_bounds-read_header-count
slice_bounds-read_header-count c = omega (arith, c.in-Some-data_start.ensures.from, c.in-Some-data_start.ensures.inside)

pub slice_bounds-read_header-start : goal.slice_bounds-read_header-start
slice_bounds-read_header-start c = omega (arith, c.in-Some-data_start.ensures.from, c.in-Some-data_start.ensures.inside)

pub slice_bounds-read_header-end : goal.slice_bounds-read_header-end
slice_bounds-read_header-end c = omega (arith, c.in-Some-data_start.ensures.from, c.in-Some-data_start.ensures.inside)

pub returns-in_default : goal.returns-in_default
returns-in_default c = opens-none c.args.file.now c.not_opened.ensures (not-begun c.args.file.now refl c.in_default.ensures)

pub returns-in_default-data_start : goal.returns-in_default-data_start
returns-in_default-data_start c =
    opens-none c.args.file.now c.not_opened-in_default-data_start.ensures
    (not-framed c.args.file.now c.in-Some.ensures refl c.in_default-data_start.ensures)

pub returns : goal.returns
returns c = opens-found c.args.file.now c.in-Some-data_start.ensures c.read_header-found.ensures

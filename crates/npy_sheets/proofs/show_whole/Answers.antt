use Rattle.npy_sheets.specs.Shown.{shown-refused}
use native.Mathlib.Omega.{arith}
use mathlib.Core.Path.{sym, ap, ◌∙◌}
use lib.Seq.{length-take-le}
use Rattle.model.specs.Header.{stored}
use Rattle.npy_sheets.specs.Shown.{shown-done, done_ruled, done-small}
use Rattle.npy_sheets.proofs.show_whole.Goals as goal

pub stored_of-count-requires : goal.stored_of-count-requires
stored_of-count-requires c =
    done_ruled _ c.read.ensures
    c.in-Ok.is c.header_of.ensures

pub slice_bounds-put_sheet-end : goal.slice_bounds-put_sheet-end
slice_bounds-put_sheet-end c = let k =
    done-small _ c.read.ensures
    c.in-Ok.is c.header_of.ensures c.stored_of-count.ensures in
    omega arith

pub slice_bounds-put_sheet-end-in-Ok : goal.slice_bounds-put_sheet-end-in-Ok
slice_bounds-put_sheet-end-in-Ok c =
    let k =
    done-small _ c.read.ensures c.in-Ok.is
    c.header_of.ensures c.stored_of-count.ensures in
    sym (length-take-le _ _ (omega arith))

pub put_sheet-requires : goal.put_sheet-requires
put_sheet-requires c =
    let k =
    done-small _ c.read.ensures c.in-Ok.is
    c.header_of.ensures c.stored_of-count.ensures in
    omega (arith, length-take-le c.stored_of-count.result c.read.new.out (omega arith))

pub returns-in-Ok : goal.returns-in-Ok
returns-in-Ok c =
    shown-done _ c.read.ensures c.in-Ok.is
    (c.stored_of-count.ensures
    ∙ ap stored c.header_of.ensures)
    c.put_sheet.ensures

pub returns-in-Err : goal.returns-in-Err
returns-in-Err c =
    shown-refused _ c.read.ensures c.in-Err.is c.put_refusal.ensures

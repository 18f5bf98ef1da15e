pub mod Shifted
pub mod ShiftTotals

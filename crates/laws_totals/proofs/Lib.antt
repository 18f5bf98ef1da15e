pub mod KindTotals
pub mod AnswerLaws
pub mod TotalLaws
pub mod Totals
pub mod Parts

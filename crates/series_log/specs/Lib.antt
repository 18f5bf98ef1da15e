pub mod LogRow
pub mod LogDone
pub mod LogRows
pub mod LogBlock

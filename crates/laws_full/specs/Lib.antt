-- definitions
pub mod Unlimited
pub mod Limited
pub mod Made
-- series, lengths, rows of the table of kinds
pub mod Bounds
pub mod Counts
pub mod Described
pub mod Missing
pub mod Same
-- places of a recipe
pub mod Uses
pub mod NoDivide
pub mod FirstOut
pub mod Places
pub mod Accepted
pub mod Setting
pub mod Verdict
pub mod Chained
pub mod Lacking
pub mod Fits
pub mod Polynomials
-- what WHOLE says
pub mod Examples

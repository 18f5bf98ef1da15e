pub mod Results
pub mod Frame
pub mod Shapes
pub mod Values
pub mod Reads
pub mod Writes
pub mod Sizes
pub mod Once

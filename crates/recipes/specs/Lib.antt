pub mod Standing
pub mod Running
pub mod Stopping
pub mod Admission
pub mod Ran

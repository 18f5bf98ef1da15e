pub mod ProductKeeps
pub mod SubstituteKeeps
pub mod Running
pub mod PowerKeeps

pub mod Text
pub mod Tests

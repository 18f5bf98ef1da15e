pub mod Argument
pub mod Sentence
pub mod Asked
pub mod Tests
pub mod Settles

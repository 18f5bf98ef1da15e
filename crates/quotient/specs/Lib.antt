pub mod Room
pub mod First
pub mod Firsts
pub mod Into
pub mod Entry

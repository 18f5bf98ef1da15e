pub mod Substitutes

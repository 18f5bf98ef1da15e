pub mod Printed
pub mod WholeValue
pub mod WholePrinted

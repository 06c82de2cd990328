pub mod Conversions
pub mod Integers
pub mod Status
pub mod FieldWrites
pub mod Lengths

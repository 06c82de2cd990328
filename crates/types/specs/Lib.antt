pub mod Values
pub mod Spaces
pub mod Flags
pub mod Refusals

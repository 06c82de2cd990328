pub mod Checks
pub mod Accesses
pub mod Calls

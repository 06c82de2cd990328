pub mod Operands
pub mod Ops
pub mod Runs
pub mod Steps

pub mod Alone
pub mod Invariant
pub mod Interleaved

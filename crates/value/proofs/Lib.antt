pub mod Lent
pub mod ByKind
pub mod Giving
pub mod Fields
pub mod Named
pub mod Statuses
pub mod Writes
pub mod Lengths

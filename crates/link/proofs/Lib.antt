pub mod Numbers
pub mod Counts
pub mod Hosted
pub mod Parts
pub mod Known
pub mod Kept

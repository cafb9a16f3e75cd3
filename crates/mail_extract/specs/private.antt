pub mod Fits
pub mod Blocks

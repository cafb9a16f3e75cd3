pub mod Bytes
pub mod Input
pub mod Lines
pub mod Parts
pub mod Visible

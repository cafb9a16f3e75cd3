pub mod Escape
pub mod Foreign

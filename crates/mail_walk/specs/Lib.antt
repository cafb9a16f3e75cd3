pub mod Offsets
pub mod Kind
pub mod Wanted

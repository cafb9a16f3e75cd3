pub mod Front
pub mod Few
pub mod Iso2022Jp
pub mod XUserDefined
pub mod Labels

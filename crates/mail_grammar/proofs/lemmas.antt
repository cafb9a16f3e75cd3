pub mod Boundaries
pub mod FlatTypes
pub mod FlatPairs
pub mod FoldedTypes

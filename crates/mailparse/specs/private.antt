-- Words that private functions alone need; no public clause speaks of them.
pub mod Cuts
pub mod Unfolded
pub mod Dashes
pub mod Delimiters
pub mod Segments
pub mod Pairs
pub mod Date
pub mod IdRows
pub mod MessageIds
pub mod Sections
pub mod ExtendedValues
pub mod CharsetSources
pub mod Continuations
pub mod Filled
pub mod Plain
pub mod Limit
pub mod Parts

pub mod Part
pub mod Reading
pub mod DecodedSize
pub mod DecodedViews
pub mod Inside

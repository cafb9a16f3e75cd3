pub mod Part
pub mod Reading
pub mod Decoded
pub mod DecodedSize
pub mod Inside
pub mod OwnBytes

pub mod Fault
pub mod Hash
pub mod Outcome
pub mod Refusal
pub mod Streams

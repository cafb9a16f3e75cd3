-- Words that only private functions need; no public clause uses them.
pub mod Runs
pub mod Vectors
pub mod Padded
pub mod Utf16
pub mod Base64
pub mod QuotedPrintable

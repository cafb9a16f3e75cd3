-- Words that only private functions need; no public clause uses them.
pub mod Usual

pub mod PlainOutlines
pub mod StrictMails

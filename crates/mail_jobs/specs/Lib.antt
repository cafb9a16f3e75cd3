pub mod Indexer
pub mod IndexerViews
pub mod Attachments
pub mod AttachmentViews
pub mod Bounces
pub mod ThreadViews

pub mod FileNames
pub mod WindowsNames
pub mod Files
pub mod FileTexts
pub mod InnerMails
pub mod lenient
pub mod PartPlaces

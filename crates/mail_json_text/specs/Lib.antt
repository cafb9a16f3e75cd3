pub mod JsonText
pub mod Printed
pub mod Members
pub mod LineViews
pub mod Written
pub mod JsonLine

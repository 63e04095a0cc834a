pub mod Rows
pub mod HourFile
pub mod FileFits
pub mod Sheets

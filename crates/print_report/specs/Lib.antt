pub mod Rows
pub mod HourRows
pub mod ReportFits
pub mod Printing

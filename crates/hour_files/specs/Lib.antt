pub mod HourLinesFit
pub mod HourFiles

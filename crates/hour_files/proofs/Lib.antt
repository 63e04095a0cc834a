pub mod HourFiles

pub mod RecordLines
pub mod Judging
pub mod Lines

pub mod LineAmounts
pub mod LinesText
pub mod HourLabels
pub mod HourCells
pub mod HourRun
pub mod BytesAreFew
pub mod HandedOver

pub mod QuotedLabels
pub mod Records
pub mod RecordsInTurn
pub mod FileRoundTrip

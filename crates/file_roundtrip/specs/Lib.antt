pub mod Standing
pub mod SignedNumbers
pub mod QuotedLabels
pub mod Records
pub mod RecordsInTurn
pub mod FileRoundTrip
pub mod LinesAreShort

pub mod CellsCleared
pub mod CellsWritten
pub mod WholeAnswer

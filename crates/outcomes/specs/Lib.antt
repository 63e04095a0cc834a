pub mod RefusedLeavesTheBuffer
pub mod AccountsCloseOverTheCells
pub mod FirstGroupBalances
pub mod ThreeHours
pub mod CodesTell

-- Theorems over the contracts of the calls, as src/ has them.
pub mod AskNothing
pub mod OneOutcome
pub mod TwoCallsAgree
pub mod FilesReadBack
pub mod CodesTell
pub mod EnoughIsLent
pub mod MentionsAreNotLabels
pub mod AccountsCloseOverTheCells
pub mod RefusedCallsChangeNothing
pub mod WrongReconstructors

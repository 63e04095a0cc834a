pub mod StatesOpened
pub mod MwhsListed
pub mod LinesTaken
pub mod StatesStayReady
pub mod RowKept
pub mod MovesOfGroups
pub mod GroupsOneByOne
pub mod GroupTurns

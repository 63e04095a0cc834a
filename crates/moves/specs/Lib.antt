pub mod MovesKept
pub mod LaterStates
pub mod ToldIsTaken

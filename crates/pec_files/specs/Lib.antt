pub mod Files
pub mod Folders
pub mod Names
pub mod Standings
pub mod Streams

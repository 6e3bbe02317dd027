pub mod Frames
pub mod FramesReading
pub mod Entries

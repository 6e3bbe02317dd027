pub mod Entry
pub mod EntryReading

pub mod JournalFile
pub mod JournalState
pub mod Reopening
pub mod Room

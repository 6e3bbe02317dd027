pub mod LogRows
pub mod Logs
pub mod Reading
pub mod Records
pub mod Remembering
pub mod RememberingLaws

pub mod Attachments
pub mod BriefForm
pub mod BriefReading

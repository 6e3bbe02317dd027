pub mod Headings
pub mod Contents
pub mod Sealing
pub mod Asking
pub mod Told
pub mod Letters
pub mod LettersReading
pub mod Views

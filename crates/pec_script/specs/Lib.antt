pub mod Forms
pub mod Lines
pub mod LinesReading
pub mod Pages
pub mod Printed
pub mod Rows
pub mod Texts

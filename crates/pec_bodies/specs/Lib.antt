pub mod Parameters
pub mod ParametersReading
pub mod Marks
pub mod Multiparts
pub mod PartsReading
pub mod Views
pub mod Composing
pub mod Numbers

pub mod Dependent
pub mod FirstFault
pub mod Grammar
pub mod Numbers
pub mod Reading

pub mod Desk
pub mod Entries
pub mod ItemNeeds
pub mod Known
pub mod Needs
pub mod Views

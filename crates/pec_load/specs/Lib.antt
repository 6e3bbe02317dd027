pub mod Accounts
pub mod Generated
pub mod Heard

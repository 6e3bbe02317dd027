pub mod AddressBytes
pub mod AddressLaws
mod AddressStepLemmas
mod CauseLemmas
mod DigitLaws
pub mod LimitLemmas
pub mod LowerCase
mod PartLaws
mod RiseLemmas
pub mod TextLaws

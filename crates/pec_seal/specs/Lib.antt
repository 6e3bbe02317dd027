pub mod Seals
pub mod Hmac
pub mod Pads
pub mod HmacLaw
pub mod Opening
pub mod Views

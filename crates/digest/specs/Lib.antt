pub mod Words
pub mod Sha1
pub mod Running
pub mod Laws
pub mod Examples
pub mod Hmac
pub mod Codes
pub mod Chain

pub mod Room
pub mod Made
pub mod Octets
pub mod Text

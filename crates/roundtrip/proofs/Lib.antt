pub mod Feeding
pub mod RoundTrip
pub mod Taken
pub mod LessRoom
pub mod Examples
pub mod AnyRoom
pub mod Tied

pub mod Sizes
pub mod VoiceCases
pub mod VoiceBack
pub mod Bits
pub mod Examples

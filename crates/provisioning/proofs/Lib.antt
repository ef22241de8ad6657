pub mod Numbers
pub mod Lines
pub mod Steps
pub mod Turns
pub mod TextBack
pub mod TextTaken
pub mod Examples

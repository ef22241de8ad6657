pub mod ContentBack
pub mod ContentAgain
pub mod Numbers

pub mod Turns
pub mod Answers
pub mod Reply
pub mod Serve

pub mod Requests
pub mod Ask

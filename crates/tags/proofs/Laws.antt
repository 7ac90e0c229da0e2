pub mod Items
pub mod Kept
pub mod Alone
pub mod AnswerFits
pub mod Places
pub mod ServesOutside
pub mod Memory
pub mod Offsets

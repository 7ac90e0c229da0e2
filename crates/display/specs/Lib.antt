pub mod Operation
pub mod Decision
pub mod GroupPut

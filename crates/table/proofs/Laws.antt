pub mod Find

pub mod Asks
pub mod Trails
pub mod Endings

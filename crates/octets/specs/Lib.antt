pub mod Order
pub mod Compared
pub mod Put
pub mod Writer

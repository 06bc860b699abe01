pub mod Told
pub mod Walk
pub mod Extract

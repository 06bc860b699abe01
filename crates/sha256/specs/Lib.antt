pub mod Fips180
pub mod Standard
pub mod Hash
pub mod Examples

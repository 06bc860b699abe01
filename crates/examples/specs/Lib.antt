pub mod F
pub mod Box
pub mod Values

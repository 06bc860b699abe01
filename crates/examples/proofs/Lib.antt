pub mod Box
pub mod Values

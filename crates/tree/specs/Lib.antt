pub mod Edition
pub mod Depth
pub mod Labels
pub mod Admitted
pub mod Digest

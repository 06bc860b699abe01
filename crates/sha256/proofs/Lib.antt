pub mod Fips180Laws
pub mod Standard
mod HashLaws
pub mod Examples
mod Bits
mod WordLaws
mod ChunkLaws
mod ScheduleLaws
mod BlockLaws
mod PaddingLaws

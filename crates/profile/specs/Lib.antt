pub mod Profile
pub mod Named

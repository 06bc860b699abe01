pub mod Parts
pub mod Search
pub mod Attest
pub mod Form
pub mod Shown
pub mod Verify

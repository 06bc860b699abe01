pub mod Code
pub mod Count
pub mod Text
pub mod Read
pub mod Writing

pub mod Answer
pub mod Verdict
pub mod Said
pub mod Tells
pub mod Refusals

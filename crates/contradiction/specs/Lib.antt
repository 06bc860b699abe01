pub mod Outcome
pub mod Trial
pub mod Drill
pub mod Shows

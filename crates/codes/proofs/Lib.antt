pub mod Tests
pub mod CodeLaws
pub mod CountLaws
mod LineLaws
pub mod TextLaws
pub mod AcceptedLaws
pub mod BoundLaws
mod WriteLaws
mod DecimalLaws
pub mod NothingSkipped

pub mod NumberLaws
pub mod OneNodeLaws
mod TrialLaws
mod FirstLaws
mod HandedLaws
mod ReadLaws
mod DrilledLaws
pub mod ShownLaws
mod ComesLaws
pub mod SizedLaws
pub mod Shows
pub mod PackedLaws

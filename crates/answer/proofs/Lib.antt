pub mod WrittenLaws
pub mod SaidLaws
pub mod HandedLaws

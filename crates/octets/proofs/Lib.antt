pub mod OctetLaws
pub mod OrderLaws
pub mod PutLaws
pub mod WriterLaws
mod CompareLaws

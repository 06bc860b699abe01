mod ToldLaws
mod PassedLaws
mod ExtractedLaws

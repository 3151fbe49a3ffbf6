pub mod CodeLaws
pub mod ToldLaws
pub mod SkippedLaws
pub mod RecordedLaws
pub mod PlayedLaws
pub mod LinesLaws
pub mod WholeLaws

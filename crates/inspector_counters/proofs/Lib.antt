pub mod TestsLaws
pub mod Count
pub mod CountersLaws

pub mod PieceLaws
pub mod ProgramLaws

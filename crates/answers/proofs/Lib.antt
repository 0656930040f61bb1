pub mod AnswerLaws
pub mod BackLaws
pub mod Spared
pub mod Turns
pub mod MakingLaws
pub mod RefusedLaws

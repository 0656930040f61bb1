pub mod Answers
pub mod Refusals
pub mod Refusing
pub mod Steps
pub mod Making
pub mod RefusedBy
pub mod Texts

pub mod Cases
pub mod OrderExamples
pub mod ChooserExamples
pub mod RoundExamples
pub mod SessionExamples
pub mod FleetExamples

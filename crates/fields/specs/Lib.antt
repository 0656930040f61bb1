pub mod Lines
pub mod Numbers
pub mod Printing
pub mod Texts
pub mod Cuts
pub mod Inputs
pub mod Parts

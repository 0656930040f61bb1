pub mod Rotations
pub mod Bounds

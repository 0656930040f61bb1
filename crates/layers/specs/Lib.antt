pub mod Layer
pub mod Calls
pub mod Inverses
pub mod KeyedLayers
pub mod Permutations
pub mod RefusedBy
pub mod InnerRounds

pub mod Hashes
pub mod Next
pub mod Calls
pub mod InnerSearch
pub mod Walks
pub mod Agreement
pub mod RefusedBy
pub mod InnerBuckets

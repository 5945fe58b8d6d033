pub mod Bag
pub mod Narrow
pub mod Ordered
pub mod Summary
pub mod Log
pub mod Values
pub mod Statistics

pub mod Request
pub mod Shows
pub mod Live
pub mod Opening
pub mod Session
pub mod Serving
pub mod Keeping

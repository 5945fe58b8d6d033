pub mod Book
pub mod Ledger
pub mod Build
pub mod Taking
pub mod Interest

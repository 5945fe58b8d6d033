pub mod PlaceLaws
mod LotLaws
mod SendLaws
mod GatherLaws
mod SettleLaws
mod WholeLaws
pub mod WireLaws
pub mod TakeLaws
mod JoinedLaws
mod ShareLaws
mod KeepLaws
mod DrainLaws

-- What the ends of the feeders say: the lowest source that stopped, and the lowest that lacks a receipt.
use Rattle.std.specs.Prelude.{◌≡◌, ◌+◌, ◌<◌, ℕ, List, length, slice_index_or, Some, None, IsSome}
use Rattle.cube_feed.specs.declared.fault.FeedFault.{FeedFault}
use Rattle.cube_rings.specs.declared.parcel.FeederEnd.{FeederEnd}

-- the feeder came to the end of its feed
abbrev pub HasNoStop : FeederEnd → Type 0
HasNoStop end = end.stop ≡ None

-- each of the first so many links gave a receipt
abbrev pub IsSealed : ℕ → FeederEnd → Type 0
IsSealed builders end = (j : ℕ) → j < builders → IsSome (slice_index_or end.receipts j None)

-- the source stands among the ends, which begin with source 1; its end is so, and those of the lower sources aren't
pub record IsFirst (Is IsNot : FeederEnd → Type 0) (ends : List FeederEnd) (source : ℕ) : Type 0 where
  pub place : ℕ
  pub source_is : source ≡ place + 1
  pub within : place < length ends
  pub is : (d : FeederEnd) → Is (slice_index_or ends place d)
  pub lower : (i : ℕ) (d : FeederEnd) → i < place → IsNot (slice_index_or ends i d)

-- the lowest source whose end has a stop, and that stop
abbrev pub IsFirstStop : List FeederEnd → ℕ → FeedFault → Type 0
IsFirstStop ends source fault = IsFirst (λ end. end.stop ≡ Some fault) HasNoStop ends source

-- the lowest source that lacks a receipt of one of its first so many links
abbrev pub IsFirstUnsealed : ℕ → List FeederEnd → ℕ → Type 0
IsFirstUnsealed builders ends source = IsFirst (λ end. IsSealed builders end → ⊥) (IsSealed builders) ends source

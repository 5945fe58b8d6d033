-- What a contract sees of a link: two lists, what was sent and what was received.
use Rattle.std.specs.Prelude.{◌≡◌, List}
use denote.RawPtr.{Ptr}
use Rattle.std.specs.declared.alloc.Global.{Global}
use Rattle.rtrb.specs.Shared.{Names}
use Rattle.rtrb.specs.declared.end.End.{End}

-- which link it is, told by the ring that it runs over
pub record Link : Type 0 where
  pub words : Ptr
  pub slots : Ptr
  pub names : Names
  pub heap : Global

-- a link, and every item that was sent on it, the oldest first
pub record Sending (T : Type 0) : Type 0 where
  pub link : Link
  pub sent : List T

-- a link, every item that was received from it, the oldest first, and the items known to be left in
-- it, which the next takes give
pub record Receiving (T : Type 0) : Type 0 where
  pub link : Link
  pub received : List T
  pub left : List T

-- the link of an end of a ring
abbrev pub link_of : {T P : Type 0} → End T Global P → Link
link_of e = record { words = e.words; slots = e.slots; names = e.names; heap = e.heap }

-- a link is drained when what was received is what was sent
abbrev pub IsDrained : {T : Type 0} → Sending T → Receiving T → Type 0
IsDrained sending receiving = receiving.received ≡ sending.sent

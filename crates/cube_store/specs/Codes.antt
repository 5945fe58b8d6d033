-- The code of each fault of a store.
use Rattle.std.specs.Prelude.{◌≡◌, ⊤}
use Rattle.sqlite_trees.specs.View.{View, HasCause}
use Rattle.sqlite_trees.specs.declared.error.StoreError.{StoreError}
use Rattle.sqlite_trees.specs.declared.error.StoreError.TheVariants as cause
use Rattle.sqlite_store.specs.declared.error.OpenError.{OpenError}
use Rattle.sqlite_store.specs.declared.error.OpenError.TheVariants as refusal
use Rattle.sqlite_wal.specs.declared.error.Error.{Error}
use Rattle.sqlite_wal.specs.declared.error.Error.TheVariants as log
use Rattle.cube_store.specs.declared.fault.OpenFault.{OpenFault}
use Rattle.cube_store.specs.declared.fault.OpenFault.TheVariants as kind
use Rattle.cube_store.specs.declared.store_fault.StoreFault.{StoreFault}
use Rattle.cube_store.specs.declared.store_fault.StoreFault.TheVariants.{NotAStore, Row, Digest}
use Rattle.cube_store.specs.declared.store_fault.StoreFault.TheVariants.{Feed, Call}
use Rattle.cube_store.specs.declared.store_fault.FileFault.{FileFault}
use Rattle.cube_store.specs.declared.store_fault.FileFault.TheVariants as file
use Rattle.cube_store.specs.declared.store_fault.CallFault.{CallFault}
use Rattle.cube_store.specs.declared.store_fault.CallFault.TheVariants.{Failed, NoRoom, Memory}

-- What a failed call on an open store is told as (this project's choice).
abbrev pub code_of_failure : StoreError → CallFault
code_of_failure cause.OutOfMemory = Memory
code_of_failure cause.Io = Failed
code_of_failure cause.Corrupt = Failed
code_of_failure cause.Full = NoRoom
code_of_failure cause.Broken = Failed
code_of_failure cause.Unstorable = NoRoom

-- What a refused store is told as (this project's choice).
abbrev pub open_code_of : OpenFault → StoreFault
open_code_of (kind.Store error) = Call (code_of_failure error)
open_code_of kind.NoTables = NotAStore
open_code_of (kind.Feed source) = Feed source
open_code_of (kind.Row number) = Row number
open_code_of (kind.Digest number) = Digest number
open_code_of kind.TooMany = NotAStore

-- What refused files are told as (this project's choice).
abbrev pub file_code_of : OpenError → FileFault
file_code_of refusal.OutOfMemory = file.Call Memory
file_code_of refusal.Io = file.Call Failed
file_code_of refusal.Full = file.Call NoRoom
file_code_of refusal.Refused = file.NotAStore

-- What a failed look at the files is told as (this project's choice).
abbrev pub look_code_of : Error → FileFault
look_code_of (log.Io error) = file.Call Failed
look_code_of log.OutOfMemory = file.Call Memory
look_code_of log.Full = file.Call NoRoom
look_code_of log.Closed = file.NotAStore
look_code_of log.NoSuchPage = file.NotAStore
look_code_of log.Corrupt = file.NotAStore
look_code_of log.Exists = file.NotAStore

-- What refused files are told as by a store (this project's choice).
abbrev pub code_of_files : FileFault → StoreFault
code_of_files file.NotAStore = NotAStore
code_of_files (file.Call fault) = Call fault

-- Files are refused because a call failed, and not for what they hold (this project's choice).
abbrev pub FailsByCall : FileFault → Type 0
FailsByCall file.NotAStore = ⊥
FailsByCall (file.Call fault) = ⊤

-- What is told is that a call failed, and not that something was refused for what the files hold
-- (this project's choice).
abbrev pub TellsFailedCall : StoreFault → Type 0
TellsFailedCall (Call fault) = ⊤
TellsFailedCall other = ⊥

-- What is told is the code of a fault of which this holds (this project's choice).
abbrev pub IsToldOf : (OpenFault → Type 0) → StoreFault → Type 0
IsToldOf holds code = (fault : OpenFault) × (code ≡ open_code_of fault) × holds fault

-- Why a call on a store is told as failed: out of memory, a fault of the disk or of the file, or
-- one that broke the store before (this project's choice).
abbrev pub HasReason : View → Type 0 → CallFault → Type 0
HasReason was fault code =
    (error : StoreError) × (code ≡ code_of_failure error) × HasCause was fault ⊥ error

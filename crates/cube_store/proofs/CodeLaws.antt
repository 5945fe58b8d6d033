-- Which codes a refusal may have.
use Rattle.std.proofs.Common.{◌≡◌, ◌⊎◌, inl, inr, ℕ}
use Rattle.sqlite_wal.specs.declared.error.Error.{Error}
use Rattle.sqlite_wal.specs.declared.error.Error.TheVariants as log
use Rattle.sqlite_wal.specs.Outcome.{HasCause, OnlyIf}
use Rattle.sqlite_store.specs.declared.error.OpenError.{OpenError}
use Rattle.sqlite_store.specs.declared.error.OpenError.TheVariants as refusal
use Rattle.sqlite_store.specs.Opening.{FailsToOpen}
use Rattle.cube_store.specs.declared.fault.OpenFault.{OpenFault}
use Rattle.cube_store.specs.State as journal
use Rattle.cube_store.specs.Codes.{open_code_of, file_code_of, look_code_of, TellsFailedCall, FailsByCall}

-- a look that only a log without end stops
pub look_fails : (a b : ℕ) (P : Type 0) (e : Error) → HasCause a b (OnlyIf log.Full P) e
    → FailsByCall (look_code_of e)
look_fails a b P (log.Io error) h = tt
look_fails a b P log.OutOfMemory h = tt
look_fails a b P log.Full h = tt
look_fails a b P log.Closed h = let no : log.Closed ≡ log.Full = h.0 in absurd (cc)
look_fails a b P log.NoSuchPage h = let no : log.NoSuchPage ≡ log.Full = h.0 in absurd (cc)
look_fails a b P log.Corrupt h = let no : log.Corrupt ≡ log.Full = h.0 in absurd (cc)
look_fails a b P log.Exists h = let no : log.Exists ≡ log.Full = h.0 in absurd (cc)

-- the same of one that a log that can't be read stops too, where it can be
pub first_look_fails : (a b : ℕ) (P Q : Type 0) (e : Error) → (P → ⊥)
    → HasCause a b (λ e. OnlyIf log.Corrupt P e ⊎ OnlyIf log.Full Q e) e → FailsByCall (look_code_of e)
first_look_fails a b P Q (log.Io error) never h = tt
first_look_fails a b P Q log.OutOfMemory never h = tt
first_look_fails a b P Q log.Full never h = tt
first_look_fails a b P Q log.Closed never (inl h) = let no : log.Closed ≡ log.Corrupt = h.0 in absurd (cc)
first_look_fails a b P Q log.Closed never (inr h) = let no : log.Closed ≡ log.Full = h.0 in absurd (cc)
first_look_fails a b P Q log.NoSuchPage never (inl h) = let no : log.NoSuchPage ≡ log.Corrupt = h.0 in absurd (cc)
first_look_fails a b P Q log.NoSuchPage never (inr h) = let no : log.NoSuchPage ≡ log.Full = h.0 in absurd (cc)
first_look_fails a b P Q log.Corrupt never (inl h) = absurd (never h.1)
first_look_fails a b P Q log.Corrupt never (inr h) = let no : log.Corrupt ≡ log.Full = h.0 in absurd (cc)
first_look_fails a b P Q log.Exists never (inl h) = let no : log.Exists ≡ log.Corrupt = h.0 in absurd (cc)
first_look_fails a b P Q log.Exists never (inr h) = let no : log.Exists ≡ log.Full = h.0 in absurd (cc)

-- files that are what is wanted are refused only where a call fails
pub attach_fails : (a b : ℕ) (limit wanted : Type 0) (e : OpenError) → FailsToOpen a b limit wanted e → wanted
    → FailsByCall (file_code_of e)
attach_fails a b limit wanted refusal.OutOfMemory h w = tt
attach_fails a b limit wanted refusal.Io h w = tt
attach_fails a b limit wanted refusal.Full h w = tt
attach_fails a b limit wanted refusal.Refused h w = absurd (h w)

-- so is a store that a start takes
pub start_fails : (fault cant : Type 0) (e : OpenFault) → journal.FailsToStart fault cant e
    → TellsFailedCall (open_code_of e)
start_fails fault cant e (inl h) = rw h.1 tt
start_fails fault cant e (inr h) = rw h.0 tt

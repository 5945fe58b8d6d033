-- What a note says of a feed, or of the schema's file.
use Rattle.std.specs.Prelude.{◌≡◌, ℕ, List, length, Option}
use Rattle.std.specs.Io.KnownBytes.{Consumes}
use Rattle.sha2.specs.declared.Sha256.{Sha256}
use Rattle.sha2.specs.Hashers.{Holds256}
use Rattle.sha2.specs.Sha256.{sha256}
use Rattle.cube_store.specs.declared.note.FeedNote.{FeedNote}

-- a note says of bytes how many there are, and their SHA-256 (FIPS 180-4)
pub record IsNoteOf (note : FeedNote) (bytes : List ℕ) : Type 0 where
  pub length_is : note.length ≡ length bytes
  pub digest_is : note.digest ≡ sha256 bytes

-- a hasher and a count have the bytes that were read of a text so far (this project's choice)
pub record HasNoted (first now : Option (List ℕ)) (hasher : Sha256) (count : ℕ) : Type 0 where
  pub bytes : List ℕ
  pub holds : Holds256 hasher bytes
  pub counted : count ≡ length bytes
  pub consumed : Consumes first now bytes

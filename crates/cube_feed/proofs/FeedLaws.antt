-- What is to come of a feed, before and after a record.
use Rattle.std.proofs.Common.{◌≡◌, ◌<◌, ◌+◌, ℕ, List, true, false, [], ◌∷◌, Some, None, refl, subst}
use Rattle.std.proofs.Common.{◌%◌, ◌∙◌, add-zero, ap, arith, sym, true≢false}
use Rattle.std.specs.Prelude.{⊤, Result, Ok, Err, Option, nat_lt}
use Rattle.std.proofs.lemmas.Bool.{lt-ltb, le-ltb, ltb-false, eq-eqb}
use Rattle.cube_core.specs.Layout.{Layout}
use Rattle.cube_core.specs.Items.{change_of, field_at}
use Rattle.cube_core.specs.Shard.{fnv_hash, is_in_shard, whole_feed}
use Rattle.cube_core.specs.FeedRecords.{FeedEnd, RestOfFeed, TooManyRecords, WithinQuotes, RecordTooLong, ends_as, item_then}
use Rattle.cube_core.specs.FeedRecords.{TextEnd, Whole, InQuotes, InLongRecord, is_read, items_after, plain_of}
use Rattle.cube_core.specs.declared.change.Item.{Item}
use Rattle.cube_core.specs.declared.feed_columns.FoundColumns.{FoundColumns}
use Rattle.cube_feed.specs.FeedText.{TakesNext, TakesRecord, TextView}
use Rattle.cube_feed.specs.Reading.{IsReadingFault}
use Rattle.cube_feed.specs.Feed.{KnownRest, Left, Gives, after_header, comes_after, with_fault}
use Rattle.cube_feed.specs.declared.fault.FeedFault.{FeedFault}
use Rattle.cube_feed.specs.declared.fault.FeedFault.TheVariants.{Memory, Read, Header, TooMany, OpenQuote, LongRecord}
use Rattle.cube_feed.specs.declared.feed_text.Found.TheVariants as found

-- where the reader tells its bytes, the same is to come now as then
abbrev pub StillComes : KnownRest → KnownRest → Type 0
StillComes None now = ⊤
StillComes (Some then) now = now ≡ Some then

pub StillComes-refl : (now : KnownRest) → StillComes now now
StillComes-refl None = tt
StillComes-refl (Some ahead) = refl

pub StillComes-Gives : (then now new : KnownRest) (answer : Result (Option Item) FeedFault) → StillComes then now
    → Gives now answer new → Gives then answer new
StillComes-Gives None now new answer same gives = tt
StillComes-Gives (Some ahead) now new answer same gives = subst
    (λ (at : KnownRest). Gives at answer new) same gives

-- ---- what comes of a text after so many data records

module _ (s : Layout) (columns : FoundColumns) (number : ℕ) where
  -- a record of another shard is passed over
  comes_after-skip : (fields : List (List ℕ)) (rest : List (List (List ℕ))) (end : TextEnd) → number < s.max_records
      → is_read s (plain_of s columns (number + 1) fields) ≡ false
      → comes_after s columns number (record { records = fields ∷ rest; end = end })
      ≡ comes_after s columns (number + 1) (record { records = rest; end = end })
  comes_after-skip fields rest end below unread =
      rw (lt-ltb number s.max_records below, unread)
      (ap (λ (n : ℕ). ends_as s end n (items_after s columns (number + 1) rest)) (omega arith))

  -- a record of the shard is an item
  comes_after-item : (fields : List (List ℕ)) (rest : List (List (List ℕ))) (end : TextEnd) → number < s.max_records
      → is_read s (plain_of s columns (number + 1) fields) ≡ true
      → comes_after s columns number (record { records = fields ∷ rest; end = end })
      ≡ item_then (record { number = number + 1; what = change_of s (plain_of s columns (number + 1) fields) })
      (comes_after s columns (number + 1) (record { records = rest; end = end }))
  comes_after-item fields rest end below read =
      rw (lt-ltb number s.max_records below, read)
      (ap (λ (n : ℕ). item_then (record { number = number + 1; what = change_of s (plain_of s columns (number + 1) fields) })
      (ends_as s end n (items_after s columns (number + 1) rest))) (omega arith))

  -- a text that ends within a record ends in its next one, unless that is one too many
  comes_after-open : number < s.max_records
      → comes_after s columns number (record { records = []; end = InQuotes })
      ≡ record { items = []; end = WithinQuotes (number + 1) }
  comes_after-open below =
      rw (add-zero (number + 1), le-ltb s.max_records (number + 1) (omega arith)) refl

  comes_after-long : number < s.max_records
      → comes_after s columns number (record { records = []; end = InLongRecord })
      ≡ record { items = []; end = RecordTooLong (number + 1) }
  comes_after-long below =
      rw (add-zero (number + 1), le-ltb s.max_records (number + 1) (omega arith)) refl

  comes_after-full_cut : (end : TextEnd) → (end ≡ Whole → ⊥) → nat_lt number s.max_records ≡ false
      → comes_after s columns number (record { records = []; end = end })
      ≡ record { items = []; end = TooManyRecords }
  comes_after-full_cut Whole cut full = absurd (cut refl)
  comes_after-full_cut InQuotes cut full =
      rw (add-zero (number + 1), lt-ltb s.max_records (number + 1) (omega (arith, ltb-false number s.max_records full))) refl
  comes_after-full_cut InLongRecord cut full =
      rw (add-zero (number + 1), lt-ltb s.max_records (number + 1) (omega (arith, ltb-false number s.max_records full))) refl

  comes_after-full : (fields : List (List ℕ)) (rest : List (List (List ℕ))) (end : TextEnd)
      → nat_lt number s.max_records ≡ false
      → comes_after s columns number (record { records = fields ∷ rest; end = end })
      ≡ record { items = []; end = TooManyRecords }
  comes_after-full fields rest Whole full = rw full refl
  comes_after-full fields rest InQuotes full = rw full refl
  comes_after-full fields rest InLongRecord full = rw full refl

-- a record of another shard is passed over
skip-Some : (s : Layout) (columns : FoundColumns) (number : ℕ) (ahead : RestOfFeed (Option FeedFault)) (old : Left)
    (new : TextView)
    → number < s.max_records → TakesRecord old (number + 1) (Ok true) new
    → is_read s (plain_of s columns (number + 1) new.fields) ≡ false → after_header s columns number old ≡ Some ahead
    → after_header s columns (number + 1) new.left ≡ Some ahead
skip-Some s columns number ahead None new below takes other is = cc is
skip-Some s columns number ahead (Some left) new below takes other is =
    rw takes.2 (ap (λ (r : RestOfFeed FeedEnd). Some (with_fault r)) (sym
    (comes_after-skip s columns number new.fields takes.0 left.end below other)) ∙ rw takes.1 at is)

pub StillComes-skip : (s : Layout) (columns : FoundColumns) (number : ℕ) (then : KnownRest) (old : Left)
    (new : TextView)
    → number < s.max_records → TakesRecord old (number + 1) (Ok true) new
    → is_read s (plain_of s columns (number + 1) new.fields) ≡ false
    → StillComes then (after_header s columns number old)
    → StillComes then (after_header s columns (number + 1) new.left)
StillComes-skip s columns number None old new below takes other same = tt
StillComes-skip s columns number (Some ahead) old new below takes other same =
    skip-Some s columns number ahead old new below takes other same

-- of a whole feed each record is read
pub not_read-whole_feed : (s : Layout) (plain : List (List ℕ)) → s.shard ≡ whole_feed → is_read s plain ≡ false → ⊥
not_read-whole_feed s plain whole unread = no (rw whole at unread)
  where
    no : is_in_shard whole_feed (field_at plain 1) ≡ false → ⊥
    no other =
        let always : is_in_shard whole_feed (field_at plain 1) ≡ true =
        eq-eqb (fnv_hash (field_at plain 1) % 1) 0 (omega arith) in
        true≢false (sym always ∙ other)

-- the item of a record of the shard
pub item-Gives : (s : Layout) (columns : FoundColumns) (number : ℕ) (old : Left) (new : TextView) (item : Item)
    → number < s.max_records → TakesRecord old (number + 1) (Ok true) new
    → is_read s (plain_of s columns (number + 1) new.fields) ≡ true
    → item.number ≡ number + 1 → item.what ≡ change_of s (plain_of s columns (number + 1) new.fields)
    → Gives (after_header s columns number old) (Ok (Some item)) (after_header s columns item.number new.left)
item-Gives s columns number None new item below takes read is says = tt
item-Gives s columns number (Some left) new item below takes read is says = (
  with_fault (comes_after s columns (number + 1) (record { records = takes.0; end = left.end })),
  rw takes.1 (rw (is, says) (ap with_fault (comes_after-item s columns number new.fields takes.0 left.end below read))),
  rw (takes.2, is) refl,
)

-- no record is left
pub none-Gives : (s : Layout) (columns : FoundColumns) (number : ℕ) (old : Left) (new : TextView)
    (ahead : KnownRest) → TakesRecord old (number + 1) (Ok false) new
    → Gives (after_header s columns number old) (Ok None) ahead
none-Gives s columns number None new ahead takes = tt
none-Gives s columns number (Some left) new ahead takes = rw takes refl

-- no record could be taken
pub fault-Gives : (s : Layout) (columns : FoundColumns) (number : ℕ) (old : Left) (new : TextView)
    (fault : FeedFault) (ahead : KnownRest) → number < s.max_records → TakesRecord old (number + 1) (Err fault) new
    → Gives (after_header s columns number old) (Err fault) ahead
fault-Gives s columns number None new fault ahead below takes = tt
fault-Gives s columns number (Some left) new Memory ahead below takes = tt
fault-Gives s columns number (Some left) new Read ahead below takes = tt
fault-Gives s columns number (Some left) new Header ahead below takes = absurd takes
fault-Gives s columns number (Some left) new TooMany ahead below takes = absurd takes
fault-Gives s columns number (Some left) new (OpenQuote other) ahead below takes =
    rw (takes.0, takes.1) (ap with_fault (comes_after-open s columns number below))
fault-Gives s columns number (Some left) new (LongRecord other) ahead below takes =
    rw (takes.0, takes.1) (ap with_fault (comes_after-long s columns number below))

-- a record too many, or the end
pub last-Gives : (s : Layout) (columns : FoundColumns) (number : ℕ) (old : Left) (new : TextView)
    (ahead : KnownRest) → TakesNext old found.End new
    → Gives (after_header s columns number old) (Ok None) ahead
last-Gives s columns number None new ahead takes = tt
last-Gives s columns number (Some left) new ahead takes = rw takes refl

pub too_many-Gives : (s : Layout) (columns : FoundColumns) (number : ℕ) (old : Left) (new : TextView)
    (ahead : KnownRest) → nat_lt number s.max_records ≡ false → TakesNext old found.Record new
    → Gives (after_header s columns number old) (Err TooMany) ahead
too_many-Gives s columns number None new ahead full takes = tt
too_many-Gives s columns number (Some left) new ahead full takes =
    rw takes.1 (ap with_fault (comes_after-full s columns number new.fields takes.0 left.end full))

pub open_too_many-Gives : (s : Layout) (columns : FoundColumns) (number : ℕ) (old : Left) (new : TextView)
    (ahead : KnownRest) → nat_lt number s.max_records ≡ false → TakesNext old found.OpenQuote new
    → Gives (after_header s columns number old) (Err TooMany) ahead
open_too_many-Gives s columns number None new ahead full takes = tt
open_too_many-Gives s columns number (Some left) new ahead full takes =
    rw takes (ap with_fault (comes_after-full_cut s columns number InQuotes (λ same. cc same) full))

pub long_too_many-Gives : (s : Layout) (columns : FoundColumns) (number : ℕ) (old : Left) (new : TextView)
    (ahead : KnownRest) → nat_lt number s.max_records ≡ false → TakesNext old found.LongRecord new
    → Gives (after_header s columns number old) (Err TooMany) ahead
long_too_many-Gives s columns number None new ahead full takes = tt
long_too_many-Gives s columns number (Some left) new ahead full takes =
    rw takes (ap with_fault (comes_after-full_cut s columns number InLongRecord (λ same. cc same) full))

-- a fault of the reader or of memory may come at any time
pub reading-Gives : (ahead now : KnownRest) (fault : FeedFault) → IsReadingFault fault → Gives ahead (Err fault) now
reading-Gives None now fault is = tt
reading-Gives (Some ahead) now Memory is = tt
reading-Gives (Some ahead) now Read is = tt
reading-Gives (Some ahead) now Header is = absurd is
reading-Gives (Some ahead) now TooMany is = absurd is
reading-Gives (Some ahead) now (OpenQuote other) is = absurd is
reading-Gives (Some ahead) now (LongRecord other) is = absurd is

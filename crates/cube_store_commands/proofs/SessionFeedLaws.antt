-- A session over feeds is a run over the feeds with its changes behind them.
use Rattle.std.proofs.Common.{◌≡◌, ◌∙◌, ◌+◌, ◌<◌, ◌≤◌, ℕ, Bool, true, false, List, [], ◌∷◌, ◌++◌, length, ap}
use Rattle.std.proofs.Common.{drop, sym, subst, map, filter, refl, arith}
use Rattle.std.specs.Prelude.{◌==◌, ◌%◌, Option, Some, None, if◌then◌else◌}
use Rattle.std.specs.List.{last_or}
use Rattle.std.specs.Option.{option_map_or}
use Rattle.std.proofs.lemmas.Bool.{eq-eqb, eqb-true, lt-ltb}
use Rattle.std.proofs.lemmas.List.{append-nil, append_assoc}
use Rattle.cube_core.proofs.ArrivalLaws.{of_source-append}
use Rattle.cube_core.specs.Arrival.{Arrivals, of_source}
use Rattle.cube_core.specs.FeedRecords.{change_in_order, is_read, items_after}
use Rattle.cube_core.specs.Items.{field_at}
use Rattle.cube_core.specs.Layout.{Layout}
use Rattle.cube_core.specs.Plain.{plain_in_order}
use Rattle.cube_core.specs.Shard.{fnv_hash, whole_feed}
use Rattle.cube_core.specs.declared.change.Item.{Item}
use Rattle.cube_core.specs.declared.feed_columns.FoundColumns.TheVariants.{InOrder}
use Rattle.cube_live.specs.Live.{last_number, said_item}
use Rattle.cube_live.specs.Request.{question_of, source_of}
use Rattle.cube_live.specs.Session.{arrivals_after, arrivals_by, arrivals_changed}
use Rattle.cube_live.specs.declared.request.Request.{Request}
use Rattle.cube_live.specs.declared.request.Request.TheVariants.{Change, Ask, Wrong}
use Rattle.cube_store_commands.proofs.GoesOnLaws.{NoChange, NoChange-question_of}
use Rattle.cube_store_commands.specs.Changed.{changes_source, records_of_source}

-- a whole feed has each record
read-whole : (s : Layout) (fields : List (List ℕ)) → s.shard ≡ whole_feed → is_read s fields ≡ true
read-whole s fields whole = rw whole (eq-eqb (fnv_hash (field_at fields 1) % 1) 0 (omega arith))

-- the number of the last of items that end with this one
last_or-append : {A : Type 0} (o : Option A) (xs : List A) (x : A) → last_or o (xs ++ x ∷ []) ≡ Some x
last_or-append o [] x = refl
last_or-append o (y ∷ ys) x = last_or-append (Some y) ys x

last_number-append : (items : List Item) (item : Item) → last_number (items ++ item ∷ []) ≡ item.number
last_number-append items item =
    ap (λ (last : Option Item). option_map_or (λ (it : Item). it.number) last 0) (last_or-append None items item)

-- a record that is no change changes nothing
unchanged : (s : Layout) (arrivals : Arrivals) (request : Request) (fields : List (List ℕ)) → NoChange request
    → arrivals_by s arrivals request fields ≡ arrivals
unchanged s arrivals (Ask question) fields none = refl
unchanged s arrivals (Wrong fault) fields none = refl
unchanged s arrivals (Change source) fields none = absurd none

-- what a data record of a source and those behind it give of a whole feed, where the schema takes them
gives-more : (s : Layout) (number : ℕ) (fields : List (List ℕ)) (records : List (List (List ℕ)))
    → s.shard ≡ whole_feed → number < s.max_records
    → (items_after s InOrder number (fields ∷ records)).items
    ≡ record { number = number + 1; what = change_in_order s fields }
    ∷ (items_after s InOrder (number + 1) records).items
gives-more s number fields records whole below =
    rw (lt-ltb number s.max_records below, read-whole s (plain_in_order s fields) whole) refl

-- what a session has of a source behind what it began with
abbrev Goes : Layout → ℕ → Arrivals → List (List (List ℕ)) → Arrivals → Type 0
Goes s source start kept end = of_source end source ≡ of_source start source
    ++ (items_after s InOrder (last_number (of_source start source)) kept).items

-- the records of the source are at most as many as the schema takes
abbrev Fits : Layout → ℕ → Arrivals → List (List (List ℕ)) → Type 0
Fits s source start kept = last_number (of_source start source) + length kept ≤ s.max_records

-- a change of the source, and then the rest
own-change : (s : Layout) (source : ℕ) (start : Arrivals) (fields : List (List ℕ)) (records : List (List (List ℕ)))
    → s.shard ≡ whole_feed
    → ((next : Arrivals) → Fits s source next (records_of_source source records)
    → Goes s source next (records_of_source source records) (arrivals_after s next records))
    → Fits s source start (drop 1 fields ∷ records_of_source source records)
    → Goes s source start (drop 1 fields ∷ records_of_source source records)
    (arrivals_after s (arrivals_changed s start source (drop 1 fields)) records)
own-change s source start fields records whole rest fits =
    let before : ℕ = last_number (of_source start source) in
    let kept : List (List (List ℕ)) = records_of_source source records in
    let item : Item = said_item start source (change_in_order s (drop 1 fields)) in
    let next : Arrivals = start ++ (source, item) ∷ [] in
    let changed : arrivals_changed s start source (drop 1 fields) ≡ next =
    rw (read-whole s (drop 1 fields) whole) refl in
    let own : of_source next source ≡ of_source start source ++ item ∷ [] =
    of_source-append start ((source, item) ∷ []) source ∙ rw (eq-eqb source source refl) refl in
    let number : last_number (of_source next source) ≡ before + 1 =
    ap last_number own ∙ last_number-append (of_source start source) item in
    let more : (items_after s InOrder before (drop 1 fields ∷ kept)).items
    ≡ item ∷ (items_after s InOrder (before + 1) kept).items =
    gives-more s before (drop 1 fields) kept whole (omega (arith, fits)) in
    ap (λ (a : Arrivals). of_source (arrivals_after s a records) source) changed
    ∙ rest next (subst (λ (n : ℕ). n + length kept ≤ s.max_records) (sym number) (omega (arith, fits)))
    ∙ ap (λ (n : ℕ). of_source next source ++ (items_after s InOrder n kept).items) number
    ∙ ap (λ (items : List Item). items ++ (items_after s InOrder (before + 1) kept).items) own
    ∙ append_assoc (of_source start source) (item ∷ []) (items_after s InOrder (before + 1) kept).items
    ∙ ap (λ (items : List Item). of_source start source ++ items) (sym more)

-- a change of another source
other-change : (s : Layout) (source other : ℕ) (start : Arrivals) (fields : List (List ℕ))
    (records : List (List (List ℕ))) → s.shard ≡ whole_feed → (other == source) ≡ false
    → ((next : Arrivals) → Fits s source next (records_of_source source records)
    → Goes s source next (records_of_source source records) (arrivals_after s next records))
    → Fits s source start (records_of_source source records)
    → Goes s source start (records_of_source source records)
    (arrivals_after s (arrivals_changed s start other (drop 1 fields)) records)
other-change s source other start fields records whole differs rest fits =
    let kept : List (List (List ℕ)) = records_of_source source records in
    let item : Item = said_item start other (change_in_order s (drop 1 fields)) in
    let next : Arrivals = start ++ (other, item) ∷ [] in
    let changed : arrivals_changed s start other (drop 1 fields) ≡ next =
    rw (read-whole s (drop 1 fields) whole) refl in
    let same : of_source next source ≡ of_source start source =
    of_source-append start ((other, item) ∷ []) source ∙ rw differs (append-nil (of_source start source)) in
    ap (λ (a : Arrivals). of_source (arrivals_after s a records) source) changed
    ∙ rest next (subst (λ (items : List Item). last_number items + length kept ≤ s.max_records) (sym same) fits)
    ∙ ap (λ (items : List Item). items ++ (items_after s InOrder (last_number items) kept).items) same

go : (s : Layout) (source : ℕ) (start : Arrivals) (records : List (List (List ℕ))) → s.shard ≡ whole_feed
    → Fits s source start (records_of_source source records)
    → Goes s source start (records_of_source source records) (arrivals_after s start records)
go s source start [] whole fits = sym (append-nil (of_source start source))
go s source start (fields ∷ records) whole fits =
    by (λ next within. go s source next records whole within) (source_of (field_at fields 0)) fits
  where
    -- the records of the source, where the first of a session names this source or none
    kept : Option ℕ → List (List (List ℕ))
    kept named = map (drop 1)
        (if option_map_or (λ n. n == source) named false then fields ∷ filter (changes_source source) records
        else filter (changes_source source) records)

    after : Option ℕ → Arrivals
    after named =
        arrivals_after s (arrivals_by s start (option_map_or Change named (question_of s fields)) fields) records

    Rest : Type 0
    Rest = (next : Arrivals) → Fits s source next (records_of_source source records)
        → Goes s source next (records_of_source source records) (arrivals_after s next records)

    named-by : Rest → (n : ℕ) (test : Bool) → (n == source) ≡ test → Fits s source start (kept (Some n))
        → Goes s source start (kept (Some n)) (after (Some n))
    named-by rest n true is = subst (λ (k : ℕ). Fits s source start (kept (Some k))
        → Goes s source start (kept (Some k)) (after (Some k))) (sym (eqb-true n source is))
        (rw (eq-eqb source source refl) (own-change s source start fields records whole rest))
    named-by rest n false other = rw other (other-change s source n start fields records whole other rest)

    by : Rest → (named : Option ℕ) → Fits s source start (kept named) → Goes s source start (kept named) (after named)
    by rest None within = ap (λ (a : Arrivals). of_source (arrivals_after s a records) source)
        (unchanged s start (question_of s fields) fields (NoChange-question_of s fields)) ∙ rest start within
    by rest (Some n) within = named-by rest n (n == source) refl within

pub session_is_a_feed : (s : Layout) (start : Arrivals) (records : List (List (List ℕ))) (source : ℕ)
    → s.shard ≡ whole_feed
    → last_number (of_source start source) + length (records_of_source source records) ≤ s.max_records
    → of_source (arrivals_after s start records) source ≡ of_source start source
    ++ (items_after s InOrder (last_number (of_source start source)) (records_of_source source records)).items
session_is_a_feed s start records source whole fits = go s source start records whole fits

-- One feed taken in shards: what the accounts of all shards have together is what one account of the feed has.
use Rattle.std.proofs.Common.{◌≡◌, ◌≢◌, ◌<◌, ◌≤◌, ◌+◌, ◌==◌, ◌↔◌, ℕ, suc, Bool, true, false, not, List, [], ◌∷◌, ◌++◌}
use Rattle.std.proofs.Common.{length, filter, flat_map, get_or, refl, sym, ap, ◌∙◌, subst, arith, inl, inr, Contains}
use Rattle.std.proofs.Common.{append_assoc, Option, Some, None, IsSome, Result, Ok, Err, option_map, if◌then◌else◌}
use Rattle.std.specs.Prelude.{is_some}
use Rattle.std.specs.Cmp.Lexicographic.{nat_list_eq_equiv}
use Rattle.std.specs.List.{IsDistinct, cons_option}
use Rattle.std.specs.Option.{option_to_list}
use Rattle.std.specs.Str.{bytes_eq}
use Rattle.std.proofs.lemmas.Bool.{cases_Bool, eqb-true, eq-eqb, false≢true, false_from_ne_true}
use Rattle.std.proofs.lemmas.List.{append-nil, map-append}
use Rattle.std.proofs.lemmas.List.Elements.{Contains-append_left, Contains-append_right, Contains-append_cases}
use Rattle.std.proofs.lemmas.List.Elements.{Contains-get_or, filter-append}
use Rattle.std.proofs.lemmas.Map.Keys.{IsDistinct-head, IsDistinct-tail, IsDistinct-cons}
use Rattle.std.proofs.lemmas.Map.Views.{IsSome-lookup_from_Contains}
use Rattle.std.proofs.lemmas.Nat.{mod_below}
use Rattle.std.proofs.lemmas.Slice.Eq.{bytes_eq-Decides}
use Rattle.cube_core.specs.Layout.{Layout}
use Rattle.cube_core.specs.Life.{changes_of, from_insert, id_of, life_of, naming, since_delete, taken_change}
use Rattle.cube_core.specs.Refusals.{code_by_presence, code_of, refusal_of, refusals_of, shape_code}
use Rattle.cube_core.specs.Shard.{fnv_hash, shard_of}
use Rattle.cube_core.specs.Takes.{takes}
use Rattle.cube_core.specs.declared.change.Change.{Change}
use Rattle.cube_core.specs.declared.change.Item.{Item}
use Rattle.cube_core.specs.declared.change.LineFault.{LineFault}
use Rattle.cube_core.specs.declared.change.Refusal.{Refusal}
use Rattle.cube_core.specs.declared.fact.Fact.{Fact}
use Rattle.cube_core.proofs.ListLaws.{AllByRecursion-Contains, Contains-AllByRecursion, Contains-cases, Contains-head}
use Rattle.cube_core.proofs.ListLaws.{Contains-nil, Contains-tail, filter-failed, filter-passed, flat_map-Contains}
use Rattle.cube_core.proofs.RefusalLaws.{refusals_of-more}
use Rattle.cube_ledger.specs.Book.{Entries, IsBook, fact_at, ids_of}
use Rattle.cube_ledger.specs.Ledger.{AccountStandsAt, AccountView, new_account, refusal}
use Rattle.cube_build.specs.Sharded.{AreMerged, Rise, books_of, is_of_shard, last_of, numbers_of, refused_numbers}
use Rattle.cube_build.specs.Sharded.{shard_of_what}

-- ---- numbers that rise
pub Rise-push : (above : ℕ) (ns : List ℕ) (n : ℕ) → Rise above ns → last_of above ns < n → Rise above (ns ++ n ∷ [])
Rise-push above [] n rise below = (below, tt)
Rise-push above (m ∷ ns) n rise below = (rise.0, Rise-push m ns n rise.1 below)

pub last_of-push : (above : ℕ) (ns : List ℕ) (n : ℕ) → last_of above (ns ++ n ∷ []) ≡ n
last_of-push above [] n = refl
last_of-push above (m ∷ ns) n = last_of-push m ns n

-- each is above the number that all are above
Rise-above : (above : ℕ) (refusals : List Refusal) (one : Refusal) → Rise above (refused_numbers refusals)
    → Contains refusals one → above < one.number
Rise-above above [] one rise among = absurd (Contains-nil one among)
Rise-above above (first ∷ refusals) one rise among = elim (Contains-cases first refusals one among) [
  | inl same ↦ subst (λ (r : Refusal). above < r.number) same rise.0
  | inr after ↦ omega (arith, rise.0, Rise-above first.number refusals one rise.1 after)
]

-- refusals whose numbers rise are known by which they are
rise-same : (above low : ℕ) (xs ys : List Refusal) → Rise above (refused_numbers xs) → Rise low (refused_numbers ys)
    → ((one : Refusal) → Contains xs one ↔ Contains ys one) → xs ≡ ys
rise-same above low [] [] up up_too same = refl
rise-same above low [] (y ∷ ys) up up_too same = absurd (Contains-nil y ((same y).1 (Contains-head y ys)))
rise-same above low (x ∷ xs) [] up up_too same = absurd (Contains-nil x ((same x).0 (Contains-head x xs)))
rise-same above low (x ∷ xs) (y ∷ ys) up up_too same =
    let first : x ≡ y = elim (Contains-cases y ys x ((same x).0 (Contains-head x xs))) [
      | inl is ↦ sym is
      | inr after ↦ elim (Contains-cases x xs y ((same y).1 (Contains-head y ys))) [
        | inl is ↦ is
        | inr later ↦ absurd (omega (
          arith,
          Rise-above y.number ys x up_too.1 after,
          Rise-above x.number xs y up.1 later,
        ))
      ]
    ] in
    let number : x.number ≡ y.number = ap (λ (r : Refusal). r.number) first in
    let rest : xs ≡ ys = rise-same x.number y.number xs ys up.1 up_too.1 (λ one. (
      λ among. elim (Contains-cases y ys one ((same one).0 (Contains-tail x xs one among))) [
        | inl is ↦ absurd (omega (
          arith,
          Rise-above x.number xs one up.1 among,
          number,
          ap (λ (r : Refusal). r.number) is,
        ))
        | inr after ↦ after
      ],
      λ among. elim (Contains-cases x xs one ((same one).1 (Contains-tail y ys one among))) [
        | inl is ↦ absurd (omega (
          arith,
          Rise-above y.number ys one up_too.1 among,
          number,
          ap (λ (r : Refusal). r.number) is,
        ))
        | inr after ↦ after
      ],
    )) in
    λ i. first i ∷ rest i

-- ---- lists of lists
Contains-flat : {X Y : Type 0} (f : X → List Y) (xs : List X) (d : X) (y : Y) → Contains (flat_map f xs) y
    → (i : ℕ) × (i < length xs) × Contains (f (get_or xs i d)) y
Contains-flat f [] d y among = absurd (Contains-nil y among)
Contains-flat f (x ∷ xs) d y among = elim (Contains-append_cases (f x) (flat_map f xs) y among) [
  | inl here ↦ (0, omega arith, here)
  | inr after ↦ let at = Contains-flat f xs d y after in (suc at.0, omega (arith, at.1), at.2)
]

-- ---- the items of a shard
module _ (count : ℕ) where
  abbrev pub of_place : ℕ → List Item → List Item
  of_place place items = filter (is_of_shard count place) items

  -- one item more, of the shard and of another
  pub of_place-here : (place : ℕ) (items : List Item) (item : Item) → is_of_shard count place item ≡ true
      → of_place place (items ++ item ∷ []) ≡ of_place place items ++ item ∷ []
  of_place-here place items item is =
      filter-append (is_of_shard count place) items (item ∷ [])
      ∙ ap (λ more. of_place place items ++ more) (filter-passed (is_of_shard count place) item [] is)

  pub of_place-other : (place : ℕ) (items : List Item) (item : Item) → is_of_shard count place item ≡ false
      → of_place place (items ++ item ∷ []) ≡ of_place place items
  of_place-other place items item is =
      filter-append (is_of_shard count place) items (item ∷ [])
      ∙ ap (λ more. of_place place items ++ more) (filter-failed (is_of_shard count place) item [] is)
      ∙ append-nil (of_place place items)

module _ (s : Layout) (count : ℕ) where
  -- ---- lives
  -- what an item says names no id of another shard
  names-none : (id : List ℕ) (what : Result Change LineFault) (changes : List Change)
      → ((change : Change) → what ≡ Ok change → shard_of count id ≢ shard_of count (id_of change))
      → naming id (cons_option (taken_change s what) changes) ≡ naming id changes
  names-none id (Err fault) changes apart = refl
  names-none id (Ok change) changes apart = elim (cases_Bool (takes s change)) [
    | inl taken ↦ rw taken (filter-failed (λ (c : Change). bytes_eq id (id_of c)) change changes
        (false_from_ne_true (bytes_eq id (id_of change)) (λ same.
        apart change refl (ap (shard_of count) ((bytes_eq-Decides id (id_of change)).0 same)))))
    | inr untaken ↦ rw untaken refl
  ]

  -- one change more, or none, before changes that name an id alike
  names-alike : (id : List ℕ) (change : Option Change) (xs ys : List Change) → naming id xs ≡ naming id ys
      → naming id (cons_option change xs) ≡ naming id (cons_option change ys)
  names-alike id None xs ys same = same
  names-alike id (Some c) xs ys same =
      filter-append (λ (change : Change). bytes_eq id (id_of change)) (c ∷ []) xs
      ∙ ap (λ named. naming id (c ∷ []) ++ named) same
      ∙ sym (filter-append (λ (change : Change). bytes_eq id (id_of change)) (c ∷ []) ys)

  says-shard : (place : ℕ) (what : Result Change LineFault) (change : Change) (b : Bool)
      → (shard_of_what count what == place) ≡ b → what ≡ Ok change → (shard_of count (id_of change) == place) ≡ b
  says-shard place what change b is says = ap (λ (w : Result Change LineFault). shard_of_what count w == place) (sym says) ∙ is

  naming-inside : (place : ℕ) (id : List ℕ) (items : List Item) → (shard_of count id == place) ≡ true
      → naming id (changes_of s (of_place count place items)) ≡ naming id (changes_of s items)
  naming-inside place id [] inside = refl
  naming-inside place id (item ∷ items) inside = elim (cases_Bool (is_of_shard count place item)) [
    | inl kept ↦
        ap (λ l. naming id (changes_of s l)) (filter-passed (is_of_shard count place) item items kept)
        ∙ names-alike id (taken_change s item.what) (changes_of s (of_place count place items)) (changes_of s items)
        (naming-inside place id items inside)
    | inr left ↦
        ap (λ l. naming id (changes_of s l)) (filter-failed (is_of_shard count place) item items left)
        ∙ naming-inside place id items inside
        ∙ sym (names-none id item.what (changes_of s items) (λ change says same.
        false≢true (sym (says-shard place item.what change false left says)
        ∙ ap (λ n. n == place) (sym same) ∙ inside)))
  ]

  naming-outside : (place : ℕ) (id : List ℕ) (items : List Item) → (shard_of count id == place) ≡ false
      → naming id (changes_of s (of_place count place items)) ≡ []
  naming-outside place id [] outside = refl
  naming-outside place id (item ∷ items) outside = elim (cases_Bool (is_of_shard count place item)) [
    | inl kept ↦
        ap (λ l. naming id (changes_of s l)) (filter-passed (is_of_shard count place) item items kept)
        ∙ names-none id item.what (changes_of s (of_place count place items)) (λ change says same.
        false≢true (sym outside ∙ ap (λ n. n == place) same ∙ says-shard place item.what change true kept says))
        ∙ naming-outside place id items outside
    | inr left ↦
        ap (λ l. naming id (changes_of s l)) (filter-failed (is_of_shard count place) item items left)
        ∙ naming-outside place id items outside
  ]

  -- an id's life in its shard is its life in all changes, and in another shard it has none
  life-inside : (place : ℕ) (id : List ℕ) (items : List Item) → (shard_of count id == place) ≡ true
      → life_of id (changes_of s (of_place count place items)) ≡ life_of id (changes_of s items)
  life-inside place id items inside =
      ap (λ named. from_insert (since_delete named)) (naming-inside place id items inside)

  life-outside : (place : ℕ) (id : List ℕ) (items : List Item) → (shard_of count id == place) ≡ false
      → life_of id (changes_of s (of_place count place items)) ≡ None
  life-outside place id items outside =
      ap (λ named. from_insert (since_delete named)) (naming-outside place id items outside)

  -- ---- refusals
  code_of-part : (place : ℕ) (items : List Item) (what : Result Change LineFault)
      → (shard_of_what count what == place) ≡ true → code_of s (of_place count place items) what ≡ code_of s items what
  code_of-part place items (Err fault) inside = refl
  code_of-part place items (Ok change) inside =
      ap (λ (life : Option Fact). if not (takes s change) then Some (shape_code s)
      else code_by_presence s change (is_some life)) (life-inside place (id_of change) items inside)

  -- the refusals of a shard after one item more
  refused-here : (place : ℕ) (before : List Item) (item : Item) → is_of_shard count place item ≡ true
      → refusals_of s (of_place count place (before ++ item ∷ []))
      ≡ refusals_of s (of_place count place before) ++ option_to_list (refusal_of s before item)
  refused-here place before item inside =
      ap (refusals_of s) (of_place-here count place before item inside)
      ∙ refusals_of-more s (of_place count place before) item
      ∙ ap (λ code. refusals_of s (of_place count place before) ++ option_to_list (option_map (refusal item.number) code))
      (code_of-part place before item.what inside)

  -- a shard refuses this
  abbrev IsRefusedIn : List Item → Refusal → ℕ → Type 0
  IsRefusedIn items one place = Contains (refusals_of s (of_place count place items)) one

  -- what a shard refuses is refused, and the other way round
  abbrev RefuseAlike : List Item → Type 0
  RefuseAlike items = (one : Refusal) →
      (Contains (refusals_of s items) one → (place : ℕ) × (place < count) × IsRefusedIn items one place)
      × ((place : ℕ) → IsRefusedIn items one place → Contains (refusals_of s items) one)

  RefuseAlike-more : 1 ≤ count → (before : List Item) (item : Item) → RefuseAlike before
      → RefuseAlike (before ++ item ∷ [])
  RefuseAlike-more some before item alike one = (to, from)
    where
      new : List Refusal
      new = option_to_list (refusal_of s before item)

      after : refusals_of s (before ++ item ∷ []) ≡ refusals_of s before ++ new
      after = refusals_of-more s before item

      own : ℕ
      own = shard_of_what count item.what

      own-below : (what : Result Change LineFault) → shard_of_what count what < count
      own-below (Ok change) = mod_below (fnv_hash (id_of change)) count some
      own-below (Err fault) = some

      still : (place : ℕ) → IsRefusedIn before one place → IsRefusedIn (before ++ item ∷ []) one place
      still place among = elim (cases_Bool (is_of_shard count place item)) [
        | inl here ↦ subst (λ rs. Contains rs one) (sym (refused-here place before item here))
            (Contains-append_left (refusals_of s (of_place count place before)) new one among)
        | inr other ↦
            subst (λ l. Contains (refusals_of s l) one) (sym (of_place-other count place before item other)) among
      ]

      to : Contains (refusals_of s (before ++ item ∷ [])) one
          → (place : ℕ) × (place < count) × IsRefusedIn (before ++ item ∷ []) one place
      to among =
          elim (Contains-append_cases (refusals_of s before) new one (subst (λ rs. Contains rs one) after among)) [
            | inl was ↦ let at = (alike one).0 was in (at.0, at.1, still at.0 at.2)
            | inr now ↦ (
              own,
              own-below item.what,
              subst (λ rs. Contains rs one) (sym (refused-here own before item (eq-eqb own own refl)))
                  (Contains-append_right (refusals_of s (of_place count own before)) new one now),
            )
          ]

      from : (place : ℕ) → IsRefusedIn (before ++ item ∷ []) one place
          → Contains (refusals_of s (before ++ item ∷ [])) one
      from place among = subst (λ rs. Contains rs one) (sym after) (elim (cases_Bool (is_of_shard count place item)) [
        | inl here ↦
            elim (Contains-append_cases (refusals_of s (of_place count place before)) new one
            (subst (λ rs. Contains rs one) (refused-here place before item here) among)) [
              | inl was ↦ Contains-append_left (refusals_of s before) new one ((alike one).1 place was)
              | inr now ↦ Contains-append_right (refusals_of s before) new one now
            ]
        | inr other ↦
            Contains-append_left (refusals_of s before) new one ((alike one).1 place
            (subst (λ l. Contains (refusals_of s l) one) (of_place-other count place before item other) among))
      ])

  RefuseAlike-all : 1 ≤ count → (before items : List Item) → RefuseAlike before → RefuseAlike (before ++ items)
  RefuseAlike-all some before [] alike = subst RefuseAlike (sym (append-nil before)) alike
  RefuseAlike-all some before (item ∷ items) alike =
      subst RefuseAlike (append_assoc before (item ∷ []) items)
      (RefuseAlike-all some (before ++ item ∷ []) items (RefuseAlike-more some before item alike))

  -- the numbers of refusals rise as those of the items do
  record RefusedRise (items : List Item) : Type 0 where
    rise : Rise 0 (refused_numbers (refusals_of s items))
    last : last_of 0 (refused_numbers (refusals_of s items)) ≤ last_of 0 (numbers_of items)

  refused-push : (refusals : List Refusal) (number : ℕ) (code : Option ℕ) → Rise 0 (refused_numbers refusals)
      → last_of 0 (refused_numbers refusals) < number
      → Rise 0 (refused_numbers (refusals ++ option_to_list (option_map (refusal number) code)))
      × (last_of 0 (refused_numbers (refusals ++ option_to_list (option_map (refusal number) code))) ≤ number)
  refused-push refusals number None rise below = rw (append-nil refusals) (rise, omega (arith, below))
  refused-push refusals number (Some code) rise below =
      rw (map-append (λ (r : Refusal). r.number) refusals (refusal number code ∷ [])) (
        Rise-push 0 (refused_numbers refusals) number rise below,
        omega (arith, last_of-push 0 (refused_numbers refusals) number),
      )

  last-number : (before : List Item) (item : Item) → last_of 0 (numbers_of (before ++ item ∷ [])) ≡ item.number
  last-number before item =
      ap (last_of 0) (map-append (λ (i : Item). i.number) before (item ∷ []))
      ∙ last_of-push 0 (numbers_of before) item.number

  RefusedRise-all : (before items : List Item) → RefusedRise before
      → Rise (last_of 0 (numbers_of before)) (numbers_of items) → RefusedRise (before ++ items)
  RefusedRise-all before [] rises up = subst RefusedRise (sym (append-nil before)) rises
  RefusedRise-all before (item ∷ items) rises up =
      let more = refused-push (refusals_of s before) item.number (code_of s before item.what) rises.rise
      (omega (arith, rises.last, up.0)) in
      let after = refusals_of-more s before item in
      let next : RefusedRise (before ++ item ∷ []) = record {
        rise = subst (λ rs. Rise 0 (refused_numbers rs)) (sym after) more.0;
        last = subst (λ n. last_of 0 (refused_numbers (refusals_of s (before ++ item ∷ []))) ≤ n)
            (sym (last-number before item))
            (subst (λ rs. last_of 0 (refused_numbers rs) ≤ item.number) (sym after) more.1);
      } in
      subst RefusedRise (append_assoc before (item ∷ []) items)
      (RefusedRise-all (before ++ item ∷ []) items next
      (subst (λ n. Rise n (numbers_of items)) (sym (last-number before item)) up.1))

  -- ---- books, one after the other
  -- the accounts from a place on stand at the items of their shards
  abbrev StandFrom : List Item → ℕ → List AccountView → Type 0
  StandFrom items start accounts = (place : ℕ) → place < length accounts
      → AccountStandsAt s (of_place count (start + place) items) (get_or accounts place new_account)

  StandFrom-tail : (items : List Item) (start : ℕ) (a : AccountView) (accounts : List AccountView)
      → StandFrom items start (a ∷ accounts) → StandFrom items (start + 1) accounts
  StandFrom-tail items start a accounts each place below =
      subst (λ n. AccountStandsAt s (of_place count n items) (get_or accounts place new_account))
      (omega arith) (each (suc place) (omega (arith, below)))

  StandFrom-head : (items : List Item) (start : ℕ) (a : AccountView) (accounts : List AccountView)
      → StandFrom items start (a ∷ accounts) → AccountStandsAt s (of_place count start items) a
  StandFrom-head items start a accounts each =
      subst (λ n. AccountStandsAt s (of_place count n items) a) (omega arith) (each 0 (omega arith))

  -- an id is in the book of its shard alone
  book-outside : (items : List Item) (place : ℕ) (a : AccountView) (id : List ℕ)
      → AccountStandsAt s (of_place count place items) a → shard_of count id ≢ place → fact_at a.book id ≡ None
  book-outside items place a id stands apart =
      stands.facts id
      ∙ life-outside place id items
      (false_from_ne_true (shard_of count id == place) (λ same. apart (eqb-true (shard_of count id) place same)))

  fact_at-second : (xs ys : Entries) (id : List ℕ) → fact_at xs id ≡ None → fact_at (xs ++ ys) id ≡ fact_at ys id
  fact_at-second [] ys id none = refl
  fact_at-second (x ∷ xs) ys id none = elim (cases_Bool (bytes_eq id x.0)) [
    | inl same ↦ cc (rw same at none)
    | inr other ↦ rw other (fact_at-second xs ys id (rw other at none))
  ]

  fact_at-first : (xs ys : Entries) (id : List ℕ) → fact_at ys id ≡ None → fact_at (xs ++ ys) id ≡ fact_at xs id
  fact_at-first [] ys id none = none
  fact_at-first (x ∷ xs) ys id none = elim (cases_Bool (bytes_eq id x.0)) [
    | inl same ↦ rw same refl
    | inr other ↦ rw other (fact_at-first xs ys id none)
  ]

  books-outside : (items : List Item) (start : ℕ) (accounts : List AccountView) (id : List ℕ)
      → StandFrom items start accounts → shard_of count id < start → fact_at (books_of accounts) id ≡ None
  books-outside items start [] id each below = refl
  books-outside items start (a ∷ accounts) id each below =
      fact_at-second a.book (books_of accounts) id
      (book-outside items start a id (StandFrom-head items start a accounts each)
      (λ same. absurd (omega (arith, same, below))))
      ∙ books-outside items (start + 1) accounts id (StandFrom-tail items start a accounts each) (omega (arith, below))

  books-inside : (items : List Item) (start : ℕ) (accounts : List AccountView) (id : List ℕ)
      → StandFrom items start accounts → start ≤ shard_of count id → shard_of count id < start + length accounts
      → fact_at (books_of accounts) id ≡ life_of id (changes_of s items)
  books-inside items start [] id each from below = absurd (omega (arith, from, below))
  books-inside items start (a ∷ accounts) id each from below = elim (cases_Bool (shard_of count id == start)) [
    | inl here ↦
        fact_at-first a.book (books_of accounts) id
        (books-outside items (start + 1) accounts id (StandFrom-tail items start a accounts each)
        (omega (arith, eqb-true (shard_of count id) start here)))
        ∙ (StandFrom-head items start a accounts each).facts id
        ∙ life-inside start id items here
    | inr after ↦
        let apart : shard_of count id ≢ start =
        λ same. false≢true (sym after ∙ eq-eqb (shard_of count id) start same) in
        fact_at-second a.book (books_of accounts) id
        (book-outside items start a id (StandFrom-head items start a accounts each) apart)
        ∙ books-inside items (start + 1) accounts id (StandFrom-tail items start a accounts each)
        (omega (arith, from, apart)) (omega (arith, below))
  ]

  -- ids that differ, and others that differ, none of which is among the first
  apart-append : (xs ys : List (List ℕ)) → IsDistinct bytes_eq xs → IsDistinct bytes_eq ys
      → ((id : List ℕ) → Contains xs id → Contains ys id → ⊥) → IsDistinct bytes_eq (xs ++ ys)
  apart-append [] ys once_x once_y apart = once_y
  apart-append (x ∷ xs) ys once_x once_y apart =
      IsDistinct-cons bytes_eq x (xs ++ ys)
      (Contains-AllByRecursion (λ y. bytes_eq x y ≡ false)
      (xs ++ ys) (λ y inside. elim (Contains-append_cases xs ys y inside) [
        | inl left ↦ AllByRecursion-Contains (λ y. bytes_eq x y ≡ false) xs y (IsDistinct-head bytes_eq x xs once_x) left
        | inr right ↦ elim (cases_Bool (bytes_eq x y)) [
          | inl same ↦ absurd (apart x (Contains-head x xs)
              (subst (Contains ys) (sym ((bytes_eq-Decides x y).0 same)) right))
          | inr differs ↦ differs
        ]
      ]))
      (apart-append xs ys (IsDistinct-tail bytes_eq x xs once_x) once_y
      (λ id left right. apart id (Contains-tail x xs id left) right))

  -- an id that has no fact in a book is none of its ids
  not-among : (book : Entries) (id : List ℕ) → fact_at book id ≡ None → Contains (ids_of book) id → ⊥
  not-among book id none among =
      cc (subst (λ (o : Option Fact). IsSome o) none (IsSome-lookup_from_Contains nat_list_eq_equiv id book among))

  books-once : (items : List Item) (start : ℕ) (accounts : List AccountView) → StandFrom items start accounts
      → IsBook (books_of accounts)
  unfolding IsDistinct
  books-once items start [] each = tt
  books-once items start (a ∷ accounts) each =
      let here = StandFrom-head items start a accounts each in
      let tail = StandFrom-tail items start a accounts each in
      rw (map-append (λ (e : List ℕ × Fact). e.0) a.book (books_of accounts)) (apart-append (ids_of a.book)
      (ids_of (books_of accounts)) here.each_once (books-once items (start + 1) accounts tail)
      (λ id left right. elim (cases_Bool (shard_of count id == start)) [
        | inl inside ↦ not-among (books_of accounts) id (books-outside items (start + 1) accounts id tail
            (omega (arith, eqb-true (shard_of count id) start inside))) right
        | inr outside ↦ not-among a.book id (here.facts id ∙ life-outside start id items outside) left
      ]))

  -- ---- the whole account
  -- where the account of each shard stands at its items, whose numbers rise, that with all their facts, and with their
  -- refusals in the order of their numbers, stands at all items
  pub united-stands : (items : List Item) (accounts : List AccountView) (refusals : List Refusal) → 1 ≤ count
      → length accounts ≡ count → StandFrom items 0 accounts → Rise 0 (numbers_of items)
      → AreMerged accounts refusals
      → AccountStandsAt s items (record { book = books_of accounts; refusals = refusals })
  united-stands items accounts refusals some long each up merged = record {
    facts = λ id. books-inside items 0 accounts id each (omega arith)
        (omega (arith, long, mod_below (fnv_hash id) count some));
    each_once = books-once items 0 accounts each;
    refused = rise-same 0 0 refusals (refusals_of s items) merged.rise
        (RefusedRise-all [] items (record { rise = tt; last = omega arith }) up).rise same;
  } where
    alike : RefuseAlike items
    alike = RefuseAlike-all some [] items (λ one. (
      λ among. absurd (Contains-nil one among),
      λ place among. absurd (Contains-nil one among),
    ))

    at-place : (place : ℕ) → place < length accounts
        → (get_or accounts place new_account).refusals ≡ refusals_of s (of_place count place items)
    at-place place below = subst (λ n. (get_or accounts place new_account).refusals ≡ refusals_of s (of_place count n items))
        (omega arith) (each place below).refused

    same : (one : Refusal) → Contains refusals one ↔ Contains (refusals_of s items) one
    same one = (
      λ among.
          let at = Contains-flat (λ (a : AccountView). a.refusals) accounts new_account one ((merged.same one).0 among) in
          (alike one).1 at.0 (subst (λ rs. Contains rs one) (at-place at.0 at.1) at.2),
      λ among.
          let at = (alike one).0 among in
          let below : at.0 < length accounts = omega (arith, long, at.1) in
          (merged.same one).1 (flat_map-Contains (λ (a : AccountView). a.refusals) accounts
          (get_or accounts at.0 new_account) one (Contains-get_or accounts at.0 new_account below)
          (subst (λ rs. Contains rs one) (sym (at-place at.0 below)) at.2)),
    )

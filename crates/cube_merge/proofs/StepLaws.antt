-- How a merge goes on by one row.
use Rattle.std.proofs.Common.{◌≡◌, ◌++◌, ◌+◌, ◌<◌, ◌⊎◌, ◌∷◌, [], ℕ, zero, suc, Bool, true, false, List, Option, Some}
use Rattle.std.proofs.Common.{None, Contains, map, length, get_or, refl, sym, ap, ◌∙◌, subst, arith, length-append, inl}
use Rattle.std.proofs.Common.{inr, flat_map, append_assoc, option_to_list, IsPermutation}
use Rattle.std.specs.declared.cmp.Ordering.TheVariants.{Less}
use Rattle.std.specs.Prelude.{IfSome}
use Rattle.std.specs.Prelude.{◌==◌}
use Rattle.std.specs.List.{list_all, AllByRecursion, AllZip}
use Rattle.std.specs.List.Sorted.{IsStrictlySortedBy}
use Rattle.std.specs.Io.KnownBytes.{Consumes, IsAtEnd}
use Rattle.std.proofs.KnownBytes.{Consumes-trans}
use Rattle.std.proofs.lemmas.Bool.{and_from, eq-eqb}
use Rattle.std.proofs.lemmas.Grind.{flat_map-append}
use Rattle.std.proofs.lemmas.List.{append-nil, map-append}
use Rattle.std.proofs.lemmas.List.Elements.{Contains-append_cases, Contains-append_right}
use Rattle.std.proofs.lemmas.List.Sorted.{IsPermutation-refl, IsPermutation-trans, IsPermutation-append_left}
use Rattle.std.proofs.lemmas.List.Sorted.{IsPermutation-append_right, IsPermutation-append_comm}
use Rattle.cube_core.specs.Cube.{is_total, key_of}
use Rattle.cube_core.specs.GroupingSet.{is_all_coord}
use Rattle.cube_core.specs.Layout.{Layout, number_of_dimensions}
use Rattle.cube_core.specs.Merged.{AreMerged, IsMerged}
use Rattle.cube_core.specs.Order.{key_cmp}
use Rattle.cube_core.specs.Text.{row_line}
use Rattle.cube_core.specs.declared.aggregate.Agg.{Agg}
use Rattle.cube_core.specs.declared.key.Key.{Key}
use Rattle.cube_core.specs.declared.key.Row.{Row}
use Rattle.cube_core.proofs.KeyOrderLaws.{key_cmp-IsTotalOrder}
use Rattle.cube_core.proofs.ListLaws.{Contains-nil, Contains-cases, Contains-head, AllByRecursion-Contains}
use Rattle.cube_merge.specs.Lawful.{IsRightRow}
use Rattle.cube_merge.specs.Range.{AreInRange}
use Rattle.cube_merge.specs.Merging.{AreOfSchema, InputView, IsAbove, TakesLine, Moves, AllMove, IsUse, AreUses}
use Rattle.cube_merge.specs.Merging.{used_row, used_of_each, used_rows, Gave, IsCounted, IsEnded, IsBelow}
use Rattle.cube_merge.specs.Merging.{AreWhole, IsWhole, MayEnd}
use Rattle.cube_merge.specs.Merging.{AreInKeyOrder}
use Rattle.cube_merge.specs.Merging.{all_rows, nothing_left, IsMerging}
use Rattle.cube_merge.proofs.MergedLaws.{AllByRecursion-append, AreInRange-push, AreMerged-push, sorted-push}

-- one input that took a line, or stays
TakesLine-line : (s : Layout) (old new : InputView) → TakesLine s old new
    → Consumes old.left new.left (flat_map (row_line s) (option_to_list new.row))
TakesLine-line s old new moved = by_row new.row moved where
  by_row : (row : Option Row) → TakesLine s old (record { left = new.left; row = row; lines = new.lines })
      → Consumes old.left new.left (flat_map (row_line s) (option_to_list row))
  by_row None m = m.0
  by_row (Some row) m = subst (Consumes old.left new.left) (sym (append-nil (row_line s row))) m.0

pub Gave-Moves : (s : Layout) (start : Option (List ℕ)) (used : Bool) (old new : InputView) (rows : List Row)
    → Gave s start old rows → Moves s used old new → Gave s start new (rows ++ used_row used old)
Gave-Moves s start true old new rows gave moved =
    subst (Consumes start new.left)
    (sym (flat_map-append (row_line s) (rows ++ option_to_list old.row) (option_to_list new.row)))
    (Consumes-trans start old.left new.left _ _ gave (TakesLine-line s old new moved))
Gave-Moves s start false old new rows gave same =
    subst (λ (input : InputView). Gave s start input (rows ++ [])) (sym same)
    (subst (λ rs. Gave s start old rs) (sym (append-nil rows)) gave)

-- the last key is above those before it
last-above : (keys : List Key) (last key : Key) → IsStrictlySortedBy key_cmp (keys ++ last ∷ []) → Contains keys key
    → key_cmp key last ≡ Less
unfolding IsStrictlySortedBy
last-above [] last key sorted among = absurd (Contains-nil key among)
last-above (k ∷ keys) last key sorted among = elim (Contains-cases k keys key among) [
  | inl here ↦ ap (λ x. key_cmp x last) (sym here) ∙ AllByRecursion-Contains (λ y. key_cmp k y ≡ Less)
      (keys ++ last ∷ []) last sorted.0 (Contains-append_right keys (last ∷ []) last (Contains-head last []))
  | inr after ↦ last-above keys last key sorted.1 after
]

-- one more row of an input, above the one before
pub AreInKeyOrder-Moves : (s : Layout) (used : Bool) (old new : InputView) (rows : List Row) → (old.row ≡ None → rows ≡ [])
    → AreInKeyOrder old rows → Moves s used old new → AreInKeyOrder new (rows ++ used_row used old)
AreInKeyOrder-Moves s false old new rows first ordered same =
    subst (λ (input : InputView). AreInKeyOrder input (rows ++ [])) (sym same)
    (subst (λ rs. AreInKeyOrder old rs) (sym (append-nil rows)) ordered)
AreInKeyOrder-Moves s true old new rows first ordered moved = by_row new.row moved where
  under : (o : Option Row) (r : Row) → (o ≡ None → rows ≡ [])
      → IsStrictlySortedBy key_cmp (map key_of (rows ++ option_to_list o)) → IsAbove o r → (key : Key)
      → Contains (map key_of (rows ++ option_to_list o)) key → key_cmp key r.key ≡ Less
  under None r f sorted above key among =
      absurd (Contains-nil key (subst (λ rs. Contains (map key_of rs) key) (append-nil rows ∙ f refl) among))
  under (Some b) r f sorted above key among =
      let split = map-append key_of rows (b ∷ []) in
      elim (Contains-append_cases (map key_of rows) (b.key ∷ []) key (subst (λ keys. Contains keys key) split among)) [
        | inl old_key ↦ key_cmp-IsTotalOrder.trans key b.key r.key
            (last-above (map key_of rows) b.key key (subst (IsStrictlySortedBy key_cmp) split sorted) old_key) above
        | inr new_key ↦ elim (Contains-cases b.key [] key new_key) [
          | inl here ↦ ap (λ x. key_cmp x r.key) (sym here) ∙ above
          | inr none ↦ absurd (Contains-nil key none)
        ]
      ]

  by_row : (row : Option Row) → TakesLine s old (record { left = new.left; row = row; lines = new.lines })
      → IsStrictlySortedBy key_cmp (map key_of ((rows ++ option_to_list old.row) ++ option_to_list row))
  by_row None m = subst (λ rs. IsStrictlySortedBy key_cmp (map key_of rs))
      (sym (append-nil (rows ++ option_to_list old.row))) ordered
  by_row (Some r) m =
      subst (IsStrictlySortedBy key_cmp) (sym (map-append key_of (rows ++ option_to_list old.row) (r ∷ [])))
      (sorted-push (map key_of (rows ++ option_to_list old.row)) r.key ordered (under old.row r first ordered m.1))

-- one more row of an input is one of the schema
pub AreOfSchema-Moves : (s : Layout) (used : Bool) (old new : InputView) (rows : List Row) → AreOfSchema s old rows
    → Moves s used old new → AreOfSchema s new (rows ++ used_row used old)
AreOfSchema-Moves s false old new rows are same =
    subst (λ (input : InputView). AreOfSchema s input (rows ++ [])) (sym same)
    (subst (λ rs. AreOfSchema s old rs) (sym (append-nil rows)) are)
AreOfSchema-Moves s true old new rows are moved =
    AllByRecursion-append (IsRightRow s) (rows ++ option_to_list old.row) (option_to_list new.row) are
    (by_row new.row moved)
  where
    by_row : (row : Option Row) → TakesLine s old (record { left = new.left; row = row; lines = new.lines })
        → AllByRecursion (IsRightRow s) (option_to_list row)
    by_row None m = tt
    by_row (Some r) m = (m.3, tt)

-- an input whose line is used has a row
pub used-first : (s : Layout) (key : Key) (used : Bool) (old new : InputView) (rows : List Row) → IsUse key used old
    → AreInKeyOrder old rows → Moves s used old new → AreInKeyOrder new (rows ++ used_row used old)
used-first s key true old new rows is_use ordered moved =
    AreInKeyOrder-Moves s true old new rows
    (λ none. let clash : Some is_use.0 ≡ None = sym is_use.1 ∙ none in absurd (cc)) ordered moved
used-first s key false old new rows is_use ordered same =
    subst (λ (input : InputView). AreInKeyOrder input (rows ++ [])) (sym same)
    (subst (λ rs. AreInKeyOrder old rs) (sym (append-nil rows)) ordered)

-- an input without a row has nothing to count
none-counted : (input : InputView) (rows : List Row) → input.row ≡ None → IsCounted input rows
none-counted input rows none = subst (λ o. IfSome o (λ (_ : Row). input.lines ≡ length rows + 2)) (sym none) tt

-- the row of an input is counted behind the rows that it gave
counted-Moves : (s : Layout) (key : Key) (used : Bool) (old new : InputView) (rows : List Row) → IsUse key used old
    → IsCounted old rows → Moves s used old new → IsCounted new (rows ++ used_row used old)
counted-Moves s key false old new rows is_use counted same =
    subst (λ (input : InputView). IsCounted input (rows ++ [])) (sym same)
    (subst (λ rs. IsCounted old rs) (sym (append-nil rows)) counted)
counted-Moves s key true old new rows is_use counted moved = by_row new.row moved where
  by_row : (row : Option Row) → TakesLine s old (record { left = new.left; row = row; lines = new.lines })
      → IfSome row (λ _. new.lines ≡ length (rows ++ option_to_list old.row) + 2)
  by_row None m = tt
  by_row (Some r) m =
      let before : old.lines ≡ length rows + 2 =
      subst (λ o. IfSome o (λ (_ : Row). old.lines ≡ length rows + 2)) is_use.1 counted in
      let long : length (rows ++ option_to_list old.row) ≡ length rows + length (is_use.0 ∷ []) =
      ap (λ o. length (rows ++ option_to_list o)) is_use.1 ∙ length-append rows (is_use.0 ∷ []) in
      let more : new.lines ≡ old.lines + 1 = m.2 in
      omega (arith, more, before, long)

-- the first row of an input is that of its second line
counted-first : (s : Layout) (used : Bool) (old new : InputView) → old.row ≡ None → old.lines ≡ 1 → Moves s used old new
    → IsCounted new []
counted-first s false old new none one same =
    subst (λ (input : InputView). IsCounted input []) (sym same) (none-counted old [] none)
counted-first s true old new none one moved = by_row new.row moved where
  by_row : (row : Option Row) → TakesLine s old (record { left = new.left; row = row; lines = new.lines })
      → IfSome row (λ _. new.lines ≡ 2)
  by_row None m = tt
  by_row (Some r) m = let more : new.lines ≡ old.lines + 1 = m.2 in omega (arith, more, one)

-- lists joined each with the one at its place
join_each : List (List Row) → List (List Row) → List (List Row)
join_each [] gains = []
join_each (c ∷ cs) [] = []
join_each (c ∷ cs) (g ∷ gs) = (c ++ g) ∷ join_each cs gs

join_each-at : (cubes gains : List (List Row)) (k : ℕ) → length cubes ≡ length gains
    → get_or (join_each cubes gains) k [] ≡ get_or cubes k [] ++ get_or gains k []
unfolding join_each
join_each-at [] [] k same = refl
join_each-at [] (g ∷ gs) k same = absurd (omega (arith, same))
join_each-at (c ∷ cs) [] k same = absurd (omega (arith, same))
join_each-at (c ∷ cs) (g ∷ gs) zero same = refl
join_each-at (c ∷ cs) (g ∷ gs) (suc k) same = join_each-at cs gs k (omega (arith, same))

join_each-length : (cubes gains : List (List Row)) → length cubes ≡ length gains
    → length (join_each cubes gains) ≡ length cubes
unfolding join_each
join_each-length [] gains same = refl
join_each-length (c ∷ cs) [] same = absurd (omega (arith, same))
join_each-length (c ∷ cs) (g ∷ gs) same = ap suc (join_each-length cs gs (omega (arith, same)))

-- all rows of joined lists are those of both, in another order
join_each-all_rows : (cubes gains : List (List Row)) → length cubes ≡ length gains
    → IsPermutation (all_rows (join_each cubes gains)) (all_rows cubes ++ all_rows gains)
unfolding join_each
join_each-all_rows [] [] same = IsPermutation-refl []
join_each-all_rows [] (g ∷ gs) same = absurd (omega (arith, same))
join_each-all_rows (c ∷ cs) [] same = absurd (omega (arith, same))
join_each-all_rows (c ∷ cs) (g ∷ gs) same =
    let rest = join_each-all_rows cs gs (omega (arith, same)) in
    let swapped : IsPermutation (g ++ (all_rows cs ++ all_rows gs)) (all_rows cs ++ (g ++ all_rows gs))
    = subst (λ l. IsPermutation l (all_rows cs ++ (g ++ all_rows gs))) (append_assoc g (all_rows cs) (all_rows gs))
    (subst (λ l. IsPermutation ((g ++ all_rows cs) ++ all_rows gs) l) (append_assoc (all_rows cs) g (all_rows gs))
    (IsPermutation-append_left (all_rows gs) (g ++ all_rows cs) (all_rows cs ++ g)
    (IsPermutation-append_comm g (all_rows cs)))) in
    let inner : IsPermutation (g ++ all_rows (join_each cs gs)) (all_rows cs ++ (g ++ all_rows gs))
    = IsPermutation-trans _ _ _ (IsPermutation-append_right g _ _ rest) swapped in
    subst (λ l. IsPermutation l ((c ++ all_rows cs) ++ (g ++ all_rows gs)))
    (sym (append_assoc c g (all_rows (join_each cs gs))))
    (subst (λ l. IsPermutation (c ++ (g ++ all_rows (join_each cs gs))) l)
    (sym (append_assoc c (all_rows cs) (g ++ all_rows gs)))
    (IsPermutation-append_right c _ _ inner))

-- what is used at a place
used_of_each-at : (us : List Bool) (inputs : List InputView) (k : ℕ) → length us ≡ length inputs
    → get_or (used_of_each us inputs) k [] ≡ used_row (get_or us k false) (get_or inputs k nothing_left)
used_of_each-at [] [] k same = refl
used_of_each-at [] (i ∷ is) k same = absurd (omega (arith, same))
used_of_each-at (u ∷ us) [] k same = absurd (omega (arith, same))
used_of_each-at (u ∷ us) (i ∷ is) zero same = refl
used_of_each-at (u ∷ us) (i ∷ is) (suc k) same = used_of_each-at us is k (omega (arith, same))

used_of_each-length : (us : List Bool) (inputs : List InputView) → length us ≡ length inputs
    → length (used_of_each us inputs) ≡ length inputs
used_of_each-length [] [] same = refl
used_of_each-length [] (i ∷ is) same = absurd (omega (arith, same))
used_of_each-length (u ∷ us) [] same = absurd (omega (arith, same))
used_of_each-length (u ∷ us) (i ∷ is) same = ap suc (used_of_each-length us is (omega (arith, same)))

-- one more input that is used or not
pub used_rows-push : (us : List Bool) (inputs : List InputView) (u : Bool) (i : InputView) → length us ≡ length inputs
    → used_rows (us ++ u ∷ []) (inputs ++ i ∷ []) ≡ used_rows us inputs ++ used_row u i
used_rows-push [] [] u i same = append-nil (used_row u i)
used_rows-push [] (j ∷ is) u i same = absurd (omega (arith, same))
used_rows-push (v ∷ us) [] u i same = absurd (omega (arith, same))
used_rows-push (v ∷ us) (j ∷ is) u i same =
    ap (λ t. used_row v j ++ t) (used_rows-push us is u i (omega (arith, same)))
    ∙ sym (append_assoc (used_row v j) (used_rows us is) (used_row u i))

-- the rows that are used have the key
used_row-key : (key : Key) (u : Bool) (input : InputView) → IsUse key u input
    → AllByRecursion (λ (r : Row). r.key ≡ key) (used_row u input)
used_row-key key true input is_use =
    subst (λ o. AllByRecursion (λ (r : Row). r.key ≡ key) (option_to_list o)) (sym is_use.1) (is_use.2, tt)
used_row-key key false input is_use = tt

pub used_rows-key : (key : Key) (us : List Bool) (inputs : List InputView) → length us ≡ length inputs
    → AreUses key us inputs → AllByRecursion (λ (r : Row). r.key ≡ key) (used_rows us inputs)
used_rows-key key [] inputs same uses = tt
used_rows-key key (u ∷ us) [] same uses = absurd (omega (arith, same))
used_rows-key key (u ∷ us) (i ∷ is) same uses =
    AllByRecursion-append (λ (r : Row). r.key ≡ key) (used_row u i) (used_rows us is) (used_row-key key u i (uses 0))
    (used_rows-key key us is (omega (arith, same)) (λ k. uses (suc k)))

-- a key below every input's row is below the key that is used
pub below-used : (key low : Key) (us : List Bool) (inputs : List InputView) → length us ≡ length inputs
    → AreUses key us inputs → 0 < length (used_rows us inputs) → ((k : ℕ) → IsBelow low (get_or inputs k nothing_left))
    → key_cmp low key ≡ Less
below-used key low [] inputs same uses some below = absurd (omega (arith, some))
below-used key low (u ∷ us) [] same uses some below = absurd (omega (arith, same))
below-used key low (true ∷ us) (i ∷ is) same uses some below =
    let is_use = uses 0 in
    let under : key_cmp low is_use.0.key ≡ Less =
    subst (λ o. IfSome o (λ (r : Row). key_cmp low r.key ≡ Less)) is_use.1 (below 0) in
    ap (key_cmp low) (sym is_use.2) ∙ under
below-used key low (false ∷ us) (i ∷ is) same uses some below =
    below-used key low us is (omega (arith, same)) (λ k. uses (suc k)) some (λ k. below (suc k))

-- what is below the key that is used, and that key, is below the rows that come
pub below-Moves : (s : Layout) (key low : Key) (u : Bool) (old new : InputView) → (key_cmp low key ≡ Less) ⊎ (low ≡ key)
    → IsUse key u old → Moves s u old new → IsBelow low new
below-Moves s key low false old new under is_use same = subst (IsBelow low) (sym same) (by_row old.row is_use) where
  by_row : (row : Option Row) → IfSome row (λ (r : Row). key_cmp key r.key ≡ Less)
      → IfSome row (λ (r : Row). key_cmp low r.key ≡ Less)
  by_row None h = tt
  by_row (Some r) h = elim under [
    | inl less ↦ key_cmp-IsTotalOrder.trans low key r.key less h
    | inr is ↦ ap (λ k. key_cmp k r.key) is ∙ h
  ]
below-Moves s key low true old new under is_use moved = by_row new.row moved where
  by_row : (row : Option Row) → TakesLine s old (record { left = new.left; row = row; lines = new.lines })
      → IfSome row (λ (r : Row). key_cmp low r.key ≡ Less)
  by_row None m = tt
  by_row (Some r) m =
      let before = is_use.0 in
      let above : key_cmp key r.key ≡ Less =
      ap (λ k. key_cmp k r.key) (sym is_use.2) ∙ subst (λ o. IsAbove o r) is_use.1 m.1 in
      elim under [
        | inl less ↦ key_cmp-IsTotalOrder.trans low key r.key less above
        | inr is ↦ ap (λ k. key_cmp k r.key) is ∙ above
      ]

-- a row with as many coordinates as dimensions, each ALL, is the grand total
is_total-all : (dimensions : ℕ) (row : Row) → length row.key.coords ≡ dimensions
    → list_all is_all_coord row.key.coords ≡ true → is_total dimensions row.key ≡ true
is_total-all dimensions row long all =
    and_from (length row.key.coords == dimensions) (list_all is_all_coord row.key.coords) (eq-eqb _ _ long) all

-- rows of an input that took no further line are a whole cube's
AreWhole-end : (s : Layout) (rows : List Row) (last : Option Row)
    → AllByRecursion (IsRightRow s) (rows ++ option_to_list last) → MayEnd s last
    → AreWhole s (rows ++ option_to_list last)
AreWhole-end s rows None are may kept = absurd (may kept)
AreWhole-end s rows (Some row) are may kept = (
  rows,
  row,
  refl,
  is_total-all (number_of_dimensions s) row (AllByRecursion-Contains (IsRightRow s) (rows ++ row ∷ []) row are
      (Contains-append_right rows (row ∷ []) row (Contains-head row []))).lawful.coords (may kept),
)

-- an input that took no further line gave a whole cube's rows
pub IsWhole-Moves : (s : Layout) (used : Bool) (old new : InputView) (rows : List Row) → AreOfSchema s old rows
    → (used ≡ false → IsWhole s old rows) → Moves s used old new → IsWhole s new (rows ++ used_row used old)
IsWhole-Moves s false old new rows are whole same =
    subst (λ (input : InputView). IsWhole s input (rows ++ [])) (sym same)
    (subst (λ rs. IsWhole s old rs) (sym (append-nil rows)) (whole refl))
IsWhole-Moves s true old new rows are whole moved = by_row new.row moved where
  by_row : (row : Option Row) → TakesLine s old (record { left = new.left; row = row; lines = new.lines })
      → row ≡ None → AreWhole s (rows ++ option_to_list old.row)
  by_row None m e = AreWhole-end s rows old.row are m.2
  by_row (Some r) m e = absurd (cc)

told : (start old : Option (List ℕ)) (bs : List ℕ) (P : Type 0) → Consumes start old bs → IfSome old (λ _. P)
    → IfSome start (λ _. P)
told None old bs P c p = tt
told (Some x) None bs P c p = absurd c
told (Some x) (Some y) bs P c p = p

pub ended-Moves : (s : Layout) (start : Option (List ℕ)) (rows : List Row) (u : Bool) (old new : InputView)
    → Gave s start old rows → (u ≡ false → IsEnded start old) → Moves s u old new → IsEnded start new
ended-Moves s start rows false old new gave ended same = subst (IsEnded start) (sym same) (ended refl)
ended-Moves s start rows true old new gave ended moved =
    by_row new.row moved where
      by_row : (row : Option Row) → TakesLine s old (record { left = new.left; row = row; lines = new.lines })
          → row ≡ None → IfSome start (λ _. IsAtEnd new.left)
      by_row None m e = told start old.left _ (IsAtEnd new.left) gave m.1
      by_row (Some r) m e = absurd (cc)

-- a step: the rows with the least key make one more row, and each input whose line was used takes the next one
pub IsMerging-step : (given : Layout) (wanted : List Agg) (starts : List (Option (List ℕ))) (olds news : List InputView)
    (rows : List Row) (us : List Bool) (row : Row)
    → IsMerging given wanted starts olds rows → length us ≡ length olds → length news ≡ length olds
    → AreUses row.key us olds → 0 < length (used_rows us olds)
    → AllZip (IsMerged given.aggregates (used_rows us olds)) wanted row.answers
    → AreInRange given.aggregates (used_rows us olds) → AllMove given us olds news
    → IsMerging given wanted starts news (rows ++ row ∷ [])
IsMerging-step given wanted starts olds news rows us row m same same_news uses some answers fit moved =
    let gains = used_of_each us olds in
    let wide : length m.cubes ≡ length gains = m.width ∙ sym (used_of_each-length us olds same) in
    let under : (low : Key) → Contains (map key_of rows) low → key_cmp low row.key ≡ Less
    = λ low among. below-used row.key low us olds same uses some (m.below low among) in
    record {
      cubes = join_each m.cubes gains;
      parts = m.parts ++ used_rows us olds;
      width = join_each-length m.cubes gains wide ∙ m.width ∙ sym same_news;
      gave = λ k. subst (λ rs. Gave given (get_or starts k None) (get_or news k nothing_left) rs)
          (sym (join_each-at m.cubes gains k wide
          ∙ ap (λ g. get_or m.cubes k [] ++ g) (used_of_each-at us olds k same)))
          (Gave-Moves given (get_or starts k None) (get_or us k false) (get_or olds k nothing_left)
          (get_or news k nothing_left) (get_or m.cubes k []) (m.gave k) (moved k));
      ordered = λ k. subst (λ rs. AreInKeyOrder (get_or news k nothing_left) rs)
          (sym (join_each-at m.cubes gains k wide
          ∙ ap (λ g. get_or m.cubes k [] ++ g) (used_of_each-at us olds k same)))
          (used-first given row.key (get_or us k false) (get_or olds k nothing_left) (get_or news k nothing_left)
          (get_or m.cubes k []) (uses k) (m.ordered k) (moved k));
      of_schema = λ k. subst (λ rs. AreOfSchema given (get_or news k nothing_left) rs)
          (sym (join_each-at m.cubes gains k wide
          ∙ ap (λ g. get_or m.cubes k [] ++ g) (used_of_each-at us olds k same)))
          (AreOfSchema-Moves given (get_or us k false) (get_or olds k nothing_left) (get_or news k nothing_left)
          (get_or m.cubes k []) (m.of_schema k) (moved k));
      counted = λ k. subst (λ rs. IsCounted (get_or news k nothing_left) rs)
          (sym (join_each-at m.cubes gains k wide
          ∙ ap (λ g. get_or m.cubes k [] ++ g) (used_of_each-at us olds k same)))
          (counted-Moves given row.key (get_or us k false) (get_or olds k nothing_left) (get_or news k nothing_left)
          (get_or m.cubes k []) (uses k) (m.counted k) (moved k));
      ended = λ k. ended-Moves given (get_or starts k None) (get_or m.cubes k []) (get_or us k false)
          (get_or olds k nothing_left) (get_or news k nothing_left) (m.gave k) (λ _. m.ended k) (moved k);
      whole = λ k below. subst (λ rs. IsWhole given (get_or news k nothing_left) rs)
          (sym (join_each-at m.cubes gains k wide
          ∙ ap (λ g. get_or m.cubes k [] ++ g) (used_of_each-at us olds k same)))
          (IsWhole-Moves given (get_or us k false) (get_or olds k nothing_left) (get_or news k nothing_left)
          (get_or m.cubes k []) (m.of_schema k) (λ _. m.whole k (subst (λ n. k < n) same_news below)) (moved k));
      drawn = IsPermutation-trans _ _ _ (join_each-all_rows m.cubes gains wide)
          (IsPermutation-append_left (used_rows us olds) _ _ m.drawn);
      merged = AreMerged-push given.aggregates wanted m.parts rows (used_rows us olds) row m.merged under
          (used_rows-key row.key us olds same uses) some answers;
      fit = AreInRange-push given.aggregates wanted m.parts rows (used_rows us olds) row m.merged under
          (used_rows-key row.key us olds same uses) some m.fit fit;
      below = λ low among k.
          below-Moves given row.key low (get_or us k false) (get_or olds k nothing_left) (get_or news k nothing_left)
          (elim (Contains-append_cases (map key_of rows) (row.key ∷ []) low
          (subst (λ keys. Contains keys low) (map-append key_of rows (row ∷ [])) among)) [
            | inl old ↦ inl (under low old)
            | inr new ↦ elim (Contains-cases row.key [] low new) [
              | inl here ↦ inr (sym here)
              | inr none ↦ absurd (Contains-nil low none)
            ]
          ]) (uses k) (moved k);
    }

-- no row is in order
pub AreInKeyOrder-none : (input : InputView) → input.row ≡ None → AreInKeyOrder input []
unfolding IsStrictlySortedBy
AreInKeyOrder-none input none = subst (λ o. IsStrictlySortedBy key_cmp (map key_of (option_to_list o))) (sym none) tt

pub AreOfSchema-none : (s : Layout) (input : InputView) → input.row ≡ None → AreOfSchema s input []
AreOfSchema-none s input none = subst (λ o. AllByRecursion (IsRightRow s) (option_to_list o)) (sym none) tt

-- nothing is merged yet, and each input took its first line
replicate_empty : List InputView → List (List Row)
replicate_empty [] = []
replicate_empty (i ∷ is) = [] ∷ replicate_empty is

replicate_empty-at : (inputs : List InputView) (k : ℕ) → get_or (replicate_empty inputs) k [] ≡ []
unfolding replicate_empty
replicate_empty-at [] k = refl
replicate_empty-at (i ∷ is) zero = refl
replicate_empty-at (i ∷ is) (suc k) = replicate_empty-at is k

replicate_empty-length : (inputs : List InputView) → length (replicate_empty inputs) ≡ length inputs
unfolding replicate_empty
replicate_empty-length [] = refl
replicate_empty-length (i ∷ is) = ap suc (replicate_empty-length is)

replicate_empty-rows : (inputs : List InputView) → all_rows (replicate_empty inputs) ≡ []
unfolding replicate_empty
replicate_empty-rows [] = refl
replicate_empty-rows (i ∷ is) = replicate_empty-rows is

AreMerged-none : (given wanted : List Agg) → AreMerged given wanted [] []
unfolding IsStrictlySortedBy
AreMerged-none given wanted = record { cells = λ key. (λ h. h, λ h. h); ordered = tt; answers = tt }

pub IsMerging-start : (given : Layout) (wanted : List Agg) (starts : List (Option (List ℕ)))
    (olds news : List InputView) (us : List Bool)
    → ((k : ℕ) → Gave given (get_or starts k None) (get_or olds k nothing_left) [])
    → ((k : ℕ) → (get_or olds k nothing_left).row ≡ None) → ((k : ℕ) → (get_or olds k nothing_left).lines ≡ 1)
    → ((k : ℕ) → get_or us k false ≡ false → IsEnded (get_or starts k None) (get_or olds k nothing_left))
    → ((k : ℕ) → k < length olds → get_or us k false ≡ true)
    → length news ≡ length olds → AllMove given us olds news → IsMerging given wanted starts news []
IsMerging-start given wanted starts olds news us gave rows ones ended used same moved = record {
  cubes = replicate_empty news;
  parts = [];
  width = replicate_empty-length news;
  gave = λ k. subst (λ rs. Gave given (get_or starts k None) (get_or news k nothing_left) rs)
      (none_used k ∙ sym (replicate_empty-at news k))
      (Gave-Moves given (get_or starts k None) (get_or us k false) (get_or olds k nothing_left)
      (get_or news k nothing_left) [] (gave k) (moved k));
  ordered =
      λ k. subst (λ rs. AreInKeyOrder (get_or news k nothing_left) rs) (none_used k ∙ sym (replicate_empty-at news k))
      (AreInKeyOrder-Moves given (get_or us k false) (get_or olds k nothing_left) (get_or news k nothing_left) []
      (λ _. refl) (AreInKeyOrder-none (get_or olds k nothing_left) (rows k)) (moved k));
  of_schema = λ k.
      subst (λ rs. AreOfSchema given (get_or news k nothing_left) rs) (none_used k ∙ sym (replicate_empty-at news k))
      (AreOfSchema-Moves given (get_or us k false) (get_or olds k nothing_left) (get_or news k nothing_left) []
      (AreOfSchema-none given (get_or olds k nothing_left) (rows k)) (moved k));
  counted = λ k. subst (λ rs. IsCounted (get_or news k nothing_left) rs) (sym (replicate_empty-at news k))
      (counted-first given (get_or us k false) (get_or olds k nothing_left) (get_or news k nothing_left) (rows k)
      (ones k) (moved k));
  ended = λ k. ended-Moves given (get_or starts k None) [] (get_or us k false) (get_or olds k nothing_left)
      (get_or news k nothing_left) (gave k) (ended k) (moved k);
  whole = λ k below.
      subst (λ rs. IsWhole given (get_or news k nothing_left) rs) (none_used k ∙ sym (replicate_empty-at news k))
      (IsWhole-Moves given (get_or us k false) (get_or olds k nothing_left) (get_or news k nothing_left) []
      (AreOfSchema-none given (get_or olds k nothing_left) (rows k)) (λ unused. absurd (unlike
      (sym (used k (subst (λ n. k < n) same below)) ∙ unused))) (moved k));
  drawn = subst (λ l. IsPermutation l []) (sym (replicate_empty-rows news)) (IsPermutation-refl []);
  merged = AreMerged-none given.aggregates wanted;
  fit = tt;
  below = λ key among k. absurd (Contains-nil key among);
} where
  unlike : true ≡ false → ⊥
  unlike e = cc

  none_used : (k : ℕ) → [] ++ used_row (get_or us k false) (get_or olds k nothing_left) ≡ []
  none_used k = by_use (get_or us k false) where
    by_use : (u : Bool) → used_row u (get_or olds k nothing_left) ≡ []
    by_use true = ap option_to_list (rows k)
    by_use false = refl

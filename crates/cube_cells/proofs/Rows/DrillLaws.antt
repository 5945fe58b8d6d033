-- Laws of drill-down: the codes that are wanted below a key are those of the keys that drill down from it.
use Rattle.std.proofs.Common.{◌≡◌, ℕ, zero, suc, ◌<◌, ◌==◌, List, [], ◌∷◌, Bool, true, false, not, ◌&&◌, Decides, refl}
use Rattle.std.proofs.Common.{sym, ap, ◌∙◌, arith, inl, inr, length, get_or}
use Rattle.std.specs.Prelude.{All, slice_get, slice_set}
use Rattle.std.specs.Cmp.{tied_then}
use Rattle.std.specs.Cmp.Lexicographic.{slice_cmp}
use Rattle.std.specs.Option.{option_map_or}
use Rattle.std.specs.Ordering.{eq_by_cmp, is_eq, ordering_then}
use Rattle.std.specs.declared.cmp.Ordering.TheVariants.{Less, Equal, Greater}
use Rattle.std.proofs.lemmas.Bool.{and_parts, cases_eq, eqb-true, eq-eqb, ne_eqb}
use Rattle.std.proofs.lemmas.Bool.Decides.{same_from_decides}
use Rattle.std.proofs.lemmas.List.Elements.{All-head, All-tail}
use Rattle.std.proofs.lemmas.Map.Lookups.{exact_bytes}
use Rattle.cube_core.specs.GroupingSet.{is_all_coord, is_all_at}
use Rattle.cube_core.specs.Order.{coord_cmp, key_cmp}
use Rattle.cube_core.specs.Query.{drills_down}
use Rattle.cube_core.specs.declared.key.Coord.{Coord}
use Rattle.cube_core.specs.declared.key.Coord.TheVariants as coord
use Rattle.cube_core.specs.declared.key.Key.{Key}
use Rattle.cube_cells.specs.Codes.{Dictionaries, IsDictionary, is_code, are_codes, coord_at, coords_at, all_code}
use Rattle.cube_cells.specs.Rows.{AreWantsOf, AreWantsBelow, IsWantBelow, is_wanted_code, are_wanted_codes}
use Rattle.cube_cells.specs.declared.cube.rows.Want.{Want}
use Rattle.cube_cells.specs.declared.cube.rows.Want.TheVariants as want
use Rattle.cube_cells.proofs.Codes.DictionaryLaws.{is_code-cases, coord_at-place}
use Rattle.cube_cells.proofs.Codes.TextLaws.{coord_cmp-refl}

-- ---- coordinates
coord_cmp-exact : (a b : Coord) → coord_cmp a b ≡ Equal → a ≡ b
coord_cmp-exact (coord.Text a) (coord.Text b) e = ap coord.Text (exact_bytes a b e)
coord_cmp-exact (coord.Text a) coord.Null e = cc e
coord_cmp-exact (coord.Text a) coord.All e = cc e
coord_cmp-exact coord.Null (coord.Text b) e = cc e
coord_cmp-exact coord.Null coord.Null e = refl
coord_cmp-exact coord.Null coord.All e = cc e
coord_cmp-exact coord.All (coord.Text b) e = cc e
coord_cmp-exact coord.All coord.Null e = cc e
coord_cmp-exact coord.All coord.All e = refl

pub coord_cmp-Decides : (a b : Coord) → Decides (is_eq (coord_cmp a b)) (a ≡ b)
coord_cmp-Decides a b = (
  λ same. coord_cmp-exact a b (equal (coord_cmp a b) same),
  λ same. ap is_eq (ap (coord_cmp a) (sym same) ∙ coord_cmp-refl a),
) where
  equal : (r : _) → is_eq r ≡ true → r ≡ Equal
  equal Less is = cc is
  equal Equal is = refl
  equal Greater is = cc is

-- a code is wanted where its coordinate is the one wanted
is_wanted_code-coord_cmp : (texts : List (List ℕ)) (c : Coord) (w : Want) (code : ℕ) → IsWantBelow texts c false w
    → is_code texts code ≡ true → is_wanted_code w code ≡ is_eq (coord_cmp (coord_at texts code) c)
is_wanted_code-coord_cmp texts c w code is valid =
    let alone = is.2.alone code valid in
    let by_code : Decides (code == is.0) (coord_at texts code ≡ c) =
    (λ same. alone.1 (eqb-true code is.0 same), λ same. eq-eqb code is.0 (alone.0 same)) in
    ap (λ (v : Want). is_wanted_code v code) is.1 ∙ same_from_decides (code == is.0)
    (is_eq (coord_cmp (coord_at texts code) c)) by_code (coord_cmp-Decides (coord_at texts code) c)

-- a code is ALL's where its coordinate is ALL
all_code-is_all_coord : (texts : List (List ℕ)) (code : ℕ) → IsDictionary texts → is_code texts code ≡ true
    → (code == all_code) ≡ is_all_coord (coord_at texts code)
all_code-is_all_coord texts code is valid = elim (is_code-cases texts code valid) [
  | inl all ↦ rw all refl
  | inr rest ↦ elim rest [
    | inl null ↦ rw null refl
    | inr place ↦ ne_eqb code all_code (λ same. absurd (omega (arith, same, place, is.few)))
        ∙ sym (ap is_all_coord (coord_at-place texts code (omega (arith, place, is.few))))
  ]
]

-- ---- keys
-- codes are wanted where their coordinates are the ones wanted
are_wanted_codes-slice_cmp : (dictionaries : Dictionaries) (above : List Coord) (wants : List Want) (codes : List ℕ)
    → length above ≡ length dictionaries → length wants ≡ length dictionaries → ((i : ℕ) → i < length wants
    → IsWantBelow (get_or dictionaries i []) (get_or above i coord.All) false (get_or wants i want.Any))
    → are_codes dictionaries codes ≡ true
    → are_wanted_codes wants codes ≡ is_eq (slice_cmp coord_cmp (coords_at dictionaries codes) above)
are_wanted_codes-slice_cmp [] [] [] codes wide long each valid = refl
are_wanted_codes-slice_cmp [] [] (w ∷ wants) codes wide long each valid = absurd (omega (arith, long))
are_wanted_codes-slice_cmp [] (c ∷ above) wants codes wide long each valid = absurd (omega (arith, wide))
are_wanted_codes-slice_cmp (texts ∷ dictionaries) [] wants codes wide long each valid = absurd (omega (arith, wide))
are_wanted_codes-slice_cmp (texts ∷ dictionaries) (c ∷ above) [] codes wide long each valid =
    absurd (omega (arith, long))
are_wanted_codes-slice_cmp (texts ∷ dictionaries) (c ∷ above) (w ∷ wants) [] wide long each valid = cc valid
are_wanted_codes-slice_cmp (texts ∷ dictionaries) (c ∷ above) (w ∷ wants) (code ∷ codes) wide long each valid =
    let parts = and_parts (is_code texts code) (are_codes dictionaries codes) valid in
    let head = is_wanted_code-coord_cmp texts c w code (each 0 (omega arith)) parts.0 in
    let tail = are_wanted_codes-slice_cmp dictionaries above wants codes (omega (arith, wide)) (omega (arith, long))
    (λ i small. each (suc i) (omega (arith, small))) parts.1 in
    rw (head, tail)
    (tied_then (coord_cmp (coord_at texts code) c) (slice_cmp coord_cmp (coords_at dictionaries codes) above))

and-swap : (a b e : Bool) → (a && (b && e)) ≡ (b && (a && e))
and-swap true true e = refl
and-swap true false e = refl
and-swap false true e = refl
and-swap false false e = refl

coord_cmp-All : (c : Coord) → is_all_coord c ≡ true → is_eq (coord_cmp coord.All c) ≡ true
coord_cmp-All (coord.Text c) all = cc all
coord_cmp-All coord.Null all = cc all
coord_cmp-All coord.All all = refl

-- codes are wanted below where their coordinates drill down
are_wanted_codes-drills_down : (dictionaries : Dictionaries) (above : List Coord) (wants : List Want) (codes : List ℕ)
    (dimension : ℕ) → All IsDictionary dictionaries → length above ≡ length dictionaries
    → length wants ≡ length dictionaries → dimension < length dictionaries
    → option_map_or is_all_coord (slice_get above dimension) false ≡ true
    → ((i : ℕ) → i < length wants
    → IsWantBelow (get_or dictionaries i []) (get_or above i coord.All) (i == dimension) (get_or wants i want.Any))
    → are_codes dictionaries codes ≡ true
    → are_wanted_codes wants codes
    ≡ (not (option_map_or is_all_coord (slice_get (coords_at dictionaries codes) dimension) false)
    && is_eq (slice_cmp coord_cmp (slice_set (coords_at dictionaries codes) dimension coord.All) above))
are_wanted_codes-drills_down [] above wants codes dimension texts_are wide long inside rolled each valid =
    absurd (omega arith)
are_wanted_codes-drills_down (texts ∷ dictionaries)
    [] wants codes dimension texts_are wide long inside rolled each valid = absurd (omega (arith, wide))
are_wanted_codes-drills_down (texts ∷ dictionaries)
    (c ∷ above) [] codes dimension texts_are wide long inside rolled each valid = absurd (omega (arith, long))
are_wanted_codes-drills_down (texts ∷ dictionaries) (c ∷ above)
    (w ∷ wants) [] dimension texts_are wide long inside rolled each valid = cc valid
are_wanted_codes-drills_down (texts ∷ dictionaries) (c ∷ above) (w ∷ wants)
    (code ∷ codes) zero texts_are wide long inside rolled each valid =
    let parts = and_parts (is_code texts code) (are_codes dictionaries codes) valid in
    let first : w ≡ want.Not all_code = each 0 (omega arith) in
    let head : is_wanted_code w code ≡ not (is_all_coord (coord_at texts code)) =
    ap (λ (v : Want). is_wanted_code v code) first
    ∙ ap not (all_code-is_all_coord texts code (All-head IsDictionary texts dictionaries texts_are) parts.0) in
    let tail = are_wanted_codes-slice_cmp dictionaries above wants codes (omega (arith, wide)) (omega (arith, long))
    (λ i small. later i (each (suc i) (omega (arith, small)))) parts.1 in
    let back : is_eq (ordering_then (coord_cmp coord.All c) (slice_cmp coord_cmp (coords_at dictionaries codes) above))
    ≡ is_eq (slice_cmp coord_cmp (coords_at dictionaries codes) above) =
    sym (tied_then (coord_cmp coord.All c) (slice_cmp coord_cmp (coords_at dictionaries codes) above))
    ∙ ap (λ b. b && is_eq (slice_cmp coord_cmp (coords_at dictionaries codes) above)) (coord_cmp-All c rolled) in
    rw (head, tail, back) refl where
      later : (i : ℕ)
          → IsWantBelow (get_or dictionaries i []) (get_or above i coord.All) (suc i == zero) (get_or wants i want.Any)
          → IsWantBelow (get_or dictionaries i []) (get_or above i coord.All) false (get_or wants i want.Any)
      later i is = rw (ne_eqb (suc i) zero (λ same. absurd (omega (arith, same)))) at is
are_wanted_codes-drills_down (texts ∷ dictionaries) (c ∷ above) (w ∷ wants) (code ∷ codes)
    (suc dimension) texts_are wide long inside rolled each valid =
    let parts = and_parts (is_code texts code) (are_codes dictionaries codes) valid in
    let head = is_wanted_code-coord_cmp texts c w code (here (each 0 (omega arith))) parts.0 in
    let tail = are_wanted_codes-drills_down dictionaries above wants codes dimension
    (All-tail IsDictionary texts dictionaries texts_are) (omega (arith, wide)) (omega (arith, long))
    (omega (arith, inside)) rolled (λ i small. later i (each (suc i) (omega (arith, small)))) parts.1 in
    let open_there = not (option_map_or is_all_coord (slice_get (coords_at dictionaries codes) dimension) false) in
    let others = slice_cmp coord_cmp (slice_set (coords_at dictionaries codes) dimension coord.All) above in
    rw (head, tail) (and-swap (is_eq (coord_cmp (coord_at texts code) c)) open_there (is_eq others)
    ∙ ap (λ b. open_there && b) (tied_then (coord_cmp (coord_at texts code) c) others)) where
      here : IsWantBelow texts c (0 == suc dimension) w → IsWantBelow texts c false w
      here is = rw (ne_eqb 0 (suc dimension) (λ same. absurd (omega (arith, same)))) at is

      next : (i : ℕ) → (suc i == suc dimension) ≡ (i == dimension)
      next i = elim (cases_eq i dimension) [
        | inl same ↦ eq-eqb (suc i) (suc dimension) (ap suc same) ∙ sym (eq-eqb i dimension same)
        | inr apart ↦
            ne_eqb (suc i) (suc dimension) (λ same. apart (omega (arith, same))) ∙ sym (ne_eqb i dimension apart)
      ]

      later : (i : ℕ) → IsWantBelow (get_or dictionaries i [])
          (get_or above i coord.All) (suc i == suc dimension) (get_or wants i want.Any)
          → IsWantBelow (get_or dictionaries i []) (get_or above i coord.All) (i == dimension) (get_or wants i want.Any)
      later i is = rw (next i) at is

-- what is wanted below a key is wanted of the keys that drill down from it
pub AreWantsOf-drills_down : (dictionaries : Dictionaries) (above : Key) (wants : List Want) (dimension : ℕ)
    → All IsDictionary dictionaries → length above.coords ≡ length dictionaries
    → length wants ≡ length dictionaries → dimension < length dictionaries → is_all_at above dimension ≡ true
    → AreWantsBelow dictionaries dimension above.coords wants
    → AreWantsOf dictionaries (drills_down dimension above) wants
AreWantsOf-drills_down dictionaries above wants dimension texts wide long inside rolled below =
    λ codes valid eight. are_wanted_codes-drills_down dictionaries above.coords wants codes dimension texts wide long
    inside rolled below.each valid

-- what is wanted below a key along no dimension of it is wanted of this key alone
pub AreWantsOf-itself : (dictionaries : Dictionaries) (key : Key) (wants : List Want)
    → length key.coords ≡ length dictionaries → length wants ≡ length dictionaries
    → AreWantsBelow dictionaries (length key.coords) key.coords wants
    → AreWantsOf dictionaries (λ other. eq_by_cmp key_cmp other key) wants
AreWantsOf-itself dictionaries key wants wide long below =
    λ codes valid eight. are_wanted_codes-slice_cmp dictionaries key.coords wants codes wide long
    (λ i small. rw (ne_eqb i (length key.coords) (λ same. omega (arith, same, small, wide, long))) at (below.each i small))
    valid

-- Laws of codes and keys:
-- a look-up by key is one by its codes, and the codes of a fact in a set are those of the key that covers it.
use Rattle.std.proofs.Common.{◌≡◌, ℕ, zero, suc, ◌^◌, ◌<◌, ◌≤◌, ◌==◌, ◌%◌, ◌/◌, List, [], ◌∷◌, Bool, true, false}
use Rattle.std.proofs.Common.{Decides, refl, sym, ap, ◌∙◌, subst, arith, inl, inr, length, map, get_or, replicate}
use Rattle.std.proofs.Common.{Option, Some, None, Bor, if◌then◌else◌}
use Rattle.std.specs.Prelude.{All, IfSome}
use Rattle.std.specs.Option.{option_copied}
use Rattle.std.specs.List.{list_all}
use Rattle.std.specs.Ordering.{eq_by_cmp}
use Rattle.std.proofs.lemmas.Bool.{or_cases, or_left, or_right, and_parts, and_from, both_ways, eqb-true, eq-eqb}
use Rattle.std.proofs.lemmas.Bool.{ne_eqb, false_from_ne_true}
use Rattle.std.proofs.lemmas.Bool.Decides.{same_from_decides}
use Rattle.std.proofs.lemmas.List.{length-replicate}
use Rattle.std.proofs.lemmas.List.Elements.{All-head, All-tail, All-contains}
use Rattle.std.proofs.lemmas.Map.Views.{Contains-from_lookup}
use Rattle.cube_core.specs.Covers.{covers}
use Rattle.cube_core.specs.GroupingSet.{mask_of, is_among, is_all_coord}
use Rattle.cube_core.specs.Order.{key_cmp}
use Rattle.cube_core.specs.declared.fact.Fact.{Fact}
use Rattle.cube_core.specs.declared.key.Coord.{Coord}
use Rattle.cube_core.specs.declared.key.Coord.TheVariants as coord
use Rattle.cube_core.specs.declared.key.Key.{Key}
use Rattle.cube_core.proofs.AncestorLaws.{coord_of, ancestor_of, all_stand_for-ancestor_of, mask_of_coords-ancestor_of}
use Rattle.cube_core.proofs.AncestorLaws.{all_stand_for-mask_of_coords, mask_of_coords-length, all_stand_for-length}
use Rattle.cube_core.proofs.CellKeyLaws.{Key-coords, key_cmp-Decides}
use Rattle.cube_cells.specs.Codes.{Dictionaries, IsDictionary, IsCodeOf, AreCodesOf, is_code, are_codes, coord_at}
use Rattle.cube_cells.specs.Codes.{coords_at, key_at, kept_codes, all_code, null_code, coord_of_value}
use Rattle.cube_cells.specs.Coded.{CodedCells, IsCodedCell, same_codes, coded_at, decoded, is_total_code}
use Rattle.cube_cells.specs.Cube.{cell_at, is_kept_for}
use Rattle.cube_cells.specs.Tally.{Tally}
use Rattle.cube_cells.specs.Walk.{key_in, codes_in, is_in}
use Rattle.cube_cells.specs.declared.cube.codes.Codes.{Codes}
use Rattle.cube_cells.proofs.Codes.DictionaryLaws.{StandsAt-position_or_len, is_code-cases, coord_at-place, code_of_all}
use Rattle.cube_cells.proofs.Codes.DictionaryLaws.{code_of_null, IsCodeOf-StandsAt, IsCodeOf-no_code}
use Rattle.cube_cells.proofs.Cells.WalkLaws.{same_codes-exact, same_codes-IsEquivalence}

-- ---- codes of coordinates
-- nothing but ALL
pub all_code-length : (a b : List ℕ) → list_all (λ code. code == all_code) a ≡ true
    → list_all (λ code. code == all_code) b ≡ true → length a ≡ length b → a ≡ b
all_code-length [] [] all_a all_b lengths = refl
all_code-length [] (y ∷ b) all_a all_b lengths = absurd (omega (arith, lengths))
all_code-length (x ∷ a) [] all_a all_b lengths = absurd (omega (arith, lengths))
all_code-length (x ∷ a) (y ∷ b) all_a all_b lengths =
    let in_a = and_parts (x == all_code) (list_all (λ code. code == all_code) a) all_a in
    let in_b = and_parts (y == all_code) (list_all (λ code. code == all_code) b) all_b in
    let head : x ≡ y = eqb-true x all_code in_a.0 ∙ sym (eqb-true y all_code in_b.0) in
    let tail : a ≡ b = all_code-length a b in_a.1 in_b.1 (omega (arith, lengths)) in
    cc

-- of all codes of the dimensions these alone have the coordinates
pub AreCodesOf-alone : (dictionaries : Dictionaries) (coords : List Coord) (codes other : List ℕ)
    → AreCodesOf dictionaries coords codes → are_codes dictionaries other ≡ true → length other ≡ length codes
    → coords_at dictionaries other ≡ coords → other ≡ codes
AreCodesOf-alone [] [] codes other are valid lengths same = all_code-length other codes valid are lengths
AreCodesOf-alone [] (c ∷ coords) codes other are valid lengths same = absurd are
AreCodesOf-alone (texts ∷ dictionaries) [] codes other are valid lengths same = absurd are
AreCodesOf-alone (texts ∷ dictionaries) (c ∷ coords) [] other are valid lengths same = absurd are
AreCodesOf-alone (texts ∷ dictionaries) (c ∷ coords) (x ∷ codes) [] are valid lengths same = cc valid
AreCodesOf-alone (texts ∷ dictionaries) (c ∷ coords) (x ∷ codes) (y ∷ other) are valid lengths same =
    let parts = and_parts (is_code texts y) (are_codes dictionaries other) valid in
    let first : coord_at texts y ≡ c = cc same in
    let rest : coords_at dictionaries other ≡ coords = cc same in
    let head : y ≡ x = (are.0.alone y parts.0).0 first in
    let tail : other ≡ codes =
    AreCodesOf-alone dictionaries coords codes other are.1 parts.1 (omega (arith, lengths)) rest in
    cc

-- and they have them, where they are codes of the dimensions
pub coords_at-AreCodesOf : (dictionaries : Dictionaries) (coords : List Coord) (codes : List ℕ)
    → AreCodesOf dictionaries coords codes → are_codes dictionaries codes ≡ true → coords_at dictionaries codes ≡ coords
coords_at-AreCodesOf [] [] codes are valid = refl
coords_at-AreCodesOf [] (c ∷ coords) codes are valid = absurd are
coords_at-AreCodesOf (texts ∷ dictionaries) [] codes are valid = absurd are
coords_at-AreCodesOf (texts ∷ dictionaries) (c ∷ coords) [] are valid = absurd are
coords_at-AreCodesOf (texts ∷ dictionaries) (c ∷ coords) (x ∷ codes) are valid =
    let parts = and_parts (is_code texts x) (are_codes dictionaries codes) valid in
    let head : coord_at texts x ≡ c = (are.0.alone x parts.0).1 refl in
    let tail : coords_at dictionaries codes ≡ coords = coords_at-AreCodesOf dictionaries coords codes are.1 parts.1 in
    cc

-- each coordinate has a code
pub coord-IsCodeOf : (texts : List (List ℕ)) (c : Coord) → IsDictionary texts → (code : ℕ) × IsCodeOf texts c code
coord-IsCodeOf texts coord.All is = (all_code, code_of_all texts is)
coord-IsCodeOf texts coord.Null is = (null_code, code_of_null texts is)
coord-IsCodeOf texts (coord.Text text) is = elim (StandsAt-position_or_len text texts) [
  | inl stands ↦ (_, IsCodeOf-StandsAt texts text _ is stands)
  | inr nowhere ↦ (_, IsCodeOf-no_code texts text is nowhere.0)
]

-- codes of ALL alone
pub all_code-replicate : (n : ℕ) → list_all (λ code. code == all_code) (replicate n all_code) ≡ true
all_code-replicate zero = refl
all_code-replicate (suc n) = all_code-replicate n

-- so have as many as there are dimensions
coords-AreCodesOf : (dictionaries : Dictionaries) (coords : List Coord) (n : ℕ) → All IsDictionary dictionaries
    → length coords ≡ length dictionaries → length dictionaries ≤ n
    → (codes : List ℕ) × AreCodesOf dictionaries coords codes × (length codes ≡ n)
coords-AreCodesOf [] [] n all width room = (replicate n all_code, all_code-replicate n, length-replicate n all_code)
coords-AreCodesOf [] (c ∷ coords) n all width room = absurd (omega (arith, width))
coords-AreCodesOf (texts ∷ dictionaries) [] n all width room = absurd (omega (arith, width))
coords-AreCodesOf (texts ∷ dictionaries) (c ∷ coords) zero all width room = absurd (omega (arith, room))
coords-AreCodesOf (texts ∷ dictionaries) (c ∷ coords) (suc n) all width room =
    let first = coord-IsCodeOf texts c (All-head IsDictionary texts dictionaries all) in
    let rest = coords-AreCodesOf dictionaries coords n (All-tail IsDictionary texts dictionaries all)
    (omega (arith, width)) (omega (arith, room)) in
    (first.0 ∷ rest.0, (first.1, rest.1), ap suc rest.2)

-- codes of a key
pub record HasCodes (dictionaries : Dictionaries) (key : Key) (codes : Codes) : Type 0 where
  pub are : AreCodesOf dictionaries key.coords codes.codes
  pub eight : length codes.codes ≡ 8

pub key-HasCodes : (dictionaries : Dictionaries) (key : Key)
    → All IsDictionary dictionaries → length key.coords ≡ length dictionaries → length dictionaries ≤ 8
    → (codes : Codes) × HasCodes dictionaries key codes
key-HasCodes dictionaries key all width room =
    let found = coords-AreCodesOf dictionaries key.coords 8 all width room in
    (record { codes = found.0 }, record { are = found.1; eight = found.2 })

-- ---- look-ups
key_cmp-same_codes : (dictionaries : Dictionaries) (key : Key) (codes other : Codes) → HasCodes dictionaries key codes
    → are_codes dictionaries other.codes ≡ true → length other.codes ≡ 8
    → eq_by_cmp key_cmp key (key_at dictionaries other.codes) ≡ same_codes codes other
key_cmp-same_codes dictionaries key codes other has valid eight =
    let by_codes : Decides (same_codes codes other) (key ≡ key_at dictionaries other.codes) = (
      λ same.
          let at : codes ≡ other = same_codes-exact codes other same in
          let are : AreCodesOf dictionaries key.coords other.codes =
          subst (λ (x : Codes). AreCodesOf dictionaries key.coords x.codes) at has.are in
          Key-coords key (key_at dictionaries other.codes)
          (sym (coords_at-AreCodesOf dictionaries key.coords other.codes are valid)),
      λ same.
          let coords : coords_at dictionaries other.codes ≡ key.coords = sym (ap (λ (k : Key). k.coords) same) in
          let lists : other.codes ≡ codes.codes =
          AreCodesOf-alone dictionaries key.coords codes.codes other.codes has.are valid
          (omega (arith, eight, has.eight)) coords in
          let make : List ℕ → Codes = λ xs. record { codes = xs } in
          subst (λ (x : Codes). same_codes codes x ≡ true) (ap make (sym lists)) (same_codes-IsEquivalence.refl codes),
    ) in
    same_from_decides (eq_by_cmp key_cmp key (key_at dictionaries other.codes)) (same_codes codes other)
    (key_cmp-Decides key (key_at dictionaries other.codes)) by_codes

-- a look-up by key is one by its codes
pub look_up-coded : (dictionaries : Dictionaries) (measures : ℕ) (cells : CodedCells) (key : Key) (codes : Codes)
    → HasCodes dictionaries key codes → All (IsCodedCell dictionaries measures) cells
    → cell_at (decoded dictionaries cells) key ≡ coded_at cells codes
look_up-coded dictionaries measures [] key codes has all = refl
look_up-coded dictionaries measures (e ∷ cells) key codes has all =
    let cell = All-head (IsCodedCell dictionaries measures) e cells all in
    let head = key_cmp-same_codes dictionaries key codes e.0 has cell.codes cell.eight in
    let tail = look_up-coded dictionaries measures cells key codes has
    (All-tail (IsCodedCell dictionaries measures) e cells all) in
    rw (head, tail) refl

pub length-coords_at : (dictionaries : Dictionaries) (codes : List ℕ)
    → length (coords_at dictionaries codes) ≡ length dictionaries
length-coords_at [] codes = refl
length-coords_at (texts ∷ dictionaries) [] = ap suc (length-coords_at dictionaries [])
length-coords_at (texts ∷ dictionaries) (code ∷ codes) = ap suc (length-coords_at dictionaries codes)

-- the coordinate in a dimension is that of its code
pub get_or-coords_at : (dictionaries : Dictionaries) (codes : List ℕ) (d : ℕ) → d < length dictionaries
    → d < length codes
    → get_or (coords_at dictionaries codes) d coord.All ≡ coord_at (get_or dictionaries d []) (get_or codes d 0)
get_or-coords_at [] codes d inside within = absurd (omega (arith, inside))
get_or-coords_at (texts ∷ dictionaries) [] d inside within = absurd (omega (arith, within))
get_or-coords_at (texts ∷ dictionaries) (code ∷ codes) zero inside within = refl
get_or-coords_at (texts ∷ dictionaries) (code ∷ codes) (suc d) inside within =
    get_or-coords_at dictionaries codes d (omega (arith, inside)) (omega (arith, within))

-- a key of another width is no cell
pub no_cell-width : (dictionaries : Dictionaries) (cells : CodedCells) (key : Key)
    → (length key.coords ≡ length dictionaries → ⊥) → cell_at (decoded dictionaries cells) key ≡ None
no_cell-width dictionaries [] key other = refl
no_cell-width dictionaries (e ∷ cells) key other =
    let apart : eq_by_cmp key_cmp key (key_at dictionaries e.0.codes) ≡ false =
    false_from_ne_true (eq_by_cmp key_cmp key (key_at dictionaries e.0.codes))
    (λ same. other (ap (λ (k : Key). length k.coords) ((key_cmp-Decides key (key_at dictionaries e.0.codes)).0 same)
    ∙ length-coords_at dictionaries e.0.codes)) in
    rw apart (no_cell-width dictionaries cells key other)

-- ---- the key of a fact in a set
coord_of-value : (value : Option (List ℕ)) → coord_of value true ≡ coord_of_value value
coord_of-value None = refl
coord_of-value (Some text) = refl

pub all_code-kept_codes : (set : ℕ) (codes : List ℕ) → list_all (λ code. code == all_code) codes ≡ true
    → list_all (λ code. code == all_code) (kept_codes set codes) ≡ true
all_code-kept_codes set [] all = refl
all_code-kept_codes set (x ∷ codes) all =
    let parts = and_parts (x == all_code) (list_all (λ code. code == all_code) codes) all in
    and_from ((if set % 2 == 1 then x else all_code) == all_code)
    (list_all (λ code. code == all_code) (kept_codes (set / 2) codes)) (first (set % 2 == 1) parts.0)
    (all_code-kept_codes (set / 2) codes parts.1) where
      first : (b : Bool) → (x == all_code) ≡ true → ((if b then x else all_code) == all_code) ≡ true
      first true is = is
      first false is = refl

pub AreCodesOf-kept_codes : (dictionaries : Dictionaries) (values : List (Option (List ℕ))) (codes : List ℕ) (set : ℕ)
    → All IsDictionary dictionaries → AreCodesOf dictionaries (map coord_of_value values) codes
    → AreCodesOf dictionaries (ancestor_of values set) (kept_codes set codes)
unfolding ancestor_of
AreCodesOf-kept_codes [] [] codes set all are = all_code-kept_codes set codes are
AreCodesOf-kept_codes [] (v ∷ values) codes set all are = absurd are
AreCodesOf-kept_codes (texts ∷ dictionaries) [] codes set all are = absurd are
AreCodesOf-kept_codes (texts ∷ dictionaries) (v ∷ values) [] set all are = absurd are
AreCodesOf-kept_codes (texts ∷ dictionaries) (v ∷ values) (x ∷ codes) set all are = (
  first (set % 2 == 1),
  AreCodesOf-kept_codes dictionaries values codes (set / 2) (All-tail IsDictionary texts dictionaries all) are.1,
) where
  first : (b : Bool) → IsCodeOf texts (coord_of v b) (if b then x else all_code)
  first true = rw (coord_of-value v) are.0
  first false = code_of_all texts (All-head IsDictionary texts dictionaries all)

length-kept_codes : (set : ℕ) (codes : List ℕ) → length (kept_codes set codes) ≡ length codes
length-kept_codes set [] = refl
length-kept_codes set (x ∷ codes) = ap suc (length-kept_codes (set / 2) codes)

pub are_codes-kept_codes : (dictionaries : Dictionaries) (codes : List ℕ) (set : ℕ)
    → are_codes dictionaries codes ≡ true → are_codes dictionaries (kept_codes set codes) ≡ true
are_codes-kept_codes [] codes set valid = all_code-kept_codes set codes valid
are_codes-kept_codes (texts ∷ dictionaries) [] set valid = cc valid
are_codes-kept_codes (texts ∷ dictionaries) (x ∷ codes) set valid =
    let parts = and_parts (is_code texts x) (are_codes dictionaries codes) valid in
    and_from (is_code texts (if set % 2 == 1 then x else all_code))
    (are_codes dictionaries (kept_codes (set / 2) codes)) (first (set % 2 == 1) parts.0)
    (are_codes-kept_codes dictionaries codes (set / 2) parts.1) where
      first : (b : Bool) → is_code texts x ≡ true → is_code texts (if b then x else all_code) ≡ true
      first true is = is
      first false is = refl

-- the codes of a fact
pub record HasFactCodes (dictionaries : Dictionaries) (fact : Fact) (codes : Codes) : Type 0 where
  pub are : AreCodesOf dictionaries (map coord_of_value fact.dims) codes.codes
  pub eight : length codes.codes ≡ 8

-- the key that covers a fact in a set
abbrev pub covering_key : Fact → ℕ → Key
covering_key fact set = record { coords = ancestor_of fact.dims set }

pub HasCodes-covering_key : (dictionaries : Dictionaries) (fact : Fact) (codes : Codes) (set : ℕ)
    → All IsDictionary dictionaries → HasFactCodes dictionaries fact codes
    → HasCodes dictionaries (covering_key fact set) (key_in codes set)
HasCodes-covering_key dictionaries fact codes set all has = record {
  are = AreCodesOf-kept_codes dictionaries fact.dims codes.codes set all has.are;
  eight = length-kept_codes set codes.codes ∙ has.eight;
}

pub covering_key-mask_of : (fact : Fact) (key : Key) → covers key fact ≡ true → key ≡ covering_key fact (mask_of key)
covering_key-mask_of fact key stands =
    let below : mask_of key < 2 ^ length fact.dims = subst (λ (n : ℕ). mask_of key < 2 ^ n)
    (all_stand_for-length key.coords fact.dims stands) (mask_of_coords-length key.coords) in
    Key-coords key (covering_key fact (mask_of key)) (all_stand_for-mask_of_coords key.coords
    (ancestor_of fact.dims (mask_of key)) fact.dims stands (all_stand_for-ancestor_of fact.dims (mask_of key))
    (sym (mask_of_coords-ancestor_of fact.dims (mask_of key) below)))

-- a key that covers a fact in a kept set has the fact's codes in that set
pub HasCodes-is_kept_for : (dictionaries : Dictionaries) (sets : List ℕ) (fact : Fact) (codes : Codes) (key : Key)
    → All IsDictionary dictionaries → HasFactCodes dictionaries fact codes → is_kept_for sets fact key ≡ true
    → HasCodes dictionaries key (key_in codes (mask_of key))
HasCodes-is_kept_for dictionaries sets fact codes key all has kept =
    let parts = and_parts (covers key fact) (is_among (mask_of key) sets) kept in
    subst (λ (k : Key). HasCodes dictionaries k (key_in codes (mask_of key)))
    (sym (covering_key-mask_of fact key parts.0)) (HasCodes-covering_key dictionaries fact codes (mask_of key) all has)

-- codes in a set are among those in all sets
pub is_in-set : (sets : List ℕ) (codes : Codes) (set : ℕ) → is_among set sets ≡ true
    → is_in (codes_in sets codes) (key_in codes set) ≡ true
is_in-set [] codes set among = cc among
is_in-set (first ∷ sets) codes set among = elim (or_cases (first == set) (is_among set sets) among) [
  | inl same ↦
      or_left (same_codes (key_in codes set) (key_in codes first)) (is_in (codes_in sets codes) (key_in codes set))
      (subst (λ (s : ℕ). same_codes (key_in codes set) (key_in codes s) ≡ true) (sym (eqb-true first set same))
      (same_codes-IsEquivalence.refl (key_in codes set)))
  | inr later ↦ or_right (same_codes (key_in codes set) (key_in codes first))
      (is_in (codes_in sets codes) (key_in codes set)) (is_in-set sets codes set later)
]

-- and no others are
pub set_of-is_in : (sets : List ℕ) (codes key : Codes) → is_in (codes_in sets codes) key ≡ true
    → (set : ℕ) × (is_among set sets ≡ true) × (key ≡ key_in codes set)
set_of-is_in [] codes key inside = cc inside
set_of-is_in (first ∷ sets) codes key inside =
    elim (or_cases (same_codes key (key_in codes first)) (is_in (codes_in sets codes) key) inside) [
      | inl same ↦ (
        first,
        or_left (first == first) (is_among first sets) (eq-eqb first first refl),
        same_codes-exact key (key_in codes first) same,
      )
      | inr later ↦ let found = set_of-is_in sets codes key later in
          (found.0, or_right (first == found.0) (is_among found.0 sets) found.1, found.2)
    ]

-- a key that isn't kept for a fact has other codes, where the fact's are codes of the dimensions
pub is_in-is_kept_for : (dictionaries : Dictionaries) (sets : List ℕ) (fact : Fact) (codes : Codes) (key : Key)
    (other : Codes) → All IsDictionary dictionaries → HasFactCodes dictionaries fact codes
    → ((set : ℕ) → is_among set sets ≡ true → are_codes dictionaries (key_in codes set).codes ≡ true)
    → ((set : ℕ) → is_among set sets ≡ true → set < 2 ^ length fact.dims) → HasCodes dictionaries key other
    → is_kept_for sets fact key ≡ false → is_in (codes_in sets codes) other ≡ false
is_in-is_kept_for dictionaries sets fact codes key other all has valid below of unkept =
    false_from_ne_true (is_in (codes_in sets codes) other) (λ inside.
    let found = set_of-is_in sets codes other inside in
    let set = found.0 in
    let of_set = HasCodes-covering_key dictionaries fact codes set all has in
    let coords : coords_at dictionaries (key_in codes set).codes ≡ ancestor_of fact.dims set =
    coords_at-AreCodesOf dictionaries (ancestor_of fact.dims set) (key_in codes set).codes of_set.are
    (valid set found.1) in
    let mine : coords_at dictionaries (key_in codes set).codes ≡ key.coords =
    coords_at-AreCodesOf dictionaries key.coords (key_in codes set).codes
    (subst (λ (x : Codes). AreCodesOf dictionaries key.coords x.codes) found.2 of.are) (valid set found.1) in
    let is : key ≡ covering_key fact set = Key-coords key (covering_key fact set) (sym mine ∙ coords) in
    let kept : is_kept_for sets fact (covering_key fact set) ≡ true = and_from (covers (covering_key fact set) fact)
    (is_among (mask_of (covering_key fact set)) sets) (all_stand_for-ancestor_of fact.dims set)
    (ap (λ (s : ℕ). is_among s sets) (mask_of_coords-ancestor_of fact.dims set (below set found.1)) ∙ found.1) in
    both_ways (is_kept_for sets fact key) unkept (ap (is_kept_for sets fact) is ∙ kept))

-- ---- the grand total
pub is_all_coord-coord_at : (texts : List (List ℕ)) (code : ℕ) → is_code texts code ≡ true → IsDictionary texts
    → is_all_coord (coord_at texts code) ≡ (code == all_code)
is_all_coord-coord_at texts code valid is = elim (is_code-cases texts code valid) [
  | inl all ↦ rw all refl
  | inr rest ↦ elim rest [
    | inl null ↦ rw null refl
    | inr place ↦
        let small : code < null_code = omega (arith, place, is.few) in
        ap is_all_coord (coord_at-place texts code small)
        ∙ sym (ne_eqb code all_code (λ same. absurd (omega (arith, same, small))))
  ]
]

is_all_coord-coords_at : (dictionaries : Dictionaries) (codes : List ℕ) → All IsDictionary dictionaries
    → are_codes dictionaries codes ≡ true
    → list_all is_all_coord (coords_at dictionaries codes) ≡ list_all (λ code. code == all_code) codes
is_all_coord-coords_at [] codes all valid = sym valid
is_all_coord-coords_at (texts ∷ dictionaries) [] all valid = cc valid
is_all_coord-coords_at (texts ∷ dictionaries) (x ∷ codes) all valid =
    let parts = and_parts (is_code texts x) (are_codes dictionaries codes) valid in
    rw (
      is_all_coord-coord_at texts x parts.0 (All-head IsDictionary texts dictionaries all),
      is_all_coord-coords_at dictionaries codes (All-tail IsDictionary texts dictionaries all) parts.1,
    ) refl

-- the codes of a key are those of the grand total where it is that
pub is_all_coord-is_total_code : (dictionaries : Dictionaries) (key : Key) (codes : Codes)
    → All IsDictionary dictionaries → HasCodes dictionaries key codes → are_codes dictionaries codes.codes ≡ true
    → list_all is_all_coord key.coords ≡ is_total_code codes
is_all_coord-is_total_code dictionaries key codes all has valid =
    ap (list_all is_all_coord) (sym (coords_at-AreCodesOf dictionaries key.coords codes.codes has.are valid))
    ∙ is_all_coord-coords_at dictionaries codes.codes all valid

-- ---- what a look-up finds
-- what is true of the cell that is found is true of the reference to it
pub IfSome-option_copied : {X : Type 0} (P : X → Type 0) (found : Option (Bor X)) (cell : Option X)
    → option_copied found ≡ cell → IfSome cell P → IfSome found (λ x. P x.now)
IfSome-option_copied P None cell is all = tt
IfSome-option_copied P (Some x) cell is all = let Q : Option _ → Type 0 = λ o. IfSome o P in subst Q (sym is) all

-- a cell that is found is one of the cells
pub IsCodedCell-coded_at : (dictionaries : Dictionaries) (measures : ℕ) (cells : CodedCells) (codes : Codes) (t : Tally)
    → All (IsCodedCell dictionaries measures) cells → coded_at cells codes ≡ Some t
    → IsCodedCell dictionaries measures (codes, t)
IsCodedCell-coded_at dictionaries measures cells codes t all is =
    All-contains (IsCodedCell dictionaries measures) cells (codes, t) all
    (Contains-from_lookup same_codes-exact codes t cells is)

pub coded_at-width : (dictionaries : Dictionaries) (measures : ℕ) (cells : CodedCells) (codes : Codes)
    → All (IsCodedCell dictionaries measures) cells → IfSome (coded_at cells codes) (λ t. length t.bags ≡ measures)
coded_at-width dictionaries measures cells codes all = by_found (coded_at cells codes) refl where
  by_found : (o : Option Tally) → coded_at cells codes ≡ o → IfSome o (λ t. length t.bags ≡ measures)
  by_found None is = tt
  by_found (Some t) is = (IsCodedCell-coded_at dictionaries measures cells codes t all is).width

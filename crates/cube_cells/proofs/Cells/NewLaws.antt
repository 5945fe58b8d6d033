-- Laws of the new cube: its kept sets, its empty dictionaries, and its one cell or none.
use Rattle.std.proofs.Common.{◌≡◌, ℕ, zero, suc, ◌^◌, ◌<◌, ◌≤◌, ◌==◌, List, [], ◌∷◌, Bool, true, false, cond, ◌||◌}
use Rattle.std.proofs.Common.{refl, sym, ap, ◌∙◌, subst, arith, inl, inr, length, replicate, Some, None, if◌then◌else◌}
use Rattle.std.specs.Prelude.{All, IfSome, is_some}
use Rattle.std.specs.Cmp.{eq_by_cmp_equiv}
use Rattle.std.specs.List.{list_all, IsDistinct}
use Rattle.std.specs.Map.{keys_of}
use Rattle.std.specs.List.Sorted.{IsStrictlySortedBy}
use Rattle.std.specs.Ordering.{nat_cmp, eq_by_cmp}
use Rattle.std.proofs.lemmas.Bool.{cases_Bool, and_parts, and_from, and_left, and_right, both_ways, eq-eqb}
use Rattle.std.proofs.lemmas.List.{length-replicate, get_or-replicate, get_or_past}
use Rattle.std.proofs.lemmas.List.Elements.{All-filter, All-replicate, All-nil, All-cons}
use Rattle.std.proofs.lemmas.List.Kept.{IsStrictlySortedBy-filter}
use Rattle.std.proofs.lemmas.Map.Keys.{sorted_from_strictly_increasing}
use Rattle.std.proofs.lemmas.List.Sums.{sum_by-cons}
use Rattle.std.proofs.lemmas.Bool.{cases_lt}
use Rattle.cube_core.specs.Cube.{is_cell, is_total}
use Rattle.cube_core.specs.GroupingSet.{mask_of, is_among, is_all_coord, part_of, sets_of_part}
use Rattle.cube_core.specs.Layout.{Layout, IsSchema, cube_schema, number_of_dimensions}
use Rattle.cube_core.specs.Order.{key_cmp}
use Rattle.cube_core.specs.declared.key.Key.{Key}
use Rattle.cube_core.proofs.CellKeyLaws.{key_cmp-is_total}
use Rattle.cube_core.proofs.CubeSchemaLaws.{cube_schema-dimensions, cube_schema-text_places}
use Rattle.cube_core.proofs.KeyOrderLaws.{key_cmp-IsTotalOrder}
use Rattle.cube_core.proofs.SetLaws.{part_of-below}
use Rattle.cube_cells.specs.Codes.{Dictionaries, IsDictionary, are_codes, coords_at, key_at, all_code}
use Rattle.cube_cells.specs.Coded.{CodedCells, IsCodedCell, IsCoded, AreNewCells, same_codes, coded_at, decoded}
use Rattle.cube_cells.specs.Coded.{lattice_of, total_codes}
use Rattle.cube_cells.specs.Cube.{IsLattice, IsCubeOf, IsNewLattice, cell_at}
use Rattle.cube_cells.specs.Tally.{Tally, IsTallyOf}
use Rattle.cube_cells.specs.declared.cube.codes.Codes.{Codes}
use Rattle.cube_cells.proofs.Cells.SchemaLaws.{IsCubeSchema, few_dimensions}
use Rattle.cube_cells.proofs.Cells.WalkLaws.{same_codes-exact}
use Rattle.cube_cells.proofs.Codes.KeyLaws.{all_code-replicate}
use Rattle.cube_core.proofs.AncestorLaws.{mask_of_coords-All}

-- ---- the kept sets

-- ---- the codes of the grand total
are_codes-replicate : (n k : ℕ) → n ≤ k → are_codes (replicate n []) (replicate k all_code) ≡ true
are_codes-replicate zero k room = all_code-replicate k
are_codes-replicate (suc n) zero room = absurd (omega (arith, room))
are_codes-replicate (suc n) (suc k) room = are_codes-replicate n k (omega (arith, room))

coords_at-replicate : (n k : ℕ) → n ≤ k
    → (list_all is_all_coord (coords_at (replicate n []) (replicate k all_code)) ≡ true)
    × (length (coords_at (replicate n []) (replicate k all_code)) ≡ n)
coords_at-replicate zero k room = (refl, refl)
coords_at-replicate (suc n) zero room = absurd (omega (arith, room))
coords_at-replicate (suc n) (suc k) room =
    let rest = coords_at-replicate n k (omega (arith, room)) in
    (rest.0, ap suc rest.1)

-- the key of the grand total is in the empty set
pub mask_of-is_total : (n : ℕ) (key : Key) → is_total n key ≡ true → mask_of key ≡ 0
mask_of-is_total n key total =
    mask_of_coords-All key.coords (and_parts (length key.coords == n) (list_all is_all_coord key.coords) total).1

-- whether a key is that of the grand total
key_at-is_total : (n : ℕ) (key : Key) → n ≤ 8
    → eq_by_cmp key_cmp key (key_at (replicate n []) (replicate 8 all_code)) ≡ is_total n key
key_at-is_total n key room =
    let total = key_at (replicate n []) (replicate 8 all_code) in
    let coords = coords_at-replicate n 8 room in
    let is : is_total n total ≡ true = and_from (length total.coords == n) (list_all is_all_coord total.coords)
    (eq-eqb (length total.coords) n coords.1) coords.0 in
    (eq_by_cmp_equiv key_cmp-IsTotalOrder).symm key total ∙ key_cmp-is_total total key n is

-- ---- the new cube
-- its cells are those of CUBE of nothing
is_cell-none : (sets : List ℕ) (n : ℕ) (key : Key) → is_among 0 sets ≡ false → false ≡ is_cell sets n [] key
is_cell-none sets n key none = elim (cases_Bool (is_total n key)) [
  | inl total ↦ sym (and_left (is_among (mask_of key) sets) (is_total n key || false)
      (ap (λ (s : ℕ). is_among s sets) (mask_of-is_total n key total) ∙ none))
  | inr other ↦
      sym (and_right (is_among (mask_of key) sets) (is_total n key || false) (ap (λ (b : Bool). b || false) other))
]

is_cell-is_total : (sets : List ℕ) (n : ℕ) (key : Key) (t : Tally) → is_among 0 sets ≡ true
    → is_some (cond (is_total n key) (Some t) None) ≡ is_cell sets n [] key
is_cell-is_total sets n key t kept = elim (cases_Bool (is_total n key)) [
  | inl total ↦ rw (total, mask_of-is_total n key total, kept) refl
  | inr other ↦ rw other (sym (and_right (is_among (mask_of key) sets) false refl))
]

pub IsCubeOf-AreNewCells : (schema : Layout) (sets : List ℕ) (cells : CodedCells) → length schema.dimensions ≤ 8
    → AreNewCells (is_among 0 sets) (length schema.measures) cells
    → IsCubeOf (lattice_of schema sets 0 (replicate (length schema.dimensions) []) cells) []
IsCubeOf-AreNewCells schema sets cells room new = elim (cases_Bool (is_among 0 sets)) [
  | inl kept ↦
      let one = new.total kept in
      let at : (key : Key) → cell_at (decoded (replicate n []) cells) key ≡ cond (is_total n key) (Some one.0) None =
      λ key. ap (λ (cs : CodedCells). cell_at (decoded (replicate n []) cs) key) one.1
      ∙ ap (λ (b : Bool). cond b (Some one.0) None) (key_at-is_total n key room) in
      record {
        keys = λ key. ap is_some (at key) ∙ is_cell-is_total sets n key one.0 kept;
        tallies = λ key. rw (at key) (if_total (is_total n key) one.0 one.2);
        widths = λ key. rw (at key) (if_width (is_total n key) one.0 one.3);
      }
  | inr none ↦
      let at : (key : Key) → cell_at (decoded (replicate n []) cells) key ≡ None =
      λ key. ap (λ (cs : CodedCells). cell_at (decoded (replicate n []) cs) key) (new.none none) in
      record {
        keys = λ key. ap is_some (at key) ∙ is_cell-none sets n key none;
        tallies = λ key. rw (at key) tt;
        widths = λ key. rw (at key) tt;
      }
] where
  n : ℕ
  n = length schema.dimensions

  if_total : (b : Bool) (t : Tally) → IsTallyOf [] t → IfSome (cond b (Some t) None) (IsTallyOf [])
  if_total true t is = is
  if_total false t is = tt

  if_width : (b : Bool) (t : Tally) → length t.bags ≡ length schema.measures
      → IfSome (cond b (Some t) None) (λ s. length s.bags ≡ length schema.measures)
  if_width true t is = is
  if_width false t is = tt

-- one cell is apart from the others, and so is none
AreApart-one : (t : Tally) → IsDistinct same_codes (keys_of ((total_codes, t) ∷ []))
unfolding IsDistinct
AreApart-one t = (tt, tt)

AreApart-nil : IsDistinct same_codes []
unfolding IsDistinct
AreApart-nil = tt

-- it is a cube
pub IsCoded-AreNewCells : (schema : Layout) (sets : List ℕ) (cells : CodedCells) → IsCubeSchema schema
    → All (λ set. set < 2 ^ length schema.dimensions) sets → IsStrictlySortedBy nat_cmp sets
    → AreNewCells (is_among 0 sets) (length schema.measures) cells
    → IsCoded schema sets 0 (replicate (length schema.dimensions) []) cells
IsCoded-AreNewCells schema sets cells is within ascending new = elim (cases_Bool (is_among 0 sets)) [
  | inl kept ↦ let one = new.total kept in
      subst (λ (cs : CodedCells). IsCoded schema sets 0 (replicate n []) cs) (sym one.1) (with_total one.0 one.2 one.3)
  | inr none ↦
      subst (λ (cs : CodedCells). IsCoded schema sets 0 (replicate n []) cs) (sym (new.none none)) (without none)
] where
  n : ℕ
  n = length schema.dimensions

  lattice : (others : CodedCells) → IsLattice (lattice_of schema sets 0 (replicate n []) others)
  lattice others = record {
    schema = is.is;
    no_texts = is.no_texts;
    sets = within;
    ascending = ascending;
    dictionaries = length-replicate {A = List (List ℕ)} n [];
  }

  texts : All IsDictionary (replicate n [])
  texts = All-replicate IsDictionary n [] (record { distinct = refl; few = omega arith })

  with_total : (t : Tally) → IsTallyOf [] t → length t.bags ≡ length schema.measures
      → IsCoded schema sets 0 (replicate n []) ((total_codes, t) ∷ [])
  with_total t empty width = record {
    lattice = lattice ((total_codes, t) ∷ []);
    texts = texts;
    distinct = AreApart-one t;
    each = All-cons (IsCodedCell (replicate n []) (length schema.measures)) (total_codes, t) []
        (record {
          codes = are_codes-replicate n 8 (few_dimensions is);
          eight = refl;
          width = width;
          some = refl;
        }) (All-nil (IsCodedCell (replicate n []) (length schema.measures)));
    total = λ kept. refl;
    counts = λ set among. omega (
      arith,
      no_count (mask_of (key_at (replicate n []) total_codes.codes) == set) t empty,
      sum_by-cons (λ (cell : Key × Tally). if mask_of cell.0 == set then cell.1.facts else 0)
          (key_at (replicate n []) total_codes.codes, t) [],
    );
  } where
    no_count : (b : Bool) (s : Tally) → IsTallyOf [] s → (if b then s.facts else 0) ≡ 0
    no_count true s e = e.count
    no_count false s e = refl

  without : is_among 0 sets ≡ false → IsCoded schema sets 0 (replicate n []) []
  without none = record {
    lattice = lattice [];
    texts = texts;
    distinct = AreApart-nil;
    each = All-nil (IsCodedCell (replicate n []) (length schema.measures));
    total = λ kept. absurd (both_ways (is_among 0 sets) none kept);
    counts = λ set among. refl;
  }

-- and new
pub IsNewLattice-lattice_of : (schema : Layout) (sets : List ℕ) (cells : CodedCells)
    → IsNewLattice schema sets
    (lattice_of (cube_schema schema) sets 0 (replicate (length (cube_schema schema).dimensions) []) cells)
IsNewLattice-lattice_of schema sets cells = record {
  schema_is = refl;
  sets_are = refl;
  no_facts = refl;
  no_texts = λ d. elim (cases_lt d n) [
    | inl inside ↦ get_or-replicate {A = List (List ℕ)} n d [] [] inside
    | inr past ↦ get_or_past (replicate n []) d [] (omega (arith, past, length-replicate {A = List (List ℕ)} n []))
  ];
} where
  n : ℕ
  n = length (cube_schema schema).dimensions

-- ---- the new cells
-- none where the grand total isn't kept
pub AreNewCells-nil : (has_total : Bool) (measures : ℕ) (cells : CodedCells) → has_total ≡ false → cells ≡ []
    → AreNewCells has_total measures cells
AreNewCells-nil has_total measures cells none empty =
    record { none = λ _. empty; total = λ kept. absurd (both_ways has_total none kept) }

-- a cell alone
pub AreNewCells-one : (measures : ℕ) (cells : CodedCells) (codes : Codes) (t : Tally) → codes ≡ total_codes
    → length cells ≡ 1 → coded_at cells codes ≡ Some t → IsTallyOf [] t → length t.bags ≡ measures
    → AreNewCells true measures cells
AreNewCells-one measures cells codes t total one found empty width = record {
  none = λ never. cc never;
  total = λ _. (t, alone cells one (subst (λ (k : Codes). coded_at cells k ≡ Some t) total found), empty, width);
} where
  alone : (es : CodedCells) → length es ≡ 1 → coded_at es total_codes ≡ Some t → es ≡ (total_codes, t) ∷ []
  alone [] len at = cc at
  alone (e ∷ []) len at = elim (cases_Bool (same_codes total_codes e.0)) [
    | inl same ↦
        let tally : e.1 ≡ t = cc (rw same at at) in
        let make : Codes → Tally → CodedCells = λ k s. (k, s) ∷ [] in
        ap (λ (k : Codes). make k e.1) (sym (same_codes-exact total_codes e.0 same)) ∙ ap (make total_codes) tally
    | inr apart ↦ cc (rw apart at at)
  ]
  alone (e ∷ f ∷ es) len at = absurd (omega (arith, len))

-- ---- the whole
-- what is kept is a new cube of no fact
pub record IsNewCube (schema : Layout) (sets : List ℕ) (dictionaries : Dictionaries) (cells : CodedCells) : Type 0 where
  pub coded : IsCoded (cube_schema schema) sets 0 dictionaries cells
  pub cube : IsCubeOf (lattice_of (cube_schema schema) sets 0 dictionaries cells) []
  pub new : IsNewLattice schema sets (lattice_of (cube_schema schema) sets 0 dictionaries cells)

pub IsNewCube-AreNewCells : (schema : Layout) (sets : List ℕ) (dictionaries : Dictionaries) (total : Bool)
    (cells : CodedCells) → IsSchema (cube_schema schema) → All (λ set. set < 2 ^ number_of_dimensions schema) sets
    → IsStrictlySortedBy nat_cmp sets → dictionaries ≡ replicate (length (cube_schema schema).dimensions) []
    → total ≡ is_among 0 sets → AreNewCells total (length (cube_schema schema).measures) cells
    → IsNewCube schema sets dictionaries cells
IsNewCube-AreNewCells schema sets dictionaries total cells is within ascending texts_are total_is new =
    let of : IsCubeSchema (cube_schema schema) =
    record { is = is; no_texts = cube_schema-text_places schema } in
    let below = subst (λ (n : ℕ). All (λ set. set < 2 ^ n) sets) (sym (cube_schema-dimensions schema)) within in
    let as_kept = subst (λ (b : Bool). AreNewCells b (length (cube_schema schema).measures) cells) total_is new in
    record {
      coded = rw texts_are (IsCoded-AreNewCells (cube_schema schema) sets cells of below ascending as_kept);
      cube = rw texts_are (IsCubeOf-AreNewCells (cube_schema schema) sets cells (few_dimensions of) as_kept);
      new = rw texts_are (IsNewLattice-lattice_of schema sets cells);
    }

-- the sets of a part are grouping sets of the dimensions, in ascending order
pub sets_of_part-below : (schema : Layout) (part of : ℕ) → IsSchema schema
    → All (λ set. set < 2 ^ number_of_dimensions schema) (sets_of_part part of schema.grouping_sets)
sets_of_part-below schema part of is = All-filter (λ set. part_of of set == part)
    (λ set. set < 2 ^ number_of_dimensions schema) schema.grouping_sets is.sets_are_of_dimensions

pub sets_of_part-IsStrictlySortedBy : (schema : Layout) (part of : ℕ) → IsSchema schema
    → IsStrictlySortedBy nat_cmp (sets_of_part part of schema.grouping_sets)
sets_of_part-IsStrictlySortedBy schema part of is =
    IsStrictlySortedBy-filter nat_cmp (λ set. part_of of set == part) schema.grouping_sets
    (sorted_from_strictly_increasing schema.grouping_sets is.sets_are_ascending)

-- one set is in order
pub IsStrictlySortedBy-one : (set : ℕ) → IsStrictlySortedBy nat_cmp (set ∷ [])
unfolding IsStrictlySortedBy
IsStrictlySortedBy-one set = (tt, tt)

-- the only part of one is the whole
pub sets_of_part-one : (sets : List ℕ) → sets_of_part 0 1 sets ≡ sets
sets_of_part-one [] = refl
sets_of_part-one (set ∷ sets) =
    let below : part_of 1 set < 1 = part_of-below 1 set (omega arith) in
    let whole : (part_of 1 set == 0) ≡ true = eq-eqb (part_of 1 set) 0 (omega (arith, below)) in
    rw whole (ap (λ (xs : List ℕ). set ∷ xs) (sets_of_part-one sets))

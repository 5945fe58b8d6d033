-- Laws of cubes over the finest grouping set that are merged: cells under the codes of other dictionaries are the cells
-- of the same keys, and those into which they are merged have the facts of both.
use Rattle.std.proofs.Common.{◌≡◌, ℕ, zero, suc, ◌+◌, ◌-◌, ◌*◌, ◌^◌, ◌<◌, ◌≤◌, ◌==◌, ◌%◌, ◌/◌, List, [], ◌∷◌, ◌++◌}
use Rattle.std.proofs.Common.{true, false, refl, sym, ap, ◌∙◌, subst, arith, inl, inr, length, get_or, set, take}
use Rattle.std.proofs.Common.{append_assoc, nat_lt, Option, Some}
use Rattle.std.specs.Int.Bits.{and_self}
use Rattle.std.specs.Prelude.{All}
use Rattle.std.specs.List.{AllByRecursion, list_all}
use Rattle.std.specs.Map.{keys_of}
use Rattle.std.proofs.lemmas.Bool.{cases_lt, and_from, and_parts, both_ways, eq-eqb, eqb-true, false_from_ne_true}
use Rattle.std.proofs.lemmas.Bool.{ne_eqb, or_cases, or_left, or_right}
use Rattle.std.proofs.lemmas.List.{append-nil, get_or_append_left, get_or_past, length-append, length-map}
use Rattle.std.proofs.lemmas.List.{take_more}
use Rattle.std.proofs.lemmas.List.Elements.{All-append, All-cons, All-head, All-nil, All-tail, All-weaker}
use Rattle.std.proofs.lemmas.Grind.{get_or_default_zero}
use Rattle.std.proofs.lemmas.Map.Keys.{IsDistinct-cons, IsDistinct-head, IsDistinct-tail}
use Rattle.std.proofs.lemmas.Nat.{pow_pos}
use Rattle.std.proofs.Math.Nat.{pow-succ'}
use Rattle.std.proofs.Math.Seq.{get_or-append_seam}
use Rattle.cube_core.specs.GroupingSet.{is_among}
use Rattle.cube_core.specs.Layout.{Layout}
use Rattle.cube_core.specs.Takes.{fits}
use Rattle.cube_core.specs.declared.fact.Fact.{Fact}
use Rattle.cube_core.specs.declared.key.Coord.{Coord}
use Rattle.cube_cells.specs.Codes.{Dictionaries, IsCodeOf, IsDictionary, all_code, are_codes, coord_at, coord_of_value}
use Rattle.cube_cells.specs.Codes.{coords_at, is_code}
use Rattle.cube_cells.specs.Codes.{key_at, kept_codes, null_code, texts_with}
use Rattle.cube_cells.specs.Coded.{CodedCells, IsCoded, IsCodedCell, decoded, is_total_code, lattice_of, same_codes}
use Rattle.cube_cells.specs.Cube.{Cells}
use Rattle.cube_cells.specs.Fill.{FillsSet, HaveOneWidth, IsCubeOfAll, finest_set}
use Rattle.cube_cells.specs.Levels.{IsLeveled, cells_of}
use Rattle.cube_cells.specs.Merged.{AreRecoded, IsCodeIn, IsRecoded, PutsCode, dictionaries_of}
use Rattle.cube_cells.specs.Merged.{recoded, recoded_cells, recoded_codes}
use Rattle.cube_cells.specs.Tally.{Tally}
use Rattle.cube_cells.specs.Walk.{AreApart, key_in}
use Rattle.cube_cells.specs.declared.cube.codes.Codes.{Codes}
use Rattle.cube_cells.specs.declared.cube.levels.Level.{Level}
use Rattle.cube_cells.specs.declared.cube.merged.Column.{Column}
use Rattle.cube_cells.proofs.Cells.SchemaLaws.{its_schema, some_dimension}
use Rattle.cube_cells.proofs.Cells.JoinLaws.{AreApart-nil}
use Rattle.cube_cells.proofs.Cells.LeveledLaws.{sole_level}
use Rattle.cube_cells.proofs.Cells.WalkLaws.{same_codes-IsEquivalence, same_codes-exact}
use Rattle.cube_cells.proofs.Codes.DictionaryLaws.{coord_at-place, is_code-cases}
use Rattle.cube_cells.proofs.Codes.GrowthLaws.{AreGrown, IsCodedCell-AreGrown, is_code-append, texts_with-append}
use Rattle.cube_cells.proofs.Codes.KeyLaws.{AreCodesOf-alone, coded_at-width}
use Rattle.cube_cells.proofs.Filling.FilledLaws.{HaveAll, HaveAll-FillsSet, IsBase, IsCubeOfAll-HaveAll}
use Rattle.cube_cells.proofs.Filling.LevelLaws.{IsLeveled-alone}
use Rattle.cube_cells.proofs.Tallies.GroupLaws.{AreCodesOf-coords_at}

-- ---- codes
-- a code that is valid is that of one coordinate
pub IsCodeIn-IsCodeOf : (texts : List (List ℕ)) (value : Option (List ℕ)) (code : ℕ)
    → IsCodeOf texts (coord_of_value value) code → is_code texts code ≡ true → IsCodeIn texts value code
IsCodeIn-IsCodeOf texts value code of valid = record { valid = valid; stands = (of.alone code valid).1 refl }

-- it stays so where texts are added
pub IsCodeIn-more : (old new more : List (List ℕ)) (value : Option (List ℕ)) (code : ℕ) → new ≡ old ++ more
    → IsDictionary new → IsCodeIn old value code → IsCodeIn new value code
IsCodeIn-more old new more value code is dictionary before =
    let same = is_code-append old more new code is dictionary before.valid in
    record { valid = same.0; stands = same.1 ∙ before.stands }

-- the finest set is one of those of as many dimensions, and not the empty one
pub finest_set-below : (n : ℕ) → 1 ≤ n → (0 < finest_set n) × (finest_set n < 2 ^ n)
finest_set-below zero some = absurd (omega (arith, some))
finest_set-below (suc n) some = (omega (arith, pow-succ' 2 n, pow_pos n), omega (arith, pow-succ' 2 n, pow_pos n))

-- what stands in the place of a code stands for the same coordinate
coord_at-IsRecoded : (old more : List (List ℕ)) (column : Column) (code : ℕ) → IsRecoded old more column
    → IsDictionary more → is_code more code ≡ true
    → (is_code column.dictionary (get_or column.codes.items code code) ≡ true)
    × (coord_at column.dictionary (get_or column.codes.items code code) ≡ coord_at more code)
coord_at-IsRecoded old more column code is texts valid = elim (is_code-cases more code valid) [
  | inl all ↦
      rw (all, get_or_past column.codes.items all_code all_code (omega (arith, is.long, texts.few))) (refl, refl)
  | inr rest ↦ elim rest [
    | inl null ↦
        rw (null, get_or_past column.codes.items null_code null_code (omega (arith, is.long, texts.few))) (refl, refl)
    | inr place ↦
        let one = is.each code place in
        let small : code < null_code = omega (arith, place, texts.few) in
        rw (get_or_default_zero column.codes.items code code (omega (arith, place, is.long)))
        (one.valid, one.stands ∙ sym (coord_at-place more code small))
  ]
]

-- the columns have the codes of these texts
abbrev HaveCodes : Dictionaries → List Column → Type 0
HaveCodes more columns = (d : ℕ) (unused : Column) → d < length columns
    → (old : List (List ℕ)) × IsRecoded old (get_or more d []) (get_or columns d unused)

HaveCodes-tail : (texts : List (List ℕ)) (more : Dictionaries) (column : Column) (columns : List Column)
    → HaveCodes (texts ∷ more) (column ∷ columns) → HaveCodes more columns
HaveCodes-tail texts more column columns have =
    λ d unused inside. have (suc d) unused (omega (arith, inside))

are_codes-HaveCodes : (more : Dictionaries) (columns : List Column) (codes : List ℕ) → length columns ≡ length more
    → HaveCodes more columns → All IsDictionary more → are_codes more codes ≡ true
    → (are_codes (dictionaries_of columns) (recoded_codes columns codes) ≡ true)
    × (coords_at (dictionaries_of columns) (recoded_codes columns codes) ≡ coords_at more codes)
are_codes-HaveCodes [] [] codes long have all valid = (valid, refl)
are_codes-HaveCodes [] (column ∷ columns) codes long have all valid = absurd (omega (arith, long))
are_codes-HaveCodes (texts ∷ more) [] codes long have all valid = absurd (omega (arith, long))
are_codes-HaveCodes (texts ∷ more) (column ∷ columns) [] long have all valid = cc valid
are_codes-HaveCodes (texts ∷ more) (column ∷ columns) (x ∷ codes) long have all valid =
    let parts = and_parts (is_code texts x) (are_codes more codes) valid in
    let one = have 0 column (omega arith) in
    let first = coord_at-IsRecoded one.0 texts column x one.1 (All-head IsDictionary texts more all) parts.0 in
    let rest = are_codes-HaveCodes more columns codes (omega (arith, long))
    (HaveCodes-tail texts more column columns have) (All-tail IsDictionary texts more all) parts.1 in
    let head : coord_at column.dictionary (get_or column.codes.items x x) ≡ coord_at texts x = first.1 in
    let tail : coords_at (dictionaries_of columns) (recoded_codes columns codes) ≡ coords_at more codes = rest.1 in (
      and_from (is_code column.dictionary (get_or column.codes.items x x))
          (are_codes (dictionaries_of columns) (recoded_codes columns codes)) first.0 rest.0,
      cc,
    )

length-recoded_codes : (columns : List Column) (codes : List ℕ) → length (recoded_codes columns codes) ≡ length codes
length-recoded_codes [] codes = refl
length-recoded_codes (column ∷ columns) [] = refl
length-recoded_codes (column ∷ columns) (x ∷ codes) = ap suc (length-recoded_codes columns codes)

-- ALL stays
recoded_codes-all : (more : Dictionaries) (columns : List Column) (codes : List ℕ) → length columns ≡ length more
    → HaveCodes more columns → All IsDictionary more → list_all (λ code. code == all_code) codes ≡ true
    → list_all (λ code. code == all_code) (recoded_codes columns codes) ≡ true
recoded_codes-all [] [] codes long have all alls = alls
recoded_codes-all [] (column ∷ columns) codes long have all alls = absurd (omega (arith, long))
recoded_codes-all (texts ∷ more) [] codes long have all alls = alls
recoded_codes-all (texts ∷ more) (column ∷ columns) [] long have all alls = refl
recoded_codes-all (texts ∷ more) (column ∷ columns) (x ∷ codes) long have all alls =
    let parts = and_parts (x == all_code) (list_all (λ code. code == all_code) codes) alls in
    let one = have 0 column (omega arith) in
    let few = (All-head IsDictionary texts more all).few in
    let past : get_or column.codes.items all_code all_code ≡ all_code =
    get_or_past column.codes.items all_code all_code (omega (arith, one.1.long, few)) in
    rw (eqb-true x all_code parts.0, past) (recoded_codes-all more columns codes (omega (arith, long))
    (HaveCodes-tail texts more column columns have) (All-tail IsDictionary texts more all) parts.1)

-- one code more is changed
pub recoded_codes-more : (columns : List Column) (codes : List ℕ) (d : ℕ) (unused : Column) → d < length columns
    → d < length codes
    → recoded_codes (take (suc d) columns) codes
    ≡ set (recoded_codes (take d columns) codes) d
    (get_or (get_or columns d unused).codes.items (get_or (recoded_codes (take d columns) codes) d 0)
    (get_or (recoded_codes (take d columns) codes) d 0))
recoded_codes-more [] codes d unused inside long = absurd (omega (arith, inside))
recoded_codes-more (column ∷ columns) [] d unused inside long = absurd (omega (arith, long))
recoded_codes-more (column ∷ columns) (x ∷ codes) zero unused inside long = refl
recoded_codes-more (column ∷ columns) (x ∷ codes) (suc d) unused inside long =
    ap (λ (rest : List ℕ). get_or column.codes.items x x ∷ rest)
    (recoded_codes-more columns codes d unused (omega (arith, inside)) (omega (arith, long)))

-- no set keeps ALL
kept_codes-all : (codes : List ℕ) → list_all (λ code. code == all_code) codes ≡ true → kept_codes 0 codes ≡ codes
kept_codes-all [] alls = refl
kept_codes-all (x ∷ codes) alls =
    let parts = and_parts (x == all_code) (list_all (λ code. code == all_code) codes) alls in
    rw (eqb-true x all_code parts.0) (ap (λ (others : List ℕ). all_code ∷ others) (kept_codes-all codes parts.1))

-- the finest set keeps each code of so many dimensions
kept_codes-are_codes : (dictionaries : Dictionaries) (codes : List ℕ) → are_codes dictionaries codes ≡ true
    → kept_codes (finest_set (length dictionaries)) codes ≡ codes
kept_codes-are_codes [] codes valid = kept_codes-all codes valid
kept_codes-are_codes (texts ∷ dictionaries) [] valid = refl
kept_codes-are_codes (texts ∷ dictionaries) (x ∷ codes) valid =
    let n : ℕ = length dictionaries in
    let whole : 2 ^ suc n - 1 ≡ 2 * (2 ^ n - 1) + 1 = omega (arith, pow-succ' 2 n, pow_pos n) in
    let odd : ((2 ^ suc n - 1) % 2 == 1) ≡ true = eq-eqb ((2 ^ suc n - 1) % 2) 1 (omega (arith, whole)) in
    let half : (2 ^ suc n - 1) / 2 ≡ 2 ^ n - 1 = omega (arith, whole) in
    rw (odd, half) (ap (λ (others : List ℕ). x ∷ others) (kept_codes-are_codes dictionaries codes
    (and_parts (is_code texts x) (are_codes dictionaries codes) valid).1))

-- ---- cells
-- they are cells of the same keys
IsCodedCell-recoded : (more : Dictionaries) (columns : List Column) (measures : ℕ) (cells : CodedCells)
    → length columns ≡ length more → HaveCodes more columns → All IsDictionary more
    → All (IsCodedCell more measures) cells
    → All (IsCodedCell (dictionaries_of columns) measures) (recoded_cells columns cells)
    × (decoded (dictionaries_of columns) (recoded_cells columns cells) ≡ decoded more cells)
IsCodedCell-recoded more columns measures [] long have texts all =
    (All-nil (IsCodedCell (dictionaries_of columns) measures), refl)
IsCodedCell-recoded more columns measures (e ∷ cells) long have texts all =
    let cell = All-head (IsCodedCell more measures) e cells all in
    let codes = are_codes-HaveCodes more columns e.0.codes long have texts cell.codes in
    let rest = IsCodedCell-recoded more columns measures cells long have texts
    (All-tail (IsCodedCell more measures) e cells all) in
    let make : List Coord → Cells =
    λ coords. (record { coords = coords }, e.1) ∷ decoded (dictionaries_of columns) (recoded_cells columns cells) in (
      All-cons (IsCodedCell (dictionaries_of columns) measures) (recoded columns e.0, e.1) (recoded_cells columns cells)
          (record {
            codes = codes.0;
            eight = length-recoded_codes columns e.0.codes ∙ cell.eight;
            width = cell.width;
            some = elim (or_cases (is_total_code e.0) (nat_lt 0 e.1.facts) cell.some) [
              | inl total ↦ or_left (is_total_code (recoded columns e.0)) (nat_lt 0 e.1.facts)
                  (recoded_codes-all more columns e.0.codes long have texts total)
              | inr some ↦ or_right (is_total_code (recoded columns e.0)) (nat_lt 0 e.1.facts) some
            ];
          }) rest.0,
      ap make codes.1 ∙ ap (λ (others : Cells). (key_at more e.0.codes, e.1) ∷ others) rest.1,
    )

-- codes that differ still do
same_codes-recoded : (more : Dictionaries) (columns : List Column) (measures : ℕ) (a b : Codes × Tally)
    → length columns ≡ length more → HaveCodes more columns → All IsDictionary more → IsCodedCell more measures a
    → IsCodedCell more measures b → same_codes a.0 b.0 ≡ false
    → same_codes (recoded columns a.0) (recoded columns b.0) ≡ false
same_codes-recoded more columns measures a b long have texts is_a is_b apart =
    false_from_ne_true (same_codes (recoded columns a.0) (recoded columns b.0)) (λ same.
    let coords : coords_at more b.0.codes ≡ coords_at more a.0.codes =
    sym (are_codes-HaveCodes more columns b.0.codes long have texts is_b.codes).1
    ∙ ap (λ (k : Codes). coords_at (dictionaries_of columns) k.codes)
    (sym (same_codes-exact (recoded columns a.0) (recoded columns b.0) same))
    ∙ (are_codes-HaveCodes more columns a.0.codes long have texts is_a.codes).1 in
    let lists : b.0.codes ≡ a.0.codes = AreCodesOf-alone more (coords_at more a.0.codes) a.0.codes b.0.codes
    (AreCodesOf-coords_at more a.0.codes texts is_a.codes) is_b.codes (omega (arith, is_a.eight, is_b.eight)) coords in
    let make : List ℕ → Codes = λ xs. record { codes = xs } in
    both_ways (same_codes a.0 b.0) apart
    (subst (λ (x : Codes). same_codes a.0 x ≡ true) (ap make (sym lists)) (same_codes-IsEquivalence.refl a.0)))

AreApart-recoded : (more : Dictionaries) (columns : List Column) (measures : ℕ) (cells : CodedCells)
    → length columns ≡ length more → HaveCodes more columns → All IsDictionary more
    → All (IsCodedCell more measures) cells → AreApart cells → AreApart (recoded_cells columns cells)
AreApart-recoded more columns measures [] long have texts all apart = AreApart-nil
AreApart-recoded more columns measures (e ∷ cells) long have texts all apart =
    let P : Codes × Tally → Type 0 = IsCodedCell more measures in
    IsDistinct-cons same_codes (recoded columns e.0) (keys_of (recoded_cells columns cells))
    (from cells (All-tail P e cells all) (IsDistinct-head same_codes e.0 (keys_of cells) apart))
    (AreApart-recoded more columns measures cells long have texts (All-tail P e cells all)
    (IsDistinct-tail same_codes e.0 (keys_of cells) apart)) where
      from : (others : CodedCells) → All (IsCodedCell more measures) others
          → AllByRecursion (λ y. same_codes e.0 y ≡ false) (keys_of others)
          → AllByRecursion (λ y. same_codes (recoded columns e.0) y ≡ false) (keys_of (recoded_cells columns others))
      from [] each differ = tt
      from (other ∷ others) each differ = (
        same_codes-recoded more columns measures e other long have texts
            (All-head (IsCodedCell more measures) e cells all)
            (All-head (IsCodedCell more measures) other others each) differ.0,
        from others (All-tail (IsCodedCell more measures) other others each) differ.1,
      )

HaveAll-recoded : (schema : Layout) (more : Dictionaries) (columns : List Column) (facts : List Fact) (set : ℕ)
    (cells : CodedCells) → length columns ≡ length more → HaveCodes more columns → All IsDictionary more → 0 < set
    → HaveAll schema more facts (set ∷ []) cells
    → HaveAll schema (dictionaries_of columns) facts (set ∷ []) (recoded_cells columns cells)
HaveAll-recoded schema more columns facts set cells long have texts above all =
    let same = IsCodedCell-recoded more columns (length schema.measures) cells long have texts all.each in
    record {
      distinct = AreApart-recoded more columns (length schema.measures) cells long have texts all.each all.distinct;
      each = same.0;
      total = λ among. absurd
          (both_ways (is_among 0 (set ∷ [])) (rw (ne_eqb set 0 (λ at. absurd (omega (arith, at, above)))) refl) among);
      counts = rw same.1 all.counts;
      keys = rw same.1 all.keys;
      tallies = rw same.1 all.tallies;
    }

-- their set is the finest
pub key_in-recoded : (dictionaries : Dictionaries) (measures : ℕ) (cells : CodedCells)
    → All (IsCodedCell dictionaries measures) cells
    → All (λ cell. key_in cell.0 (finest_set (length dictionaries)) ≡ cell.0) cells
key_in-recoded dictionaries measures cells all = λ k d inside.
    let make : List ℕ → Codes = λ codes. record { codes = codes } in
    ap make (kept_codes-are_codes dictionaries (get_or cells k d).0.codes (all k d inside).codes)

-- ---- columns

-- a text more has its code
IsRecoded-push : (old some : List (List ℕ)) (text : List ℕ) (was new : Column) → IsRecoded old some was
    → PutsCode (Some text) was new → IsRecoded old (some ++ text ∷ []) new
IsRecoded-push old some text was new is puts = record {
  dictionary = puts.dictionary;
  grown = (
    is.grown.0 ++ more.0,
    grown ∙ ap (λ (texts : List (List ℕ)). texts ++ more.0) is.grown.1 ∙ append_assoc old is.grown.0 more.0,
  );
  long = omega (
    arith,
    ap length puts.codes_are,
    length-append was.codes.items (puts.code ∷ []),
    length-append some (text ∷ []),
    is.long,
  );
  each = λ place inside. elim (cases_lt place (length some)) [
    | inl below ↦
        rw (
          puts.codes_are,
          get_or_append_left was.codes.items (puts.code ∷ []) 0 place (omega (arith, below, is.long)),
          get_or_append_left some (text ∷ []) [] place below,
        ) (IsCodeIn-more was.dictionary new.dictionary more.0 (Some (get_or some place []))
        (get_or was.codes.items place 0) grown puts.dictionary (is.each place below))
    | inr past ↦
        let last : place ≡ length some = omega (arith, past, inside, length-append some (text ∷ [])) in
        let here : get_or (was.codes.items ++ puts.code ∷ []) place 0 ≡ puts.code =
        ap (λ (k : ℕ). get_or (was.codes.items ++ puts.code ∷ []) k 0) (last ∙ sym is.long)
        ∙ get_or-append_seam was.codes.items puts.code [] 0 in
        let there : get_or (some ++ text ∷ []) place [] ≡ text =
        ap (λ (k : ℕ). get_or (some ++ text ∷ []) k []) last ∙ get_or-append_seam some text [] [] in
        rw (puts.codes_are, here, there) (IsCodeIn-IsCodeOf new.dictionary (Some text) puts.code puts.alone puts.valid)
  ];
} where
  more : (texts : List (List ℕ)) × (texts_with (Some text) was.dictionary ≡ was.dictionary ++ texts)
  more = texts_with-append (Some text) was.dictionary

  grown : new.dictionary ≡ was.dictionary ++ more.0
  grown = puts.texts ∙ more.1

pub IsRecoded-more : (old texts : List (List ℕ)) (place : ℕ) (was new : Column) → place < length texts
    → IsRecoded old (take place texts) was → PutsCode (Some (get_or texts place [])) was new
    → IsRecoded old (take (place + 1) texts) new
IsRecoded-more old texts place was new inside is puts =
    rw (take_more texts place [] inside) (IsRecoded-push old (take place texts) (get_or texts place []) was new is puts)

pub AreRecoded-none : (more : Dictionaries) → AreRecoded [] more []
AreRecoded-none more = record { long = refl; each = λ d unused inside. absurd (omega (arith, inside)) }

-- a column more
pub AreRecoded-push : (old more : Dictionaries) (columns : List Column) (texts : List (List ℕ)) (column : Column)
    → AreRecoded old more columns → IsRecoded texts (get_or more (length columns) []) column
    → AreRecoded (old ++ texts ∷ []) more (columns ++ column ∷ [])
AreRecoded-push old more columns texts column are is = record {
  long = omega (arith, length-append columns (column ∷ []), length-append old (texts ∷ []), are.long);
  each = λ d unused inside. elim (cases_lt d (length old)) [
    | inl below ↦
        rw (
          get_or_append_left old (texts ∷ []) [] d below,
          get_or_append_left columns (column ∷ []) unused d (omega (arith, below, are.long)),
        ) (are.each d unused below)
    | inr past ↦
        let last : d ≡ length columns = omega (arith, past, inside, length-append old (texts ∷ []), are.long) in
        let first : get_or (old ++ texts ∷ []) d [] ≡ texts =
        ap (λ (k : ℕ). get_or (old ++ texts ∷ []) k []) (last ∙ are.long) ∙ get_or-append_seam old texts [] [] in
        let second : get_or (columns ++ column ∷ []) d unused ≡ column =
        ap (λ (k : ℕ). get_or (columns ++ column ∷ []) k unused) last ∙ get_or-append_seam columns column [] unused in
        rw (first, second, last) is
  ];
}

-- the old texts have their places
AreGrown-recoded : (old : Dictionaries) (columns : List Column) → length columns ≡ length old
    → ((d : ℕ) (unused : Column) → d < length old
    → (texts : List (List ℕ)) × ((get_or columns d unused).dictionary ≡ get_or old d [] ++ texts))
    → AreGrown old (dictionaries_of columns)
AreGrown-recoded [] [] long each = tt
AreGrown-recoded [] (column ∷ columns) long each = absurd (omega (arith, long))
AreGrown-recoded (texts ∷ old) [] long each = absurd (omega (arith, long))
AreGrown-recoded (texts ∷ old) (column ∷ columns) long each = (
  each 0 column (omega arith),
  AreGrown-recoded old columns (omega (arith, long)) (λ d unused inside. each (suc d) unused (omega (arith, inside))),
)

-- and are texts that differ
All-recoded : (old more : Dictionaries) (columns : List Column) → AreRecoded old more columns
    → All IsDictionary (dictionaries_of columns)
All-recoded old more columns are = from columns (λ d unused inside.
    (are.each d unused (omega (arith, inside, are.long))).dictionary) where
      from : (columns : List Column)
          → ((d : ℕ) (unused : Column) → d < length columns → IsDictionary (get_or columns d unused).dictionary)
          → All IsDictionary (dictionaries_of columns)
      from [] each = All-nil IsDictionary
      from (column ∷ columns) each = All-cons IsDictionary column.dictionary (dictionaries_of columns)
          (each 0 column (omega arith))
          (from columns (λ d unused inside. each (suc d) unused (omega (arith, inside))))

-- ---- the facts of both
-- cells over the finest set, which is no other than this
pub record IsFinest (schema : Layout) (number : ℕ) (dictionaries : Dictionaries) (facts : List Fact)
    (cells : CodedCells) : Type 0 where
  pub coded : IsCoded schema (finest_set (length schema.dimensions) ∷ []) number dictionaries cells
  pub all : IsCubeOfAll facts
      (lattice_of schema (finest_set (length schema.dimensions) ∷ []) number dictionaries cells)

HaveAll-IsFinest : (schema : Layout) (number : ℕ) (dictionaries : Dictionaries) (facts : List Fact) (cells : CodedCells)
    → IsFinest schema number dictionaries facts cells
    → HaveAll schema dictionaries facts (finest_set (length schema.dimensions) ∷ []) cells
HaveAll-IsFinest schema number dictionaries facts cells is = record {
  distinct = is.coded.distinct;
  each = is.coded.each;
  total = is.coded.total;
  counts = λ set among. is.coded.counts set among ∙ is.all.facts_are;
  keys = is.all.cells.keys;
  tallies = is.all.cells.tallies;
}

HaveCodes-AreRecoded : (old more : Dictionaries) (columns : List Column) → AreRecoded old more columns → HaveCodes more columns
HaveCodes-AreRecoded old more columns are = λ d unused inside. (get_or old d [], are.each d unused (omega (arith, inside, are.long)))

-- the cells of one cube under the codes of the columns
pub IsCodedCell-IsFinest : (schema : Layout) (number : ℕ) (old more : Dictionaries) (facts : List Fact)
    (columns : List Column) (cells : CodedCells) → length old ≡ length more → AreRecoded old more columns
    → IsFinest schema number more facts cells
    → All (IsCodedCell (dictionaries_of columns) (length schema.measures)) (recoded_cells columns cells)
IsCodedCell-IsFinest schema number old more facts columns cells long are is =
    (IsCodedCell-recoded more columns (length schema.measures) cells (are.long ∙ long) (HaveCodes-AreRecoded old more columns are)
    is.coded.texts is.coded.each).0

pub IsFinest-merged : (schema : Layout) (number others_number : ℕ) (old more : Dictionaries) (facts others : List Fact)
    (columns : List Column) (cells more_cells merged : CodedCells) → IsFinest schema number old facts cells
    → IsFinest schema others_number more others more_cells → AreRecoded old more columns
    → FillsSet (finest_set (length schema.dimensions)) (recoded_cells columns more_cells) cells merged
    → IsFinest schema (length (others ++ facts)) (dictionaries_of columns) (others ++ facts) merged
IsFinest-merged schema number others_number old more facts others columns cells more_cells merged is is_more are fills =
    let finest : ℕ = finest_set (length schema.dimensions) in
    let dictionaries : Dictionaries = dictionaries_of columns in
    let texts : All IsDictionary dictionaries = All-recoded old more columns are in
    let below = finest_set-below (length schema.dimensions) (some_dimension (its_schema is.coded.lattice)) in
    let grown = IsCodedCell-AreGrown old dictionaries (length schema.measures) cells
    (AreGrown-recoded old columns are.long (λ d unused inside. (are.each d unused inside).grown)) texts
    is.coded.each in
    let mine = HaveAll-IsFinest schema number old facts cells is in
    let before : HaveAll schema dictionaries facts (finest ∷ []) cells = record {
      distinct = mine.distinct;
      each = grown.0;
      total = mine.total;
      counts = rw grown.1 mine.counts;
      keys = rw grown.1 mine.keys;
      tallies = rw grown.1 mine.tallies;
    } in
    let theirs : HaveAll schema dictionaries others (finest ∷ []) (recoded_cells columns more_cells) =
    HaveAll-recoded schema more columns others finest more_cells
    (are.long ∙ is.coded.lattice.dictionaries ∙ sym is_more.coded.lattice.dictionaries) (HaveCodes-AreRecoded old more columns are)
    is_more.coded.texts below.0 (HaveAll-IsFinest schema others_number more others more_cells is_more) in
    let base : (fs : List Fact) → All (λ fact. fits schema fact ≡ true) fs → IsBase schema dictionaries fs =
    λ fs fit. record {
      is_schema = its_schema is.coded.lattice;
      width = length-map columns (λ (column : Column). column.dictionary) ∙ are.long ∙ is.coded.lattice.dictionaries;
      texts = texts;
      fit = fit;
    } in
    let both = HaveAll-FillsSet schema dictionaries others facts finest finest (recoded_cells columns more_cells) cells merged
    (base others is_more.all.fit) is.all.fit below.1 below.0 below.1 (and_self finest) theirs before fills in
    let cube = IsCubeOfAll-HaveAll schema dictionaries (others ++ facts) finest merged
    (base (others ++ facts) (All-append (λ fact. fits schema fact ≡ true) others facts is_more.all.fit is.all.fit))
    below.1 both in
    record { coded = cube.0; all = cube.1 }

-- ---- two cubes
-- two cubes over the finest set, and the columns of the texts of both
pub record AreMergeable (schema : Layout) (number more_number : ℕ) (old more : Dictionaries) (columns : List Column)
    (cells more_cells : CodedCells) (facts others : List Fact) : Type 0 where
  pub is : IsFinest schema number old facts cells
  pub is_more : IsFinest schema more_number more others more_cells
  pub are : AreRecoded old more columns

pub columns-dimensions : (schema : Layout) (number more_number : ℕ) (old more : Dictionaries) (columns : List Column)
    (cells more_cells : CodedCells) (facts others : List Fact)
    → AreMergeable schema number more_number old more columns cells more_cells facts others
    → length columns ≡ length schema.dimensions
columns-dimensions schema number more_number old more columns cells more_cells facts others both =
    both.are.long ∙ both.is.coded.lattice.dictionaries

pub HaveOneWidth-AreMergeable : (schema : Layout) (number more_number : ℕ) (old more : Dictionaries)
    (columns : List Column) (cells more_cells : CodedCells) (facts others : List Fact)
    → AreMergeable schema number more_number old more columns cells more_cells facts others
    → HaveOneWidth (recoded_cells columns more_cells) cells
    × All (λ cell. key_in cell.0 (finest_set (length columns)) ≡ cell.0) (recoded_cells columns more_cells)
HaveOneWidth-AreMergeable schema number more_number old more columns cells more_cells facts others both =
    let dictionaries : Dictionaries = dictionaries_of columns in
    let long : length old ≡ length more =
    both.is.coded.lattice.dictionaries ∙ sym both.is_more.coded.lattice.dictionaries in
    let each = IsCodedCell-IsFinest schema more_number old more others columns more_cells long both.are both.is_more in (
      record {
        measures = length schema.measures;
        each = All-weaker (IsCodedCell dictionaries (length schema.measures))
            (λ cell. length cell.1.bags ≡ length schema.measures) (λ cell is. is.width)
            (recoded_cells columns more_cells) each;
        found = λ codes. coded_at-width old (length schema.measures) cells codes both.is.coded.each;
      },
      rw (length-map columns (λ (column : Column). column.dictionary)) at
          (key_in-recoded dictionaries (length schema.measures) (recoded_cells columns more_cells) each),
    )

-- the level of one that is merged into the other is a cube of the facts of both
pub IsLeveled-merged : {N : Type 0} (schema : Layout) (number more_number : ℕ) (old more : Dictionaries)
    (columns : List Column) (cells more_cells : CodedCells) (facts others : List Fact) (level : Level N)
    → AreMergeable schema number more_number old more columns cells more_cells facts others
    → level.set ≡ finest_set (length schema.dimensions)
    → FillsSet (finest_set (length columns)) (recoded_cells columns more_cells) cells level.cells.entries
    → IsLeveled schema (level.set ∷ []) (number + more_number) (dictionaries_of columns) (level ∷ [])
    × IsCubeOfAll (others ++ facts)
    (lattice_of schema (level.set ∷ []) (number + more_number) (dictionaries_of columns) (cells_of (level ∷ [])))
IsLeveled-merged schema number more_number old more columns cells more_cells facts others level both set fills =
    let texts : Dictionaries = dictionaries_of columns in
    let same = columns-dimensions schema number more_number old more columns cells more_cells facts others both in
    let merged = IsFinest-merged schema number more_number old more facts others columns cells more_cells
    level.cells.entries both.is both.is_more both.are (rw same at fills) in
    let count : length (others ++ facts) ≡ number + more_number =
    omega (arith, length-append others facts, both.is.all.facts_are, both.is_more.all.facts_are) in
    let coded : IsCoded schema (level.set ∷ []) (number + more_number) texts level.cells.entries =
    rw (set, ← count) merged.coded in
    let all : IsCubeOfAll (others ++ facts)
    (lattice_of schema (level.set ∷ []) (number + more_number) texts level.cells.entries) =
    rw (set, ← count) merged.all in (
      IsLeveled-alone schema (number + more_number) texts level (others ++ facts) coded all,
      rw (append-nil level.cells.entries) all,
    )

-- cubes over one set each
pub AreMergeable-IsLeveled : {N : Type 0} (schema more_schema : Layout) (sets more_sets : List ℕ)
    (number more_number : ℕ) (old more : Dictionaries) (columns : List Column) (levels more_levels : List (Level N))
    (first more_first : Level N) (facts others : List Fact) → IsLeveled schema sets number old levels
    → IsLeveled more_schema more_sets more_number more more_levels → more_schema ≡ schema
    → sets ≡ finest_set (length schema.dimensions) ∷ [] → more_sets ≡ finest_set (length more_schema.dimensions) ∷ []
    → first ≡ get_or levels 0 first → more_first ≡ get_or more_levels 0 more_first → AreRecoded old more columns
    → IsCubeOfAll facts (lattice_of schema sets number old (cells_of levels))
    → IsCubeOfAll others (lattice_of more_schema more_sets more_number more (cells_of more_levels))
    → AreMergeable schema number more_number old more columns first.cells.entries more_first.cells.entries facts others
AreMergeable-IsLeveled {N} schema more_schema sets more_sets number more_number old more columns levels more_levels
    first more_first facts others is is_more alike one more_one there more_there are all more_all =
    let sole = sole_level levels first (finest_set (length schema.dimensions)) is one there in
    let more_sole =
    sole_level more_levels more_first (finest_set (length more_schema.dimensions)) is_more more_one more_there in
    record {
      is = record { coded = rw (one, sole.1) at is.coded; all = rw (one, sole.1) at all };
      is_more = record {
        coded = rw (more_one, more_sole.1, alike) at is_more.coded;
        all = rw (more_one, more_sole.1, alike) at more_all;
      };
      are = are;
    }

-- The grouping sets of a schema that was read.
use Rattle.std.proofs.Common.{◌≡◌, ℕ, zero, suc, ◌+◌, ◌-◌, ◌*◌, ◌^◌, ◌<◌, ◌≤◌, ◌==◌, ◌||◌, Bool, true, false, not, cond}
use Rattle.std.proofs.Common.{List, [], ◌∷◌, ◌++◌, length, map, filter, take, Option, Some, None, Ok, Err, unwrap_or}
use Rattle.std.proofs.Common.{codes, refl, sym, ap, ap₂, ◌∙◌, subst, inl, inr, arith, zero-add, eqb-true}
use Rattle.std.specs.Prelude.{⊤, ◌&&◌, is_some, if◌then◌else◌}
use Rattle.std.specs.List.{range_with_len}
use Rattle.std.specs.Str.{bytes_eq}
use Rattle.std.proofs.lemmas.List.{length-append}
use Rattle.std.proofs.Math.Nat.{pow-succ', pow-le-pow_right}
use Rattle.std.proofs.lemmas.Bool.{and_parts, cases_Bool, not-true, false_from_ne_true, false≢true}
use Rattle.std.proofs.lemmas.Bool.Decides.{nat_tests}
use Rattle.std.proofs.lemmas.Grind.{pow_more}
use Rattle.std.proofs.lemmas.Nat.{pow_pos}
use Rattle.std.proofs.lemmas.Slice.Eq.{bytes_eq-Decides}
use Rattle.std.specs.Option.{option_map_or}
use Rattle.std.proofs.lemmas.List.Folds.{list_any-append}
use Rattle.toml.specs.Data.{Members, string, get_member}
use Rattle.cube_core.specs.Cube.{AreRows, AreRowsOver}
use Rattle.cube_core.specs.GroupingSet.{all_sets, is_among}
use Rattle.cube_core.specs.Layout.{Layout, IsSchema, is_listed, are_distinct, number_of_dimensions}
use Rattle.cube_core.specs.TextPlaces.{AreTextPlaces, at_places}
use Rattle.cube_core.specs.TextsDocument.{text_places_of_value}
use Rattle.cube_core.specs.SchemaDocument.{dimensions_in, measures_in, spellings_in, max_records_in}
use Rattle.cube_core.specs.SchemaDocument.{default_max_records, record_limit, mask_of_names, rollup_sets, kept_sets}
use Rattle.cube_core.specs.SchemaDocument.{sets_of_grouping, grouping_sets_in, feed_version, version_in, parts_in}
use Rattle.cube_core.specs.FeedDocument.{columns_of_value}
use Rattle.cube_core.specs.DecimalsDocument.{decimals_of_value}
use Rattle.cube_core.specs.SchemaDocument.{columns_in, decimals_in, least_measures_in, text_places_in, texts_at}
use Rattle.cube_core.specs.SchemaDocument.{named_parts, schema_of_parts, first_fault, layout_of, schema_of}
use Rattle.cube_core.specs.declared.fact.Fact.{Fact}
use Rattle.cube_core.specs.declared.key.Row.{Row}
use Rattle.cube_core.specs.declared.schema_fault.SchemaFault.{SchemaFault}
use Rattle.cube_core.proofs.GroupingLaws.{kept_sets-all_sets}
use Rattle.cube_core.proofs.TextPlaceLaws.{at_places-length}
use Rattle.cube_core.proofs.TextsDocumentLaws.{no_places-are, said-are}
use Rattle.cube_laws.specs.Cells.{all_counted}
use Rattle.cube_laws.specs.Written.{GivesNames}

-- the schema that is answered is the document's
option_map_or-Ok : (found : Option SchemaFault) (layout s : Layout) → option_map_or Err found (Ok layout) ≡ Ok s
    → layout ≡ s
option_map_or-Ok None layout s is = cc
option_map_or-Ok (Some fault) layout s is = cc

pub schema_of-layout_of : (document : Members) (s : Layout) → schema_of document ≡ Ok s → layout_of document ≡ s
schema_of-layout_of document s is = option_map_or-Ok (first_fault document) (layout_of document) s is

-- ---- the places of texts
-- as many texts stand behind the dimensions of a document as it says are counted
text_places-are : (document : Members) (found : Option (List ℕ)) → found ≡ text_places_in document
    → AreTextPlaces (length (measures_in document)) (unwrap_or found [])
text_places-are document None is = no_places-are (length (measures_in document))
text_places-are document (Some places) is =
    said-are (measures_in document) (get_member (codes "decimals") document) (get_member (codes "texts") document) places
    (sym is)

number_of_dimensions-document : (document : Members)
    → number_of_dimensions (layout_of document) ≡ length (dimensions_in document)
number_of_dimensions-document document =
    let places = unwrap_or (text_places_in document) [] in
    omega (
      arith,
      length-append (dimensions_in document) (at_places places 0 (measures_in document)),
      at_places-length places (measures_in document) (text_places-are document (text_places_in document) refl),
    )

-- without a grouping all are kept
pub grouping_sets-all_sets : (document : Members) (s : Layout) → schema_of document ≡ Ok s
    → get_member (codes "grouping") document ≡ None → s.grouping_sets ≡ all_sets (number_of_dimensions s)
grouping_sets-all_sets document s is none =
    subst (λ (t : Layout). t.grouping_sets ≡ all_sets (number_of_dimensions t)) (schema_of-layout_of document s is)
    (ap (λ grouping. unwrap_or (sets_of_grouping (dimensions_in document) grouping) []) none
    ∙ kept_sets-all_sets (length (dimensions_in document))
    ∙ ap all_sets (sym (number_of_dimensions-document document)))

-- a document of names alone has the parts of a schema that is told by them
pub GivesNames-schema_of : (document : Members) (dimensions measures spellings : List (List ℕ))
    → GivesNames document dimensions measures spellings
    → schema_of document ≡ schema_of_parts (named_parts dimensions measures spellings)
GivesNames-schema_of document dimensions measures spellings gives =
    let ds : dimensions_in document ≡ dimensions = ap (λ o. unwrap_or o []) gives.at_dimensions in
    let ms : measures_in document ≡ measures = ap (λ o. unwrap_or o []) gives.at_measures in
    let texts : spellings_in document ≡ spellings = ap (λ o. unwrap_or o []) gives.at_aggregates in
    let limit : max_records_in document ≡ Some default_max_records =
    ap (λ o. option_map_or record_limit o (Some default_max_records)) gives.max_records in
    let sets : grouping_sets_in document ≡ Some (all_sets (length dimensions)) =
    ap₂ sets_of_grouping ds gives.grouping ∙ ap Some (kept_sets-all_sets (length dimensions)) in
    let version : version_in document ≡ Some 1 = ap (λ o. option_map_or feed_version o (Some 1)) gives.version in
    let columns : columns_in document ≡ Some None =
    ap (columns_of_value (dimensions_in document) (measures_in document)) gives.feed in
    let decimals : decimals_in document ≡ Some [] = ap (decimals_of_value (measures_in document)) gives.decimals in
    let places : text_places_in document ≡ Some [] =
    ap (text_places_of_value (measures_in document) (get_member (codes "decimals") document)) gives.texts in
    let least : least_measures_in document ≡ 1 =
    ap (λ feed. if is_some feed && is_some (texts_at (codes "measures") document) then 0 else 1) gives.feed in
    let parts : parts_in document ≡ named_parts dimensions measures spellings = λ i. record {
      dimensions = ds i;
      measures = ms i;
      least_measures = least i;
      spellings = texts i;
      max_records = limit i;
      grouping_sets = sets i;
      version = version i;
      columns = columns i;
      decimals = decimals i;
      text_places = places i;
    } in
    rw gives.known_keys (ap schema_of_parts parts)

pub AreRows-all_sets : (document : Members) (s : Layout) (facts : List Fact) (rows : List Row)
    → schema_of document ≡ Ok s → get_member (codes "grouping") document ≡ None → AreRows s facts rows
    → AreRowsOver (all_sets (number_of_dimensions s)) (number_of_dimensions s) s.aggregates (all_counted s facts) rows
AreRows-all_sets document s facts rows is none are =
    subst (λ sets. AreRowsOver sets (number_of_dimensions s) s.aggregates (all_counted s facts) rows)
    (grouping_sets-all_sets document s is none) are

-- a name that is no dimension adds nothing to a mask
pub mask_of_names-other : (name : List ℕ) (dimensions names : List (List ℕ)) → is_listed name dimensions ≡ false
    → mask_of_names dimensions (name ∷ names) ≡ mask_of_names dimensions names
mask_of_names-other name [] names other = refl
mask_of_names-other name (dimension ∷ dimensions) names other =
    let (here, after) = neither (bytes_eq name dimension) (is_listed name dimensions) other in
    let differs : bytes_eq dimension name ≡ false = false_from_ne_true _ (λ same.
    false≢true (sym here ∙ (bytes_eq-Decides name dimension).1 (sym ((bytes_eq-Decides dimension name).0 same)))) in
    rw (differs, mask_of_names-other name dimensions names after) refl
  where
    neither : (a b : Bool) → (a || b) ≡ false → (a ≡ false) × (b ≡ false)
    neither true b is = cc
    neither false b is = (refl, is)

-- no name has the empty mask
mask_of_names-nil : (dimensions : List (List ℕ)) → mask_of_names dimensions [] ≡ 0
mask_of_names-nil [] = refl
mask_of_names-nil (dimension ∷ dimensions) = rw (mask_of_names-nil dimensions) refl

power-double : (mask power : ℕ) → 1 ≤ power → mask ≡ power - 1 → 1 + 2 * mask ≡ 2 * power - 1
power-double mask power least is = omega (arith, is)

-- the mask of the first dimensions
mask_of_names-take : (dimensions : List (List ℕ)) (first : ℕ) → are_distinct dimensions ≡ true
    → first ≤ length dimensions → mask_of_names dimensions (take first dimensions) ≡ 2 ^ first - 1
mask_of_names-take dimensions zero distinct few = mask_of_names-nil dimensions
mask_of_names-take [] (suc first) distinct few = absurd (omega (arith, few))
mask_of_names-take (dimension ∷ dimensions) (suc first) distinct few =
    let (other, others) = and_parts (not (is_listed dimension dimensions)) (are_distinct dimensions) distinct in
    let rest : mask_of_names dimensions (dimension ∷ take first dimensions) ≡ 2 ^ first - 1
    = mask_of_names-other dimension dimensions (take first dimensions) (not-true (is_listed dimension dimensions) other)
    ∙ mask_of_names-take dimensions first others (omega (arith, few)) in
    let itself : bytes_eq dimension dimension ≡ true = (bytes_eq-Decides dimension dimension).1 refl in
    rw (itself, rest)
    (power-double (2 ^ first - 1) (2 ^ first) (pow_pos first) refl ∙ ap (λ n. n - 1) (sym (pow-succ' 2 first)))

-- numbers from a on, each as the other function has it
map-same : (f g : ℕ → ℕ) (a n : ℕ) → ((i : ℕ) → i < a + n → f i ≡ g i)
    → map f (range_with_len a n) ≡ map g (range_with_len a n)
map-same f g a zero same = refl
map-same f g a (suc n) same =
    ap₂ (λ x xs. x ∷ xs) (same a (omega arith)) (map-same f g (a + 1) n (λ i below. same i (omega (arith, below))))

-- the first of names that differ differ
pub are_distinct-front : (front end : List (List ℕ)) → are_distinct (front ++ end) ≡ true → are_distinct front ≡ true
are_distinct-front [] end distinct = refl
are_distinct-front (name ∷ front) end distinct =
    let (other, others) = and_parts (not (is_listed name (front ++ end))) (are_distinct (front ++ end)) distinct in
    let here : not (is_listed name front) ≡ true = unlisted (is_listed name front) (is_listed name end)
    (sym (ap not (list_any-append (bytes_eq name) front end)) ∙ other) in
    rw here (are_distinct-front front end others)
  where
    unlisted : (a b : Bool) → not (a || b) ≡ true → not a ≡ true
    unlisted true b is = cc
    unlisted false b is = refl

-- the sets of ROLLUP, by their masks
abbrev first_sets : ℕ → List ℕ
first_sets dimensions = map (λ first. 2 ^ first - 1) (range_with_len 0 (dimensions + 1))

rollup_sets-first_sets : (dimensions : List (List ℕ)) → are_distinct dimensions ≡ true
    → rollup_sets dimensions ≡ first_sets (length dimensions)
rollup_sets-first_sets dimensions distinct =
    map-same (λ first. mask_of_names dimensions (take first dimensions)) (λ first. 2 ^ first - 1) 0
    (length dimensions + 1)
    (λ first below. mask_of_names-take dimensions first distinct (omega (arith, below)))

-- numbers that rise, from a on and below b
abbrev pub Rise : ℕ → ℕ → List ℕ → Type 0
Rise a b [] = ⊤
Rise a b (x ∷ xs) = (a ≤ x) × (x < b) × Rise (x + 1) b xs

-- such numbers have none below a
pub is_among-Rise : (set a b : ℕ) (xs : List ℕ) → Rise a b xs → set < a → is_among set xs ≡ false
is_among-Rise set a b [] rise before = refl
is_among-Rise set a b (x ∷ xs) rise before =
    let differs : (x == set) ≡ false = grind (arith, nat_tests, rise.0) in
    rw (differs, is_among-Rise set (x + 1) b xs rise.2 (omega (arith, rise.0))) refl

-- of numbers above x those among x and others are those among the others
is_among-below : (x a n : ℕ) (xs : List ℕ) → x < a
    → filter (λ set. is_among set (x ∷ xs)) (range_with_len a n) ≡ filter (λ set. is_among set xs) (range_with_len a n)
is_among-below x a zero xs before = refl
is_among-below x a (suc n) xs before =
    let differs : (x == a) ≡ false = grind (arith, nat_tests) in
    rw differs
    (ap (λ rest. cond (is_among a xs) (a ∷ rest) rest) (is_among-below x (a + 1) n xs (omega (arith, before))))

-- of the numbers from a on those among rising ones are these
pub filter-Rise : (a n b : ℕ) (xs : List ℕ) → a + n ≡ b → Rise a b xs
    → filter (λ set. is_among set xs) (range_with_len a n) ≡ xs
filter-Rise a zero b [] is rise = refl
filter-Rise a zero b (x ∷ xs) is rise = absurd (omega (arith, rise.0, rise.1, is))
filter-Rise a (suc n) b [] is rise = filter-Rise (a + 1) n b [] (omega (arith, is)) tt
filter-Rise a (suc n) b (x ∷ xs) is rise = elim (cases_Bool (x == a)) [
  | inl here ↦
      let same : x ≡ a = eqb-true x a here in
      let after : Rise (a + 1) b xs = subst (λ y. Rise (y + 1) b xs) same rise.2 in
      rw here (ap₂ (λ y ys. y ∷ ys) (sym same)
      (is_among-below x (a + 1) n xs (omega (arith, same)) ∙ filter-Rise (a + 1) n b xs (omega (arith, is)) after))
  | inr other ↦
      let later : a + 1 ≤ x = grind (arith, nat_tests, rise.0) in
      rw (other, is_among-Rise a (x + 1) b xs rise.2 (omega (arith, later)))
      (filter-Rise (a + 1) n b (x ∷ xs) (omega (arith, is)) (later, rise.1, rise.2))
]

-- the masks of the first dimensions rise
first_sets-Rise : (dimensions j m least : ℕ) → j + m ≡ dimensions + 1 → least < 2 ^ j
    → Rise least (2 ^ dimensions) (map (λ first. 2 ^ first - 1) (range_with_len j m))
first_sets-Rise dimensions j zero least is below = tt
first_sets-Rise dimensions j (suc m) least is below =
    let two : 0 < 2 = omega arith in
    let bound : 2 ^ j ≤ 2 ^ dimensions = pow-le-pow_right two (omega (arith, is)) in
    let next : 2 ^ (j + 1) ≡ 2 ^ j * 2 = pow_more 2 j in (
      omega (arith, below),
      omega (arith, bound, pow_pos j),
      first_sets-Rise dimensions (j + 1) m (2 ^ j - 1 + 1) (omega (arith, is)) (omega (arith, next, pow_pos j)),
    )

kept_sets-first_sets : (dimensions : ℕ) → kept_sets dimensions (first_sets dimensions) ≡ first_sets dimensions
kept_sets-first_sets dimensions =
    filter-Rise 0 (2 ^ dimensions) (2 ^ dimensions) (first_sets dimensions) (zero-add (2 ^ dimensions))
    (first_sets-Rise dimensions 0 (dimensions + 1) 0 (omega arith) (omega arith))

-- ROLLUP keeps the sets of the first dimensions
pub grouping_sets-first_sets : (document : Members) (s : Layout) → IsSchema s → schema_of document ≡ Ok s
    → get_member (codes "grouping") document ≡ Some (string (codes "rollup"))
    → s.grouping_sets ≡ first_sets (number_of_dimensions s)
grouping_sets-first_sets document s schema is rollup =
    subst (λ (t : Layout). IsSchema t → t.grouping_sets ≡ first_sets (number_of_dimensions t))
    (schema_of-layout_of document s is)
    (λ read.
    let dimensions = dimensions_in document in
    ap (λ grouping. unwrap_or (sets_of_grouping dimensions grouping) []) rollup
    ∙ ap (kept_sets (length dimensions)) (rollup_sets-first_sets dimensions
    (are_distinct-front dimensions (at_places (layout_of document).text_places 0 (measures_in document))
    (are_distinct-front (layout_of document).dimensions (layout_of document).measures read.names_are_distinct)))
    ∙ kept_sets-first_sets (length dimensions)
    ∙ ap first_sets (sym (number_of_dimensions-document document)))
    schema

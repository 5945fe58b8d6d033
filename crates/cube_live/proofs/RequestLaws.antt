-- What a record asks can be asked: its dimension is one of the cube's, its key has a coordinate for each,
-- and its source is one of the 64.
use Rattle.std.proofs.Common.{◌≡◌, ◌==◌, ◌+◌, ◌<◌, ◌≤◌, ◌∙◌, ℕ, Bool, true, false, List, [], length, drop, refl, sym}
use Rattle.std.proofs.Common.{ap, subst, arith}
use Rattle.std.specs.Prelude.{◌&&◌, ⊤, nat_lt, IfOk, IfSome, Option, Some, None, is_some, Result, Ok, Err, position}
use Rattle.std.specs.Prelude.{codes, option_and_then, if◌then◌else◌}
use Rattle.std.specs.Option.{option_map_or, ok_or}
use Rattle.std.specs.Str.{bytes_eq}
use Rattle.std.specs.List.{filter_map, list_all}
use Rattle.std.proofs.lemmas.Bool.{and_parts, eq-eqb, eqb-true, ltb-true}
use Rattle.std.proofs.lemmas.Result.{IfOk-weaker}
use Rattle.std.proofs.lemmas.List.{length-drop, length-take-le}
use Rattle.std.proofs.lemmas.List.Quantifiers.{position-Some}
use Rattle.cube_core.specs.Items.{field_at}
use Rattle.cube_core.specs.Layout.{Layout, cube_dimensions, number_of_dimensions}
use Rattle.cube_core.specs.Query.{Wanted, cell_of, drill_fault, place_of, spelled_by, wanted_by}
use Rattle.cube_core.specs.declared.key.Key.{Key}
use Rattle.cube_core.specs.declared.query.QueryFault.{QueryFault}
use Rattle.cube_core.specs.declared.query.QueryFault.TheVariants.{Field, NotCell, UnknownDimension}
use Rattle.cube_core.proofs.ItemLaws.{length-filter_map}
use Rattle.cube_live.specs.Live.{CanAsk}
use Rattle.cube_live.specs.Request.{asked, cell_and_dimension, cell_by, count_of, drill_by, drill_request, of_width}
use Rattle.cube_live.specs.Request.{question_of, refusals_by, request_of, roll_up_request, slice_request}
use Rattle.cube_live.specs.Request.{source_numbered, source_of, with_dimension}
use Rattle.cube_live.specs.declared.request.Question.TheVariants.{Print, Slice, Drill, RollUp, Refusals, Sync}
use Rattle.cube_live.specs.declared.request.Request.{Request}
use Rattle.cube_live.specs.declared.request.Request.TheVariants.{Change, Ask, Wrong}
use Rattle.cube_live.specs.declared.request.RequestFault.TheVariants.{Shape, Query}

-- what is asked can be asked of a schema's cube
abbrev pub IsSound : Layout → Request → Type 0
IsSound s (Change source) = (1 ≤ source) × (source ≤ 64)
IsSound s (Ask question) = CanAsk s question
IsSound s (Wrong fault) = ⊤

-- a choice of two
IsSound-if : (s : Layout) (test : Bool) (a b : Request) → (test ≡ true → IsSound s a) → IsSound s b
    → IsSound s (if test then a else b)
IsSound-if s true a b first second = first refl
IsSound-if s false a b first second = second

IsSound-of_width : (s : Layout) (width : ℕ) (fields : List (List ℕ)) (request : Request)
    → (length fields ≡ width → IsSound s request) → IsSound s (of_width width fields request)
IsSound-of_width s width fields request sound =
    IsSound-if s (length fields == width) request (Wrong Shape) (λ same. sound (eqb-true _ _ same)) tt

IsSound-asked : {T : Type 0} (s : Layout) (found : Result T QueryFault) (ask : T → Request)
    → IfOk found (λ value. IsSound s (ask value)) → IsSound s (asked found ask)
IsSound-asked s (Ok value) ask sound = sound
IsSound-asked s (Err fault) ask sound = tt

-- a choice of an answer or a fault has what the answer has
pub IfOk-if_Err : {A : Type 0} (P : A → Type 0) (test : Bool) (answer : Result A QueryFault) (fault : QueryFault)
    → (test ≡ true → IfOk answer P) → IfOk (if test then answer else Err fault) P
IfOk-if_Err P true answer fault has = has refl
IfOk-if_Err P false answer fault has = tt

-- a pattern that fields spell is as long as they are
pub spelled-length : (fields : List (List ℕ)) → IfOk (spelled_by fields) (λ pattern. length pattern ≡ length fields)
spelled-length fields =
    IfOk-if_Err _ (list_all (λ field. is_some (wanted_by field)) fields) (Ok (filter_map wanted_by fields)) Field
    (length-filter_map wanted_by fields)

-- the key of a pattern is as long as the pattern
pub key-length : (pattern : Wanted) → IfOk (cell_of pattern) (λ key. length key.coords ≡ length pattern)
key-length pattern =
    IfOk-if_Err {A = Key} (λ key. length key.coords ≡ length pattern) (list_all is_some pattern)
    (Ok (record { coords = filter_map (λ wanted. wanted) pattern })) NotCell
    (length-filter_map (λ wanted. wanted) pattern)

-- the cell that fields spell is as long as they are
cell_by-length : (fields : List (List ℕ))
    → IfOk (cell_by (spelled_by fields)) (λ key. length key.coords ≡ length fields)
cell_by-length fields = go (spelled_by fields) (spelled-length fields)
  where
    go : (spelled : Result Wanted QueryFault) → IfOk spelled (λ pattern. length pattern ≡ length fields)
        → IfOk (cell_by spelled) (λ key. length key.coords ≡ length fields)
    go (Ok pattern) long = IfOk-weaker (cell_of pattern) _ _ (λ key same. same ∙ long) (key-length pattern)
    go (Err fault) long = tt

-- a dimension that has a name is one of the cube's
pub place_of-below : (s : Layout) (name : List ℕ)
    → IfOk (place_of s name) (λ dimension. dimension < number_of_dimensions s)
place_of-below s name = go (position (λ dimension. bytes_eq dimension name) (cube_dimensions s)) refl
  where
    go : (found : Option ℕ) → position (λ dimension. bytes_eq dimension name) (cube_dimensions s) ≡ found
        → IfOk (ok_or found UnknownDimension) (λ dimension. dimension < number_of_dimensions s)
    go None is = tt
    go (Some place) is = omega (
      arith,
      (position-Some (λ dimension. bytes_eq dimension name) (cube_dimensions s) place [] is).0,
      length-take-le (number_of_dimensions s) s.dimensions (omega arith),
    )

-- a cell and a dimension of a record of the right width
pub cell_and_dimension-sound : (s : Layout) (fields : List (List ℕ)) → length fields ≡ 2 + number_of_dimensions s
    → IfOk (cell_and_dimension s fields)
    (λ at. (at.1 < number_of_dimensions s) × (length at.0.coords ≡ number_of_dimensions s))
cell_and_dimension-sound s fields width = go (cell_by (spelled_by (drop 2 fields))) (place_of s (field_at fields 1))
    (cell_by-length (drop 2 fields)) (place_of-below s (field_at fields 1))
  where
    long : length (drop 2 fields) ≡ number_of_dimensions s
    long = omega (arith, width, length-drop 2 fields)

    go : (key : Result Key QueryFault) (place : Result ℕ QueryFault)
        → IfOk key (λ k. length k.coords ≡ length (drop 2 fields))
        → IfOk place (λ dimension. dimension < number_of_dimensions s)
        → IfOk (with_dimension key place)
        (λ at. (at.1 < number_of_dimensions s) × (length at.0.coords ≡ number_of_dimensions s))
    go (Ok key) (Ok dimension) same below = (below, same ∙ long)
    go (Ok key) (Err fault) same below = tt
    go (Err fault) place same below = tt

IsSound-drill_by : (s : Layout) (at : Key × ℕ)
    → (at.1 < number_of_dimensions s) × (length at.0.coords ≡ number_of_dimensions s) → IsSound s (drill_by s at)
IsSound-drill_by s at sound = go (drill_fault s.grouping_sets at.1 at.0)
  where
    go : (said : Option QueryFault)
        → IsSound s (option_map_or (λ fault. Wrong (Query fault)) said (Ask (Drill at.0 at.1)))
    go None = sound
    go (Some fault) = tt

-- a source is one of the 64
pub source_of-bounds : (field : List ℕ) → IfSome (source_of field) (λ source. (1 ≤ source) × (source ≤ 64))
source_of-bounds field = go (count_of field)
  where
    in_range : (n : ℕ) (test : Bool) → (nat_lt 0 n && nat_lt n 65) ≡ test
        → IfSome (if test then Some n else None) (λ source. (1 ≤ source) × (source ≤ 64))
    in_range n true is =
        let both = and_parts _ _ is in
        let above : 0 < n = ltb-true 0 n both.0 in
        let below : n < 65 = ltb-true n 65 both.1 in
        (omega arith, omega arith)
    in_range n false is = tt

    go : (count : Option ℕ) → IfSome (option_and_then source_numbered count) (λ source. (1 ≤ source) × (source ≤ 64))
    go None = tt
    go (Some n) = in_range n (nat_lt 0 n && nat_lt n 65) refl

IsSound-refusals_by : (s : Layout) (source number : Option ℕ) → IfSome source (λ n. (1 ≤ n) × (n ≤ 64))
    → IsSound s (refusals_by source number)
IsSound-refusals_by s (Some source) (Some number) sound = sound
IsSound-refusals_by s (Some source) None sound = tt
IsSound-refusals_by s None number sound = tt

IsSound-question_of : (s : Layout) (fields : List (List ℕ)) → IsSound s (question_of s fields)
IsSound-question_of s fields =
    IsSound-if s (bytes_eq (field_at fields 0) (codes "print")) _ _
    (λ _. IsSound-of_width s 1 fields (Ask Print) (λ _. tt))
    (IsSound-if s (bytes_eq (field_at fields 0) (codes "slice")) _ _
    (λ _. IsSound-of_width s _ fields _ (λ _.
    IsSound-asked s (spelled_by (drop 1 fields)) (λ pattern. Ask (Slice pattern)) (any (spelled_by (drop 1 fields)))))
    (IsSound-if s (bytes_eq (field_at fields 0) (codes "drill")) _ _
    (λ _. IsSound-of_width s _ fields _ (λ width. IsSound-asked s (cell_and_dimension s fields) (drill_by s)
    (IfOk-weaker (cell_and_dimension s fields) _ _ (λ at. IsSound-drill_by s at)
    (cell_and_dimension-sound s fields width))))
    (IsSound-if s (bytes_eq (field_at fields 0) (codes "rollup")) _ _
    (λ _. IsSound-of_width s _ fields _ (λ width. IsSound-asked s (cell_and_dimension s fields)
    (λ at. Ask (RollUp at.0 at.1)) (cell_and_dimension-sound s fields width)))
    (IsSound-if s (bytes_eq (field_at fields 0) (codes "refusals")) _ _
    (λ _. IsSound-if s (length fields == 1) (Ask Refusals) _ (λ _. tt)
    (IsSound-of_width s 3 fields _ (λ _. IsSound-refusals_by s (source_of (field_at fields 1))
    (count_of (field_at fields 2)) (source_of-bounds (field_at fields 1)))))
    (IsSound-if s (bytes_eq (field_at fields 0) (codes "sync")) _ _
    (λ _. IsSound-of_width s 1 fields (Ask Sync) (λ _. tt))
    tt)))))
  where
    any : (found : Result Wanted QueryFault) → IfOk found (λ pattern. IsSound s (Ask (Slice pattern)))
    any (Ok pattern) = tt
    any (Err fault) = tt

-- what a record asks can be asked
pub IsSound-request_of : (s : Layout) (fields : List (List ℕ)) → IsSound s (request_of s fields)
IsSound-request_of s fields = go (source_of (field_at fields 0)) (source_of-bounds (field_at fields 0))
  where
    go : (source : Option ℕ) → IfSome source (λ n. (1 ≤ n) × (n ≤ 64))
        → IsSound s (option_map_or Change source (question_of s fields))
    go None bounds = IsSound-question_of s fields
    go (Some source) bounds = bounds

-- ---- what a reading of a record comes to
pub slice-Ok : (s : Layout) (fields : List (List ℕ)) (pattern : Wanted) → length fields ≡ 1 + number_of_dimensions s
    → spelled_by (drop 1 fields) ≡ Ok pattern
    → Ask (Slice pattern) ≡ slice_request s fields
slice-Ok s fields pattern width is = rw (eq-eqb (length fields) (1 + number_of_dimensions s) width, is) refl

pub slice-Err : (s : Layout) (fields : List (List ℕ)) (fault : QueryFault) → length fields ≡ 1 + number_of_dimensions s
    → spelled_by (drop 1 fields) ≡ Err fault
    → Wrong (Query fault) ≡ slice_request s fields
slice-Err s fields fault width is = rw (eq-eqb (length fields) (1 + number_of_dimensions s) width, is) refl

pub at-no_cell : (s : Layout) (fields : List (List ℕ)) (fault : QueryFault)
    → cell_by (spelled_by (drop 2 fields)) ≡ Err fault → Err fault ≡ cell_and_dimension s fields
at-no_cell s fields fault is = rw is refl

pub at-found : (s : Layout) (fields : List (List ℕ)) (key : Key) → cell_by (spelled_by (drop 2 fields)) ≡ Ok key
    → (place : Result ℕ QueryFault) → place ≡ place_of s (field_at fields 1)
    → with_dimension (Ok key) place ≡ cell_and_dimension s fields
at-found s fields key is place named = rw is (ap (with_dimension (Ok key)) named)

pub drill-found : (s : Layout) (fields : List (List ℕ)) (found : Result (Key × ℕ) QueryFault)
    → length fields ≡ 2 + number_of_dimensions s → found ≡ cell_and_dimension s fields
    → asked found (drill_by s) ≡ drill_request s fields
drill-found s fields found width is = rw (eq-eqb (length fields) (2 + number_of_dimensions s) width)
    (ap (λ (f : Result (Key × ℕ) QueryFault). asked f (drill_by s)) is)

pub roll_up-found : (s : Layout) (fields : List (List ℕ)) (found : Result (Key × ℕ) QueryFault)
    → length fields ≡ 2 + number_of_dimensions s → found ≡ cell_and_dimension s fields
    → asked found (λ at. Ask (RollUp at.0 at.1)) ≡ roll_up_request s fields
roll_up-found s fields found width is =
    rw (eq-eqb (length fields) (2 + number_of_dimensions s) width)
    (ap (λ (f : Result (Key × ℕ) QueryFault). asked f (λ at. Ask (RollUp at.0 at.1))) is)

-- a cell and a dimension that were found
pub found-sound : (s : Layout) (fields : List (List ℕ)) (at : Key × ℕ) → length fields ≡ 2 + number_of_dimensions s
    → Ok at ≡ cell_and_dimension s fields
    → (at.1 < number_of_dimensions s) × (length at.0.coords ≡ number_of_dimensions s)
found-sound s fields at width is =
    subst (λ (r : Result (Key × ℕ) QueryFault).
    IfOk r (λ at. (at.1 < number_of_dimensions s) × (length at.0.coords ≡ number_of_dimensions s))) (sym is)
    (cell_and_dimension-sound s fields width)

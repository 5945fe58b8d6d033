-- Facts of interest: conditions on the values of a fact, those facts of which they hold, and the words that spell them
-- (SQL:1999's WHERE by its comparisons, but that null is a value: equal to itself alone, and neither below nor above any;
-- the words are this project's choice).
use Rattle.std.specs.Prelude.{◌&&◌, ℕ, Bool, true, false, not, if◌then◌else◌, List, [], ◌∷◌, length, map, filter, drop}
use Rattle.std.specs.Prelude.{codes, position, get_or, nat_eq, nat_lt, Option, Some, None, is_some}
use Rattle.std.specs.Option.{option_and_then, option_map, option_map_or}
use Rattle.std.specs.List.{list_all, list_any, filter_map, starts_with}
use Rattle.std.specs.Str.{bytes_eq, is_utf8}
use Rattle.std.specs.Ordering.{nat_cmp, int_cmp, eq_by_cmp, is_lt, is_le, is_gt, is_ge}
use Rattle.std.specs.Cmp.Lexicographic.{slice_cmp}
use Rattle.std.specs.declared.cmp.Ordering.{Ordering}
use Rattle.cube_core.specs.Items.{dimension_of, measure_of}
use Rattle.cube_core.specs.Layout.{Layout, decimals_of, names_of}
use Rattle.cube_core.specs.Plain.{in_units}
use Rattle.cube_core.specs.Query.{only_one}
use Rattle.cube_core.specs.Records.{records_of}
use Rattle.cube_core.specs.declared.fact.Fact.{Fact}
use Rattle.cube_core.specs.declared.condition.Comparison.{Comparison}
use Rattle.cube_core.specs.declared.condition.Comparison.TheVariants.{Below, AtMost, Above, AtLeast}
use Rattle.cube_core.specs.declared.condition.Operator.{Operator}
use Rattle.cube_core.specs.declared.condition.Operator.TheVariants.{Equal, Unequal, Ordered}
use Rattle.cube_core.specs.declared.condition.Test.{Test}
use Rattle.cube_core.specs.declared.condition.Test.TheVariants.{OneOf, NoneOf, Compared}
use Rattle.cube_core.specs.declared.condition.Condition.{Condition}
use Rattle.cube_core.specs.declared.condition.Condition.TheVariants.{Dimension, Measure}

-- how two texts compare: by their bytes
abbrev pub text_cmp : List ℕ → List ℕ → Ordering
text_cmp a b = slice_cmp nat_cmp a b

-- whether a value that compares so to a bound lies to it as is wanted
abbrev pub agrees : Comparison → Ordering → Bool
agrees Below order = is_lt order
agrees AtMost order = is_le order
agrees Above order = is_gt order
agrees AtLeast order = is_ge order

-- whether two values are the same: both are null, or neither is and they compare equal
abbrev pub is_same : {V : Type 0} → (V → V → Ordering) → Option V → Option V → Bool
is_same cmp None None = true
is_same cmp None (Some b) = false
is_same cmp (Some a) None = false
is_same cmp (Some a) (Some b) = eq_by_cmp cmp a b

-- whether a value passes a test under an order: null stands among values as any other, and lies neither below nor above
abbrev pub passes : {V : Type 0} → (V → V → Ordering) → Test V → Option V → Bool
passes cmp (OneOf values) value = list_any (is_same cmp value) values
passes cmp (NoneOf values) value = not (list_any (is_same cmp value) values)
passes cmp (Compared comparison bound) value = option_map_or (λ v. agrees comparison (cmp v bound)) value false

-- whether a condition holds of a fact: texts compare by their bytes, measures by value
abbrev pub holds : Condition → Fact → Bool
holds (Dimension place test) fact = passes text_cmp test (get_or fact.dims place None)
holds (Measure place test) fact = passes int_cmp test (get_or fact.measures place None)

-- whether all conditions hold of a fact
abbrev pub hold : List Condition → Fact → Bool
hold conditions fact = list_all (λ condition. holds condition fact) conditions

-- the facts of interest: those of which all conditions hold
abbrev pub of_interest : List Condition → List Fact → List Fact
of_interest conditions facts = filter (hold conditions) facts

-- the operator that a text begins with, the first that fits, and what stands behind it
abbrev pub operator_of : List ℕ → Option (Operator × List ℕ)
operator_of text =
    if starts_with nat_eq text (codes "!=") then Some (Unequal, drop 2 text)
    else if starts_with nat_eq text (codes ">=") then Some (Ordered AtLeast, drop 2 text)
    else if starts_with nat_eq text (codes "<=") then Some (Ordered AtMost, drop 2 text)
    else if starts_with nat_eq text (codes "=") then Some (Equal, drop 1 text)
    else if starts_with nat_eq text (codes "<") then Some (Ordered Below, drop 1 text)
    else if starts_with nat_eq text (codes ">") then Some (Ordered Above, drop 1 text)
    else None

-- whether a word begins with a name that an operator follows
abbrev pub is_named : List ℕ → List ℕ → Bool
is_named word name = starts_with nat_eq word name && is_some (operator_of (drop (length name) word))

-- the longer of a text and another, where there is one
abbrev pub longer : List ℕ → Option (List ℕ) → List ℕ
longer text None = text
longer text (Some other) = if nat_lt (length text) (length other) then other else text

-- the longest of some texts; of two of one length the first
abbrev pub longest : List (List ℕ) → Option (List ℕ)
longest [] = None
longest (text ∷ texts) = Some (longer text (longest texts))

-- the values that fields spell, where each is UTF-8 and spells one
abbrev pub values_of : {V : Type 0} → (List ℕ → Option V) → List (List ℕ) → Option (List V)
values_of spells fields =
    if list_all (λ field. is_utf8 field && is_some (spells field)) fields then Some (filter_map spells fields) else None

-- the test of an operator and values: to be ordered there is exactly one, and not null
abbrev pub test_of : {V : Type 0} → Operator → List (Option V) → Option (Test V)
test_of Equal values = Some (OneOf values)
test_of Unequal values = Some (NoneOf values)
test_of (Ordered comparison) values =
    option_map (λ bound. Compared comparison bound) (option_and_then (λ value. value) (only_one values))

-- the test that an operator and the fields of a value spell
abbrev pub test_spelled : {V : Type 0} → (List ℕ → Option (Option V)) → Operator → List (List ℕ) → Option (Test V)
test_spelled spells operator fields = option_and_then (test_of operator) (values_of spells fields)

-- the condition on a measure of this number, where there is one: a field is a number with a point before decimals, or null
abbrev pub condition_on_measure : Layout → Operator → List (List ℕ) → ℕ → Option Condition
condition_on_measure s operator fields m =
    option_map (λ test. Measure m test)
    (test_spelled measure_of operator (map (in_units (decimals_of s m) 46) fields))

-- the condition on a dimension of this number: a field is any text or null
abbrev pub condition_on_dimension : Operator → List (List ℕ) → ℕ → Option Condition
condition_on_dimension operator fields d =
    option_map (λ test. Dimension d test) (test_spelled (λ field. Some (dimension_of field)) operator fields)

-- the condition that a name, an operator and the fields of a value spell
abbrev pub condition_on : Layout → List ℕ → Operator → List (List ℕ) → Option Condition
condition_on s name operator fields =
    option_map_or (condition_on_dimension operator fields)
    (position (λ other. bytes_eq other name) s.dimensions)
    (option_and_then (condition_on_measure s operator fields) (position (λ other. bytes_eq other name) s.measures))

-- the condition that a name, an operator and a value spell: the value is exactly one record
abbrev pub condition_with : Layout → List ℕ → Operator × List ℕ → Option Condition
condition_with s name rest = option_and_then (condition_on s name rest.0) (only_one (records_of rest.1))

-- the condition of a word that begins with a name
abbrev pub condition_behind : Layout → List ℕ → List ℕ → Option Condition
condition_behind s word name = option_and_then (condition_with s name) (operator_of (drop (length name) word))

-- the condition that a word spells under a schema: its name is the longest of the schema that it begins with and an
-- operator follows
abbrev pub condition_of : Layout → List ℕ → Option Condition
condition_of s word = option_and_then (condition_behind s word) (longest (filter (is_named word) (names_of s)))

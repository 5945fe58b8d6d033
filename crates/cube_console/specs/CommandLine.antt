-- The words that the program takes, as clap reads them, and the requests that they make (this project's choice).
use Rattle.std.specs.Prelude.{◌≡◌, ◌≤◌, ◌==◌, ⊤, ℕ, Bool, false, true, List, [], ◌∷◌, Option, Some, None, IfSome}
use Rattle.std.specs.Prelude.{length, map, option_map, unwrap_or, codes, if◌then◌else◌}
use Rattle.std.specs.Str.{bytes_eq}
use Rattle.std.specs.Str.Parse.{IsNumeral, digits_value, without_leading_plus}
use Rattle.clap.specs.Lexer.{usize_max}
use Rattle.clap.specs.Words.{App, Row, Rule, Text, all_of, first_of, new_app, new_rule, one_of, with_rule}
use Rattle.clap.specs.Words.{with_subcommand}
use Rattle.clap.specs.declared.builder.action.ArgAction.TheVariants as action
use Rattle.clap.specs.declared.builder.value_parser.ValueParser.TheVariants as value_parser
use Rattle.cube_console.specs.declared.commands.Form.{Form}
use Rattle.cube_console.specs.declared.commands.Form.TheVariants as form
use Rattle.cube_console.specs.declared.commands.Line.{Line}
use Rattle.cube_console.specs.declared.commands.Word.{Word}
use Rattle.cube_console.specs.declared.request.LiveWords.{LiveWords}
use Rattle.cube_console.specs.declared.request.MergeWords.{MergeWords}
use Rattle.cube_console.specs.declared.request.RunWords.{RunWords}
use Rattle.cube_console.specs.declared.request.SchemaWords.{SchemaWords}
use Rattle.cube_console.specs.declared.request.TableWords.{TableWords}
use Rattle.cube_console.specs.declared.request.ViewWords.{ViewWords}
use Rattle.cube_console.specs.declared.request.Request.{Request}
use Rattle.cube_console.specs.declared.request.Request.TheVariants.{Sample, Check, Explain, Print, Refusals, Slice, Drill}
use Rattle.cube_console.specs.declared.request.Request.TheVariants.{RollUp, Live, Merge, Schema, Table}

-- the program's own settings: `help` is no command, and `--version` is answered
abbrev pub named_line : App
named_line = record (new_app (codes "datacube")) {
  top = record (new_app (codes "datacube")).top { disable_help_subcommand = true; has_version = true };
}

-- a word that has to be there
abbrev pub needed_word : Text → Rule
needed_word name = record (new_rule name) { required = true }

-- the word that names a schema file
abbrev pub schema_word : Rule
schema_word = needed_word (codes "SCHEMA")

-- the word that is a pattern of keys or a cell: any text, the empty one too
abbrev pub cell_word : Rule
cell_word = needed_word (codes "CELL")

-- the word that names a dimension
abbrev pub dimension_word : Rule
dimension_word = needed_word (codes "DIM")

-- words of which there is at least one where they are there, and no bound on how many
abbrev pub some_words : Text → Rule
some_words name = record (new_rule name) { range = Some (record { start_inclusive = 1; end_inclusive = usize_max }) }

-- the words that name feeds, which may be left out
abbrev pub feed_words : Rule
feed_words = some_words (codes "FEED")

-- the words that name printed cubes, which have to be there
abbrev pub merged_words : Rule
merged_words = record (some_words (codes "CUBE")) { required = true }

-- the word that names one file of one's own, and the words that name some, which have to be there
abbrev pub file_word : Rule
file_word = needed_word (codes "FILE")

abbrev pub file_words : Rule
file_words = record (some_words (codes "FILE")) { required = true }

-- the words of a code or of a line that the program wrote; they may be left out
abbrev pub code_words : Rule
code_words = some_words (codes "CODE")

-- an option that has one number, from 1 to a bound, or its default, if it has one, where it is left out
abbrev pub number_option : Text → ℕ → List Text → Rule
number_option name most default = record (new_rule name) {
  long = Some name;
  value_names = 1;
  parser = Some (value_parser.Unsigned 1 most);
  defaults = default;
}

-- an option that has one number between two bounds, if any
abbrev pub between_option : Text → ℕ → ℕ → Rule
between_option name least most = record (new_rule name) {
  long = Some name;
  value_names = 1;
  parser = Some (value_parser.Unsigned least most);
}

-- `--ring`, the capacity of each link
abbrev pub ring_option : Rule
ring_option = number_option (codes "ring") 65536 (codes "64" ∷ [])

-- `--builders`, the number of builders
abbrev pub builders_option : Rule
builders_option = number_option (codes "builders") 8 (codes "1" ∷ [])

-- `--threads`, the number of threads
abbrev pub threads_option : Rule
threads_option = number_option (codes "threads") 16 []

-- an option without a value
abbrev pub flag : Text → Rule
flag name = record (new_rule name) { long = Some name; action = Some action.SetTrue }

-- `--partial`, which asks for the partial form of a cube
abbrev pub partial_option : Rule
partial_option = flag (codes "partial")

-- `--check`, which has all cubes read to their ends before the first line is written
abbrev pub check_option : Rule
check_option = flag (codes "check")

-- an option that has any text
abbrev pub text_option : Text → Rule
text_option name = record (new_rule name) { long = Some name; value_names = 1 }

-- an option that has any text and may be given several times
abbrev pub texts_option : Text → Rule
texts_option name = record (text_option name) { action = Some action.Append }

-- `--where`, a condition that each fact that counts meets: any text, which is looked at later
abbrev pub where_option : Rule
where_option = texts_option (codes "where")

-- `--strict`, which makes a refused line a failure
abbrev pub strict_option : Rule
strict_option = flag (codes "strict")

-- `--max-cells`, how many cells the cube may have: any text, which is looked at later
abbrev pub max_cells_option : Rule
max_cells_option = text_option (codes "max-cells")

-- `--why`, which has more lines say why a command failed
abbrev pub why_option : Rule
why_option = flag (codes "why")

-- `--shard`, the share of the feeds that is read: any text, which is looked at later
abbrev pub shard_option : Rule
shard_option = text_option (codes "shard")

-- `--max-record`, how many bytes a record of a feed may have: any text, which is looked at later
abbrev pub max_record_option : Rule
max_record_option = text_option (codes "max-record")

-- `--by` and `--of`, the columns that are dimensions and those that are measures: any text, which is looked at later
abbrev pub by_option : Rule
by_option = text_option (codes "by")

abbrev pub of_option : Rule
of_option = text_option (codes "of")

-- `--quiet`, which shows no progress
abbrev pub quiet_option : Rule
quiet_option = flag (codes "quiet")

-- `--store`, the file that keeps the changes of sessions: any text
abbrev pub store_option : Rule
store_option = text_option (codes "store")

-- `--wary`, which has nothing supposed of what a torn write leaves of the store
abbrev pub wary_option : Rule
wary_option = flag (codes "wary")

-- `--commit-every`, how many changes wait for a commit at most
abbrev pub commit_every_option : Rule
commit_every_option = number_option (codes "commit-every") 1000000 (codes "10000" ∷ [])

-- `--json`, which asks for lines of JSON
abbrev pub json_option : Rule
json_option = flag (codes "json")

-- `--aligned`, which asks for aligned columns
abbrev pub aligned_option : Rule
aligned_option = flag (codes "aligned")

-- `--width`, how many columns an aligned line takes at most
abbrev pub width_option : Rule
width_option = between_option (codes "width") 20 10000

-- a command with the options for the form in which a cube is written behind its words
abbrev pub with_view : App → App
with_view line = with_rule (with_rule (with_rule line json_option) aligned_option) width_option

-- a command with the options for the facts that count, for the lines that may be refused and for the cells that there
-- may be behind its words
abbrev pub with_facts : App → App
with_facts line = with_rule (with_rule (with_rule line where_option) strict_option) max_cells_option

-- a command with the two options of a store behind its words
abbrev pub with_store : App → App
with_store line = with_rule (with_rule line store_option) wary_option

-- a command with the feeds and the options of a run behind its words
abbrev pub with_feeds : App → App
with_feeds line = with_store (with_rule (with_rule
    (with_rule (with_rule (with_rule (with_rule (with_rule (with_rule line feed_words) ring_option) shard_option)
    max_record_option) builders_option) threads_option) quiet_option) why_option)

-- each command and its words
abbrev pub check_line : App
check_line = with_rule (with_rule (new_app (codes "check")) schema_word) why_option

abbrev pub print_line : App
print_line =
    with_facts (with_view (with_rule (with_feeds (with_rule (new_app (codes "print")) schema_word)) partial_option))

abbrev pub refusals_line : App
refusals_line = with_feeds (with_rule (new_app (codes "refusals")) schema_word)

abbrev pub slice_line : App
slice_line =
    with_facts (with_view (with_feeds (with_rule (with_rule (new_app (codes "slice")) schema_word) cell_word)))

abbrev pub drill_line : App
drill_line =
    with_facts (with_view
    (with_feeds (with_rule (with_rule (with_rule (new_app (codes "drill")) schema_word) cell_word) dimension_word)))

abbrev pub rollup_line : App
rollup_line =
    with_facts (with_view
    (with_feeds (with_rule (with_rule (with_rule (new_app (codes "rollup")) schema_word) cell_word) dimension_word)))

abbrev pub live_line : App
live_line = with_rule
    (with_store (with_rule (with_rule (with_rule
    (with_rule (with_rule (with_rule (with_rule (with_rule (new_app (codes "live")) schema_word) feed_words) ring_option)
    shard_option) max_record_option) threads_option) quiet_option) why_option)) commit_every_option

abbrev pub merge_line : App
merge_line = with_rule (with_rule
    (with_rule (with_rule (with_rule (with_rule (new_app (codes "merge")) schema_word) merged_words) partial_option)
    check_option) quiet_option) why_option

abbrev pub explain_line : App
explain_line = with_rule (with_rule (new_app (codes "explain")) code_words) why_option

abbrev pub table_line : App
table_line = with_facts (with_view (with_rule (with_rule
    (with_rule (with_rule (with_rule (with_rule
    (with_rule (with_rule (with_rule (with_rule (new_app (codes "table")) file_words) by_option) of_option) ring_option)
    shard_option) max_record_option) builders_option) threads_option) quiet_option) why_option))

abbrev pub schema_line : App
schema_line = with_rule (with_rule (with_rule (with_rule (new_app (codes "schema")) file_word) by_option) of_option) why_option

-- a command line with the commands over files of people's own
abbrev pub with_own_files : App → App
with_own_files line = with_subcommand (with_subcommand line table_line.top) schema_line.top

-- a command line with the commands that say whether a schema is right, what its cube is and what is refused
abbrev pub with_prints : App → App
with_prints line =
    with_subcommand (with_subcommand (with_subcommand line check_line.top) print_line.top) refusals_line.top

-- a command line with the commands for parts of a cube
abbrev pub with_views : App → App
with_views line = with_subcommand (with_subcommand (with_subcommand line slice_line.top) drill_line.top) rollup_line.top

-- a command line with the commands for sessions, for printed cubes and for codes
abbrev pub with_sessions : App → App
with_sessions line =
    with_subcommand (with_subcommand (with_subcommand line live_line.top) merge_line.top) explain_line.top

-- the rule of a word or an option of this name that is given in this form, and may be left out
abbrev pub rule_in_form : Text → Form → Rule
rule_in_form name form.One = new_rule name
rule_in_form name form.Several = some_words name
rule_in_form name form.Flag = flag name
rule_in_form name (form.Text value) = text_option name
rule_in_form name (form.Texts value) = texts_option name
rule_in_form name (form.Number most default) = number_option name most (map (λ text. text.now) default.now)
rule_in_form name (form.Between least most) = between_option name least most

-- the rule of a word or an option
abbrev pub rule_of_word : Word → Rule
rule_of_word word = record (rule_in_form word.name.now word.form) { required = word.is_needed }

-- a command with these words and options behind its own
abbrev pub with_words : App → List Word → App
with_words app [] = app
with_words app (word ∷ words) = with_words (with_rule app (rule_of_word word)) words

-- a command with the feeds and the options of a run behind its words, where it is one
abbrev pub with_feeds_of : Line → App → App
with_feeds_of line app = if line.is_run then with_feeds app else app

-- what a command is
abbrev pub line_of : Line → App
line_of line =
    with_words (with_feeds_of line (with_words (new_app line.name.now) line.words.now)) line.options.now

-- a command line with these commands behind its own
abbrev pub with_lines : App → List Line → App
with_lines app [] = app
with_lines app (line ∷ lines) = with_lines (with_subcommand app (line_of line).top) lines

-- no words, or one of the commands
abbrev pub command_line : App
command_line = with_sessions (with_views (with_prints (with_own_files named_line)))

-- a word begins with a hyphen, as a flag does
abbrev pub begins_as_flag : Text → Bool
begins_as_flag [] = false
begins_as_flag (b ∷ rest) = b == 45

-- a request is the one to check the schema file at this path
abbrev pub AsksToCheck : Text → Request → Type 0
AsksToCheck path (Check schema why) = schema.now ≡ path
AsksToCheck path _ = ⊥

-- a request is the one to explain a code of these words, or all where there are none
abbrev pub AsksToExplain : List Text → Request → Type 0
AsksToExplain words (Explain code why) = map (λ word. word.now) code.items ≡ words
AsksToExplain words _ = ⊥

-- an option's text writes this number in decimal;
-- there is none where there is no text, as the option is left out without a default
abbrev pub IsNumberOf : Option Text → Option ℕ → Type 0
IsNumberOf None number = number ≡ None
IsNumberOf (Some text) None = ⊥
IsNumberOf (Some text) (Some number) =
    IsNumeral 10 (without_leading_plus text) × (number ≡ digits_value 10 (without_leading_plus text))

-- a number is from 1 to this bound
abbrev pub IsUpTo : ℕ → ℕ → Type 0
IsUpTo most number = (1 ≤ number) × (number ≤ most)

-- an option without a value is given: clap notes `true` where it is used, and `false` where it is left out
abbrev pub is_given : Option Text → Bool
is_given None = false
is_given (Some text) = bytes_eq text (codes "true")

-- the words that clap found under a name, in their order
abbrev pub words_of : Text → List Row → List Text
words_of name rows = unwrap_or (all_of name rows) []

-- the form in which a cube is written is as clap found it
pub record AreViewWords (rows : List Row) (view : ViewWords) : Type 0 where
  pub is_json : view.json ≡ is_given (one_of (codes "json") rows)
  pub is_aligned : view.aligned ≡ is_given (one_of (codes "aligned") rows)
  pub width : IsNumberOf (one_of (codes "width") rows) view.width

-- the files and the options of a run are those that clap found, each under its name,
-- and the feeds, if any, in their order
pub record AreRunWords (rows : List Row) (run : RunWords) : Type 0 where
  pub schema : first_of (codes "SCHEMA") rows ≡ Some run.schema.now
  pub feeds : words_of (codes "FEED") rows ≡ map (λ path. path.now) run.feeds.items
  pub ring : IsNumberOf (one_of (codes "ring") rows) (Some run.ring)
  pub builders : IsNumberOf (one_of (codes "builders") rows) (Some run.builders)
  pub threads : IsNumberOf (one_of (codes "threads") rows) run.threads
  pub shard : option_map (λ text. text.now) run.shard ≡ first_of (codes "shard") rows
  pub max_record : option_map (λ text. text.now) run.max_record ≡ first_of (codes "max-record") rows
  pub is_quiet : run.quiet ≡ is_given (one_of (codes "quiet") rows)
  pub asks_why : run.why ≡ is_given (one_of (codes "why") rows)
  pub store : option_map (λ text. text.now) run.store ≡ first_of (codes "store") rows
  pub is_wary : run.wary ≡ is_given (one_of (codes "wary") rows)
  pub view : AreViewWords rows run.view
  pub conditions : words_of (codes "where") rows ≡ map (λ word. word.now) run.conditions.items
  pub is_strict : run.strict ≡ is_given (one_of (codes "strict") rows)
  pub max_cells : option_map (λ text. text.now) run.max_cells ≡ first_of (codes "max-cells") rows

-- a number is between two bounds
abbrev pub IsBetween : ℕ → ℕ → ℕ → Type 0
IsBetween least most number = (least ≤ number) × (number ≤ most)

-- the columns of an aligned line, where they are bounded, are bounded by 20 to 10000
abbrev pub ViewHasRoom : ViewWords → Type 0
ViewHasRoom view = IfSome view.width (IsBetween 20 10000)

-- a run has at least one feed, but that over a store it may have none, and its options,
-- where they are given, are in their bounds
pub record RunHasRoom (run : RunWords) : Type 0 where
  pub feeds : run.store ≡ None → 1 ≤ length run.feeds.items
  pub least_ring : 1 ≤ run.ring
  pub most_ring : run.ring ≤ 65536
  pub least_builders : 1 ≤ run.builders
  pub most_builders : run.builders ≤ 8
  pub threads : IfSome run.threads (IsUpTo 16)
  pub view : ViewHasRoom run.view

-- the files and the options that `live` has and each command with feeds too are those that clap found,
-- each under its name, and the feeds, if any, in their order
pub record AreSharedWords (rows : List Row) (live : LiveWords) : Type 0 where
  pub schema : first_of (codes "SCHEMA") rows ≡ Some live.schema.now
  pub feeds : words_of (codes "FEED") rows ≡ map (λ path. path.now) live.feeds.items
  pub ring : IsNumberOf (one_of (codes "ring") rows) (Some live.ring)
  pub threads : IsNumberOf (one_of (codes "threads") rows) live.threads
  pub shard : option_map (λ text. text.now) live.shard ≡ first_of (codes "shard") rows
  pub max_record : option_map (λ text. text.now) live.max_record ≡ first_of (codes "max-record") rows
  pub is_quiet : live.quiet ≡ is_given (one_of (codes "quiet") rows)
  pub asks_why : live.why ≡ is_given (one_of (codes "why") rows)

-- the files and the options of `live` are those that clap found:
-- those that it shares, the store, and whether to be wary of torn writes
pub record AreLiveWords (rows : List Row) (live : LiveWords) : Type 0 where
  pub shared : AreSharedWords rows live
  pub store : option_map (λ text. text.now) live.store ≡ first_of (codes "store") rows
  pub is_wary : live.wary ≡ is_given (one_of (codes "wary") rows)

-- the options of `live`, where they are given, are in their bounds
pub record LiveHasRoom (live : LiveWords) : Type 0 where
  pub least_ring : 1 ≤ live.ring
  pub most_ring : live.ring ≤ 65536
  pub threads : IfSome live.threads (IsUpTo 16)
  pub least_waiting : 1 ≤ live.commit_every
  pub most_waiting : live.commit_every ≤ 1000000

-- the files and the options of `merge` are those that clap found, each under its name, and the cubes in their order
pub record AreMergeWords (rows : List Row) (merge : MergeWords) : Type 0 where
  pub schema : first_of (codes "SCHEMA") rows ≡ Some merge.schema.now
  pub cubes : words_of (codes "CUBE") rows ≡ map (λ path. path.now) merge.cubes.items
  pub is_partial : merge.partial ≡ is_given (one_of (codes "partial") rows)
  pub is_checked : merge.check ≡ is_given (one_of (codes "check") rows)
  pub is_quiet : merge.quiet ≡ is_given (one_of (codes "quiet") rows)
  pub asks_why : merge.why ≡ is_given (one_of (codes "why") rows)

-- the file and the options of `schema` are those that clap found, each under its name
pub record AreSchemaWords (rows : List Row) (words : SchemaWords) : Type 0 where
  pub file : first_of (codes "FILE") rows ≡ Some words.file.now
  pub by : option_map (λ text. text.now) words.by ≡ first_of (codes "by") rows
  pub of : option_map (λ text. text.now) words.of ≡ first_of (codes "of") rows
  pub asks_why : words.why ≡ is_given (one_of (codes "why") rows)

-- the files and the options of `table` are those that clap found, each under its name, and the files in their order
pub record AreTableWords (rows : List Row) (table : TableWords) : Type 0 where
  pub files : words_of (codes "FILE") rows ≡ map (λ path. path.now) table.files.items
  pub by : option_map (λ text. text.now) table.by ≡ first_of (codes "by") rows
  pub of : option_map (λ text. text.now) table.of ≡ first_of (codes "of") rows
  pub ring : IsNumberOf (one_of (codes "ring") rows) (Some table.ring)
  pub builders : IsNumberOf (one_of (codes "builders") rows) (Some table.builders)
  pub threads : IsNumberOf (one_of (codes "threads") rows) table.threads
  pub shard : option_map (λ text. text.now) table.shard ≡ first_of (codes "shard") rows
  pub max_record : option_map (λ text. text.now) table.max_record ≡ first_of (codes "max-record") rows
  pub is_quiet : table.quiet ≡ is_given (one_of (codes "quiet") rows)
  pub asks_why : table.why ≡ is_given (one_of (codes "why") rows)
  pub view : AreViewWords rows table.view
  pub conditions : words_of (codes "where") rows ≡ map (λ word. word.now) table.conditions.items
  pub is_strict : table.strict ≡ is_given (one_of (codes "strict") rows)
  pub max_cells : option_map (λ text. text.now) table.max_cells ≡ first_of (codes "max-cells") rows

-- `table` has at least one file, and its options, where they are given, are in their bounds
pub record TableHasRoom (table : TableWords) : Type 0 where
  pub files : 1 ≤ length table.files.items
  pub least_ring : 1 ≤ table.ring
  pub most_ring : table.ring ≤ 65536
  pub least_builders : 1 ≤ table.builders
  pub most_builders : table.builders ≤ 8
  pub threads : IfSome table.threads (IsUpTo 16)
  pub view : ViewHasRoom table.view

-- a request to run has at least one feed, or a store, and one to merge at least one cube,
-- and the options are in their bounds
abbrev pub IsInBounds : Request → Type 0
IsInBounds (Print run partial) = RunHasRoom run
IsInBounds (Refusals run) = RunHasRoom run
IsInBounds (Slice run cell) = RunHasRoom run
IsInBounds (Drill run cell dimension) = RunHasRoom run
IsInBounds (RollUp run cell dimension) = RunHasRoom run
IsInBounds (Live live) = LiveHasRoom live
IsInBounds (Merge merge) = 1 ≤ length merge.cubes.items
IsInBounds (Table table) = TableHasRoom table
IsInBounds _ = ⊤

-- the run of a command with this name is had from what clap found
abbrev pub IsRun : Text → Text → List Row → RunWords → Type 0
IsRun name command rows run = (name ≡ command) × AreRunWords rows run × RunHasRoom run

-- a run of a command with this name from a cell along a dimension is had from what clap found
abbrev pub IsStep : Text → Text → List Row → RunWords → Text → Text → Type 0
IsStep name command rows run cell dimension =
    IsRun name command rows run × (first_of (codes "CELL") rows ≡ Some cell)
    × (first_of (codes "DIM") rows ≡ Some dimension)

-- a found command makes this request
abbrev pub MakesRequest : Text × List Row → Request → Type 0
MakesRequest found Sample = ⊥
MakesRequest found (Check schema why) =
    (found.0 ≡ codes "check") × (first_of (codes "SCHEMA") found.1 ≡ Some schema.now)
    × (why ≡ is_given (one_of (codes "why") found.1))
MakesRequest found (Explain code why) =
    (found.0 ≡ codes "explain") × (words_of (codes "CODE") found.1 ≡ map (λ word. word.now) code.items)
    × (why ≡ is_given (one_of (codes "why") found.1))
MakesRequest found (Print run partial) =
    IsRun found.0 (codes "print") found.1 run × (partial ≡ is_given (one_of (codes "partial") found.1))
MakesRequest found (Refusals run) = IsRun found.0 (codes "refusals") found.1 run
MakesRequest found (Slice run cell) =
    IsRun found.0 (codes "slice") found.1 run × (first_of (codes "CELL") found.1 ≡ Some cell.now)
MakesRequest found (Drill run cell dimension) = IsStep found.0 (codes "drill") found.1 run cell.now dimension.now
MakesRequest found (RollUp run cell dimension) = IsStep found.0 (codes "rollup") found.1 run cell.now dimension.now
MakesRequest found (Live live) = (found.0 ≡ codes "live") × AreLiveWords found.1 live × LiveHasRoom live
    × IsNumberOf (one_of (codes "commit-every") found.1) (Some live.commit_every)
MakesRequest found (Merge merge) = (found.0 ≡ codes "merge") × AreMergeWords found.1 merge ×
    (1 ≤ length merge.cubes.items)
MakesRequest found (Schema words) = (found.0 ≡ codes "schema") × AreSchemaWords found.1 words
MakesRequest found (Table table) = (found.0 ≡ codes "table") × AreTableWords found.1 table × TableHasRoom table

-- what clap found makes this request:
-- the sample run where it found no command, and none only where the command makes none
abbrev pub IsRequest : Option (Text × List Row) → Option Request → Type 0
IsRequest None request = request ≡ Some Sample
IsRequest (Some found) (Some request) = MakesRequest found request
IsRequest (Some found) None = (request : Request) → ¬ MakesRequest found request

-- What clap makes of the program's command line.
use Rattle.std.proofs.Common.{◌≡◌, ◌≤◌, ◌∙◌, Bor, List, [], ◌∷◌, false, true, length, refl, sym, ap, subst, arith}
use Rattle.std.specs.Prelude.{Option, Some, None, Result, Ok, IfErr, IfSome, MatchResult, codes, slice_index}
use Rattle.std.specs.Prelude.{option_map, unwrap_or}
use Rattle.clap.specs.Words.{HasMatchesOf, Row, Text, first_of, is_simple, one_of, subcommand_of, subcommand_rows_of, takes}
use Rattle.clap.specs.declared.Error.{Error}
use Rattle.clap.specs.declared.parser.matches.ArgMatches.{ArgMatches}
use Rattle.clap.proofs.OnLiterals.{clap_on_literals}
use Rattle.cube_console.specs.CommandLine.{AsksToCheck, AsksToExplain, IsInBounds, IsRequest, begins_as_flag}
use Rattle.cube_console.specs.CommandLine.{command_line, is_given, words_of}
use Rattle.cube_console.specs.declared.request.Request.{Request}
use Rattle.cube_console.specs.declared.request.Request.TheVariants.{Sample, Check, Explain, Print, Refusals, Slice, Drill}
use Rattle.cube_console.specs.declared.request.Request.TheVariants.{RollUp, Live, Merge, Schema, Table}

command_line-is_simple : is_simple command_line ≡ true
unfolding clap_on_literals
command_line-is_simple = refl

-- clap takes the program's name alone, and no word at all
pub takes-no_words : (words : List Text) → length words ≤ 1 → takes command_line words ≡ true
unfolding clap_on_literals
takes-no_words [] few = refl
takes-no_words (name ∷ []) few = refl
takes-no_words (name ∷ word ∷ words) few = absurd (omega arith)

-- and then it finds no command
subcommand_of-no_words : (words : List Text) → length words ≤ 1 → subcommand_of command_line words ≡ None
unfolding clap_on_literals
subcommand_of-no_words [] few = refl
subcommand_of-no_words (name ∷ []) few = refl
subcommand_of-no_words (name ∷ word ∷ words) few = absurd (omega arith)

-- a found command with the first of its words of this name
abbrev pub with_word_of : Text → Option (Text × List Row) → Option (Text × Option Text)
with_word_of word = option_map (λ found. (found.0, first_of word found.1))

-- clap takes `check` and one word that isn't a flag
pub takes-check : (name path : Text) → begins_as_flag path ≡ false
    → takes command_line (name ∷ codes "check" ∷ path ∷ []) ≡ true
unfolding clap_on_literals
takes-check name [] plain = refl
takes-check name (b ∷ rest) plain = simp plain refl

-- and then it finds `check` with that word
subcommand_of-check : (name path : Text) → begins_as_flag path ≡ false
    → with_word_of (codes "SCHEMA") (subcommand_of command_line (name ∷ codes "check" ∷ path ∷ []))
    ≡ Some (codes "check", Some path)
unfolding clap_on_literals
subcommand_of-check name [] plain = refl
subcommand_of-check name (b ∷ rest) plain = simp plain refl

-- clap takes `explain` alone
pub takes-explain : (name : Text) → takes command_line (name ∷ codes "explain" ∷ []) ≡ true
unfolding clap_on_literals
takes-explain name = refl

-- a found command with all of its words of this name
abbrev pub with_words_of : Text → Option (Text × List Row) → Option (Text × List Text)
with_words_of word = option_map (λ found. (found.0, words_of word found.1))

-- and then it finds `explain` without a word
subcommand_of-explain : (name : Text)
    → with_words_of (codes "CODE") (subcommand_of command_line (name ∷ codes "explain" ∷ []))
    ≡ Some (codes "explain", [])
unfolding clap_on_literals
subcommand_of-explain name = refl

-- clap takes `explain` and one word that isn't a flag
pub takes-explain_code : (name code : Text) → begins_as_flag code ≡ false
    → takes command_line (name ∷ codes "explain" ∷ code ∷ []) ≡ true
unfolding clap_on_literals
takes-explain_code name [] plain = refl
takes-explain_code name (b ∷ rest) plain = simp plain refl

-- and then it finds `explain` with that word
subcommand_of-explain_code : (name code : Text) → begins_as_flag code ≡ false
    → with_words_of (codes "CODE") (subcommand_of command_line (name ∷ codes "explain" ∷ code ∷ []))
    ≡ Some (codes "explain", code ∷ [])
unfolding clap_on_literals
subcommand_of-explain_code name [] plain = refl
subcommand_of-explain_code name (b ∷ rest) plain = simp plain refl

-- so no words ask for the sample run
pub request-no_words : (words : List Text) (m : ArgMatches) (request : Option Request) (result : Result Request Error)
    → length words ≤ 1 → HasMatchesOf command_line words m → IsRequest (subcommand_rows_of m) request
    → IfSome request (λ asked. result ≡ Ok asked) → result ≡ Ok Sample
request-no_words words m request result few matches is done =
    let found : subcommand_rows_of m ≡ None = (matches command_line-is_simple).1 ∙ subcommand_of-no_words words few in
    let asked : request ≡ Some Sample = subst (λ found. IsRequest found request) found is in
    subst (λ request. IfSome request (λ asked. result ≡ Ok asked)) asked done

-- what clap found is what its definition finds
pub IsRequest-HasMatchesOf : (words : List Text) (m : ArgMatches) (request : Request)
    → HasMatchesOf command_line words m
    → IsRequest (subcommand_rows_of m) (Some request) → IsRequest (subcommand_of command_line words) (Some request)
IsRequest-HasMatchesOf words m request matches is =
    subst (λ found. IsRequest found (Some request)) (matches command_line-is_simple).1 is

-- a request that clap's words make has at least one feed, and its options are in their bounds
pub IsInBounds-IsRequest : (found : Option (Text × List Row)) (request : Request) → IsRequest found (Some request)
    → IsInBounds request
IsInBounds-IsRequest None Sample is = tt
IsInBounds-IsRequest None (Check schema why) is = tt
IsInBounds-IsRequest None (Explain code why) is = tt
IsInBounds-IsRequest None (Print run partial) is =
    let bad : Sample ≡ Print run partial = sym (ap (λ (o : Option Request). unwrap_or o Sample) is) in cc
IsInBounds-IsRequest None (Refusals run) is =
    let bad : Sample ≡ Refusals run = sym (ap (λ (o : Option Request). unwrap_or o Sample) is) in cc
IsInBounds-IsRequest None (Slice run cell) is =
    let bad : Sample ≡ Slice run cell = sym (ap (λ (o : Option Request). unwrap_or o Sample) is) in cc
IsInBounds-IsRequest None (Drill run cell dimension) is =
    let bad : Sample ≡ Drill run cell dimension = sym (ap (λ (o : Option Request). unwrap_or o Sample) is) in cc
IsInBounds-IsRequest None (RollUp run cell dimension) is =
    let bad : Sample ≡ RollUp run cell dimension = sym (ap (λ (o : Option Request). unwrap_or o Sample) is) in cc
IsInBounds-IsRequest None (Live live) is =
    let bad : Sample ≡ Live live = sym (ap (λ (o : Option Request). unwrap_or o Sample) is) in cc
IsInBounds-IsRequest None (Merge merge) is =
    let bad : Sample ≡ Merge merge = sym (ap (λ (o : Option Request). unwrap_or o Sample) is) in cc
IsInBounds-IsRequest None (Schema words) is = tt
IsInBounds-IsRequest None (Table table) is =
    let bad : Sample ≡ Table table = sym (ap (λ (o : Option Request). unwrap_or o Sample) is) in cc
IsInBounds-IsRequest (Some found) Sample is = tt
IsInBounds-IsRequest (Some found) (Check schema why) is = tt
IsInBounds-IsRequest (Some found) (Explain code why) is = tt
IsInBounds-IsRequest (Some found) (Print run partial) is = is.0.2
IsInBounds-IsRequest (Some found) (Refusals run) is = is.2
IsInBounds-IsRequest (Some found) (Slice run cell) is = is.0.2
IsInBounds-IsRequest (Some found) (Drill run cell dimension) is = is.0.2
IsInBounds-IsRequest (Some found) (RollUp run cell dimension) is = is.0.2
IsInBounds-IsRequest (Some found) (Live live) is = is.2
IsInBounds-IsRequest (Some found) (Merge merge) is = is.2
IsInBounds-IsRequest (Some found) (Schema words) is = tt
IsInBounds-IsRequest (Some found) (Table table) is = is.2

-- a reference to a text
abbrev reference : Text → Bor Text
reference text = record { ref_ptr = (0, 0); now = text }

-- what makes a request doesn't make none
not-IsRequest : (found : Option (Text × List Row)) (request : Request) → IsRequest found (Some request)
    → ¬ IsRequest found None
not-IsRequest None request makes none = let bad : None ≡ Some Sample = none in cc
not-IsRequest (Some found) request makes none = none request makes

-- so words that make a request are answered by one
pub request-taken : (Q : Error → Type 0) (words : List Text) (m : ArgMatches) (made : Request)
    (request : Option Request) (result : Result Request Error)
    → HasMatchesOf command_line words m → IsRequest (subcommand_of command_line words) (Some made)
    → IsRequest (subcommand_rows_of m) request → IfSome request (λ asked. result ≡ Ok asked) → IfErr result Q
request-taken Q words m made None result matches makes is done =
    absurd (not-IsRequest (subcommand_of command_line words) made makes
    (subst (λ found. IsRequest found None) (matches command_line-is_simple).1 is))
request-taken Q words m made (Some request) result matches makes is done = rw done tt

-- a name isn't that of two commands
name-slice_index : {X : Type 0} (name a b : Text) → name ≡ a → name ≡ b → (slice_index a 0 ≡ slice_index b 0 → X) → X
name-slice_index name a b is_a is_b differ = differ (ap (λ t. slice_index t 0) (sym is_a ∙ is_b))

-- a request that `check` makes with a word asks to check that file
AsksToCheck-with_word_of : (Q : Error → Type 0) (found : Option (Text × List Row)) (path : Text)
    (request : Option Request) (result : Result Request Error)
    → with_word_of (codes "SCHEMA") found ≡ Some (codes "check", Some path) → IsRequest found request
    → IfSome request (λ asked. result ≡ Ok asked)
    → MatchResult result (AsksToCheck path) Q
AsksToCheck-with_word_of Q None path request result is_found is done = cc
AsksToCheck-with_word_of Q (Some found) path request result is_found is done = go request is done
  where
    named : found.0 ≡ codes "check"
    named =
        ap (λ (o : Option (Text × Option Text)). (unwrap_or o (found.0, first_of (codes "SCHEMA") found.1)).0) is_found

    worded : first_of (codes "SCHEMA") found.1 ≡ Some path
    worded =
        ap (λ (o : Option (Text × Option Text)). (unwrap_or o (found.0, first_of (codes "SCHEMA") found.1)).1) is_found

    go : (request : Option Request) → IsRequest (Some found) request
        → IfSome request (λ asked. result ≡ Ok asked) → MatchResult result (AsksToCheck path) Q
    go None is done =
        absurd (is (Check (reference path) (is_given (one_of (codes "why") found.1))) (named, worded, refl))
    go (Some Sample) is done = absurd is
    go (Some (Check schema why)) is done =
        subst (λ answer. MatchResult answer (AsksToCheck path) Q) (sym done)
        (ap (λ (o : Option Text). unwrap_or o path) (sym is.1 ∙ worded))
    go (Some (Explain code why)) is done =
        name-slice_index found.0 (codes "check") (codes "explain") named is.0 (λ same. absurd (omega arith))
    go (Some (Print run partial)) is done =
        name-slice_index found.0 (codes "check") (codes "print") named is.0.0 (λ same. absurd (omega arith))
    go (Some (Refusals run)) is done =
        name-slice_index found.0 (codes "check") (codes "refusals") named is.0 (λ same. absurd (omega arith))
    go (Some (Slice run cell)) is done =
        name-slice_index found.0 (codes "check") (codes "slice") named is.0.0 (λ same. absurd (omega arith))
    go (Some (Drill run cell dimension)) is done =
        name-slice_index found.0 (codes "check") (codes "drill") named is.0.0 (λ same. absurd (omega arith))
    go (Some (RollUp run cell dimension)) is done =
        name-slice_index found.0 (codes "check") (codes "rollup") named is.0.0 (λ same. absurd (omega arith))
    go (Some (Live live)) is done =
        name-slice_index found.0 (codes "check") (codes "live") named is.0 (λ same. absurd (omega arith))
    go (Some (Merge merge)) is done =
        name-slice_index found.0 (codes "check") (codes "merge") named is.0 (λ same. absurd (omega arith))
    go (Some (Schema words)) is done =
        name-slice_index found.0 (codes "check") (codes "schema") named is.0 (λ same. absurd (omega arith))
    go (Some (Table table)) is done =
        name-slice_index found.0 (codes "check") (codes "table") named is.0 (λ same. absurd (omega arith))

-- a request that `explain` makes asks for the code that its words are, or for all
AsksToExplain-with_words_of : (Q : Error → Type 0) (found : Option (Text × List Row)) (code : List Text)
    (request : Option Request) (result : Result Request Error)
    → with_words_of (codes "CODE") found ≡ Some (codes "explain", code) → IsRequest found request
    → ((rows : List Row) → found ≡ Some (codes "explain", rows) → ¬ (request ≡ None))
    → IfSome request (λ asked. result ≡ Ok asked)
    → MatchResult result (AsksToExplain code) Q
AsksToExplain-with_words_of Q None code request result is_found is some done = cc
AsksToExplain-with_words_of Q (Some found) code request result is_found is some done = go request is some done
  where
    named : found.0 ≡ codes "explain"
    named =
        ap (λ (o : Option (Text × List Text)). (unwrap_or o (found.0, words_of (codes "CODE") found.1)).0) is_found

    worded : words_of (codes "CODE") found.1 ≡ code
    worded =
        ap (λ (o : Option (Text × List Text)). (unwrap_or o (found.0, words_of (codes "CODE") found.1)).1) is_found

    go : (request : Option Request) → IsRequest (Some found) request
        → ((rows : List Row) → Some found ≡ Some (codes "explain", rows) → ¬ (request ≡ None))
        → IfSome request (λ asked. result ≡ Ok asked) → MatchResult result (AsksToExplain code) Q
    go None is some done = absurd (some found.1 (ap (λ (name : Text). Some (name, found.1)) named) refl)
    go (Some Sample) is some done = absurd is
    go (Some (Check schema why)) is some done =
        name-slice_index found.0 (codes "explain") (codes "check") named is.0 (λ same. absurd (omega arith))
    go (Some (Explain asked why)) is some done =
        subst (λ answer. MatchResult answer (AsksToExplain code) Q) (sym done) (sym is.1 ∙ worded)
    go (Some (Print run partial)) is some done =
        name-slice_index found.0 (codes "explain") (codes "print") named is.0.0 (λ same. absurd (omega arith))
    go (Some (Refusals run)) is some done =
        name-slice_index found.0 (codes "explain") (codes "refusals") named is.0 (λ same. absurd (omega arith))
    go (Some (Slice run cell)) is some done =
        name-slice_index found.0 (codes "explain") (codes "slice") named is.0.0 (λ same. absurd (omega arith))
    go (Some (Drill run cell dimension)) is some done =
        name-slice_index found.0 (codes "explain") (codes "drill") named is.0.0 (λ same. absurd (omega arith))
    go (Some (RollUp run cell dimension)) is some done =
        name-slice_index found.0 (codes "explain") (codes "rollup") named is.0.0 (λ same. absurd (omega arith))
    go (Some (Live live)) is some done =
        name-slice_index found.0 (codes "explain") (codes "live") named is.0 (λ same. absurd (omega arith))
    go (Some (Merge merge)) is some done =
        name-slice_index found.0 (codes "explain") (codes "merge") named is.0 (λ same. absurd (omega arith))
    go (Some (Schema words)) is some done =
        name-slice_index found.0 (codes "explain") (codes "schema") named is.0 (λ same. absurd (omega arith))
    go (Some (Table table)) is some done =
        name-slice_index found.0 (codes "explain") (codes "table") named is.0 (λ same. absurd (omega arith))

-- so `check` with a word asks to check that file
pub request-check : (Q : Error → Type 0) (name path : Text) (words : List Text) (m : ArgMatches)
    (request : Option Request) (result : Result Request Error)
    → begins_as_flag path ≡ false → words ≡ name ∷ codes "check" ∷ path ∷ [] → HasMatchesOf command_line words m
    → IsRequest (subcommand_rows_of m) request → IfSome request (λ asked. result ≡ Ok asked)
    → MatchResult result (AsksToCheck path) Q
request-check Q name path words m request result plain are matches is done =
    AsksToCheck-with_word_of Q (subcommand_rows_of m) path request result
    (ap (with_word_of (codes "SCHEMA")) ((matches command_line-is_simple).1 ∙ ap (subcommand_of command_line) are)
    ∙ subcommand_of-check name path plain) is done

-- `explain` alone asks for all codes
pub request-explain : (Q : Error → Type 0) (name : Text) (words : List Text) (m : ArgMatches) (request : Option Request)
    (result : Result Request Error)
    → words ≡ name ∷ codes "explain" ∷ [] → HasMatchesOf command_line words m
    → IsRequest (subcommand_rows_of m) request
    → ((rows : List Row) → subcommand_rows_of m ≡ Some (codes "explain", rows) → ¬ (request ≡ None))
    → IfSome request (λ asked. result ≡ Ok asked)
    → MatchResult result (AsksToExplain []) Q
request-explain Q name words m request result are matches is some done =
    AsksToExplain-with_words_of Q (subcommand_rows_of m) [] request result
    (ap (with_words_of (codes "CODE")) ((matches command_line-is_simple).1 ∙ ap (subcommand_of command_line) are)
    ∙ subcommand_of-explain name) is some done

-- and with a word for that code
pub request-explain_code : (Q : Error → Type 0) (name code : Text) (words : List Text) (m : ArgMatches)
    (request : Option Request) (result : Result Request Error)
    → begins_as_flag code ≡ false → words ≡ name ∷ codes "explain" ∷ code ∷ [] → HasMatchesOf command_line words m
    → IsRequest (subcommand_rows_of m) request
    → ((rows : List Row) → subcommand_rows_of m ≡ Some (codes "explain", rows) → ¬ (request ≡ None))
    → IfSome request (λ asked. result ≡ Ok asked)
    → MatchResult result (AsksToExplain (code ∷ [])) Q
request-explain_code Q name code words m request result plain are matches is some done =
    AsksToExplain-with_words_of Q (subcommand_rows_of m) (code ∷ []) request result
    (ap (with_words_of (codes "CODE")) ((matches command_line-is_simple).1 ∙ ap (subcommand_of command_line) are)
    ∙ subcommand_of-explain_code name code plain) is some done

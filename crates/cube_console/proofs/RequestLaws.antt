-- What the numbers and the flags of options are, and which words of a run `live` has too.
use Rattle.std.proofs.Common.{◌≡◌, ◌∙◌, ◌<◌, ◌^◌, ℕ, Bool, true, false, List, refl, sym, ap, arith, subst}
use Rattle.std.proofs.lemmas.Slice.Eq.{bytes_eq-Decides}
use Rattle.std.specs.Prelude.{Option, Some, None, Result, Ok, Err, IfOk, IfSome, codes, unwrap_or}
use Rattle.std.specs.Str.{bytes_eq}
use Rattle.std.specs.Str.Parse.{ParsesBool, ParsesUnsigned}
use Rattle.clap.specs.Words.{ReadsOne, Row, Text, TriesOne}
use Rattle.cube_console.specs.CommandLine.{AreLiveWords, AreRunWords, RunHasRoom, IsNumberOf, IsUpTo, LiveHasRoom}
use Rattle.cube_console.specs.CommandLine.{is_given}
use Rattle.cube_console.specs.declared.request.LiveWords.{LiveWords}
use Rattle.cube_console.specs.declared.request.RunWords.{RunWords}

-- what the reading of an option answers is the option's number
pub IsNumberOf-TriesOne : (E : Type 0) (Gives : Text → Result ℕ E → Type 0) (found : Option Text)
    (result : Result (Option ℕ) E)
    → ((text : Text) (r : Result ℕ E) → Gives text r → ParsesUnsigned 64 10 text r) → (found ≡ None → result ≡ Ok None)
    → ((text : Text) → found ≡ Some text → TriesOne Gives text result) → IfOk result (IsNumberOf found)
IsNumberOf-TriesOne E Gives None result parses none value = rw (none refl) refl
IsNumberOf-TriesOne E Gives (Some text) (Ok None) parses none value = absurd (value text refl)
IsNumberOf-TriesOne E Gives (Some text) (Ok (Some number)) parses none value =
    let read = parses text (Ok number) (value text refl) in
    (read.0.0, read.1)
IsNumberOf-TriesOne E Gives (Some text) (Err e) parses none value = tt

-- and it answers each number that is up to a bound
pub IsNumberOf-read : (E : Type 0) (Gives : Text → Result ℕ E → Type 0) (found : Option Text)
    (result : Result (Option ℕ) E)
    → ((text : Text) (r : Result ℕ E) → Gives text r → ParsesUnsigned 64 10 text r) → (found ≡ None → result ≡ Ok None)
    → ((text : Text) → found ≡ Some text → TriesOne Gives text result) → (most : ℕ) (number : Option ℕ) → most < 2 ^ 64
    → IsNumberOf found number → IfSome number (IsUpTo most) → result ≡ Ok number
IsNumberOf-read E Gives None result parses none value most number fits is bounds = none refl ∙ ap Ok (sym is)
IsNumberOf-read E Gives (Some text) result parses none value most None fits is bounds = absurd is
IsNumberOf-read E Gives (Some text) (Ok None) parses none value most (Some number) fits is bounds =
    absurd (value text refl)
IsNumberOf-read E Gives (Some text) (Ok (Some other)) parses none value most (Some number) fits is bounds =
    let same : other ≡ number = (parses text (Ok other) (value text refl)).1 ∙ sym is.1 in
    rw same refl
IsNumberOf-read E Gives (Some text) (Err e) parses none value most (Some number) fits is bounds =
    absurd (parses text (Err e) (value text refl) (is.0, omega (arith, is.1, bounds.1, fits)))

-- a number that is given is up to the bound of what is given
pub IsUpTo-given : (most number : ℕ) (given : Option ℕ) → Some number ≡ given → IfSome given (IsUpTo most)
    → IsUpTo most number
IsUpTo-given most number given same bounds = subst (λ (o : Option ℕ). IfSome o (IsUpTo most)) (sym same) bounds

-- what the reading of a flag answers, false where it answers nothing, is whether the flag is given
pub is_given-ReadsOne : (E : Type 0) (found : Option Text) (read : Option Bool) → (found ≡ None → read ≡ None)
    → ((text : Text) → found ≡ Some text → ReadsOne {E = E} ParsesBool text read)
    → unwrap_or read false ≡ is_given found
is_given-ReadsOne E None read none value = rw (none refl) refl
is_given-ReadsOne E (Some text) (Some true) none value = let is : text ≡ codes "true" = value text refl in rw is refl
is_given-ReadsOne E (Some text) (Some false) none value = let is : text ≡ codes "false" = value text refl in rw is refl
is_given-ReadsOne E (Some text) None none value = go (bytes_eq text (codes "true")) refl
  where
    go : (same : Bool) → bytes_eq text (codes "true") ≡ same → false ≡ same
    go true is = absurd ((value text refl).1.0 ((bytes_eq-Decides text (codes "true")).0 is))
    go false is = refl

-- the words of a run that `live` has too
abbrev pub live_of : RunWords → LiveWords
live_of run = record {
  schema = run.schema;
  feeds = run.feeds;
  ring = run.ring;
  threads = run.threads;
  shard = run.shard;
  max_record = run.max_record;
  quiet = run.quiet;
  store = run.store;
  wary = run.wary;
  commit_every = 1;
  why = run.why;
}

-- of the words of a run, those that `live` has too are its own
pub AreLiveWords-AreRunWords : (rows : List Row) (run : RunWords) → AreRunWords rows run
    → AreLiveWords rows (live_of run)
AreLiveWords-AreRunWords rows run are = record {
  shared = record {
    schema = are.schema;
    feeds = are.feeds;
    ring = are.ring;
    threads = are.threads;
    shard = are.shard;
    max_record = are.max_record;
    is_quiet = are.is_quiet;
    asks_why = are.asks_why;
  };
  store = are.store;
  is_wary = are.is_wary;
}

-- and their options are in their bounds
pub LiveHasRoom-RunHasRoom : (run : RunWords) → RunHasRoom run → LiveHasRoom (live_of run)
LiveHasRoom-RunHasRoom run room = record {
  least_ring = room.least_ring;
  most_ring = room.most_ring;
  threads = room.threads;
  least_waiting = omega arith;
  most_waiting = omega arith;
}

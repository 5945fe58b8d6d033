use Rattle.std.proofs.Common.{◌≡◌, ◌≢◌, ◌<◌, ◌++◌, ◌∷◌, List, ℕ, Option, Some, None, length, get_or, option_map, Bor}
use Rattle.std.proofs.Common.{arith, refl, ap, sym, ◌∙◌}
use Rattle.std.specs.Prelude.{MatchOption}
use Rattle.std.proofs.lemmas.Str.Pattern.{split_parts}
use Rattle.clap.proofs.CutLemmas.{Lacks, list_any-Lacks, list_any-at, before_first-at, after_first-at}
use Rattle.cube_tool.specs.ShardWord.{halves_of}
use Rattle.cube_tool.proofs.command.shard.halves_of.Goals as goal

halves_of-at : (before after : List ℕ) → Lacks 47 before → halves_of (before ++ 47 ∷ after) ≡ Some (before, after)
halves_of-at before after lacks =
    rw (list_any-at 47 before after, before_first-at 47 before after lacks, after_first-at 47 before after lacks) refl

halves_of-without : (word : List ℕ) → Lacks 47 word → halves_of word ≡ None
halves_of-without word lacks = rw (list_any-Lacks 47 word lacks) refl

halves_of-cases : (word : List ℕ) (found : Option (Bor (List ℕ) × Bor (List ℕ)))
    → MatchOption found ((i : ℕ) → i < length word → get_or word i 0 ≢ 47) (λ halves.
    (word ≡ halves.0.now ++ 47 ∷ halves.1.now) × ((i : ℕ) → i < length halves.0.now → get_or halves.0.now i 0 ≢ 47))
    → option_map (λ (halves : Bor (List ℕ) × Bor (List ℕ)). (halves.0.now, halves.1.now)) found ≡ halves_of word
halves_of-cases word None lacks = sym (halves_of-without word lacks)
halves_of-cases word (Some halves) parts = sym (ap halves_of parts.0 ∙ halves_of-at halves.0.now halves.1.now parts.1)

pub returns : goal.returns
returns c = halves_of-cases c.args.word.now c.split_once.result
    (split_parts 47 c.args.word.now c.split_once.result c.split_once.ensures.cases (omega arith))

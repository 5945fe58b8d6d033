use Rattle.std.proofs.Common.{◌≡◌, ◌∙◌, ℕ, List, Option, Some, None, ap, sym}
use Rattle.std.specs.Prelude.{option_and_then}
use Rattle.cube_live.specs.Request.{count_of}
use Rattle.cube_tool.specs.ShardWord.{halves_of, shard_named, shard_numbered}
use Rattle.cube_tool.proofs.command.shard.read_shard.Goals as goal

-- what a word names whose halves are these, of which the first is a number
named-by : (word first second place_bytes count_bytes : List ℕ) (place : ℕ) (count : Option ℕ)
    → Some (first, second) ≡ halves_of word → place_bytes ≡ first → count_bytes ≡ second
    → Some place ≡ count_of place_bytes → count ≡ count_of count_bytes
    → shard_named word ≡ option_and_then (shard_numbered place) count
named-by word first second place_bytes count_bytes place count halves is_first is_second is_place is_count =
    ap (option_and_then
    (λ (h : List ℕ × List ℕ). option_and_then (λ n. option_and_then (shard_numbered n) (count_of h.1)) (count_of h.0)))
    (sym halves)
    ∙ ap (option_and_then (λ n. option_and_then (shard_numbered n) (count_of second)))
    (sym (is_place ∙ ap count_of is_first))
    ∙ ap (option_and_then (shard_numbered place)) (sym (is_count ∙ ap count_of is_second))

pub returns-in_err-count-clause-named : goal.returns-in_err-count-clause-named
returns-in_err-count-clause-named c =
    c.from_residual-in_err-count.ensures
    ∙ sym
    (named-by c.args.word.now c.in_ok-place.place.now c.in_ok-place.count.now c.as_bytes.result.now
    c.as_bytes-2.result.now c.in_ok-place-2.place None
    c.in_ok-place.ensures c.as_bytes.ensures.value c.as_bytes-2.ensures.value c.in_ok-place-2.ensures
    c.in_err-count.ensures)

pub returns-clause-named : goal.returns-clause-named
returns-clause-named c =
    c.shard_numbered.ensures.numbered
    ∙ sym
    (named-by c.args.word.now c.in_ok-place.place.now c.in_ok-place.count.now c.as_bytes.result.now
    c.as_bytes-2.result.now c.in_ok-place-2.place (Some c.in_ok-count.count)
    c.in_ok-place.ensures c.as_bytes.ensures.value c.as_bytes-2.ensures.value c.in_ok-place-2.ensures
    c.in_ok-count.ensures)

use Rattle.std.proofs.Common.{◌≡◌, drop}
use Rattle.std.specs.Str.{bytes_eq}
use Rattle.std.specs.List.{list_any}
use Rattle.cube_core.specs.Items.{keep_text}
use Rattle.cube_feed.proofs.line.has_keep_text.Given as goal

abbrev pub invariant-loop-place : goal.invariant-loop-place
invariant-loop-place l =
    list_any (λ field. bytes_eq field keep_text) (drop l.place l.fields)
    ≡ list_any (λ field. bytes_eq field keep_text) (drop 2 l.fields)

-- What a list of arrivals has of each source.
use Rattle.std.proofs.Common.{◌≡◌, ◌==◌, ◌++◌, ℕ, map, filter, ap, ◌∙◌}
use Rattle.std.proofs.lemmas.List.{map-append}
use Rattle.std.proofs.lemmas.List.Elements.{filter-append}
use Rattle.cube_core.specs.Arrival.{Arrivals, of_source}
use Rattle.cube_core.specs.declared.change.Item.{Item}

pub of_source-append : (some more : Arrivals) (source : ℕ)
    → of_source (some ++ more) source ≡ of_source some source ++ of_source more source
of_source-append some more source =
    ap (map (λ (arrival : ℕ × Item). arrival.1)) (filter-append (λ (arrival : ℕ × Item). arrival.0 == source) some more)
    ∙ map-append (λ (arrival : ℕ × Item). arrival.1) (filter (λ (arrival : ℕ × Item). arrival.0 == source) some)
    (filter (λ (arrival : ℕ × Item). arrival.0 == source) more)

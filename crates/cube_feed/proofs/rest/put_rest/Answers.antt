use Rattle.std.proofs.Common.{◌≡◌, ◌+◌, ◌++◌, [], ◌∷◌, List, ℕ, drop, Some, sym, ap, ◌∙◌, append_assoc}
use Rattle.std.proofs.lemmas.List.{append-nil}
use Rattle.csv.specs.Records as csv
use Rattle.csv.specs.Records.{fields_of, partial_of}
use Rattle.cube_core.proofs.QueryLaws.{field_at-Some, field_at-None}
use Rattle.cube_feed.proofs.rest.put_rest.Goals as goal

-- one field more
rest-more : (whole done new fields : List (List ℕ)) (field partial : List ℕ) (place : ℕ)
    → Some field ≡ csv.field_at fields place → partial ≡ []
    → new ≡ done ++ (partial ++ field) ∷ [] → done ++ drop place fields ≡ whole → new ++ drop (place + 1) fields ≡ whole
rest-more whole done new fields field partial place found none more so_far =
    let next = field_at-Some fields place field found in
    rw (more, none, append_assoc done (field ∷ []) (drop (place + 1) fields), ← next) so_far

pub loop-place-preserved : goal.loop-place-preserved
loop-place-preserved c = (
  c.in_ok-push_field.ensures.partial,
  rest-more _ (fields_of c.loop-place.rest) _ (fields_of c.args.fields.now) c.in-Some.field.now
      (partial_of c.loop-place.rest) c.loop-place.place
      c.in-Some.ensures.value c.loop-place.invariant.0 c.in_ok-push_field.ensures.fields c.loop-place.invariant.1,
)

pub returns-in_default : goal.returns-in_default
returns-in_default c =
    let none = field_at-None (fields_of c.args.fields.now) c.loop-place.place (c.in_default.ensures.value) in
    sym (append-nil (fields_of c.loop-place.rest)) ∙ ap (λ l. fields_of c.loop-place.rest ++ l) (sym none)
    ∙ c.loop-place.invariant.1

use Rattle.std.proofs.Common.{◌≡◌, ◌++◌, drop}
use Rattle.std.specs.Option.{is_some}
use Rattle.std.specs.List.{list_all, filter_map}
use Rattle.csv.specs.Records.{fields_of}
use Rattle.cube_core.specs.Query.{wanted_by}
use Rattle.cube_core.proofs.pattern.spelled_by.Given as goal

-- the iterator goes over the fields; what is found so far and what the fields to come want is what all want,
-- and all have a form where those to come do
abbrev pub invariant-loop-field : goal.invariant-loop-field
invariant-loop-field l = record {
  row : l.field-iterator.row.now ≡ l.fields;
  found : l.wanted.items ++ filter_map wanted_by (drop l.field-iterator.at (fields_of l.fields))
      ≡ filter_map wanted_by (fields_of l.fields);
  spelled : list_all (λ field. is_some (wanted_by field)) (drop l.field-iterator.at (fields_of l.fields))
      ≡ list_all (λ field. is_some (wanted_by field)) (fields_of l.fields);
}

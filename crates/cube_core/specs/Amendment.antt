-- An amendment over a fact:
-- the values that it puts, and the fact's own in the fields that it keeps (this project's choice).
use Rattle.std.specs.Prelude.{List, map}
use Rattle.std.specs.List.{zip}
use Rattle.cube_core.specs.declared.fact.Fact.{Fact}
use Rattle.cube_core.specs.declared.partial.Field.{Field}
use Rattle.cube_core.specs.declared.partial.Field.TheVariants.{Keep, Put}
use Rattle.cube_core.specs.declared.partial.Partial.{Partial}

-- a field over the old value: the value that it puts, or the old one
abbrev pub field_over : {A : Type 0} → Field A → A → A
field_over Keep old = old
field_over (Put value) old = value

-- fields over old values, each over the one at its place
abbrev pub fields_over : {A : Type 0} → List (Field A) → List A → List A
fields_over fields olds = map (λ pair. field_over pair.0 pair.1) (zip fields olds)

-- an amendment over a fact: the fact with each value that is put in its place
abbrev pub over : Partial → Fact → Fact
over part old = record {
  dims = fields_over part.dims old.dims;
  measures = fields_over part.measures old.measures;
}

-- What notes say, one behind the other.
use Rattle.std.proofs.Common.{◌≡◌, ◌∙◌, ℕ, List, [], ◌++◌, ap, sym, refl}
use Rattle.std.specs.Prelude.{Option, filter}
use Rattle.std.specs.List.{flat_map}
use Rattle.std.proofs.lemmas.List.Concat.{flat_map-append}
use Rattle.std.proofs.lemmas.List.Elements.{filter-append}
use Rattle.cube_tool.specs.Explain.{explained, has_code, note_text}
use Rattle.cube_tool.specs.declared.command.notes.Note.{Note}
use Rattle.cube_page.specs.Page.{IsSaid}

-- what some notes and more of them say
pub explained-append : (notes more : List Note) (code : Option (List ℕ))
    → explained (notes ++ more) code ≡ explained notes code ++ explained more code
explained-append notes more code =
    ap (λ (found : List Note). flat_map note_text found) (filter-append (has_code code) notes more)
    ∙ flat_map-append note_text (filter (has_code code) notes) (filter (has_code code) more)

-- no note says nothing
pub IsSaid-nothing : (code : Option (List ℕ)) → IsSaid code []
IsSaid-nothing code = record { notes = []; says = refl }

-- behind what was said stands what more notes say
pub IsSaid-append : {code : Option (List ℕ)} {text : List ℕ} → IsSaid code text → (more : List Note)
    → IsSaid code (text ++ explained more code)
IsSaid-append {code = code} {text = text} said more =
    record {
      notes = said.notes ++ more;
      says = ap (λ (t : List ℕ). t ++ explained more code) said.says ∙ sym (explained-append said.notes more code);
    }

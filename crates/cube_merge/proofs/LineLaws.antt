-- How a line is taken piece by piece, and that the line of fields is the first line of a text that begins with it.
use Rattle.std.proofs.Common.{◌≡◌, ◌++◌, ◌∷◌, ◌==◌, ◌||◌, [], ℕ, Bool, true, false, List, Option, Some, None, IfSome}
use Rattle.std.proofs.Common.{length, drop, refl, sym, ap, ◌∙◌, subst, append_assoc, inl, inr}
use Rattle.std.specs.Prelude.{not, if◌then◌else◌}
use Rattle.std.specs.Io.BufRead.{take_through, drop_through, DropsThrough}
use Rattle.std.specs.Io.KnownBytes.{Consumes, IsAtEnd}
use Rattle.std.proofs.lemmas.Bool.{cases_Bool, eqb-true, or_parts}
use Rattle.std.proofs.lemmas.List.{append-nil}
use Rattle.std.proofs.Math.Seq.{drop-append_seam}
use Rattle.csv.specs.Writing.{default_writer, escaped, field_text, fields_text, is_blank, needs_byte, needs_quotes}
use Rattle.csv.specs.Writing.{row_body}
use Rattle.cube_core.specs.Text.{line}
use Rattle.cube_merge.specs.NextLine.{IsNextLine, LineGoesOn, is_quoted_after, is_quoted_behind, line_from, next_line}

-- the bytes to the next line end, and what follows them
abbrev Piece : Bool → List ℕ → Type 0
Piece quoted bytes = line_from quoted bytes ≡ take_through 10 bytes
    ++ (if is_quoted_after quoted (take_through 10 bytes) then line_from true (drop_through 10 bytes) else [])

at_end : (quoted : Bool) (bytes : List ℕ) → Piece quoted (10 ∷ bytes)
at_end true bytes = refl
at_end false bytes = refl

piece : (quoted : Bool) (bytes : List ℕ) → Piece quoted bytes
piece true [] = refl
piece false [] = refl
piece true (b ∷ bytes) = elim (cases_Bool (b == 10)) [
  | inl is ↦ subst (λ n. Piece true (n ∷ bytes)) (sym (eqb-true b 10 is)) (at_end true bytes)
  | inr other ↦ rw other (ap (λ t. b ∷ t) (piece (is_quoted_behind true b) bytes))
]
piece false (b ∷ bytes) = elim (cases_Bool (b == 10)) [
  | inl is ↦ subst (λ n. Piece false (n ∷ bytes)) (sym (eqb-true b 10 is)) (at_end false bytes)
  | inr other ↦ rw other (ap (λ t. b ∷ t) (piece (is_quoted_behind false b) bytes))
]

-- before the first piece
pub LineGoesOn-none : (text : Option (List ℕ)) → LineGoesOn text text [] false
LineGoesOn-none None = tt
LineGoesOn-none (Some known) = refl

-- one more piece, after which the line goes on
pub LineGoesOn-more : (start left after : Option (List ℕ)) (old new : List ℕ) (quoted : Bool)
    → LineGoesOn start left old quoted → Consumes start left old
    → IfSome left (λ bytes. new ≡ old ++ take_through 10 bytes) → DropsThrough left after 10
    → is_quoted_after quoted (drop (length old) new) ≡ true → LineGoesOn start after new true
LineGoesOn-more None left after old new quoted goes taken piece_is rest is = tt
LineGoesOn-more (Some known) None after old new quoted goes taken piece_is rest is = absurd taken
LineGoesOn-more (Some known) (Some bytes) after old new quoted goes taken piece_is rest is =
    let chunk : drop (length old) new ≡ take_through 10 bytes =
    ap (drop (length old)) piece_is ∙ drop-append_seam old (take_through 10 bytes) in
    let on : is_quoted_after quoted (take_through 10 bytes) ≡ true = ap (is_quoted_after quoted) (sym chunk) ∙ is in
    subst (λ o. LineGoesOn (Some known) o new true) (sym rest) (more on) where
      more : is_quoted_after quoted (take_through 10 bytes) ≡ true
          → next_line known ≡ new ++ line_from true (drop_through 10 bytes)
      more on =
          goes ∙ ap (λ t. old ++ t) (piece quoted bytes
          ∙ ap (λ b. take_through 10 bytes ++ (if b then line_from true (drop_through 10 bytes) else [])) on)
          ∙ sym (append_assoc old (take_through 10 bytes) (line_from true (drop_through 10 bytes)))
          ∙ ap (λ t. t ++ line_from true (drop_through 10 bytes)) (sym piece_is)

-- the last piece
pub IsNextLine-last : (start left : Option (List ℕ)) (old new : List ℕ) (quoted : Bool)
    → LineGoesOn start left old quoted → Consumes start left old
    → IfSome left (λ bytes. new ≡ old ++ take_through 10 bytes) → is_quoted_after quoted (drop (length old) new) ≡ false
    → IsNextLine start new
IsNextLine-last None left old new quoted goes taken piece_is is = tt
IsNextLine-last (Some known) None old new quoted goes taken piece_is is = absurd taken
IsNextLine-last (Some known) (Some bytes) old new quoted goes taken piece_is is =
    let chunk : drop (length old) new ≡ take_through 10 bytes =
    ap (drop (length old)) piece_is ∙ drop-append_seam old (take_through 10 bytes) in
    let off : is_quoted_after quoted (take_through 10 bytes) ≡ false = ap (is_quoted_after quoted) (sym chunk) ∙ is in
    last off where
      last : is_quoted_after quoted (take_through 10 bytes) ≡ false → new ≡ next_line known
      last off =
          piece_is ∙ sym (goes ∙ ap (λ t. old ++ t) (piece quoted bytes
          ∙ ap (λ b. take_through 10 bytes ++ (if b then line_from true (drop_through 10 bytes) else [])) off
          ∙ append-nil (take_through 10 bytes)))

-- no piece is left
pub IsNextLine-end : (start left : Option (List ℕ)) (old new : List ℕ) (quoted : Bool)
    → LineGoesOn start left old quoted → Consumes start left old
    → IfSome left (λ bytes. new ≡ old ++ take_through 10 bytes) → IsAtEnd left → IsNextLine start new
IsNextLine-end None left old new quoted goes taken piece_is end = tt
IsNextLine-end (Some known) None old new quoted goes taken piece_is end = absurd taken
IsNextLine-end (Some known) (Some bytes) old new quoted goes taken piece_is end =
    piece_is ∙ ap (λ t. old ++ take_through 10 t) end
    ∙ sym (goes ∙ ap (λ t. old ++ line_from quoted t) end ∙ ap (λ t. old ++ t) (nothing quoted)) where
      nothing : (q : Bool) → line_from q [] ≡ []
      nothing true = refl
      nothing false = refl

-- the bytes of a field that needs no quotes are no line end and no quote
plain-line : (field rest : List ℕ) → needs_quotes default_writer field ≡ false
    → line_from false (field ++ rest) ≡ field ++ line_from false rest
plain-line [] rest needs = refl
plain-line (b ∷ field) rest needs =
    let (byte, others) = or_parts (needs_byte default_writer b) (needs_quotes default_writer field) needs in
    let p1 = or_parts _ _ byte in
    let p2 = or_parts _ _ p1.0 in
    let p3 = or_parts ((b == 44) || (b == 34)) ((b == 13) || (b == 10)) p2.0 in
    let quote = (or_parts (b == 44) (b == 34) p3.0).1 in
    let feed = (or_parts (b == 13) (b == 10) p3.1).1 in
    ap (λ q. if q then b ∷ [] else b ∷ line_from (b == 34) (field ++ rest)) feed
    ∙ ap (λ q. b ∷ line_from q (field ++ rest)) quote
    ∙ ap (λ t. b ∷ t) (plain-line field rest others)

-- the bytes of a field between its quotes
quoted-line : (field rest : List ℕ) → line_from true (escaped default_writer field ++ 34 ∷ rest)
    ≡ escaped default_writer field ++ 34 ∷ line_from false rest
unfolding escaped
quoted-line [] rest = refl
quoted-line (b ∷ field) rest = elim (cases_Bool (b == 34)) [
  | inl is ↦ subst (λ n. line_from true (escaped default_writer (n ∷ field) ++ 34 ∷ rest)
      ≡ escaped default_writer (n ∷ field) ++ 34 ∷ line_from false rest) (sym (eqb-true b 34 is))
      (ap (λ t. 34 ∷ 34 ∷ t) (quoted-line field rest))
  | inr other ↦ rw other (ap (λ q. b ∷ line_from (not q) (escaped default_writer field ++ 34 ∷ rest)) other
      ∙ ap (λ t. b ∷ t) (quoted-line field rest))
]

field-line : (field rest : List ℕ) → line_from false (field_text default_writer field ++ rest)
    ≡ field_text default_writer field ++ line_from false rest
field-line field rest = elim (cases_Bool (needs_quotes default_writer field)) [
  | inl needs ↦ rw needs (ap (λ t. 34 ∷ line_from true t) (append_assoc (escaped default_writer field) (34 ∷ []) rest)
      ∙ ap (λ t. 34 ∷ t)
      (quoted-line field rest ∙ sym (append_assoc (escaped default_writer field) (34 ∷ []) (line_from false rest))))
  | inr plain ↦ rw plain (plain-line field rest plain)
]

fields-line : (fields : List (List ℕ)) (rest : List ℕ) → line_from false (fields_text default_writer fields ++ rest)
    ≡ fields_text default_writer fields ++ line_from false rest
unfolding fields_text
fields-line [] rest = refl
fields-line (field ∷ fields) rest =
    ap (λ t. 44 ∷ line_from false t)
    (append_assoc (field_text default_writer field) (fields_text default_writer fields) rest)
    ∙ ap (λ t. 44 ∷ t) (field-line field (fields_text default_writer fields ++ rest)
    ∙ ap (λ t. field_text default_writer field ++ t) (fields-line fields rest)
    ∙ sym (append_assoc (field_text default_writer field) (fields_text default_writer fields) (line_from false rest)))

body-line : (fields : List (List ℕ)) (rest : List ℕ)
    → line_from false (row_body default_writer fields ++ rest) ≡ row_body default_writer fields ++ line_from false rest
body-line [] rest = refl
body-line (field ∷ fields) rest =
    ap (line_from false) (append_assoc (field_text default_writer field) (fields_text default_writer fields) rest)
    ∙ field-line field (fields_text default_writer fields ++ rest)
    ∙ ap (λ t. field_text default_writer field ++ t) (fields-line fields rest)
    ∙ sym (append_assoc (field_text default_writer field) (fields_text default_writer fields) (line_from false rest))

end-line : (blank : Bool) (rest : List ℕ) → line_from false (((if blank then 34 ∷ 34 ∷ [] else []) ++ 10 ∷ []) ++ rest)
    ≡ (if blank then 34 ∷ 34 ∷ [] else []) ++ 10 ∷ []
end-line true rest = refl
end-line false rest = refl

-- a text that begins with the line of fields has it as its first line
pub next_line-line : (fields : List (List ℕ)) (rest : List ℕ) → next_line (line fields ++ rest) ≡ line fields
next_line-line fields rest =
    let body = row_body default_writer fields in
    let end = (if is_blank default_writer fields then 34 ∷ 34 ∷ [] else []) ++ 10 ∷ [] in
    ap (line_from false) (append_assoc body end rest) ∙ body-line fields (end ++ rest)
    ∙ ap (λ t. body ++ t) (end-line (is_blank default_writer fields) rest)

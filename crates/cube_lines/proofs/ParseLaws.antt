-- How a line with a comma in place of its end is read, field by field.
use Rattle.std.proofs.Common.{◌≡◌, ◌++◌, ◌+◌, ◌-◌, ◌*◌, ◌^◌, ◌<◌, ◌≤◌, ◌∷◌, [], ℕ, true, false, List, Option}
use Rattle.std.proofs.Common.{Some, None, IfSome, ◌⊎◌, inl, inr, length, map, take, drop, get_or, set, refl, sym, ap}
use Rattle.std.proofs.Common.{◌∙◌, append_assoc, codes, length-append, arith, decimal}
use Rattle.std.proofs.lemmas.Fmt.{decimal_digit}
use Rattle.std.proofs.lemmas.Grind.{flat_map-append}
use Rattle.std.proofs.lemmas.List.{append-nil, drop_more, length-take-le, map-append, map-set, take-append-drop, take_more}
use Rattle.std.proofs.lemmas.List.{take_more_set, take_rest, set-get_or}
use Rattle.std.proofs.lemmas.List.Folds.{list_any-append}
use Rattle.std.proofs.Math.Seq.{take-append_seam}
use Rattle.csv.specs.Writing.{default_writer, escaped, needs_byte, needs_quotes}
use Rattle.csv.proofs.WriteFacts.{escaped-append, escaped-other}
use Rattle.cube_core.specs.Layout.{Layout}
use Rattle.cube_core.specs.Text.{answer_text, answer_texts, coord_text, digits_of_answers, grouping_text, padded, pointed}
use Rattle.cube_core.specs.Text.{row_fields}
use Rattle.cube_core.specs.declared.aggregate.Answer.{Answer}
use Rattle.cube_core.specs.declared.key.Coord.{Coord}
use Rattle.cube_core.specs.declared.key.Row.{Row}
use Rattle.cube_lines.proofs.AnswerTextsLaws.{answer_texts-push}
use Rattle.cube_lines.proofs.UnitTextLaws.{padded-more, pointed-parts}
use Rattle.cube_lines.specs.Parts.{key_parts, part, parts}
use Rattle.cube_lines.proofs.TextLaws.{escaped-quote}

-- digits and one more of them
pub digits-more : (start text digits more : List ℕ) (d i b : ℕ) → i < length text → b ≡ get_or text i b → b ≡ 48 + d
    → more ≡ digits ++ (48 + d) ∷ []
    → start ++ take i text ≡ digits → start ++ take (i + 1) text ≡ more
digits-more start text digits more d i b inside b_is digit more_is so_far =
    ap (λ t. start ++ t) (take_more text i b inside) ∙ sym (append_assoc start (take i text) (get_or text i b ∷ []))
    ∙ ap (λ t. t ++ get_or text i b ∷ []) so_far ∙ ap (λ x. digits ++ x ∷ []) (sym b_is ∙ digit) ∙ sym more_is

-- digits, and what is left
pub digits-end : (start text rest number : List ℕ) (i : ℕ) → start ++ take i text ≡ number → rest ≡ drop i text
    → start ++ text ≡ number ++ rest
digits-end start text rest number i so_far rest_is =
    ap (λ t. start ++ t) (sym (take-append-drop i text)) ∙ sym (append_assoc start (take i text) (drop i text))
    ∙ ap (λ t. t ++ drop i text) so_far ∙ ap (λ t. number ++ t) (sym rest_is)

-- one more field
pub parts-push : {X : Type 0} (f : X → List ℕ) (xs : List X) (x : X) (text rest after : List ℕ)
    → text ≡ parts (map f xs) ++ rest → rest ≡ part (f x) ++ after → text ≡ parts (map f (xs ++ x ∷ [])) ++ after
parts-push f xs x text rest after so_far one =
    let more : parts (map f (xs ++ x ∷ [])) ≡ parts (map f xs) ++ part (f x)
    = ap parts (map-append f xs (x ∷ [])) ∙ flat_map-append part (map f xs) (f x ∷ [])
    ∙ ap (λ t. parts (map f xs) ++ t) (append-nil (part (f x))) in
    so_far ∙ ap (λ t. parts (map f xs) ++ t) one ∙ sym (append_assoc (parts (map f xs)) (part (f x)) after)
    ∙ ap (λ t. t ++ after) (sym more)

-- one more answer
pub parts-answer : (digits : List ℕ) (answers : List Answer) (k : ℕ) (a : Answer) (text rest after : List ℕ)
    → length answers ≡ length digits
    → text ≡ parts (answer_texts digits answers) ++ rest → rest ≡ part (answer_text k a) ++ after
    → text ≡ parts (answer_texts (digits ++ k ∷ []) (answers ++ a ∷ [])) ++ after
parts-answer digits answers k a text rest after same so_far one =
    let before = answer_texts digits answers in
    let field = answer_text k a in
    let more : parts (answer_texts (digits ++ k ∷ []) (answers ++ a ∷ [])) ≡ parts before ++ part field
    = ap parts (answer_texts-push digits answers k a same) ∙ flat_map-append part before (field ∷ [])
    ∙ ap (λ t. parts before ++ t) (append-nil (part field)) in
    so_far ∙ ap (λ t. parts before ++ t) one ∙ sym (append_assoc (parts before) (part field) after)
    ∙ ap (λ t. t ++ after) (sym more)

-- what a function gives of one more of the first of a list
pub map-take-more : {X Y : Type 0} (f : X → Y) (xs : List X) (i : ℕ) (d : X) → i < length xs
    → map f (take (i + 1) xs) ≡ map f (take i xs) ++ f (get_or xs i d) ∷ []
map-take-more f xs i d inside = ap (map f) (take_more xs i d inside) ∙ map-append f (take i xs) (get_or xs i d ∷ [])

-- digits behind those of a number, and one more of them
pub behind-more : (front text : List ℕ) (n d i b : ℕ) → i < length text → b ≡ get_or text i b → b ≡ 48 + d → d < 10
    → n * 10 + d < 10 ^ 64 → padded (i + 1) (decimal n) ≡ front ++ take i text
    → padded (i + 1 + 1) (decimal (n * 10 + d)) ≡ front ++ take (i + 1) text
behind-more front text n d i b inside b_is digit small fits so_far =
    padded-more (i + 1) n d (omega arith) small fits ∙ ap (λ t. t ++ (48 + d) ∷ []) so_far
    ∙ append_assoc front (take i text) ((48 + d) ∷ [])
    ∙ ap (λ t. front ++ t)
    (ap (λ x. take i text ++ x ∷ []) (sym digit ∙ b_is) ∙ sym (take_more text i b inside))

-- a number with a point, and what follows it
pub pointed-begins : (k : ℕ) (text front point fraction number rest : List ℕ) → text ≡ front ++ point
    → point ≡ 46 ∷ fraction → k ≤ length fraction → padded (k + 1) number ≡ front ++ take k fraction
    → rest ≡ drop k fraction → text ≡ pointed k (padded (k + 1) number) ++ rest
pointed-begins k text front point fraction number rest one two long digits rest_is =
    let shown : pointed k (padded (k + 1) number) ≡ front ++ codes "." ++ take k fraction
    = ap (pointed k) digits ∙ pointed-parts k front (take k fraction) (length-take-le k fraction long) in
    one ∙ ap (λ t. front ++ t) (two ∙ ap (λ t. 46 ∷ t) (sym (take-append-drop k fraction)))
    ∙ sym (append_assoc front (46 ∷ []) (take k fraction ++ drop k fraction))
    ∙ sym (append_assoc (front ++ 46 ∷ []) (take k fraction) (drop k fraction))
    ∙ ap (λ t. t ++ drop k fraction) (sym shown) ∙ ap (λ t. pointed k (padded (k + 1) number) ++ t) (sym rest_is)

-- a field without quotes, up to its comma
pub plain-part : (text field : List ℕ) (end : ℕ) → end < length text → get_or text end 0 ≡ 44
    → needs_quotes default_writer (take end text) ≡ false → field ≡ take end text
    → text ≡ part field ++ drop (end + 1) text
plain-part text field end inside comma plain is =
    let shown : part field ≡ take end text ++ 44 ∷ [] = ap part is ∙ rw plain refl in
    sym (take-append-drop end text)
    ∙ ap (λ t. take end text ++ t) (drop_more text end 0 inside ∙ ap (λ b. b ∷ drop (end + 1) text) comma)
    ∙ sym (append_assoc (take end text) (44 ∷ []) (drop (end + 1) text))
    ∙ ap (λ t. t ++ drop (end + 1) text) (sym shown)

-- one more byte that needs no quotes
pub plain-more : (text : List ℕ) (i b : ℕ) → i < length text → b ≡ get_or text i b → needs_byte default_writer b ≡ false
    → needs_quotes default_writer (take i text) ≡ false → needs_quotes default_writer (take (i + 1) text) ≡ false
plain-more text i b inside b_is plain so_far =
    ap (λ t. needs_quotes default_writer t) (take_more text i b inside ∙ ap (λ x. take i text ++ x ∷ []) (sym b_is))
    ∙ rw (list_any-append (needs_byte default_writer) (take i text) (b ∷ []), so_far, plain) refl

-- a field in quotes, up to its comma
pub quoted-part : (text field shown : List ℕ) (end : ℕ) → 1 ≤ length text → get_or text 0 0 ≡ 34
    → drop 1 text ≡ escaped default_writer field ++ 34 ∷ drop end text → end < length text → get_or text end 0 ≡ 44
    → needs_quotes default_writer field ≡ true → shown ≡ field → text ≡ part shown ++ drop (end + 1) text
quoted-part text field shown end some quote inner inside comma quotes is =
    let body = escaped default_writer field in
    let printed : part shown ≡ (34 ∷ (body ++ 34 ∷ [])) ++ 44 ∷ [] = ap part is ∙ rw quotes refl in
    let head : text ≡ 34 ∷ drop 1 text = drop_more text 0 0 some ∙ ap (λ b. b ∷ drop 1 text) quote in
    let rest : drop end text ≡ 44 ∷ drop (end + 1) text =
    drop_more text end 0 inside ∙ ap (λ b. b ∷ drop (end + 1) text) comma in
    head ∙ ap (λ t. 34 ∷ t)
    (inner ∙ ap (λ t. body ++ 34 ∷ t) rest ∙ sym (append_assoc body (34 ∷ []) (44 ∷ drop (end + 1) text))
    ∙ sym (append_assoc (body ++ 34 ∷ []) (44 ∷ []) (drop (end + 1) text)))
    ∙ ap (λ t. t ++ drop (end + 1) text) (sym printed)

-- one more byte between quotes, that is no quote
pub inner-plain : (text field more : List ℕ) (at b : ℕ) → at < length text → b ≡ get_or text at b → (b ≡ 34 → ⊥)
    → more ≡ field ++ b ∷ []
    → drop 1 text ≡ escaped default_writer field ++ drop at text
    → drop 1 text ≡ escaped default_writer more ++ drop (at + 1) text
inner-plain text field more at b inside b_is other is so_far =
    let shown : escaped default_writer more ≡ escaped default_writer field ++ b ∷ []
    = ap (escaped default_writer) is ∙ escaped-append default_writer field (b ∷ [])
    ∙ ap (λ t. escaped default_writer field ++ t) (escaped-other default_writer b other) in
    so_far ∙ ap (λ t. escaped default_writer field ++ t)
    (drop_more text at b inside ∙ ap (λ x. x ∷ drop (at + 1) text) (sym b_is))
    ∙ sym (append_assoc (escaped default_writer field) (b ∷ []) (drop (at + 1) text))
    ∙ ap (λ t. t ++ drop (at + 1) text) (sym shown)

-- two quotes between quotes
pub inner-quote : (text field more : List ℕ) (at : ℕ) → at + 1 < length text → get_or text at 0 ≡ 34
    → get_or text (at + 1) 0 ≡ 34 → more ≡ field ++ 34 ∷ []
    → drop 1 text ≡ escaped default_writer field ++ drop at text
    → drop 1 text ≡ escaped default_writer more ++ drop (at + 1 + 1) text
inner-quote text field more at inside first second is so_far =
    let shown : escaped default_writer more ≡ escaped default_writer field ++ 34 ∷ 34 ∷ []
    = ap (escaped default_writer) is ∙ escaped-append default_writer field (34 ∷ [])
    ∙ ap (λ t. escaped default_writer field ++ t) escaped-quote in
    let two : drop at text ≡ 34 ∷ 34 ∷ drop (at + 1 + 1) text
    = drop_more text at 0 (omega (arith, inside)) ∙ ap (λ b. b ∷ drop (at + 1) text) first
    ∙ ap (λ t. 34 ∷ t) (drop_more text (at + 1) 0 inside ∙ ap (λ b. b ∷ drop (at + 1 + 1) text) second) in
    so_far ∙ ap (λ t. escaped default_writer field ++ t) two
    ∙ sym (append_assoc (escaped default_writer field) (34 ∷ 34 ∷ []) (drop (at + 1 + 1) text))
    ∙ ap (λ t. t ++ drop (at + 1 + 1) text) (sym shown)

-- the closing quote
pub inner-end : (text field : List ℕ) (at : ℕ) → at < length text
    → get_or text at 0 ≡ 34 → drop 1 text ≡ escaped default_writer field ++ drop at text
    → drop 1 text ≡ escaped default_writer field ++ 34 ∷ drop (at + 1) text
inner-end text field at inside quote so_far = so_far
    ∙ ap (λ t. escaped default_writer field ++ t) (drop_more text at 0 inside ∙ ap (λ b. b ∷ drop (at + 1) text) quote)

-- what is left behind what was read
pub from-place : (text : List ℕ) (n : ℕ) → take (length text - n) (drop n text) ≡ drop n text
from-place text n = take_rest text n

-- all fields of a row
pub row-parts : (s : Layout) (row : Row) (start : List (List ℕ)) (text flags numbers : List ℕ)
    → text ≡ parts start ++ flags
    → start ≡ map coord_text row.key.coords → flags ≡ parts (map grouping_text row.key.coords) ++ numbers
    → numbers ≡ parts (answer_texts (digits_of_answers s) row.answers) → text ≡ parts (row_fields s row)
row-parts s row start text flags numbers one start_is two three =
    let a = map coord_text row.key.coords in
    let b = map grouping_text row.key.coords in
    let c = answer_texts (digits_of_answers s) row.answers in
    one ∙ ap (λ t. parts t ++ flags) start_is ∙ ap (λ t. parts a ++ t) (two ∙ ap (λ t. parts b ++ t) three)
    ∙ sym (append_assoc (parts a) (parts b) (parts c)) ∙ ap (λ t. t ++ parts c) (sym (flat_map-append part a b))
    ∙ sym (flat_map-append part (a ++ b) c)

-- what follows from what holds of a value, if there is one
pub if_some-weaker : {T : Type 0} (o : Option T) (P Q : T → Type 0) → ((x : T) → P x → Q x) → IfSome o P → IfSome o Q
if_some-weaker None P Q f h = tt
if_some-weaker (Some x) P Q f h = f x h

-- a number of one digit
pub digit-begins : (text rest : List ℕ) (byte digit : ℕ) → text ≡ byte ∷ rest → byte ≡ 48 + digit → digit < 10
    → text ≡ decimal digit ++ rest
digit-begins text rest byte digit is byte_is small =
    is ∙ ap (λ b. b ∷ rest) byte_is ∙ ap (λ t. t ++ rest) (sym (decimal_digit digit small))

-- a field of digits, or of a fraction, and its comma
pub plain-ends : (text field end rest : List ℕ) → needs_quotes default_writer field ≡ false → text ≡ field ++ end
    → end ≡ 44 ∷ rest → text ≡ part field ++ rest
plain-ends text field end rest plain is end_is =
    let shown : part field ≡ field ++ 44 ∷ [] = rw plain refl in
    is ∙ ap (λ t. field ++ t) end_is ∙ sym (append_assoc field (44 ∷ []) rest) ∙ ap (λ t. t ++ rest) (sym shown)

-- two numbers, a byte between them, and what follows
pub parted-begins : (byte : ℕ) (text p between digits q end : List ℕ) → text ≡ p ++ between → between ≡ byte ∷ digits
    → digits ≡ q ++ end → text ≡ (p ++ byte ∷ [] ++ q) ++ end
parted-begins byte text p between digits q end one two three =
    one ∙ ap (λ t. p ++ t) (two ∙ ap (λ t. byte ∷ t) three) ∙ sym (append_assoc p (byte ∷ q) end)
    ∙ ap (λ t. t ++ end) (sym (append_assoc p (byte ∷ []) q))

-- one more flag
pub flags-more : (coords : List Coord) (coord : Coord) (i : ℕ) (text rest after : List ℕ) (flag : ℕ) → i < length coords
    → text ≡ parts (map grouping_text (take i coords)) ++ rest → rest ≡ flag ∷ 44 ∷ after
    → (flag ≡ 49) ⊎ (flag ≡ 48) → grouping_text coord ≡ flag ∷ []
    → text ≡ parts (map grouping_text (take (i + 1) (set coords i coord))) ++ after
flags-more coords coord i text rest after flag inside so_far is kind shown =
    parts-push grouping_text (take i coords) coord text rest after so_far
    (is ∙ sym (ap (λ f. part f ++ after) shown ∙ ap (λ t. t ++ after) (flag-part kind)))
    ∙ ap (λ cs. parts (map grouping_text cs) ++ after) (sym (take_more_set coords i coord inside)) where
      flag-part : (flag ≡ 49) ⊎ (flag ≡ 48) → part (flag ∷ []) ≡ flag ∷ 44 ∷ []
      flag-part (inl e) = rw e refl
      flag-part (inr e) = rw e refl

-- a coordinate that shows the same
pub shown-same : (coords : List Coord) (old new : Coord) (i : ℕ) → old ≡ get_or coords i old
    → coord_text new ≡ coord_text old → map coord_text (set coords i new) ≡ map coord_text coords
shown-same coords old new i is same =
    map-set coord_text coords i new ∙ ap (λ t. set (map coord_text coords) i t) (same ∙ ap coord_text is)
    ∙ sym (map-set coord_text coords i (get_or coords i old)) ∙ ap (map coord_text) (set-get_or coords i old)

-- what stands before the answers shows the key
pub key-part : (row : Row) (start : List (List ℕ)) (text flags numbers : List ℕ) (n : ℕ) → text ≡ parts start ++ flags
    → start ≡ map coord_text row.key.coords → flags ≡ parts (map grouping_text row.key.coords) ++ numbers
    → n ≡ length text - length numbers
    → take n text ≡ key_parts row.key
key-part row start text flags numbers n one start_is two n_is =
    let a = map coord_text row.key.coords in
    let b = map grouping_text row.key.coords in
    let all : text ≡ (parts a ++ parts b) ++ numbers = one ∙ ap (λ t. parts t ++ flags) start_is
    ∙ ap (λ t. parts a ++ t) two ∙ sym (append_assoc (parts a) (parts b) numbers) in
    let long : n ≡ length (parts a ++ parts b) =
    omega (arith, n_is, ap length all, length-append (parts a ++ parts b) numbers) in
    ap (λ t. take n t) all ∙ ap (λ m. take m ((parts a ++ parts b) ++ numbers)) long
    ∙ take-append_seam (parts a ++ parts b) numbers ∙ sym (flat_map-append part a b)

-- a list that stands in place of the first part of another one
pub first-part : {X : Type 0} (xs ys : List X) (n : ℕ) → n ≡ length xs → take n (xs ++ drop (length xs) ys) ≡ xs
first-part xs ys n is = ap (λ m. take m (xs ++ drop (length xs) ys)) is ∙ take-append_seam xs (drop (length xs) ys)

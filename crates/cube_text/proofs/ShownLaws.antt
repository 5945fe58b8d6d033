-- Laws of what rows show of texts.
use Rattle.std.proofs.Common.{◌≡◌, ◌≢◌, ◌==◌, ◌∙◌, ◌++◌, ◌+◌, ◌<◌, ◌≤◌, ◌∷◌, [], ℕ, zero, suc, List, length, get_or, sym, ap}
use Rattle.std.proofs.Common.{refl, subst, arith, inl, inr, length-append}
use Rattle.std.specs.Global.{Vec}
use Rattle.std.proofs.Math.Seq.{get_or-append_seam}
use Rattle.std.proofs.lemmas.Bool.{cases_Bool, cases_lt, ne_eqb}
use Rattle.std.proofs.lemmas.List.{get_or_append_left}
use Rattle.cube_core.specs.Text.{coord_text, grouping_text}
use Rattle.cube_core.specs.declared.key.Coord.{Coord}
use Rattle.cube_core.specs.declared.key.Coord.TheVariants as coord
use Rattle.cube_cells.specs.Codes.{Dictionaries, all_code, coord_at, coords_at, null_code}
use Rattle.cube_cells.proofs.Codes.DictionaryLaws.{coord_at-place}
use Rattle.cube_cells.proofs.Codes.KeyLaws.{get_or-coords_at}
use Rattle.cube_lines.specs.Parts.{part}
use Rattle.cube_text.specs.Shown.{AreShown, IsShown}
use Rattle.cube_text.specs.declared.shown.Shown.{Shown}

-- the texts below a place are shown
pub record AreShownBelow (texts : List (List ℕ)) (place : ℕ) (parts : List (Vec ℕ)) : Type 0 where
  pub long : length parts ≡ place
  pub each : (code : ℕ) (unused : Vec ℕ) → code < length parts
      → (get_or parts code unused).items ≡ part (get_or texts code [])

pub AreShownBelow-more : (texts : List (List ℕ)) (place : ℕ) (parts : List (Vec ℕ)) (one : Vec ℕ)
    → AreShownBelow texts place parts → one.items ≡ part (get_or texts place [])
    → AreShownBelow texts (place + 1) (parts ++ one ∷ [])
AreShownBelow-more texts place parts one below is = record {
  long = omega (arith, length-append parts (one ∷ []), below.long);
  each = λ code unused inside. elim (cases_lt code (length parts)) [
    | inl before ↦ ap (λ (v : Vec ℕ). v.items) (get_or_append_left parts (one ∷ []) unused code before)
        ∙ below.each code unused before
    | inr past ↦
        let last : code ≡ length parts = omega (arith, inside, past, length-append parts (one ∷ [])) in
        ap (λ (n : ℕ). (get_or (parts ++ one ∷ []) n unused).items) last
        ∙ ap (λ (v : Vec ℕ). v.items) (get_or-append_seam parts one [] unused) ∙ is
        ∙ ap (λ (n : ℕ). part (get_or texts n [])) (sym (last ∙ below.long))
  ];
}

-- the texts of the dimensions below one are shown
pub record AllShownBelow (dictionaries : Dictionaries) (dimension : ℕ) (shown : List Shown) : Type 0 where
  pub long : length shown ≡ dimension
  pub are : AreShown dictionaries shown

pub AllShownBelow-more : (dictionaries : Dictionaries) (dimension : ℕ) (shown : List Shown) (one : Shown)
    → AllShownBelow dictionaries dimension shown → IsShown (get_or dictionaries dimension []) one
    → AllShownBelow dictionaries (dimension + 1) (shown ++ one ∷ [])
AllShownBelow-more dictionaries dimension shown one below is = record {
  long = omega (arith, length-append shown (one ∷ []), below.long);
  are = record {
    each = λ d unused inside. elim (cases_lt d (length shown)) [
      | inl before ↦ subst (IsShown (get_or dictionaries d []))
          (sym (get_or_append_left shown (one ∷ []) unused d before)) (below.are.each d unused before)
      | inr past ↦
          let last : d ≡ length shown = omega (arith, inside, past, length-append shown (one ∷ [])) in
          let here : get_or (shown ++ one ∷ []) d unused ≡ one =
          ap (λ (n : ℕ). get_or (shown ++ one ∷ []) n unused) last ∙ get_or-append_seam shown one [] unused in
          subst (IsShown (get_or dictionaries d [])) (sym here)
          (subst (λ (n : ℕ). IsShown (get_or dictionaries n []) one) (sym (last ∙ below.long)) is)
    ];
  };
}

-- what is found is what a row shows of the coordinate
pub part_at-AreShown : (dictionaries : Dictionaries) (shown : List Shown) (codes : List ℕ) (d code : ℕ) (one : Shown)
    (found : Vec ℕ) → AreShown dictionaries shown → d < length dictionaries → d < length codes
    → code ≡ get_or codes d 0 → code < null_code → d < length shown → one ≡ get_or shown d one
    → code < length one.parts.items → found ≡ get_or one.parts.items code found
    → found.items ≡ part (coord_text (get_or (coords_at dictionaries codes) d coord.All))
part_at-AreShown dictionaries shown codes d code one found are inside within code_is low there one_is below found_is =
    let texts : List (List ℕ) = get_or dictionaries d [] in
    let is : IsShown texts one = subst (IsShown texts) (sym one_is) (are.each d one there) in
    let coord_is : get_or (coords_at dictionaries codes) d coord.All ≡ coord.Text (get_or texts code []) =
    get_or-coords_at dictionaries codes d inside within ∙ ap (coord_at texts) (sym code_is)
    ∙ coord_at-place texts code low in
    ap (λ (v : Vec ℕ). v.items) found_is ∙ is.each code found below
    ∙ ap (λ (c : Coord). part (coord_text c)) (sym coord_is)

-- ---- what GROUPING columns show of codes
-- past the codes each coordinate is ALL
pub coords_at-past : (dictionaries : Dictionaries) (codes : List ℕ) (d : ℕ) → length codes ≤ d
    → get_or (coords_at dictionaries codes) d coord.All ≡ coord.All
coords_at-past [] codes d past = refl
coords_at-past (texts ∷ dictionaries) [] zero past = refl
coords_at-past (texts ∷ dictionaries) [] (suc d) past = coords_at-past dictionaries [] d (omega arith)
coords_at-past (texts ∷ dictionaries) (code ∷ codes) zero past = absurd (omega (arith, past))
coords_at-past (texts ∷ dictionaries) (code ∷ codes) (suc d) past =
    coords_at-past dictionaries codes d (omega (arith, past))

-- the code of ALL alone shows 1
pub grouping_text-all : (texts : List (List ℕ)) (code : ℕ) → code ≡ all_code
    → grouping_text (coord_at texts code) ≡ grouping_text coord.All
grouping_text-all texts code is = rw is refl

pub grouping_text-other : (texts : List (List ℕ)) (code : ℕ) → code ≢ all_code
    → grouping_text (coord_at texts code) ≡ grouping_text coord.Null
grouping_text-other texts code other = rw (ne_eqb code all_code other) (elim (cases_Bool (code == null_code)) [
  | inl is ↦ rw is refl
  | inr is ↦ rw is refl
])

-- What a refused item does, and what one that isn't refused does.
use Rattle.std.specs.Prelude.{◌≡◌, ◌==◌, ℕ, Bool, true, false, not, List, [], ◌∷◌, ◌++◌, Option, Some, None, is_some}
use Rattle.std.specs.Prelude.{option_map, Result, Ok, Err, if◌then◌else◌}
use Rattle.std.specs.List.{cons_option}
use Rattle.std.specs.Str.{bytes_eq}
use Rattle.std.proofs.Common.{refl, sym, ap, ◌∙◌, subst, inl, inr}
use Rattle.std.proofs.lemmas.Bool.{cases_Bool}
use Rattle.std.proofs.lemmas.List.{append-nil}
use Rattle.std.proofs.lemmas.List.Elements.{filter_map-append}
use Rattle.std.proofs.lemmas.Slice.Eq.{bytes_eq-Decides}
use Rattle.cube_core.specs.Layout.{Layout}
use Rattle.cube_core.specs.Life.{id_of, life_of, changes_of, taken_change}
use Rattle.cube_core.specs.Refusals.{present_code, absent_code, shape_code, code_of_fault, code_by_presence, code_of}
use Rattle.cube_core.specs.Refusals.{refusal_of}
use Rattle.cube_core.specs.Takes.{takes, may_amend}
use Rattle.cube_core.specs.declared.change.Change.{Change}
use Rattle.cube_core.specs.declared.change.Change.TheVariants.{Insert, Update, Amend, Upsert, Delete, Remove}
use Rattle.cube_core.specs.declared.change.Item.{Item}
use Rattle.cube_core.specs.declared.change.LineFault.{LineFault}
use Rattle.cube_core.specs.declared.change.LineFault.TheVariants as fault
use Rattle.cube_core.specs.declared.change.Refusal.{Refusal}
use Rattle.cube_core.specs.declared.fact.Fact.{Fact}
use Rattle.cube_core.proofs.LifeLaws.{life_after, life_of-naming, life_of-other, bytes_eq-itself, bytes_eq-other}
use Rattle.cube_laws.specs.Refused.{Makes, IsMade, Reason, AtFault, NotTaken, AlreadyPresent, StillAbsent, WhyRefused}
use Rattle.cube_laws.specs.Refused.{at_fault, not_taken, insert_of_present, update_of_absent, amendment_of_absent}
use Rattle.cube_laws.specs.Refused.{delete_of_absent, code_in_version_1, code_in_version_2}

-- what a change by a refused item comes to, and what one by an item that isn't refused does
life_after-refused : (s : Layout) (change : Change) (life : Option Fact) (code : ℕ)
    → code_by_presence s change (is_some life) ≡ Some code → life_after change life ≡ life
life_after-refused s (Insert id fact) None code refused = cc
life_after-refused s (Insert id fact) (Some old) code refused = refl
life_after-refused s (Update id fact) None code refused = refl
life_after-refused s (Update id fact) (Some old) code refused = cc
life_after-refused s (Amend id part) None code refused = refl
life_after-refused s (Amend id part) (Some old) code refused = cc
life_after-refused s (Upsert id fact) life code refused = cc
life_after-refused s (Delete id) None code refused = refl
life_after-refused s (Delete id) (Some old) code refused = cc
life_after-refused s (Remove id) life code refused = cc

life_after-Makes : (s : Layout) (change : Change) (life : Option Fact)
    → code_by_presence s change (is_some life) ≡ None → Makes change life (life_after change life)
life_after-Makes s (Insert id fact) None accepted = (refl, refl)
life_after-Makes s (Insert id fact) (Some old) accepted = cc
life_after-Makes s (Update id fact) None accepted = cc
life_after-Makes s (Update id fact) (Some old) accepted = (refl, refl)
life_after-Makes s (Amend id part) None accepted = cc
life_after-Makes s (Amend id part) (Some old) accepted = (old, refl, refl)
life_after-Makes s (Upsert id fact) None accepted = refl
life_after-Makes s (Upsert id fact) (Some old) accepted = refl
life_after-Makes s (Delete id) None accepted = cc
life_after-Makes s (Delete id) (Some old) accepted = (refl, refl)
life_after-Makes s (Remove id) None accepted = refl
life_after-Makes s (Remove id) (Some old) accepted = refl

-- the code of a change that is taken, and that of one that isn't
abbrev code_if : Layout → List Change → Change → Bool → Option ℕ
code_if s changes change taken =
    if not taken then Some (shape_code s)
    else code_by_presence s change (is_some (life_of (id_of change) changes))

-- the changes with one more item
changes_of-more : (s : Layout) (before : List Item) (item : Item)
    → changes_of s (before ++ item ∷ []) ≡ changes_of s before ++ cons_option (taken_change s item.what) []
changes_of-more s before item =
    filter_map-append (λ (other : Item). taken_change s other.what) before (item ∷ [])

-- ---- a refused item changes no life
refused-what : (s : Layout) (before : List Item) (what : Result Change LineFault) (code : ℕ) (id : List ℕ)
    → code_of s before what ≡ Some code
    → life_of id (changes_of s before ++ cons_option (taken_change s what) []) ≡ life_of id (changes_of s before)
refused-what s before (Err line_fault) code id refused = ap (life_of id) (append-nil (changes_of s before))
refused-what s before (Ok change) code id refused =
    let changes : List Change = changes_of s before in
    let after : (b : Bool) → takes s change ≡ b
    → life_of id (changes ++ cons_option (taken_change s (Ok change)) [])
    ≡ life_of id (changes ++ cons_option (if b then Some change else None) []) =
    λ b is. ap (λ t. life_of id (changes ++ cons_option (if t then Some change else None) [])) is in
    elim (cases_Bool (takes s change)) [
      | inl taken ↦
          let told : code_by_presence s change (is_some (life_of (id_of change) changes)) ≡ Some code
          = sym (ap (code_if s changes change) taken) ∙ refused in
          after true taken ∙ elim (cases_Bool (bytes_eq id (id_of change))) [
            | inl same ↦
                let is : id ≡ id_of change = (bytes_eq-Decides id (id_of change)).0 same in
                life_of-naming id changes change same
                ∙ ap (λ (name : List ℕ). life_after change (life_of name changes)) is
                ∙ life_after-refused s change (life_of (id_of change) changes) code told
                ∙ ap (λ (name : List ℕ). life_of name changes) (sym is)
            | inr other ↦ life_of-other id changes change other
          ]
      | inr untaken ↦ after false untaken ∙ ap (life_of id) (append-nil changes)
    ]

refused-code : (item : Item) (code : Option ℕ) (refusal : Refusal)
    → option_map (λ c. let told : Refusal = record { number = item.number; code = c } in told) code ≡ Some refusal
    → (c : ℕ) × (code ≡ Some c) × (refusal.number ≡ item.number)
refused-code item None refusal refused = cc
refused-code item (Some c) refusal refused =
    let same : record { number = item.number; code = c } ≡ refusal = cc in
    (c, refl, sym (ap (λ (r : Refusal). r.number) same))

pub refusal_of-life_of : (s : Layout) (before : List Item) (item : Item) (refusal : Refusal) (id : List ℕ)
    → refusal_of s before item ≡ Some refusal
    → life_of id (changes_of s (before ++ item ∷ [])) ≡ life_of id (changes_of s before)
refusal_of-life_of s before item refusal id refused =
    let code = refused-code item (code_of s before item.what) refusal refused in
    ap (life_of id) (changes_of-more s before item) ∙ refused-what s before item.what code.0 id code.1

pub refusal_of-number : (s : Layout) (before : List Item) (item : Item) (refusal : Refusal)
    → refusal_of s before item ≡ Some refusal → refusal.number ≡ item.number
refusal_of-number s before item refusal refused =
    (refused-code item (code_of s before item.what) refusal refused).2

-- ---- an item that isn't refused is made
accepted-what : (s : Layout) (before : List Item) (item : Item) (what : Result Change LineFault) → item.what ≡ what
    → code_of s before what ≡ None → IsMade s before item
accepted-what s before item (Err line_fault) said accepted = cc
accepted-what s before item (Ok change) said accepted = elim (cases_Bool (takes s change)) [
  | inl taken ↦
      let changes : List Change = changes_of s before in
      let told : code_by_presence s change (is_some (life_of (id_of change) changes)) ≡ None
      = sym (ap (code_if s changes change) taken) ∙ accepted in
      let grown : changes_of s (before ++ item ∷ []) ≡ changes ++ change ∷ []
      = changes_of-more s before item
      ∙ ap (λ what. changes ++ cons_option (taken_change s what) []) said
      ∙ ap (λ t. changes ++ cons_option (if t then Some change else None) []) taken in
      record {
        change = change;
        said = said;
        taken = taken;
        made = subst (Makes change (life_of (id_of change) changes))
            (sym (ap (life_of (id_of change)) grown
            ∙ life_of-naming (id_of change) changes change (bytes_eq-itself (id_of change))))
            (life_after-Makes s change (life_of (id_of change) changes) told);
        others = λ id differs. ap (life_of id) grown
            ∙ life_of-other id changes change (bytes_eq-other id (id_of change) differs);
      }
  | inr untaken ↦ cc (sym (ap (code_if s (changes_of s before) change) untaken) ∙ accepted)
]

accepted-code : (item : Item) (code : Option ℕ)
    → option_map (λ c. let told : Refusal = record { number = item.number; code = c } in told) code ≡ None
    → code ≡ None
accepted-code item None accepted = refl
accepted-code item (Some c) accepted = cc

pub refusal_of-IsMade : (s : Layout) (before : List Item) (item : Item) → refusal_of s before item ≡ None
    → IsMade s before item
refusal_of-IsMade s before item accepted =
    accepted-what s before item item.what refl (accepted-code item (code_of s before item.what) accepted)

-- ---- the code tells why
-- the code of a reason under a schema
abbrev code_for : Layout → Reason → ℕ
code_for s (AtFault line_fault) = code_of_fault s line_fault
code_for s NotTaken = shape_code s
code_for s AlreadyPresent = present_code s
code_for s StillAbsent = absent_code s

code_of-absent : (s : Layout) (before : List Item) (change : Change) → takes s change ≡ true
    → life_of (id_of change) (changes_of s before) ≡ None → code_by_presence s change false ≡ Some (absent_code s)
    → code_of s before (Ok change) ≡ Some (absent_code s)
code_of-absent s before change taken absent told =
    ap (code_if s (changes_of s before) change) taken
    ∙ ap (λ life. code_by_presence s change (is_some life)) absent ∙ told

code_of-WhyRefused : (s : Layout) (before : List Item) (what : Result Change LineFault) (reason : Reason)
    → WhyRefused s before what reason → code_of s before what ≡ Some (code_for s reason)
code_of-WhyRefused s before what reason (at_fault line_fault) = refl
code_of-WhyRefused s before what reason (not_taken change untaken) =
    ap (code_if s (changes_of s before) change) untaken
code_of-WhyRefused s before what reason (insert_of_present id fact taken present) =
    ap (code_if s (changes_of s before) (Insert id fact)) taken ∙ ap (code_by_presence s (Insert id fact)) present
code_of-WhyRefused s before what reason (update_of_absent id fact taken absent) =
    code_of-absent s before (Update id fact) taken absent refl
code_of-WhyRefused s before what reason (amendment_of_absent id part taken absent) =
    code_of-absent s before (Amend id part) taken absent refl
code_of-WhyRefused s before what reason (delete_of_absent id taken absent) =
    code_of-absent s before (Delete id) taken absent refl

code_for-version_1 : (s : Layout) (reason : Reason) → may_amend s ≡ false → code_for s reason ≡ code_in_version_1 reason
code_for-version_1 s (AtFault fault.Op) never = refl
code_for-version_1 s (AtFault fault.Fields) never = refl
code_for-version_1 s (AtFault fault.Text) never = refl
code_for-version_1 s (AtFault fault.Id) never = refl
code_for-version_1 s (AtFault fault.Measure) never = refl
code_for-version_1 s (AtFault fault.Keep) never = ap (λ b. if b then 6 else if b then 9 else 8) never
code_for-version_1 s NotTaken never = ap (λ b. if b then 9 else 8) never
code_for-version_1 s AlreadyPresent never = ap (λ b. if b then 7 else 6) never
code_for-version_1 s StillAbsent never = ap (λ b. if b then 8 else 7) never

code_for-version_2 : (s : Layout) (reason : Reason) → may_amend s ≡ true → code_for s reason ≡ code_in_version_2 reason
code_for-version_2 s (AtFault fault.Op) may = refl
code_for-version_2 s (AtFault fault.Fields) may = refl
code_for-version_2 s (AtFault fault.Text) may = refl
code_for-version_2 s (AtFault fault.Id) may = refl
code_for-version_2 s (AtFault fault.Measure) may = refl
code_for-version_2 s (AtFault fault.Keep) may = ap (λ b. if b then 6 else if b then 9 else 8) may
code_for-version_2 s NotTaken may = ap (λ b. if b then 9 else 8) may
code_for-version_2 s AlreadyPresent may = ap (λ b. if b then 7 else 6) may
code_for-version_2 s StillAbsent may = ap (λ b. if b then 8 else 7) may

-- the refusal with a code
abbrev refusal_with : Item → Option ℕ → Option Refusal
refusal_with item code =
    option_map (λ c. let told : Refusal = record { number = item.number; code = c } in told) code

pub refusal_of-version_1 : (s : Layout) (before : List Item) (item : Item) (reason : Reason) → s.version ≡ 1
    → WhyRefused s before item.what reason
    → refusal_of s before item ≡ Some (record { number = item.number; code = code_in_version_1 reason })
refusal_of-version_1 s before item reason one why =
    ap (refusal_with item) (code_of-WhyRefused s before item.what reason why)
    ∙ ap (λ c. refusal_with item (Some c)) (code_for-version_1 s reason (ap (λ v. v == 2) one))

pub refusal_of-version_2 : (s : Layout) (before : List Item) (item : Item) (reason : Reason) → s.version ≡ 2
    → WhyRefused s before item.what reason
    → refusal_of s before item ≡ Some (record { number = item.number; code = code_in_version_2 reason })
refusal_of-version_2 s before item reason two why =
    ap (refusal_with item) (code_of-WhyRefused s before item.what reason why)
    ∙ ap (λ c. refusal_with item (Some c)) (code_for-version_2 s reason (ap (λ v. v == 2) two))

-- a life is absent or present
life-cases : (change : Change) (life : Option Fact) (code : ℕ) (s : Layout) (before : List Item)
    → life_of (id_of change) (changes_of s before) ≡ life → takes s change ≡ true
    → code_by_presence s change (is_some life) ≡ Some code
    → (reason : Reason) × WhyRefused s before (Ok change) reason
life-cases (Insert id fact) None code s before is taken told = cc
life-cases (Insert id fact) (Some old) code s before is taken told =
    (AlreadyPresent, insert_of_present id fact taken (ap is_some is))
life-cases (Update id fact) None code s before is taken told = (StillAbsent, update_of_absent id fact taken is)
life-cases (Update id fact) (Some old) code s before is taken told = cc
life-cases (Amend id part) None code s before is taken told = (StillAbsent, amendment_of_absent id part taken is)
life-cases (Amend id part) (Some old) code s before is taken told = cc
life-cases (Upsert id fact) life code s before is taken told = cc
life-cases (Delete id) None code s before is taken told = (StillAbsent, delete_of_absent id taken is)
life-cases (Delete id) (Some old) code s before is taken told = cc
life-cases (Remove id) life code s before is taken told = cc

why-what : (s : Layout) (before : List Item) (what : Result Change LineFault) (code : ℕ)
    → code_of s before what ≡ Some code → (reason : Reason) × WhyRefused s before what reason
why-what s before (Err line_fault) code refused = (AtFault line_fault, at_fault line_fault)
why-what s before (Ok change) code refused = elim (cases_Bool (takes s change)) [
  | inl taken ↦
      life-cases change (life_of (id_of change) (changes_of s before)) code s before refl taken
      (sym (ap (code_if s (changes_of s before) change) taken) ∙ refused)
  | inr untaken ↦ (NotTaken, not_taken change untaken)
]

pub refusal_of-WhyRefused : (s : Layout) (before : List Item) (item : Item) (refusal : Refusal)
    → refusal_of s before item ≡ Some refusal → (reason : Reason) × WhyRefused s before item.what reason
refusal_of-WhyRefused s before item refusal refused =
    let code = refused-code item (code_of s before item.what) refusal refused in
    why-what s before item.what code.0 code.1

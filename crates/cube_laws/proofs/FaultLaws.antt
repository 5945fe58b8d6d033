-- The fault that is told of a schema document is the first.
use Rattle.std.specs.Prelude.{◌≡◌, ◌<◌, ℕ, Bool, true, false, List, [], ◌∷◌, Contains, find, Option, Some, None}
use Rattle.std.specs.Prelude.{Ok, Err, cond}
use Rattle.std.specs.Option.{option_map_or}
use Rattle.std.specs.List.{AllByRecursion}
use Rattle.std.proofs.Common.{refl, sym, ap, ◌∙◌, inl, inr, arith}
use Rattle.std.proofs.lemmas.Bool.{cases_Bool}
use Rattle.toml.specs.Data.{Members}
use Rattle.cube_core.specs.SchemaDocument.{document_faults, first_fault, has_fault, layout_of, schema_of}
use Rattle.cube_core.specs.declared.schema_fault.SchemaFault.{SchemaFault}
use Rattle.cube_core.specs.declared.schema_fault.SchemaFault.TheVariants as fault
use Rattle.cube_core.proofs.ListLaws.{AllByRecursion-Contains, Contains-cases, Contains-nil}
use Rattle.cube_laws.specs.Written.{IsFirstFault, number_of_fault}

-- each is below all that come later
abbrev Ranked : {X : Type 0} → (X → ℕ) → List X → Type 0
Ranked rank [] = Unit {0}
Ranked rank (x ∷ xs) = AllByRecursion (λ y. rank x < rank y) xs × Ranked rank xs

-- what is found passes, and nothing below it does
find-Ranked : {X : Type 0} (p : X → Bool) (rank : X → ℕ) (xs : List X) (x : X) → Ranked rank xs → find p xs ≡ Some x
    → (p x ≡ true) × ((y : X) → Contains xs y → rank y < rank x → p y ≡ false)
find-Ranked p rank [] x ranked found = cc
find-Ranked p rank (first ∷ xs) x ranked found = elim (cases_Bool (p first)) [
  | inl passes ↦
      let same : first ≡ x = cc (sym (ap (λ b. cond b (Some first) (find p xs)) passes) ∙ found) in (
        ap p (sym same) ∙ passes,
        λ y among below. elim (Contains-cases first xs y among) [
          | inl head ↦ absurd (omega (arith, below, ap rank (sym head ∙ same)))
          | inr rest ↦ absurd (omega (
            arith,
            below,
            ap rank same,
            AllByRecursion-Contains (λ z. rank first < rank z) xs y ranked.0 rest,
          ))
        ],
      )
  | inr fails ↦
      let rest = find-Ranked p rank xs x ranked.1 (sym (ap (λ b. cond b (Some first) (find p xs)) fails) ∙ found) in (
        rest.0,
        λ y among below. elim (Contains-cases first xs y among) [
          | inl head ↦ ap p (sym head) ∙ fails
          | inr after ↦ rest.1 y after below
        ],
      )
]

-- and what passes is found, where nothing below it does
Ranked-find : {X : Type 0} (p : X → Bool) (rank : X → ℕ) (xs : List X) (x : X) → Ranked rank xs → Contains xs x
    → p x ≡ true → ((y : X) → rank y < rank x → p y ≡ false) → find p xs ≡ Some x
Ranked-find p rank [] x ranked among passes none = absurd (Contains-nil x among)
Ranked-find p rank (first ∷ xs) x ranked among passes none = elim (Contains-cases first xs x among) [
  | inl head ↦ ap (λ b. cond b (Some first) (find p xs)) (ap p head ∙ passes) ∙ ap Some head
  | inr rest ↦
      ap (λ b. cond b (Some first) (find p xs))
      (none first (AllByRecursion-Contains (λ z. rank first < rank z) xs x ranked.0 rest))
      ∙ Ranked-find p rank xs x ranked.1 rest passes none
]

document_faults-Ranked : Ranked number_of_fault document_faults
document_faults-Ranked = (
  (
    omega arith,
    (
      omega arith,
      (
        omega arith,
        (
          omega arith,
          (
            omega arith,
            (
              omega arith,
              (
                omega arith,
                (
                  omega arith,
                  (omega arith, (omega arith, tt)),
                ),
              ),
            ),
          ),
        ),
      ),
    ),
  ),
  (
    (
      omega arith,
      (
        omega arith,
        (
          omega arith,
          (
            omega arith,
            (
              omega arith,
              (omega arith, (omega arith, (omega arith, (omega arith, tt)))),
            ),
          ),
        ),
      ),
    ),
    (
      (
        omega arith,
        (
          omega arith,
          (
            omega arith,
            (omega arith, (omega arith, (omega arith, (omega arith, (omega arith, tt))))),
          ),
        ),
      ),
      (
        (
          omega arith,
          (
            omega arith,
            (omega arith, (omega arith, (omega arith, (omega arith, (omega arith, tt))))),
          ),
        ),
        (
          (
            omega arith,
            (
              omega arith,
              (omega arith, (omega arith, (omega arith, (omega arith, tt)))),
            ),
          ),
          (
            (
              omega arith,
              (
                omega arith,
                (
                  omega arith,
                  (omega arith, (omega arith, tt)),
                ),
              ),
            ),
            (
              (omega arith, (omega arith, (omega arith, (omega arith, tt)))),
              (
                (
                  omega
                      arith,
                  (omega arith, (omega arith, tt)),
                ),
                (
                  (omega arith, (omega arith, tt)),
                  (
                    (omega arith, tt),
                    (
                      tt,
                      tt,
                    ),
                  ),
                ),
              ),
            ),
          ),
        ),
      ),
    ),
  ),
)

-- a fault that a document has is one of these
has_fault-Contains : (document : Members) (told : SchemaFault) → has_fault document told ≡ true
    → Contains document_faults told
has_fault-Contains document fault.Memory has = cc
has_fault-Contains document fault.Toml has = cc
has_fault-Contains document fault.UnknownKey has = (0, omega arith, refl)
has_fault-Contains document fault.Dimensions has = (1, omega arith, refl)
has_fault-Contains document fault.Measures has = (2, omega arith, refl)
has_fault-Contains document fault.Name has = (3, omega arith, refl)
has_fault-Contains document fault.Aggregates has = (4, omega arith, refl)
has_fault-Contains document fault.MaxRecords has = (5, omega arith, refl)
has_fault-Contains document fault.Grouping has = (6, omega arith, refl)
has_fault-Contains document fault.Version has = (7, omega arith, refl)
has_fault-Contains document fault.Columns has = (8, omega arith, refl)
has_fault-Contains document fault.Decimals has = (9, omega arith, refl)
has_fault-Contains document fault.Texts has = (10, omega arith, refl)

-- what is told
told-first_fault : (document : Members) (told : SchemaFault) (first : Option SchemaFault)
    → option_map_or Err first (Ok (layout_of document)) ≡ Err told → first ≡ Some told
told-first_fault document told None same = cc
told-first_fault document told (Some first) same = cc

pub schema_of-IsFirstFault : (document : Members) (told : SchemaFault) → schema_of document ≡ Err told
    → IsFirstFault document told
schema_of-IsFirstFault document told same =
    let found = find-Ranked (has_fault document) number_of_fault document_faults told document_faults-Ranked
    (told-first_fault document told (first_fault document) same) in
    record {
      holds = found.0;
      none_before = λ other below. elim (cases_Bool (has_fault document other)) [
        | inl has ↦ found.1 other (has_fault-Contains document other has) below
        | inr has_not ↦ has_not
      ];
    }

pub IsFirstFault-schema_of : (document : Members) (told : SchemaFault) → IsFirstFault document told
    → schema_of document ≡ Err told
IsFirstFault-schema_of document told first =
    ap (λ (found : Option SchemaFault). option_map_or Err found (Ok (layout_of document)))
    (Ranked-find (has_fault document) number_of_fault document_faults told document_faults-Ranked
    (has_fault-Contains document told first.holds) first.holds first.none_before)

-- How merged rows grow by the row of the next key.
use Rattle.std.proofs.Common.{◌≡◌, ◌++◌, ◌<◌, ◌∷◌, [], true, false, List, Contains, map, length, refl, sym, ap, ◌∙◌, subst}
use Rattle.std.proofs.Common.{arith, inl, inr, Ordering, Less, Equal, Greater, is_eq}
use Rattle.std.specs.List.{AllByRecursion, AllZip}
use Rattle.std.specs.List.Sorted.{IsStrictlySortedBy}
use Rattle.std.specs.Ordering.{ordering_reverse}
use Rattle.std.proofs.lemmas.List.{map-append, append-nil}
use Rattle.std.proofs.lemmas.List.Elements.{Contains-append_left, Contains-append_right, Contains-append_cases}
use Rattle.std.proofs.lemmas.List.Elements.{filter-append}
use Rattle.cube_core.specs.Cube.{key_of}
use Rattle.cube_core.specs.Merged.{AreMerged, HasMergedAnswers, IsMerged, rows_at}
use Rattle.cube_core.specs.Order.{key_cmp}
use Rattle.cube_core.specs.declared.aggregate.Agg.{Agg}
use Rattle.cube_core.specs.declared.key.Key.{Key}
use Rattle.cube_core.specs.declared.key.Row.{Row}
use Rattle.cube_merge.specs.Range.{AreInRange}
use Rattle.cube_merge.specs.Merging.{IsMadeInRange}
use Rattle.cube_core.proofs.KeyOrderLaws.{key_cmp-IsTotalOrder}
use Rattle.cube_core.proofs.ListLaws.{Contains-head, Contains-nil, Contains-cases, map-Contains, filter-passed}
use Rattle.cube_core.proofs.ListLaws.{filter-failed, Contains-AllByRecursion}

-- a key isn't below itself
pub key_cmp-refl : (key : Key) → key_cmp key key ≡ Equal
key_cmp-refl key = self (key_cmp key key) (key_cmp-IsTotalOrder.antisymm key key) where
  self : (o : Ordering) → o ≡ ordering_reverse o → o ≡ Equal
  self Less e = cc
  self Equal e = refl
  self Greater e = cc

pub is_eq-Equal : (o : Ordering) → is_eq o ≡ true → o ≡ Equal
is_eq-Equal Less e = cc
is_eq-Equal Equal e = refl
is_eq-Equal Greater e = cc

is_eq-Less : (o : Ordering) → o ≡ Less → is_eq o ≡ false
is_eq-Less o e = ap is_eq e

pub is_eq-above : (a b : Key) → key_cmp b a ≡ Less → is_eq (key_cmp a b) ≡ false
is_eq-above a b below = ap is_eq (key_cmp-IsTotalOrder.antisymm a b ∙ ap ordering_reverse below)

-- rows of which none has the key, and rows of which each has it
pub rows_at-none : (key : Key) (rows : List Row) → AllByRecursion (λ row. is_eq (key_cmp key row.key) ≡ false) rows
    → rows_at key rows ≡ []
rows_at-none key [] others = refl
rows_at-none key (row ∷ rows) others =
    filter-failed (λ (r : Row). is_eq (key_cmp key r.key)) row rows others.0 ∙ rows_at-none key rows others.1

pub rows_at-all : (key : Key) (rows : List Row) → AllByRecursion (λ row. row.key ≡ key) rows → rows_at key rows ≡ rows
rows_at-all key [] same = refl
rows_at-all key (row ∷ rows) same =
    filter-passed (λ (r : Row). is_eq (key_cmp key r.key)) row rows
    (ap (λ k. is_eq (key_cmp key k)) same.0 ∙ ap is_eq (key_cmp-refl key))
    ∙ ap (λ rest. row ∷ rest) (rows_at-all key rows same.1)

-- a key above all in order
pub sorted-push : (keys : List Key) (key : Key) → IsStrictlySortedBy key_cmp keys
    → ((k : Key) → Contains keys k → key_cmp k key ≡ Less) → IsStrictlySortedBy key_cmp (keys ++ key ∷ [])
unfolding IsStrictlySortedBy
sorted-push [] key sorted below = (tt, tt)
sorted-push (k ∷ keys) key sorted below = (
  pushed keys sorted.0 (below k (Contains-head k keys)),
  sorted-push keys key sorted.1 (λ other among. below other (Contains-append_right (k ∷ []) keys other among)),
) where
  pushed : (ks : List Key) → AllByRecursion (λ y. key_cmp k y ≡ Less) ks → key_cmp k key ≡ Less
      → AllByRecursion (λ y. key_cmp k y ≡ Less) (ks ++ key ∷ [])
  pushed [] all one = (one, tt)
  pushed (y ∷ ks) all one = (all.0, pushed ks all.1 one)

-- what holds of all elements of two lists holds of all of both, joined
pub AllByRecursion-append : {X : Type 0} (P : X → Type 0) (xs ys : List X) → AllByRecursion P xs → AllByRecursion P ys
    → AllByRecursion P (xs ++ ys)
AllByRecursion-append P [] ys here after = after
AllByRecursion-append P (x ∷ xs) ys here after = (here.0, AllByRecursion-append P xs ys here.1 after)

AllByRecursion-push : {X : Type 0} (P Q : X → Type 0) (xs : List X) (x : X) → AllByRecursion P xs
    → ((y : X) → P y → Contains xs y → Q y) → Q x → AllByRecursion Q (xs ++ x ∷ [])
AllByRecursion-push P Q [] x all step one = (one, tt)
AllByRecursion-push P Q (y ∷ xs) x all step one = (
  step y all.0 (Contains-head y xs),
  AllByRecursion-push P Q xs x all.1 (λ z p among. step z p (Contains-append_right (y ∷ []) xs z among)) one,
)

pub AllByRecursion-map : {X : Type 0} (P Q : X → Type 0) (xs : List X) → ((x : X) → P x → Q x) → AllByRecursion P xs
    → AllByRecursion Q xs
AllByRecursion-map P Q [] step all = tt
AllByRecursion-map P Q (x ∷ xs) step all = (step x all.0, AllByRecursion-map P Q xs step all.1)

has_key : (key : Key) (used : List Row) → AllByRecursion (λ row. row.key ≡ key) used → 0 < length used
    → Contains (map key_of used) key
has_key key [] same some = absurd (omega arith)
has_key key (row ∷ used) same some =
    subst (Contains (map key_of (row ∷ used))) same.0 (Contains-head row.key (map key_of used))

key_is : (key k : Key) (used : List Row) → AllByRecursion (λ row. row.key ≡ key) used → Contains (map key_of used) k
    → key ≡ k
key_is key k [] same among = absurd (Contains-nil k among)
key_is key k (row ∷ used) same among = elim (Contains-cases row.key (map key_of used) k among) [
  | inl here ↦ sym same.0 ∙ here
  | inr after ↦ key_is key k used same.1 after
]

module _ (given wanted : List Agg) (parts rows used : List Row) (row : Row) (are : AreMerged given wanted parts rows)
    (below : (k : Key) → Contains (map key_of rows) k → key_cmp k row.key ≡ Less)
    (same : AllByRecursion (λ (u : Row). u.key ≡ row.key) used) (some : 0 < length used) where
  parts-below : (p : Row) → Contains parts p → key_cmp p.key row.key ≡ Less
  parts-below p among = below p.key ((are.cells p.key).1 (map-Contains key_of parts p among))

  rows_at-new : rows_at row.key (parts ++ used) ≡ used
  rows_at-new =
      filter-append (λ (r : Row). is_eq (key_cmp row.key r.key)) parts used
      ∙ ap (λ t. t ++ rows_at row.key used)
      (rows_at-none row.key parts (Contains-AllByRecursion (λ (r : Row). is_eq (key_cmp row.key r.key) ≡ false) parts
      (λ p among. is_eq-above row.key p.key (parts-below p among))))
      ∙ rows_at-all row.key used same

  rows_at-old : (old : Row) → Contains rows old → rows_at old.key (parts ++ used) ≡ rows_at old.key parts
  rows_at-old old among =
      filter-append (λ (r : Row). is_eq (key_cmp old.key r.key)) parts used
      ∙ ap (λ t. rows_at old.key parts ++ t) (rows_at-none old.key
      used (AllByRecursion-map (λ (u : Row). u.key ≡ row.key) (λ (u : Row). is_eq (key_cmp old.key u.key) ≡ false) used
      (λ u is. ap (λ k. is_eq (key_cmp old.key k)) is
      ∙ is_eq-Less (key_cmp old.key row.key) (below old.key (map-Contains key_of rows old among))) same))
      ∙ append-nil (rows_at old.key parts)

  cells-there : (key : Key) → Contains (map key_of (rows ++ row ∷ [])) key → Contains (map key_of (parts ++ used)) key
  cells-there key among =
      subst (λ keys. Contains keys key) (sym (map-append key_of parts used))
      (elim (Contains-append_cases (map key_of rows) (row.key ∷ []) key
      (subst (λ keys. Contains keys key) (map-append key_of rows (row ∷ [])) among)) [
        | inl old ↦ Contains-append_left (map key_of parts) (map key_of used) key ((are.cells key).0 old)
        | inr new ↦
            Contains-append_right (map key_of parts) (map key_of used) key (elim (Contains-cases row.key [] key new) [
              | inl here ↦ subst (Contains (map key_of used)) here (has_key row.key used same some)
              | inr none ↦ absurd (Contains-nil key none)
            ])
      ])

  cells-back : (key : Key) → Contains (map key_of (parts ++ used)) key → Contains (map key_of (rows ++ row ∷ [])) key
  cells-back key among =
      subst (λ keys. Contains keys key) (sym (map-append key_of rows (row ∷ [])))
      (elim (Contains-append_cases (map key_of parts) (map key_of used) key
      (subst (λ keys. Contains keys key) (map-append key_of parts used) among)) [
        | inl old ↦ Contains-append_left (map key_of rows) (row.key ∷ []) key ((are.cells key).1 old)
        | inr new ↦ Contains-append_right (map key_of rows) (row.key ∷ []) key
            (subst (Contains (row.key ∷ [])) (key_is row.key key used same new) (Contains-head row.key []))
      ])

  -- the row of the next key
  pub AreMerged-push : AllZip (IsMerged given used) wanted row.answers
      → AreMerged given wanted (parts ++ used) (rows ++ row ∷ [])
  AreMerged-push answers = record {
    cells = λ key. (cells-there key, cells-back key);
    ordered = subst (IsStrictlySortedBy key_cmp) (sym (map-append key_of rows (row ∷ [])))
        (sorted-push (map key_of rows) row.key are.ordered below);
    answers = AllByRecursion-push (HasMergedAnswers given wanted parts)
        (HasMergedAnswers given wanted (parts ++ used)) rows row are.answers
        (λ old has among.
        subst (λ group. AllZip (IsMerged given group) wanted old.answers) (sym (rows_at-old old among)) has)
        (subst (λ group. AllZip (IsMerged given group) wanted row.answers) (sym rows_at-new) answers);
  }

  -- its counts and its sums are in range
  pub AreInRange-push : AllByRecursion (IsMadeInRange given parts) rows → AreInRange given used
      → AllByRecursion (IsMadeInRange given (parts ++ used)) (rows ++ row ∷ [])
  AreInRange-push fit new =
      AllByRecursion-push (IsMadeInRange given parts) (IsMadeInRange given (parts ++ used)) rows row fit
      (λ old has among. subst (λ group. AreInRange given group) (sym (rows_at-old old among)) has)
      (subst (λ group. AreInRange given group) (sym rows_at-new) new)

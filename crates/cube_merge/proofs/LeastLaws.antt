-- Which input has the least key, and whose rows have it.
use Rattle.std.proofs.Common.{◌≡◌, ◌++◌, ◌+◌, ◌<◌, ◌≤◌, ◌∷◌, [], ℕ, zero, suc, Bool, true, false, List, Option, Some}
use Rattle.std.proofs.Common.{None, length, get_or, set, ◌⊎◌, refl, sym, ap, ◌∙◌, subst, arith, inl, inr, IfSome, is_eq}
use Rattle.std.proofs.Common.{is_lt, Ordering, option_to_list}
use Rattle.std.specs.declared.cmp.Ordering.TheVariants.{Less, Equal, Greater}
use Rattle.std.specs.Ordering.{ordering_reverse}
use Rattle.std.specs.List.{AllZip}
use Rattle.std.proofs.lemmas.Bool.{cases_Bool, cases_eq, cases_lt}
use Rattle.std.proofs.lemmas.List.{get_or-set_same, get_or-set_other, get_or_default}
use Rattle.cube_core.specs.Layout.{Layout}
use Rattle.cube_core.specs.Order.{key_cmp}
use Rattle.cube_core.specs.declared.key.Key.{Key}
use Rattle.cube_core.specs.declared.key.Row.{Row}
use Rattle.cube_core.proofs.KeyOrderLaws.{key_cmp-IsTotalOrder, key_cmp-exact}
use Rattle.cube_merge.specs.Front.{AreAbove, AreUnused, IsInFront, IsLeastIn}
use Rattle.cube_merge.specs.Merging.{InputView, IsBelow, nothing_left, Moves, AllMove, IsUse, AreUses, used_rows}
use Rattle.cube_merge.specs.Merging.{IsNotBelow, IsLeastSoFar}
use Rattle.cube_merge.proofs.MergedLaws.{is_eq-Equal, key_cmp-refl}

same_row : (a b : Row) → Some a ≡ Some b → a ≡ b
same_row a b e = cc

is_lt-Less : (o : Ordering) → is_lt o ≡ true → o ≡ Less
is_lt-Less Less e = refl
is_lt-Less Equal e = cc
is_lt-Less Greater e = cc

pub is_lt-not : (o : Ordering) → is_lt o ≡ false → o ≡ Less → ⊥
is_lt-not o e less_is = let clash : true ≡ false = sym (ap is_lt less_is) ∙ e in cc

true-not : true ≡ false → ⊥
true-not e = cc

-- an element at the end of a list
pushed-last : (xs : List Bool) (y : Bool) (k : ℕ) → length xs ≡ k → get_or (xs ++ y ∷ []) k false ≡ y
pushed-last [] y zero h = refl
pushed-last [] y (suc k) h = absurd (omega (arith, h))
pushed-last (x ∷ xs) y zero h = absurd (omega (arith, h))
pushed-last (x ∷ xs) y (suc k) h = pushed-last xs y k (omega (arith, h))

pushed-other : (xs : List Bool) (y : Bool) (k : ℕ) → (k ≡ length xs → ⊥)
    → get_or (xs ++ y ∷ []) k false ≡ get_or xs k false
pushed-other [] y zero h = absurd (h refl)
pushed-other [] y (suc k) h = refl
pushed-other (x ∷ xs) y zero h = refl
pushed-other (x ∷ xs) y (suc k) h = pushed-other xs y k (λ e. h (omega (arith, e)))

-- an input that was read off a list
pub at_place : (inputs : List InputView) (k : ℕ) (x : InputView) → k < length inputs → x ≡ get_or inputs k x
    → get_or inputs k nothing_left ≡ x
at_place inputs k x inside is = get_or_default inputs k nothing_left x inside ∙ sym is

below-next : (P : ℕ → Type 0) (place : ℕ) → ((k : ℕ) → k < place → P k) → P place → (k : ℕ) → k < place + 1 → P k
below-next P place before here k below = elim (cases_eq k place) [
  | inl same ↦ subst P (sym same) here
  | inr other ↦ before k (omega (arith, other, below))
]

pub not_below-none : (key : Key) (input : InputView) → input.row ≡ None → IsNotBelow key input
not_below-none key input none = subst (λ o. IfSome o (λ (r : Row). key_cmp r.key key ≡ Less → ⊥)) (sym none) tt

not_below-row : (key : Key) (input : InputView) (row : Row) → input.row ≡ Some row → (key_cmp row.key key ≡ Less → ⊥)
    → IsNotBelow key input
not_below-row key input row is h = subst (λ o. IfSome o (λ (r : Row). key_cmp r.key key ≡ Less → ⊥)) (sym is) h

pub not_less-self : (key : Key) → key_cmp key key ≡ Less → ⊥
not_less-self key less = let clash : Less ≡ Equal = sym less ∙ key_cmp-refl key in cc

-- past the end of a list
pub past : {X : Type 0} (xs : List X) (k : ℕ) (d : X) → length xs ≤ k → get_or xs k d ≡ d
past [] k d above = refl
past (x ∷ xs) zero d above = absurd (omega (arith, above))
past (x ∷ xs) (suc k) d above = past xs k d (omega (arith, above))

-- one more input is behind
pub IsLeastIn-behind : (inputs : List InputView) (behind : List Bool) (least : Option ℕ) (place : ℕ)
    → IsLeastIn inputs behind least place → get_or behind place false ≡ true → IsLeastIn inputs behind least (place + 1)
IsLeastIn-behind inputs behind None place so_far is =
    below-next (λ k. get_or behind k false ≡ false → (get_or inputs k nothing_left).row ≡ None) place so_far
    (λ other. absurd (true-not (sym is ∙ other)))
IsLeastIn-behind inputs behind (Some best) place so_far is = (
  so_far.0,
  so_far.1,
  so_far.2,
  below-next (λ k. get_or behind k false ≡ false → IsNotBelow so_far.1.key (get_or inputs k nothing_left))
      place so_far.3 (λ other. absurd (true-not (sym is ∙ other))),
)

-- one more input has no row
pub IsLeastIn-none : (inputs : List InputView) (behind : List Bool) (least : Option ℕ) (place : ℕ)
    → IsLeastIn inputs behind least place → (get_or inputs place nothing_left).row ≡ None
    → IsLeastIn inputs behind least (place + 1)
IsLeastIn-none inputs behind None place so_far none =
    below-next (λ k. get_or behind k false ≡ false → (get_or inputs k nothing_left).row ≡ None) place so_far (λ _. none)
IsLeastIn-none inputs behind (Some best) place so_far none = (
  so_far.0,
  so_far.1,
  so_far.2,
  below-next (λ k. get_or behind k false ≡ false → IsNotBelow so_far.1.key (get_or inputs k nothing_left))
      place so_far.3 (λ _. not_below-none so_far.1.key (get_or inputs place nothing_left) none),
)

-- one more input has the first row
pub IsLeastIn-first : (inputs : List InputView) (behind : List Bool) (place : ℕ) (row : Row) → place < length inputs
    → IsLeastIn inputs behind None place → (get_or inputs place nothing_left).row ≡ Some row
    → IsLeastIn inputs behind (Some place) (place + 1)
IsLeastIn-first inputs behind place row inside so_far is = (
  inside,
  row,
  is,
  below-next (λ k. get_or behind k false ≡ false → IsNotBelow row.key (get_or inputs k nothing_left)) place
      (λ k below front. not_below-none row.key (get_or inputs k nothing_left) (so_far k below front))
      (λ _. not_below-row row.key (get_or inputs place nothing_left) row is (not_less-self row.key)),
)

-- its key is below the least, or isn't
pub IsLeastIn-new : (inputs : List InputView) (behind : List Bool) (best place : ℕ) (row other : Row)
    → place < length inputs → IsLeastIn inputs behind (Some best) place
    → (get_or inputs place nothing_left).row ≡ Some row → (get_or inputs best nothing_left).row ≡ Some other
    → is_lt (key_cmp row.key other.key) ≡ true
    → IsLeastIn inputs behind (Some place) (place + 1)
IsLeastIn-new inputs behind best place row other inside so_far is other_is less =
    let same : so_far.1 ≡ other = same_row so_far.1 other (sym so_far.2 ∙ other_is) in
    let under : key_cmp row.key so_far.1.key ≡ Less =
    ap (λ (r : Row). key_cmp row.key r.key) same ∙ is_lt-Less (key_cmp row.key other.key) less in (
      inside,
      row,
      is,
      below-next (λ k. get_or behind k false ≡ false → IsNotBelow row.key (get_or inputs k nothing_left)) place
          (λ k below front. lower (get_or inputs k nothing_left).row (so_far.3 k below front) under)
          (λ _. not_below-row row.key (get_or inputs place nothing_left) row is (not_less-self row.key)),
    ) where
      lower : (o : Option Row) → IfSome o (λ (r : Row). key_cmp r.key so_far.1.key ≡ Less → ⊥)
          → key_cmp row.key so_far.1.key ≡ Less → IfSome o (λ (r : Row). key_cmp r.key row.key ≡ Less → ⊥)
      lower None h u = tt
      lower (Some r) h u = λ below. h (key_cmp-IsTotalOrder.trans r.key row.key so_far.1.key below u)

pub IsLeastIn-stays : (inputs : List InputView) (behind : List Bool) (best place : ℕ) (row other : Row)
    → IsLeastIn inputs behind (Some best) place → (get_or inputs place nothing_left).row ≡ Some row
    → (get_or inputs best nothing_left).row ≡ Some other → is_lt (key_cmp row.key other.key) ≡ false
    → IsLeastIn inputs behind (Some best) (place + 1)
IsLeastIn-stays inputs behind best place row other so_far is other_is less =
    let same : so_far.1 ≡ other = same_row so_far.1 other (sym so_far.2 ∙ other_is) in (
      so_far.0,
      so_far.1,
      so_far.2,
      below-next (λ k. get_or behind k false ≡ false → IsNotBelow so_far.1.key (get_or inputs k nothing_left))
          place so_far.3
          (λ _. not_below-row so_far.1.key (get_or inputs place nothing_left) row is (λ below.
          is_lt-not (key_cmp row.key other.key) less (ap (λ (r : Row). key_cmp row.key r.key) (sym same) ∙ below))),
    )

-- an input with the least key had a row
pub IsLeastIn-row : (inputs : List InputView) (behind : List Bool) (best place : ℕ)
    → IsLeastIn inputs behind (Some best) place → (get_or inputs best nothing_left).row ≡ None → ⊥
IsLeastIn-row inputs behind best place so_far none = let clash : Some so_far.1 ≡ None = sym so_far.2 ∙ none in cc

-- where none is behind, the least is that of all
pub IsLeastSoFar-in : (inputs : List InputView) (least : Option ℕ) (end : ℕ) → IsLeastIn inputs [] least end
    → IsLeastSoFar inputs least end
IsLeastSoFar-in inputs None end so_far = λ k below. so_far k below refl
IsLeastSoFar-in inputs (Some best) end so_far = (so_far.0, so_far.1, so_far.2, λ k below. so_far.3 k below refl)

-- what isn't below a key is at most it, so what is above the one is above the other
pub key-le_lt : (a b c : Key) → (key_cmp b a ≡ Less → ⊥) → key_cmp b c ≡ Less → key_cmp a c ≡ Less
key-le_lt a b c above less = by (key_cmp a b) refl where
  by : (o : Ordering) → key_cmp a b ≡ o → key_cmp a c ≡ Less
  by Less e = key_cmp-IsTotalOrder.trans a b c e less
  by Equal e = subst (λ (k : Key). key_cmp k c ≡ Less) (sym (key_cmp-exact a b e)) less
  by Greater e = absurd (above (key_cmp-IsTotalOrder.antisymm b a ∙ ap ordering_reverse e))

-- one key below another isn't above it
pub key-lt_not : (a b : Key) → key_cmp a b ≡ Less → key_cmp b a ≡ Less → ⊥
key-lt_not a b less back = not_less-self a (key_cmp-IsTotalOrder.trans a b a less back)

-- the key of a row isn't above a bound, so it is below the rows behind that
pub AreAbove-lower : (inputs : List InputView) (behind : List Bool) (key bound : Key) → (key_cmp bound key ≡ Less → ⊥)
    → AreAbove bound behind inputs → AreAbove key behind inputs
AreAbove-lower inputs behind key bound under above k is = lower (get_or inputs k nothing_left).row (above k is) where
  lower : (o : Option Row) → IfSome o (λ (r : Row). key_cmp bound r.key ≡ Less)
      → IfSome o (λ (r : Row). key_cmp key r.key ≡ Less)
  lower None h = tt
  lower (Some r) h = key-le_lt key bound r.key under h

-- the least in front is the least of all where the rows behind are above it
pub IsLeastSoFar-front : (inputs : List InputView) (behind : List Bool) (place end : ℕ) (row : Row)
    → IsLeastIn inputs behind (Some place) end → (get_or inputs place nothing_left).row ≡ Some row
    → AreAbove row.key behind inputs → IsLeastSoFar inputs (Some place) end
IsLeastSoFar-front inputs behind place end row so_far is above =
    let same : so_far.1 ≡ row = same_row so_far.1 row (sym so_far.2 ∙ is) in (
      so_far.0,
      so_far.1,
      so_far.2,
      λ k below. elim (cases_Bool (get_or behind k false)) [
        | inl there ↦ higher (get_or inputs k nothing_left).row
            (subst (λ (r : Row). IsBelow r.key (get_or inputs k nothing_left)) (sym same) (above k there))
        | inr front ↦ so_far.3 k below front
      ],
    ) where
      higher : (o : Option Row) → IfSome o (λ (r : Row). key_cmp so_far.1.key r.key ≡ Less)
          → IfSome o (λ (r : Row). key_cmp r.key so_far.1.key ≡ Less → ⊥)
      higher None h = tt
      higher (Some r) h = key-lt_not so_far.1.key r.key h

-- the inputs that are behind aren't used
pub AreUnused-above : (key : Key) (behind used : List Bool) (inputs : List InputView) → AreUses key used inputs
    → AreAbove key behind inputs → AreUnused behind used
AreUnused-above key behind used inputs uses above k is = by (get_or used k false) refl where
  by : (b : Bool) → get_or used k false ≡ b → get_or used k false ≡ false
  by false e = e
  by true e =
      let used_row : IsUse key true (get_or inputs k nothing_left) =
      subst (λ b. IsUse key b (get_or inputs k nothing_left)) e (uses k) in
      let less : key_cmp key used_row.0.key ≡ Less =
      subst (λ o. IfSome o (λ (r : Row). key_cmp key r.key ≡ Less)) used_row.1 (above k is) in
      absurd (not_less-self key (ap (key_cmp key) (sym used_row.2) ∙ less))

-- inputs that aren't used stay, so rows behind stay above a bound
pub AreAbove-moved : (s : Layout) (bound : Key) (behind used : List Bool) (olds news : List InputView)
    → AreUnused behind used → AllMove s used olds news → AreAbove bound behind olds → AreAbove bound behind news
AreAbove-moved s bound behind used olds news unused moved above k is =
    let stays : get_or news k nothing_left ≡ get_or olds k nothing_left =
    subst (λ b. Moves s b (get_or olds k nothing_left) (get_or news k nothing_left)) (unused k is) (moved k) in
    subst (IsBelow bound) (sym stays) (above k is)

-- none is behind
pub AreAbove-none : (bound : Key) (behind : List Bool) (inputs : List InputView) → behind ≡ []
    → AreAbove bound behind inputs
AreAbove-none bound behind inputs none k there = absurd (true-not (sym there ∙ ap (λ bs. get_or bs k false) none))

-- where none is behind, the least is in front
pub IsInFront-none : (inputs : List InputView) (behind : List Bool) (least : Option ℕ) (end : ℕ) → behind ≡ []
    → IsLeastIn inputs [] least end → IfSome least (IsInFront inputs behind)
IsInFront-none inputs behind None end none least = tt
IsInFront-none inputs behind (Some place) end none least =
    (least.1, least.2, AreAbove-none least.1.key behind inputs none)

-- the flag of one input, which is behind or not
pub AreAbove-set : (bound : Key) (behind : List Bool) (inputs : List InputView) (b : Bool) (x : InputView) (place : ℕ)
    → place < length behind → place < length inputs → x ≡ get_or inputs place x → (b ≡ true → IsBelow bound x)
    → AreAbove bound behind inputs → AreAbove bound (set behind place b) inputs
AreAbove-set bound behind inputs b x place long inside is one so_far k there = elim (cases_eq k place) [
  | inl same ↦
      let at : get_or (set behind place b) k false ≡ b =
      ap (λ n. get_or (set behind place b) n false) same ∙ get_or-set_same behind place b false long in
      subst (IsBelow bound) (sym (ap (λ n. get_or inputs n nothing_left) same ∙ at_place inputs place x inside is))
      (one (sym at ∙ there))
  | inr other ↦ so_far k (sym (get_or-set_other behind place k b false other) ∙ there)
]

-- one more input, behind or not
pub AreAbove-push : (bound : Key) (behind : List Bool) (inputs : List InputView) (b : Bool) (x : InputView) (place : ℕ)
    → length behind ≡ place → place < length inputs → x ≡ get_or inputs place x → (b ≡ true → IsBelow bound x)
    → AreAbove bound behind inputs → AreAbove bound (behind ++ b ∷ []) inputs
AreAbove-push bound behind inputs b x place long inside is one so_far k there = elim (cases_eq k place) [
  | inl same ↦
      let at : get_or (behind ++ b ∷ []) k false ≡ b =
      ap (λ n. get_or (behind ++ b ∷ []) n false) same ∙ pushed-last behind b place long in
      subst (IsBelow bound) (sym (ap (λ n. get_or inputs n nothing_left) same ∙ at_place inputs place x inside is))
      (one (sym at ∙ there))
  | inr other ↦ so_far k (sym (pushed-other behind b k (λ e. other (e ∙ long))) ∙ there)
]

-- an input whose row has the key, and one whose row has it not
pub IsUse-none : (key : Key) (input : InputView) → input.row ≡ None → IsUse key false input
IsUse-none key input none = subst (λ o. IfSome o (λ (r : Row). key_cmp key r.key ≡ Less)) (sym none) tt

pub IsUse-other : (key : Key) (input : InputView) (row : Row) → input.row ≡ Some row → IsNotBelow key input
    → is_eq (key_cmp row.key key) ≡ false → IsUse key false input
IsUse-other key input row is above other =
    subst (λ o. IfSome o (λ (r : Row). key_cmp key r.key ≡ Less)) (sym is)
    (key_cmp-IsTotalOrder.antisymm key row.key
    ∙ reversed (key_cmp row.key key) (subst (λ o. IfSome o (λ (r : Row). key_cmp r.key key ≡ Less → ⊥)) is above) other)
  where
    reversed : (o : Ordering) → (o ≡ Less → ⊥) → is_eq o ≡ false → ordering_reverse o ≡ Less
    reversed Less h e = absurd (h refl)
    reversed Equal h e = cc
    reversed Greater h e = refl

pub IsUse-same : (key : Key) (input : InputView) (row : Row) → input.row ≡ Some row → is_eq (key_cmp row.key key) ≡ true
    → IsUse key true input
IsUse-same key input row is same = (row, is, key_cmp-exact row.key key (is_eq-Equal (key_cmp row.key key) same))

-- one more input moved
pub AllMove-more : (s : Layout) (us : List Bool) (start olds : List InputView) (place : ℕ) (old new : InputView)
    (u : Bool) → place < length olds → old ≡ get_or olds place old → u ≡ get_or us place false → Moves s u old new
    → ((k : ℕ) → k < place → Moves s (get_or us k false) (get_or start k nothing_left) (get_or olds k nothing_left))
    → ((k : ℕ) → place ≤ k → get_or olds k nothing_left ≡ get_or start k nothing_left)
    → (k : ℕ) → k < place + 1
    → Moves s (get_or us k false) (get_or start k nothing_left) (get_or (set olds place new) k nothing_left)
AllMove-more s us start olds place old new u inside is u_is moved done rest =
    below-next
    (λ k. Moves s (get_or us k false) (get_or start k nothing_left) (get_or (set olds place new) k nothing_left)) place
    (λ k below. subst (Moves s (get_or us k false) (get_or start k nothing_left))
    (sym (get_or-set_other olds place k new nothing_left (λ e. omega (arith, below, e)))) (done k below))
    (rw (
      get_or-set_same olds place new nothing_left inside,
      sym u_is,
      sym (rest place (omega arith)),
      at_place olds place old inside is,
    ) moved)

pub AllMove-rest : (start olds : List InputView) (place : ℕ) (new : InputView)
    → ((k : ℕ) → place ≤ k → get_or olds k nothing_left ≡ get_or start k nothing_left)
    → (k : ℕ) → place + 1 ≤ k → get_or (set olds place new) k nothing_left ≡ get_or start k nothing_left
AllMove-rest start olds place new rest k above =
    get_or-set_other olds place k new nothing_left (λ e. omega (arith, above, e)) ∙ rest k (omega (arith, above))

-- where all inputs of a list moved, so did each
pub AllMove-all : (s : Layout) (us : List Bool) (olds news : List InputView) (place : ℕ) → length us ≡ length olds
    → length news ≡ length olds → length olds ≤ place
    → ((k : ℕ) → k < place → Moves s (get_or us k false) (get_or olds k nothing_left) (get_or news k nothing_left))
    → AllMove s us olds news
AllMove-all s us olds news place same same_news end done k = elim (cases_below k place) [
  | inl below ↦ done k below
  | inr above ↦ rw (
    past us k false (omega (arith, same, end, above)),
    past olds k nothing_left (omega (arith, end, above)),
    past news k nothing_left (omega (arith, same_news, end, above)),
  ) refl
] where
  cases_below : (a b : ℕ) → (a < b) ⊎ (b ≤ a)
  cases_below a b = cases_lt a b

-- one more use
pub AreUses-push : (key : Key) (us : List Bool) (inputs : List InputView) (u : Bool) (place : ℕ) (x : InputView)
    → length us ≡ place → place < length inputs → x ≡ get_or inputs place x → IsUse key u x
    → ((k : ℕ) → k < place → IsUse key (get_or us k false) (get_or inputs k nothing_left)) → (k : ℕ) → k < place + 1
    → IsUse key (get_or (us ++ u ∷ []) k false) (get_or inputs k nothing_left)
AreUses-push key us inputs u place x long inside is use_is done =
    below-next (λ k. IsUse key (get_or (us ++ u ∷ []) k false) (get_or inputs k nothing_left)) place
    (λ k below. rw (pushed-other us u k (λ e. absurd (omega (arith, long, below, e)))) (done k below))
    (rw (at_place inputs place x inside is, pushed-last us u place long) use_is)

pub AreUses-all : (key : Key) (us : List Bool) (inputs : List InputView) (place : ℕ) → length us ≡ length inputs
    → length inputs ≤ place
    → ((k : ℕ) → k < place → IsUse key (get_or us k false) (get_or inputs k nothing_left)) → AreUses key us inputs
AreUses-all key us inputs place same end done k = elim (cases_lt k place) [
  | inl below ↦ done k below
  | inr above ↦
      rw (past us k false (omega (arith, same, end, above)), past inputs k nothing_left (omega (arith, end, above))) tt
]

-- where an input's row has the key, some row is used
pub used_rows-some : (key : Key) (us : List Bool) (inputs : List InputView) (k : ℕ) (row : Row)
    → length us ≡ length inputs → AreUses key us inputs → (get_or inputs k nothing_left).row ≡ Some row → row.key ≡ key
    → 0 < length (used_rows us inputs)
used_rows-some key [] [] k row same uses is key_is = let clash : None ≡ Some row = is in cc
used_rows-some key [] (i ∷ is') k row same uses is key_is = absurd (omega (arith, same))
used_rows-some key (u ∷ us) [] k row same uses is key_is = absurd (omega (arith, same))
used_rows-some key (true ∷ us) (i ∷ rest) k row same uses is key_is = some_used i.row (uses 0).1 where
  some_used : (o : Option Row) → o ≡ Some (uses 0).0 → 0 < length (option_to_list o ++ used_rows us rest)
  some_used None e = absurd (cc)
  some_used (Some r) e = omega arith
used_rows-some key (false ∷ us) (i ∷ rest) zero row same uses is key_is =
    let above : key_cmp key row.key ≡ Less =
    subst (λ o. IfSome o (λ (r : Row). key_cmp key r.key ≡ Less)) is (uses 0) in
    absurd (not_less-self key (ap (key_cmp key) (sym key_is) ∙ above))
used_rows-some key (false ∷ us) (i ∷ rest) (suc k) row same uses is key_is =
    used_rows-some key us rest k row (omega (arith, same)) (λ n. uses (suc n)) is key_is

-- a list of related elements, but for the last
pub AllZip-last : {X Y : Type 0} (R : X → Y → Type 0) (xs : List X) (ys : List Y) (y : Y) → AllZip R xs (ys ++ y ∷ [])
    → (init : List X) × (x : X) × (xs ≡ init ++ x ∷ []) × AllZip R init ys × R x y
AllZip-last R [] [] y all = absurd all
AllZip-last R [] (b ∷ ys) y all = absurd all
AllZip-last R (x ∷ []) [] y all = ([], x, refl, tt, all.0)
AllZip-last R (x ∷ z ∷ xs) [] y all = absurd all.1
AllZip-last R (x ∷ xs) (b ∷ ys) y all =
    let rest = AllZip-last R xs ys y all.1 in
    (x ∷ rest.0, rest.1, ap (λ t. x ∷ t) rest.2, (all.0, rest.3), rest.4)

-- of nothing nothing more
pub AllZip-nil : {X Y Z : Type 0} (R : X → Y → Type 0) (S : X → Z → Type 0) (xs : List X) → AllZip R xs []
    → AllZip S xs []
AllZip-nil R S [] all = tt
AllZip-nil R S (x ∷ xs) all = absurd all

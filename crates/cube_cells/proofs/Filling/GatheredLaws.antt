-- Laws of cubes that facts are gathered into, one after another or share by share.
use Rattle.std.proofs.Common.{◌≡◌, ◌==◌, ◌+◌, ◌-◌, ◌<◌, ◌≤◌, ◌∷◌, ◌++◌, ◌∙◌, Bool, Bor, List, [], ℕ, zero, suc, true, false}
use Rattle.std.proofs.Common.{ap, append_assoc, arith, drop, filter, get_or, inl, inr, length, map, nat_lt, refl, replicate, subst, sym, take}
use Rattle.std.specs.List.{AllZip}
use Rattle.std.specs.declared.alloc.AllocError.{AllocError}
use Rattle.std.specs.List.Sorted.{IsPermutation}
use Rattle.std.specs.Prelude.{All, Err, IfOk, Ok, Result, slice_range, sum_by}
use Rattle.std.proofs.Math.Nat.{mod-lt, mod-one}
use Rattle.std.proofs.lemmas.Bool.{cases_Bool, cases_order, eq-eqb, le-ltb, lt-ltb, ltb-false, ltb-true, ne_eqb}
use Rattle.std.proofs.lemmas.List.{append-nil, drop-map, drop-take, get_or-map, length-append, length-map}
use Rattle.std.proofs.lemmas.List.{take-append-drop, take-map, take-take, take_more}
use Rattle.std.proofs.lemmas.List.Elements.{All-append, All-cons, All-drop, All-get_or, All-nil, All-take, All-weaker}
use Rattle.std.proofs.lemmas.List.Elements.{filter-append}
use Rattle.std.proofs.lemmas.List.Sorted.{All-permutation, IsPermutation-append_comm, IsPermutation-cons}
use Rattle.std.proofs.lemmas.List.Sorted.{IsPermutation-middle, IsPermutation-refl, IsPermutation-trans}
use Rattle.std.proofs.lemmas.List.Sorted.{length_permutation}
use Rattle.cube_core.proofs.CellKeyLaws.{fits-length}
use Rattle.cube_core.proofs.CubeSchemaLaws.{cube_schema-dimensions}
use Rattle.cube_core.proofs.ListLaws.{filter-failed, filter-passed}
use Rattle.cube_core.specs.Layout.{Layout, cube_schema, number_of_dimensions}
use Rattle.cube_core.specs.Takes.{fits}
use Rattle.cube_core.specs.declared.fact.Fact.{Fact}
use Rattle.cube_cells.specs.Codes.{Dictionaries, IsDictionary, coord_of_value}
use Rattle.cube_cells.specs.Coded.{lattice_of}
use Rattle.cube_cells.specs.Cube.{AddsFact, Lattice, IsCubeOf, IsNewLattice, SameCells, SameSets}
use Rattle.cube_cells.specs.Fill.{AreMade, IsCubeOfAll, finest_set}
use Rattle.cube_cells.specs.Gathered.{AreCodesOfFact, AreShares, GathersMore, HasGathered, HasGatheredShare}
use Rattle.cube_cells.specs.Gathered.{AreMarks, OnlyAddsTexts, bytes_sum_of, share_of_fact}
use Rattle.cube_cells.specs.Levels.{IsLeveled, cells_of}
use Rattle.cube_cells.specs.declared.cube.codes.Codes.{Codes}
use Rattle.cube_cells.specs.declared.cube.levels.Level.{Level}
use Rattle.cube_cells.proofs.Cells.CubeLaws.{IsCubeOf-AddsFact, IsCubeOf-SameCells, IsCubeOf-permutation}
use Rattle.cube_cells.proofs.Filling.RangeLaws.{made_each}
use Rattle.cube_cells.proofs.Codes.GrowthLaws.{AreCodesOf-AreGrown, AreGrown, IsCodedCell-AreGrown, are_codes-AreGrown}

-- nothing was gathered
pub HasGathered-none : (schema : Layout) (cube : Lattice)
    → IsNewLattice schema (finest_set (number_of_dimensions schema) ∷ []) cube → IsCubeOf cube []
    → HasGathered (cube_schema schema) [] cube
HasGathered-none schema cube new of = record {
  schema_is = new.schema_is;
  sets_are = rw (cube_schema-dimensions schema) new.sets_are;
  all = record { fit = All-nil (λ fact. fits cube.schema fact ≡ true); cells = of; facts_are = new.no_facts };
}

-- the facts in another order
moved : (facts others : List Fact) (cube : Lattice) → IsCubeOfAll (others ++ facts) cube
    → All (λ fact. fits cube.schema fact ≡ true) facts → All (λ fact. fits cube.schema fact ≡ true) others
    → IsCubeOfAll (facts ++ others) cube
moved facts others cube all fit more_fit = record {
  fit = All-append (λ fact. fits cube.schema fact ≡ true) facts others fit more_fit;
  cells = IsCubeOf-permutation cube (others ++ facts) (facts ++ others) (IsPermutation-append_comm others facts) all.cells;
  facts_are = omega (arith, all.facts_are, length-append others facts, length-append facts others);
}

-- one fact more
HasGathered-AddsFact : (schema : Layout) (facts : List Fact) (fact : Fact) (old new : Lattice)
    → HasGathered schema facts old → fits schema fact ≡ true → AddsFact fact old new
    → HasGathered schema (facts ++ fact ∷ []) new
HasGathered-AddsFact schema facts fact old new has fit adds =
    let same = adds.same.schema ∙ has.schema_is in
    let one : All (λ other. fits new.schema other ≡ true) (fact ∷ []) =
    rw same (All-cons (λ other. fits schema other ≡ true) fact [] fit (All-nil (λ other. fits schema other ≡ true))) in
    let before : All (λ other. fits new.schema other ≡ true) facts = rw same (rw has.schema_is at has.all.fit) in
    record {
      schema_is = same;
      sets_are = adds.same.sets ∙ has.sets_are;
      all = moved facts (fact ∷ []) new (record {
        fit = All-append (λ other. fits new.schema other ≡ true) (fact ∷ []) facts one before;
        cells = IsCubeOf-AddsFact fact old new facts (rw has.schema_is fit) adds has.all.cells;
        facts_are = omega (arith, adds.facts, has.all.facts_are, length-append (fact ∷ []) facts);
      }) before one;
    }

-- no fact more, one more, and the facts of two lists
pub GathersMore-none : (cube : Lattice) → GathersMore [] cube cube
GathersMore-none cube = record { gathers = λ schema before has. rw append-nil has }

pub GathersMore-AddsFact : (facts : List Fact) (fact : Fact) (old middle new : Lattice) → GathersMore facts old middle
    → fits middle.schema fact ≡ true → AddsFact fact middle new → GathersMore (facts ++ fact ∷ []) old new
GathersMore-AddsFact facts fact old middle new more fit adds = record {
  gathers = λ schema before has.
      let mine = more.gathers schema before has in
      rw (← append_assoc before facts (fact ∷ []))
      (HasGathered-AddsFact schema (before ++ facts) fact middle new mine (rw mine.schema_is at fit) adds);
}

-- ---- texts alone
-- where dictionaries have grown, the cells are those of before, and codes of a fact are its codes
pub AreCodesOfFact-AreGrown : (old new : Dictionaries) (fact : Fact) (codes : Codes) → AreGrown old new
    → All IsDictionary new → AreCodesOfFact old fact codes → AreCodesOfFact new fact codes
AreCodesOfFact-AreGrown old new fact codes grown all of = record {
  are = AreCodesOf-AreGrown old new (map coord_of_value fact.dims) codes.codes grown all of.valid of.are;
  eight = of.eight;
  valid = (are_codes-AreGrown old new codes.codes grown all of.valid).0;
}

pub OnlyAddsTexts-AreGrown : {N : Type 0} → {schema : Layout} {sets : List ℕ} {facts : ℕ} {old : Dictionaries}
    {levels : List (Level N)} (new : Dictionaries) → IsLeveled schema sets facts old levels → AreGrown old new
    → All IsDictionary new → OnlyAddsTexts (lattice_of schema sets facts old (cells_of levels))
    (lattice_of schema sets facts new (cells_of levels))
OnlyAddsTexts-AreGrown {schema = schema} {old = old} {levels = levels} new is grown all = record {
  same = record { schema = refl; sets = refl };
  facts = refl;
  cells =
      (IsCodedCell-AreGrown old new (length schema.measures) (cells_of levels) grown all is.coded.each).1;
  codes_stay = λ fact codes. AreCodesOfFact-AreGrown old new fact codes grown all;
}

pub OnlyAddsTexts-refl : (cube : Lattice) → OnlyAddsTexts cube cube
OnlyAddsTexts-refl cube = record {
  same = record { schema = refl; sets = refl };
  facts = refl;
  cells = refl;
  codes_stay = λ fact codes of. of;
}

pub OnlyAddsTexts-trans : (old middle new : Lattice) → OnlyAddsTexts old middle → OnlyAddsTexts middle new
    → OnlyAddsTexts old new
OnlyAddsTexts-trans old middle new first second = record {
  same = record { schema = second.same.schema ∙ first.same.schema; sets = second.same.sets ∙ first.same.sets };
  facts = second.facts ∙ first.facts;
  cells = second.cells ∙ first.cells;
  codes_stay = λ fact codes of. second.codes_stay fact codes (first.codes_stay fact codes of);
}

-- a fact added after texts is added
pub AddsFact-OnlyAddsTexts : (fact : Fact) (old middle new : Lattice) → OnlyAddsTexts old middle
    → AddsFact fact middle new → AddsFact fact old new
AddsFact-OnlyAddsTexts fact old middle new only adds = record {
  same = record { schema = adds.same.schema ∙ only.same.schema; sets = adds.same.sets ∙ only.same.sets };
  facts = omega (arith, adds.facts, only.facts);
  covering = λ key kept. rw (← only.cells) (adds.covering key (rw only.same.sets kept));
  others = λ key unkept. rw (← only.cells) (adds.others key (rw only.same.sets unkept));
}

-- codes of facts stay theirs
pub AllZip-codes_stay : (old new : Lattice) (facts : List Fact) (codes : List Codes) → OnlyAddsTexts old new
    → AllZip (AreCodesOfFact old.dictionaries) facts codes → AllZip (AreCodesOfFact new.dictionaries) facts codes
AllZip-codes_stay old new [] [] only are = tt
AllZip-codes_stay old new [] (x ∷ codes) only are = absurd are
AllZip-codes_stay old new (fact ∷ facts) [] only are = absurd are
AllZip-codes_stay old new (fact ∷ facts) (x ∷ codes) only are =
    (only.codes_stay fact x are.0, AllZip-codes_stay old new facts codes only are.1)

-- what is gathered after texts were added is gathered
HasGathered-OnlyAddsTexts : (schema : Layout) (facts : List Fact) (old new : Lattice) → OnlyAddsTexts old new
    → HasGathered schema facts old → HasGathered schema facts new
HasGathered-OnlyAddsTexts schema facts old new only has = record {
  schema_is = only.same.schema ∙ has.schema_is;
  sets_are = only.same.sets ∙ has.sets_are;
  all = record {
    fit = rw only.same.schema has.all.fit;
    cells = record {
      keys = λ key. rw (only.cells, only.same.sets, only.same.schema) (has.all.cells.keys key);
      tallies = λ key. rw only.cells (has.all.cells.tallies key);
      widths = λ key. rw (only.cells, only.same.schema) (has.all.cells.widths key);
    };
    facts_are = only.facts ∙ has.all.facts_are;
  };
}

pub GathersMore-OnlyAddsTexts : (facts : List Fact) (old middle new : Lattice) → OnlyAddsTexts old middle
    → GathersMore facts middle new → GathersMore facts old new
GathersMore-OnlyAddsTexts facts old middle new only more = record {
  gathers = λ schema before has.
      more.gathers schema before (HasGathered-OnlyAddsTexts schema before old middle only has);
}

-- what is gathered after cells were moved is gathered
pub GathersMore-SameCells : (facts : List Fact) (old middle new : Lattice) → SameCells old middle
    → GathersMore facts middle new → GathersMore facts old new
GathersMore-SameCells facts old middle new same more = record {
  gathers = λ schema before has. more.gathers schema before (record {
    schema_is = same.same.schema ∙ has.schema_is;
    sets_are = same.same.sets ∙ has.sets_are;
    all = record {
      fit = rw same.same.schema has.all.fit;
      cells = IsCubeOf-SameCells old middle before same has.all.cells;
      facts_are = same.facts ∙ has.all.facts_are;
    };
  });
}

-- ---- facts at their places
AllZip-place : (R : Fact → Codes → Type 0) (facts : List Fact) (codes : List Codes) (i : ℕ) (fact : Fact)
    (unused : Codes) → AllZip R facts codes → i < length facts → R (get_or facts i fact) (get_or codes i unused)
AllZip-place R [] codes i fact unused all inside = absurd (omega (arith, inside))
AllZip-place R (f ∷ facts) [] i fact unused all inside = absurd all
AllZip-place R (f ∷ facts) (x ∷ codes) zero fact unused all inside = all.0
AllZip-place R (f ∷ facts) (x ∷ codes) (suc i) fact unused all inside =
    AllZip-place R facts codes i fact unused all.1 (omega (arith, inside))

module _ (refs : List (Bor Fact)) (i : ℕ) (fact : Bor Fact) (inside : i < length refs)
    (is : fact ≡ get_or refs i fact) where
  fact_at : get_or (map (λ r. r.now) refs) i fact.now ≡ fact.now
  fact_at = get_or-map (λ r. r.now) refs i fact fact.now inside ∙ ap (λ (r : Bor Fact). r.now) (sym is)

  within : i < length (map (λ r. r.now) refs)
  within = omega (arith, inside, length-map refs (λ (r : Bor Fact). r.now))

  -- what is true of each fact is true of this one
  pub All-fact : (P : Fact → Type 0) → All P (map (λ r. r.now) refs) → P fact.now
  All-fact P all = subst P fact_at (All-get_or P (map (λ r. r.now) refs) i fact.now within all)

  -- so is what is true of each and its codes
  pub AllZip-fact : (R : Fact → Codes → Type 0) (codes : List Codes) (unused : Codes)
      → AllZip R (map (λ r. r.now) refs) codes → R fact.now (get_or codes i unused)
  AllZip-fact R codes unused all = subst (λ (f : Fact). R f (get_or codes i unused)) fact_at
      (AllZip-place R (map (λ r. r.now) refs) codes i fact.now unused all within)

  -- it comes next
  pub take_fact : take (i + 1) (map (λ r. r.now) refs) ≡ take i (map (λ r. r.now) refs) ++ fact.now ∷ []
  take_fact = take_more (map (λ r. r.now) refs) i fact.now within
      ∙ ap (λ (f : Fact). take i (map (λ r. r.now) refs) ++ f ∷ []) fact_at

-- ---- lots of facts
-- the facts of a range of references
facts_of_range : (refs : List (Bor Fact)) (start end : ℕ)
    → map (λ r. r.now) (slice_range refs start end) ≡ take (end - start) (drop start (map (λ r. r.now) refs))
facts_of_range refs start end =
    sym (take-map {Y = Fact} (λ (r : Bor Fact). r.now) (end - start) (drop start refs))
    ∙ ap (λ (facts : List Fact). take (end - start) facts)
    (sym (drop-map {Y = Fact} (λ (r : Bor Fact). r.now) start refs))

pub All-range : (P : Fact → Type 0) (refs : List (Bor Fact)) (start end : ℕ) → All P (map (λ r. r.now) refs)
    → All P (map (λ r. r.now) (slice_range refs start end))
All-range P refs start end all = rw (facts_of_range refs start end)
    (All-take P (end - start) (drop start (map (λ r. r.now) refs)) (All-drop P start (map (λ r. r.now) refs) all))

-- so are their shares
pub AreMarks-range : (shares : ℕ) (refs : List (Bor Fact)) (marks : List ℕ) (start end : ℕ)
    → AreMarks shares (map (λ r. r.now) refs) marks
    → AreMarks shares (map (λ r. r.now) (slice_range refs start end)) (slice_range marks start end)
AreMarks-range shares refs marks start end are =
    let facts : List Fact = map (λ r. r.now) refs in
    ap (λ (l : List ℕ). take (end - start) (drop start l)) are
    ∙ ap (λ (l : List ℕ). take (end - start) l) (drop-map (share_of_fact shares) start facts)
    ∙ take-map (share_of_fact shares) (end - start) (drop start facts)
    ∙ ap (λ (l : List Fact). map (share_of_fact shares) l) (sym (facts_of_range refs start end))

-- they are as many as the facts
pub AreMarks-length : (shares : ℕ) (refs : List (Bor Fact)) (marks : List ℕ)
    → AreMarks shares (map (λ r. r.now) refs) marks → length marks ≡ length refs
AreMarks-length shares refs marks are =
    ap length are ∙ length-map (map (λ (r : Bor Fact). r.now) refs) (share_of_fact shares)
    ∙ length-map refs (λ (r : Bor Fact). r.now)

-- the mark at a place is the share of the fact there
pub AreMarks-place : (shares : ℕ) (refs : List (Bor Fact)) (marks : List ℕ) (i : ℕ) (fact : Bor Fact)
    → AreMarks shares (map (λ r. r.now) refs) marks → i < length refs → fact ≡ get_or refs i fact
    → get_or marks i 0 ≡ share_of_fact shares fact.now
AreMarks-place shares refs marks i fact are inside is =
    ap (λ (l : List ℕ). get_or l i 0) are
    ∙ get_or-map (share_of_fact shares) (map (λ (r : Bor Fact). r.now) refs) i fact.now 0
    (within refs i fact inside is)
    ∙ ap (share_of_fact shares) (fact_at refs i fact inside is)

-- all facts are in the share 0 of one
pub AreMarks-one : (facts : List Fact) → AreMarks 1 facts (replicate (length facts) 0)
AreMarks-one [] = refl
AreMarks-one (fact ∷ facts) =
    ap (λ (m : ℕ). m ∷ replicate (length facts) 0) (sym (mod-one (sum_by bytes_sum_of fact.dims)))
    ∙ ap (λ (l : List ℕ). share_of_fact 1 fact ∷ l) (AreMarks-one facts)

-- marks that are at each place the share of the fact there
pub AreMarks-each : (shares : ℕ) (facts : List Fact) (marks : List ℕ) → length marks ≡ length facts
    → ((i : ℕ) (unused : Fact) → i < length facts → get_or marks i 0 ≡ share_of_fact shares (get_or facts i unused))
    → AreMarks shares facts marks
AreMarks-each shares [] [] long each = refl
AreMarks-each shares [] (mark ∷ marks) long each = absurd (omega (arith, long))
AreMarks-each shares (fact ∷ facts) [] long each = absurd (omega (arith, long))
AreMarks-each shares (fact ∷ facts) (mark ∷ marks) long each =
    ap (λ (m : ℕ). m ∷ marks) (each 0 fact (omega arith))
    ∙ ap (λ (l : List ℕ). share_of_fact shares fact ∷ l) (AreMarks-each shares facts marks (omega (arith, long))
    (λ i unused inside. each (suc i) unused (omega (arith, inside))))

-- they come next
take_range : (facts : List Fact) (start more : ℕ)
    → take (start + more) facts ≡ take start facts ++ take more (drop start facts)
take_range facts start more = sym (take-append-drop start (take (start + more) facts))
    ∙ ap (λ (front : List Fact). front ++ drop start (take (start + more) facts))
    (take-take start (start + more) facts (omega arith))
    ∙ ap (λ (back : List Fact). take start facts ++ back) (drop-take start more facts)

pub HasGathered-range : (schema : Layout) (p : Fact → Bool) (refs : List (Bor Fact)) (start end : ℕ)
    (old new : Lattice) → start ≤ end → HasGathered schema (filter p (take start (map (λ r. r.now) refs))) old
    → GathersMore (filter p (map (λ r. r.now) (slice_range refs start end))) old new
    → HasGathered schema (filter p (take end (map (λ r. r.now) refs))) new
HasGathered-range schema p refs start end old new order has more =
    let facts : List Fact = map (λ r. r.now) refs in
    let last : start + (end - start) ≡ end = omega (arith, order) in
    let all : take end facts ≡ take start facts ++ map (λ r. r.now) (slice_range refs start end) =
    ap (λ (n : ℕ). take n facts) (sym last) ∙ take_range facts start (end - start)
    ∙ ap (λ (lot : List Fact). take start facts ++ lot) (sym (facts_of_range refs start end)) in
    rw (ap (filter p) all ∙ filter-append p (take start facts) (map (λ r. r.now) (slice_range refs start end)))
    (more.gathers schema (filter p (take start facts)) has)

-- ---- two cubes
-- the facts of two cubes
pub HasGathered-both : (schema : Layout) (facts others : List Fact) (first second whole : Lattice)
    → HasGathered schema facts first → HasGathered schema others second → SameSets first whole
    → IsCubeOfAll (others ++ facts) whole → HasGathered schema (facts ++ others) whole
HasGathered-both schema facts others first second whole of of_more same all =
    let schema_is = same.schema ∙ of.schema_is in
    record {
      schema_is = schema_is;
      sets_are = same.sets ∙ of.sets_are;
      all = moved facts others whole all
          (rw schema_is (rw of.schema_is at of.all.fit))
          (rw schema_is (rw of_more.schema_is at of_more.all.fit));
    }

-- the same, where the two were merged
pub HasGathered-merged : {E : Type 0} (first second : Lattice) (merged : Result Lattice E)
    → IfOk merged (SameSets first)
    → IfOk merged (λ whole. (facts others : List Fact) → IsCubeOfAll facts first → IsCubeOfAll others second
    → IsCubeOfAll (others ++ facts) whole)
    → IfOk merged (λ whole. (schema : Layout) (facts others : List Fact) → HasGathered schema facts first
    → HasGathered schema others second → HasGathered schema (facts ++ others) whole)
HasGathered-merged first second (Ok whole) same all = λ schema facts others of of_more.
    HasGathered-both schema facts others first second whole of of_more same (all facts others of.all of_more.all)
HasGathered-merged first second (Err fault) same all = tt

-- a cube with no fact
pub HasGathered-no_facts : (schema : Layout) (facts others : List Fact) (first second : Lattice)
    → first.facts ≡ 0 → HasGathered schema facts first → HasGathered schema others second
    → HasGathered schema (facts ++ others) second
HasGathered-no_facts schema [] others first second none of of_more = of_more
HasGathered-no_facts schema (fact ∷ facts) others first second none of of_more =
    absurd (omega (arith, none, of.all.facts_are))

-- ---- shares
-- the facts in any order
HasGathered-permutation : (schema : Layout) (facts others : List Fact) (cube : Lattice) → IsPermutation facts others
    → HasGathered schema facts cube → HasGathered schema others cube
HasGathered-permutation schema facts others cube order has = record {
  schema_is = has.schema_is;
  sets_are = has.sets_are;
  all = record {
    fit = All-permutation (λ fact. fits cube.schema fact ≡ true) facts others order has.all.fit;
    cells = IsCubeOf-permutation cube facts others order has.all.cells;
    facts_are = omega (arith, has.all.facts_are, length_permutation facts others order);
  };
}

-- the facts of the first shares
abbrev pub below : (Fact → ℕ) → ℕ → List Fact → List Fact
below share k facts = filter (λ fact. nat_lt (share fact) k) facts

-- those of none, of one more, and of all
below_none : (share : Fact → ℕ) (facts : List Fact) → below share 0 facts ≡ []
below_none share [] = refl
below_none share (fact ∷ facts) =
    filter-failed (λ f. nat_lt (share f) 0) fact facts (le-ltb (share fact) 0 (omega arith)) ∙ below_none share facts

below_more : (share : Fact → ℕ) (k : ℕ) (facts : List Fact)
    → IsPermutation (below share k facts ++ filter (λ fact. share fact == k) facts) (below share (k + 1) facts)
below_more share k [] = IsPermutation-refl []
below_more share k (fact ∷ facts) =
    let rest = below_more share k facts in
    elim (cases_order (share fact) k) [
      | inl same ↦
          let low : nat_lt (share fact) k ≡ false = le-ltb (share fact) k (omega (arith, same)) in
          let next : nat_lt (share fact) (k + 1) ≡ true = lt-ltb (share fact) (k + 1) (omega (arith, same)) in
          let here : (share fact == k) ≡ true = eq-eqb (share fact) k same in
          rw (low, next, here) (IsPermutation-trans _ _ _
          (IsPermutation-middle (below share k facts) fact (filter (λ f. share f == k) facts))
          (IsPermutation-cons fact _ _ rest))
      | inr other ↦
          let here : (share fact == k) ≡ false = ne_eqb (share fact) k (λ same. absurd (omega (arith, other, same))) in
          elim (cases_Bool (nat_lt (share fact) k)) [
            | inl low ↦
                let less : share fact < k = ltb-true (share fact) k low in
                let next : nat_lt (share fact) (k + 1) ≡ true = lt-ltb (share fact) (k + 1) (omega (arith, less)) in
                rw (low, next, here) (IsPermutation-cons fact _ _ rest)
            | inr high ↦
                let next : nat_lt (share fact) (k + 1) ≡ false = le-ltb (share fact) (k + 1)
                (omega (arith, other, ltb-false (share fact) k high)) in
                rw (high, next, here) rest
          ]
    ]

below_all : (share : Fact → ℕ) (k : ℕ) (facts : List Fact) → ((fact : Fact) → share fact < k)
    → below share k facts ≡ facts
below_all share k [] less = refl
below_all share k (fact ∷ facts) less =
    filter-passed (λ f. nat_lt (share f) k) fact facts (lt-ltb (share fact) k (less fact))
    ∙ ap (λ (rest : List Fact). fact ∷ rest) (below_all share k facts less)

-- so are they gathered
pub HasGathered-no_share : (schema : Layout) (facts : List Fact) (share : Fact → ℕ) (cube : Lattice)
    → HasGathered schema [] cube → HasGathered schema (below share 0 facts) cube
HasGathered-no_share schema facts share cube has = rw (below_none share facts) has

pub HasGathered-share : (schema : Layout) (facts : List Fact) (share : Fact → ℕ) (k : ℕ) (cube : Lattice)
    → HasGathered schema (below share k facts ++ filter (λ fact. share fact == k) facts) cube
    → HasGathered schema (below share (k + 1) facts) cube
HasGathered-share schema facts share k cube has = HasGathered-permutation schema
    (below share k facts ++ filter (λ fact. share fact == k) facts) (below share (k + 1) facts) cube
    (below_more share k facts) has

pub HasGathered-all_shares : (schema : Layout) (facts : List Fact) (shares : ℕ) (cube : Lattice) → 0 < shares
    → HasGathered schema (below (share_of_fact shares) shares facts) cube → HasGathered schema facts cube
HasGathered-all_shares schema facts shares cube some has =
    rw (below_all (share_of_fact shares) shares facts
    (λ fact. mod-lt (sum_by bytes_sum_of fact.dims) some)) at has

-- the cubes of all shares, where each was made
pub AreShares-made : (schema : Layout) (facts : List Fact) (shares : ℕ) (cubes : List Lattice)
    (made : List (Result Lattice AllocError)) → map Ok cubes ≡ made
    → AreMade (HasGatheredShare schema facts shares) shares made → AreShares schema facts cubes
AreShares-made schema facts shares cubes made are results =
    let each = made_each (HasGatheredShare schema facts shares) cubes made shares are results in
    record { each = λ i unused inside. rw each.0 (each.1 i unused (omega (arith, inside, each.0))) }

-- facts that fit have as many values as there are dimensions
pub All-widths : (schema : Layout) (facts : List Fact) → All (λ fact. fits schema fact ≡ true) facts
    → All (λ fact. length fact.dims ≡ length schema.dimensions) facts
All-widths schema facts fit = All-weaker (λ (fact : Fact). fits schema fact ≡ true)
    (λ (fact : Fact). length fact.dims ≡ length schema.dimensions) (λ fact is. fits-length schema fact is) facts fit

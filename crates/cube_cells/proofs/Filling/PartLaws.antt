-- Laws of the parts of a walk: put together, their cells are those of the whole.
use Rattle.std.proofs.Common.{◌≡◌, ℕ, zero, suc, ◌+◌, ◌-◌, ◌<◌, ◌≤◌, List, [], ◌∷◌, ◌++◌, Bool, true, false}
use Rattle.std.proofs.Common.{refl, sym, ap, ◌∙◌, subst, arith, inl, inr, add-one, append_assoc, length-append}
use Rattle.std.proofs.Common.{get_or, length, take, ◌⊎◌}
use Rattle.std.specs.List.{AllZip}
use Rattle.std.proofs.Math.Seq.{get_or-append_seam}
use Rattle.std.proofs.lemmas.Bool.{both_ways, cases_lt}
use Rattle.std.proofs.lemmas.List.{append-nil, get_or_append_left, length-map, map-append, take_all}
use Rattle.std.proofs.lemmas.List.Concat.{flat_map-append}
use Rattle.cube_cells.specs.BottomUp.{AreRaised, AreRunsOf, BeginsRun, CanWalk, IsNoneKept, IsRun, IsWalkOf, IsWalkable}
use Rattle.cube_cells.specs.BottomUp.{all_at, cells_of_items, column_of, is_kept_by, run_of}
use Rattle.cube_cells.specs.Coded.{CodedCells}
use Rattle.cube_cells.specs.Tally.{Tally}
use Rattle.cube_cells.specs.WalkParts.{AreCellsOfPart, ArePartsOf, AreRaisedOver, CanWalkPart, PartOfWalk, PutsLast}
use Rattle.cube_cells.specs.WalkParts.{PutsRuns, cells_of_lists, part_of, put_together}
use Rattle.cube_cells.specs.declared.cube.bottom_up.Item.{Item}
use Rattle.std.specs.Global.{Vec}
use Rattle.cube_cells.specs.declared.cube.codes.Codes.{Codes}
use Rattle.cube_cells.proofs.Filling.BottomUpLaws.{AreRunsOf-nil, AreRunsOf-range, BeginsRun-next, CanWalk-left}
use Rattle.cube_cells.proofs.Filling.BottomUpLaws.{CanWalk-raised, IsWalkOf-raised, IsWalkable-range}
use Rattle.cube_cells.proofs.Filling.PruneLaws.{IsWalkOf-none_above}

-- ---- lists of cells
-- what is true of things put together, place by place, is true of each of both
pub record AreZipped {X Y : Type 0} (R : X → Y → Type 0) (xs ys : List X) (zs : List Y) : Type 0 where
  pub first : List Y
  pub second : List Y
  pub both : zs ≡ first ++ second
  pub of_first : AllZip R xs first
  pub of_second : AllZip R ys second

AreZipped-append : {X Y : Type 0} (R : X → Y → Type 0) (xs ys : List X) (zs : List Y) → AllZip R (xs ++ ys) zs
    → AreZipped R xs ys zs
AreZipped-append R [] ys zs all =
    record { first = []; second = zs; both = refl; of_first = tt; of_second = all }
AreZipped-append R (x ∷ xs) ys [] all = absurd all
AreZipped-append R (x ∷ xs) ys (z ∷ zs) all =
    let rest = AreZipped-append R xs ys zs all.1 in
    record {
      first = z ∷ rest.first;
      second = rest.second;
      both = ap (λ (l : List _). z ∷ l) rest.both;
      of_first = (all.0, rest.of_first);
      of_second = rest.of_second;
    }

-- of nothing there is nothing
together-none : (lists : List CodedCells) → AllZip AreCellsOfPart [] lists → [] ≡ put_together lists
together-none [] all = refl
together-none (cells ∷ lists) all = absurd all

together-append : (a b : List CodedCells) → put_together (a ++ b) ≡ put_together a ++ put_together b
together-append a b = flat_map-append (λ (cells : CodedCells). cells) a b

-- the cells of one part
record IsOne (part : PartOfWalk) (lists : List CodedCells) : Type 0 where
  cells : CodedCells
  are : AreCellsOfPart part cells
  all : cells ≡ put_together lists

together-one : (part : PartOfWalk) (lists : List CodedCells) → AllZip AreCellsOfPart (part ∷ []) lists
    → IsOne part lists
together-one part [] all = absurd all
together-one part (cells ∷ []) all = record { cells = cells; are = all.0; all = sym (append-nil cells) }
together-one part (cells ∷ more ∷ lists) all = absurd all.1

-- ---- lists of raised items
pub length-cells_of_lists : {N : Type 0} (lists : List (Vec (Item N)))
    → length (cells_of_lists lists) ≡ length lists
length-cells_of_lists {N} lists = length-map {B = CodedCells} lists (λ (list : Vec (Item N)). cells_of_items list.items)

pub CanWalk-at : (dimensions : ℕ) (items : CodedCells) (lists : List CodedCells) (k : ℕ)
    → AreRaisedOver dimensions items lists → k ≤ length lists → CanWalk dimensions k (get_or (items ∷ lists) k [])
CanWalk-at dimensions items lists zero over within = over.can
CanWalk-at dimensions items lists (suc k) over within =
    subst (λ (n : ℕ). CanWalk dimensions n (get_or lists k [])) (add-one k)
    (CanWalk-raised dimensions k (get_or (items ∷ lists) k []) (get_or lists k [])
    (CanWalk-at dimensions items lists k over (omega (arith, within))) (omega (arith, within, over.few))
    (over.each k (omega (arith, within))))

pub AreRaisedOver-more : (dimensions : ℕ) (items raised : CodedCells) (lists : List CodedCells)
    → AreRaisedOver dimensions items lists → length lists < dimensions
    → AreRaised (length lists) (get_or (items ∷ lists) (length lists) []) raised
    → AreRaisedOver dimensions items (lists ++ raised ∷ [])
AreRaisedOver-more dimensions items raised lists over below is = record {
  can = over.can;
  few = omega (arith, below, length-append lists (raised ∷ []));
  each = λ k inside. at k (cases_lt k (length lists))
      (omega (arith, inside, length-append lists (raised ∷ [])));
} where
  before : (k : ℕ) → k ≤ length lists
      → get_or (items ∷ lists) k [] ≡ get_or (items ∷ (lists ++ raised ∷ [])) k []
  before k within = sym (get_or_append_left (items ∷ lists) (raised ∷ []) [] k (omega (arith, within)))

  at : (k : ℕ) → (k < length lists) ⊎ (length lists ≤ k) → k ≤ length lists
      → AreRaised k (get_or (items ∷ (lists ++ raised ∷ [])) k []) (get_or (lists ++ raised ∷ []) k [])
  at k (inl inside) within = subst (λ (l : CodedCells). AreRaised k l (get_or (lists ++ raised ∷ []) k []))
      (before k within) (subst (AreRaised k (get_or (items ∷ lists) k []))
      (sym (get_or_append_left lists (raised ∷ []) [] k inside)) (over.each k inside))
  at k (inr past) within =
      let last : length lists ≡ k = omega (arith, past, within) in
      subst (λ (n : ℕ). AreRaised n (get_or (items ∷ (lists ++ raised ∷ [])) n []) (get_or (lists ++ raised ∷ []) n []))
      last (subst (λ (l : CodedCells). AreRaised (length lists) l (get_or (lists ++ raised ∷ []) (length lists) []))
      (before (length lists) (omega arith)) (subst (AreRaised (length lists) (get_or (items ∷ lists) (length lists) []))
      (sym (get_or-append_seam lists raised [] [])) is))

-- a list more
pub cells_of_lists-push : {N : Type 0} (lists : List (Vec (Item N))) (list : Vec (Item N))
    → cells_of_lists (lists ++ list ∷ []) ≡ cells_of_lists lists ++ cells_of_items list.items ∷ []
cells_of_lists-push {N} lists list =
    map-append {B = CodedCells} (λ (one : Vec (Item N)). cells_of_items one.items) lists (list ∷ [])

-- ---- the runs of a list
-- while they are cut: the parts behind the old ones have the runs before a place
pub record IsCutting (kept : List Bool) (dimensions from : ℕ) (items : CodedCells) (start : ℕ)
    (old now : List PartOfWalk) : Type 0 where
  pub within : start ≤ length items
  pub begins : BeginsRun (column_of from items) start
  pub more : List PartOfWalk
  pub put : now ≡ old ++ more
  pub give : (lists : List CodedCells) → AllZip AreCellsOfPart more lists
      → AreRunsOf (is_kept_by kept) (dimensions - (from + 1)) from (take start items) (put_together lists)

pub IsCutting-start : (kept : List Bool) (dimensions from : ℕ) (items : CodedCells) (old : List PartOfWalk)
    → IsCutting kept dimensions from items 0 old old
IsCutting-start kept dimensions from items old = record {
  within = omega arith;
  begins = λ k before inside. absurd (omega (arith, before));
  more = [];
  put = sym (append-nil old);
  give = λ lists all. subst (AreRunsOf (is_kept_by kept) (dimensions - (from + 1)) from []) (together-none lists all)
      (AreRunsOf-nil (is_kept_by kept) (dimensions - (from + 1)) from);
}

-- a range ends where a run does
pub record IsRange (from : ℕ) (items : CodedCells) (start end : ℕ) : Type 0 where
  pub up : start < end
  pub room : end ≤ length items
  pub last : ℕ
  pub run : IsRun (column_of from items) last end

pub IsRange-run : (from : ℕ) (items : CodedCells) (start end last : ℕ) → start ≤ last
    → IsRun (column_of from items) last end → IsRange from items start end
IsRange-run from items start end last behind run = record {
  up = omega (arith, behind, run.after);
  room = omega (arith, run.within, length-map items (λ (item : Codes × Tally). get_or item.0.codes from 0));
  last = last;
  run = run;
}

pub CanWalkPart-range : (kept : List Bool) (dimensions from : ℕ) (items : CodedCells) (start end : ℕ)
    → CanWalk dimensions from items → from < dimensions → start ≤ end
    → CanWalkPart (part_of kept dimensions from false (run_of items start end))
CanWalkPart-range kept dimensions from items start end can below up = record {
  within = omega (arith, below);
  below = λ _. below;
  can = (can.0, IsWalkable-range can.0 (dimensions - from) from items start end up can.1);
}

pub IsCutting-more : (kept : List Bool) (dimensions from : ℕ) (items : CodedCells) (start end : ℕ)
    (old now new : List PartOfWalk) → CanWalk dimensions from items → from < dimensions
    → IsCutting kept dimensions from items start old now → IsRange from items start end
    → new ≡ now ++ part_of kept dimensions from false (run_of items start end) ∷ []
    → IsCutting kept dimensions from items end old new
IsCutting-more kept dimensions from items start end old now new can below cutting range pushed = record {
  within = range.room;
  begins = BeginsRun-next can.0 (dimensions - (from + 1)) from items range.last end walkable range.run;
  more = cutting.more ++ part ∷ [];
  put = pushed ∙ ap (λ (l : List PartOfWalk). l ++ part ∷ []) cutting.put ∙ append_assoc old cutting.more (part ∷ []);
  give = λ lists all.
      let zipped = AreZipped-append AreCellsOfPart cutting.more (part ∷ []) lists all in
      let one = together-one part zipped.second zipped.of_second in
      subst (AreRunsOf (is_kept_by kept) (dimensions - (from + 1)) from (take end items))
      (ap (λ (l : CodedCells). put_together zipped.first ++ l) one.all
      ∙ sym (together-append zipped.first zipped.second) ∙ ap put_together (sym zipped.both))
      (AreRunsOf-range (is_kept_by kept) can.0 (dimensions - (from + 1)) from items start end
      (put_together zipped.first) one.cells walkable cutting.begins range.up range.room
      (cutting.give zipped.first zipped.of_first) (one.are.runs refl));
} where
  part : PartOfWalk
  part = part_of kept dimensions from false (run_of items start end)

  walkable : IsWalkable can.0 (suc (dimensions - (from + 1))) from items
  walkable = CanWalk-left dimensions from items can below

pub PutsRuns-IsCutting : (kept : List Bool) (dimensions from : ℕ) (items : CodedCells) (start : ℕ)
    (old now : List PartOfWalk) → IsCutting kept dimensions from items start old now → length items ≤ start
    → PutsRuns kept dimensions from items old now
PutsRuns-IsCutting kept dimensions from items start old now cutting past = record {
  more = cutting.more;
  put = cutting.put;
  give = λ lists all. subst (λ (l : CodedCells).
      AreRunsOf (is_kept_by kept) (dimensions - (from + 1)) from l (put_together lists)) (take_all start items past)
      (cutting.give lists all);
}

-- ---- the rest of a walk
pub CanWalkPart-whole : (kept : List Bool) (dimensions from : ℕ) (items : CodedCells) → CanWalk dimensions from items
    → from ≤ dimensions → CanWalkPart (part_of kept dimensions from true items)
CanWalkPart-whole kept dimensions from items can within =
    record { within = within; below = λ never. absurd (both_ways true never refl); can = can }

pub PutsLast-runs : (kept : List Bool) (dimensions from : ℕ) (items : CodedCells) (old new : List PartOfWalk)
    (first : Codes × Tally) → CanWalk dimensions from items → from < dimensions
    → IsNoneKept (is_kept_by kept) (from + 1) (all_at from (get_or items 0 first).0)
    → PutsRuns kept dimensions from items old new → PutsLast kept dimensions from items old new
PutsLast-runs kept dimensions from items old new first can below none puts = record {
  more = puts.more;
  put = puts.put;
  give = λ lists all. IsWalkOf-none_above kept dimensions from items (put_together lists) first can below
      (puts.give lists all) none;
}

-- ---- all parts
-- while lists are cut: what the parts give and a walk over the rest are a walk over all
pub record IsGoing (kept : List Bool) (dimensions : ℕ) (items : CodedCells) (from : ℕ) (rest : CodedCells)
    (parts : List PartOfWalk) : Type 0 where
  pub give : (lists : List CodedCells) → AllZip AreCellsOfPart parts lists → (more : CodedCells)
      → IsWalkOf (is_kept_by kept) (dimensions - from) from rest more
      → IsWalkOf (is_kept_by kept) dimensions 0 items (put_together lists ++ more)

pub IsGoing-start : (kept : List Bool) (dimensions : ℕ) (items : CodedCells) → IsGoing kept dimensions items 0 items []
IsGoing-start kept dimensions items = record {
  give = λ lists all more walk. subst (λ (l : CodedCells). IsWalkOf (is_kept_by kept) dimensions 0 items (l ++ more))
      (together-none lists all)
      (subst (λ (n : ℕ). IsWalkOf (is_kept_by kept) n 0 items more) (omega arith) walk);
}

-- put together, what is given by old parts and new ones
together-both : (a b lists : List CodedCells) (more : CodedCells) → lists ≡ a ++ b
    → put_together a ++ (put_together b ++ more) ≡ put_together lists ++ more
together-both a b lists more both = sym (append_assoc (put_together a) (put_together b) more)
    ∙ ap (λ (l : CodedCells). l ++ more) (sym (together-append a b) ∙ ap put_together (sym both))

pub IsGoing-more : (kept : List Bool) (dimensions : ℕ) (items : CodedCells) (from : ℕ) (lists : List CodedCells)
    (old new : List PartOfWalk) → AreRaisedOver dimensions items lists → from < length lists
    → IsGoing kept dimensions items from (get_or (items ∷ lists) from []) old
    → PutsRuns kept dimensions from (get_or (items ∷ lists) from []) old new
    → IsGoing kept dimensions items (from + 1) (get_or (items ∷ lists) (from + 1) []) new
IsGoing-more kept dimensions items from lists old new over inside going puts = record {
  give = λ given all more walk.
      let zipped = AreZipped-append AreCellsOfPart old puts.more given
      (subst (λ (l : List PartOfWalk). AllZip AreCellsOfPart l given) puts.put all) in
      let here = get_or (items ∷ lists) from [] in
      let above : get_or (items ∷ lists) (from + 1) [] ≡ get_or lists from [] =
      ap (λ (n : ℕ). get_or (items ∷ lists) n []) (add-one from) in
      let below : from < dimensions = omega (arith, inside, over.few) in
      subst (IsWalkOf (is_kept_by kept) dimensions 0 items)
      (together-both zipped.first zipped.second given more zipped.both)
      (going.give zipped.first zipped.of_first (put_together zipped.second ++ more)
      (IsWalkOf-raised (is_kept_by kept) dimensions from here (get_or lists from []) (put_together zipped.second) more
      (CanWalk-at dimensions items lists from over (omega (arith, inside))) below
      (puts.give zipped.second zipped.of_second) (over.each from inside)
      (subst (λ (l : CodedCells). IsWalkOf (is_kept_by kept) (dimensions - (from + 1)) (from + 1) l more) above walk)));
}

pub ArePartsOf-last : (kept : List Bool) (dimensions : ℕ) (items : CodedCells) (from : ℕ) (rest : CodedCells)
    (old new : List PartOfWalk) → IsGoing kept dimensions items from rest old
    → PutsLast kept dimensions from rest old new → ArePartsOf kept dimensions items new
ArePartsOf-last kept dimensions items from rest old new going puts = record {
  give = λ given all.
      let zipped = AreZipped-append AreCellsOfPart old puts.more given
      (subst (λ (l : List PartOfWalk). AllZip AreCellsOfPart l given) puts.put all) in
      subst (IsWalkOf (is_kept_by kept) dimensions 0 items)
      (sym (together-append zipped.first zipped.second) ∙ ap put_together (sym zipped.both))
      (going.give zipped.first zipped.of_first (put_together zipped.second)
      (puts.give zipped.second zipped.of_second));
}

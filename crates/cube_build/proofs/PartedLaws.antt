-- Cubes of parts that follow the books by the facts that came and those that are gone.
use Rattle.std.proofs.Common.{◌≡◌, ◌<◌, ◌≤◌, ◌+◌, ◌∙◌, ℕ, true, false, List, [], ◌∷◌, ◌++◌, length, get_or, drop}
use Rattle.std.proofs.Common.{append_assoc, sym, ap, subst, refl, arith, inl, inr, length-append}
use Rattle.std.specs.Prelude.{◌||◌, not, Bool, Option, Some, None, Ok, Err, Result, IfSome, IsSome, OnOk, OnErr}
use Rattle.std.specs.Option.{option_to_list}
use Rattle.std.specs.List.Sorted.{IsPermutation}
use Rattle.std.proofs.lemmas.List.{append-nil, drop_more, drop_all, get_or_append_left}
use Rattle.std.proofs.Math.Seq.{get_or-append_seam}
use Rattle.std.proofs.lemmas.Bool.{cases_lt}
use Rattle.std.proofs.lemmas.List.Elements.{All-append, All-nil, All-weaker}
use Rattle.std.proofs.lemmas.List.Sorted.{All-permutation, IsPermutation-append_right, IsPermutation-refl}
use Rattle.std.proofs.lemmas.List.Sorted.{IsPermutation-trans}
use Rattle.cube_core.specs.Layout.{Layout}
use Rattle.cube_core.specs.Takes.{fits}
use Rattle.cube_core.specs.declared.fact.Fact.{Fact}
use Rattle.cube_cells.specs.CountedCube.{CountedView, HasCounted, fits_counted}
use Rattle.cube_cells.proofs.CountedCubeLaws.{HasCounted-IsPermutation}
use Rattle.cube_ledger.specs.Ledger.{AllFit, AtSource, Exchanges, LedgerView, all_facts, with_refusal}
use Rattle.cube_ledger.proofs.LedgerLaws.{AllFit-come, AllFit-exchange, All-append_left, All-append_right}
use Rattle.cube_ledger.proofs.LedgerLaws.{all_facts-exchange, all_facts-refuse, swap-front}
use Rattle.cube_build.specs.Builder.{IsCountedFor}
use Rattle.cube_build.specs.Parted.{AllFill, AllFitCounted, AllSettle, AreBehind, ArePartsFor, ArePartsWith}
use Rattle.cube_build.specs.Parted.{GainsCounted, IsPartFor, LosesCounted, MaySettle, SameCounted, Settles}
use Rattle.cube_build.specs.declared.parted.Part.{Part}
use Rattle.cube_build.proofs.FactLaws.{HasFacts-HasCounted, fits_counted-fits}
use Rattle.cube_build.proofs.FillLaws.{SameCounted-trans}

-- ---- facts that fit
-- a fact that fits a schema fits what a counted cube takes that is for facts of its feeds
pub fits_counted-for : (s : Layout) (cube : CountedView) (fact : Fact) → IsCountedFor s cube → fits s fact ≡ true
    → fits_counted cube.texts cube.cube.schema fact ≡ true
fits_counted-for s cube fact is fit =
    ap (λ texts. fits_counted texts cube.cube.schema fact) is.texts
    ∙ ap (λ l. fits_counted (length s.text_places) l fact) is.schema
    ∙ fits_counted-fits s fact is.lawful fit

pub AllFitCounted-for : (s : Layout) (cube : CountedView) (facts : List Fact) → IsCountedFor s cube → AllFit s facts
    → AllFitCounted cube facts
AllFitCounted-for s cube facts is fit =
    All-weaker (λ fact. fits s fact ≡ true) (λ fact. fits_counted cube.texts cube.cube.schema fact ≡ true)
    (λ fact fits_here. fits_counted-for s cube fact is fits_here) facts fit

-- and what another takes that counts as many texts over the same sets
pub fits_counted-same : (old new : CountedView) (fact : Fact) → SameCounted old new
    → fits_counted old.texts old.cube.schema fact ≡ true → fits_counted new.texts new.cube.schema fact ≡ true
fits_counted-same old new fact same fit =
    ap (λ texts. fits_counted texts new.cube.schema fact) same.texts
    ∙ ap (λ l. fits_counted old.texts l fact) same.same.schema ∙ fit

pub AllFitCounted-same : (old new : CountedView) (facts : List Fact) → SameCounted old new → AllFitCounted old facts
    → AllFitCounted new facts
AllFitCounted-same old new facts same fit =
    All-weaker (λ fact. fits_counted old.texts old.cube.schema fact ≡ true)
    (λ fact. fits_counted new.texts new.cube.schema fact ≡ true)
    (λ fact fits_here. fits_counted-same old new fact same fits_here) facts fit

-- ---- facts less

-- while facts are taken from a cube: those from a place on are left
pub record IsTaking (facts : List Fact) (place : ℕ) (old now : CountedView) : Type 0 where
  pub same : SameCounted old now
  pub has : (left : List Fact) → HasCounted (facts ++ left) old → HasCounted (drop place facts ++ left) now

pub IsTaking-none : (facts : List Fact) (cube : CountedView) → IsTaking facts 0 cube cube
IsTaking-none facts cube = record {
  same = record { texts = refl; same = record { schema = refl; sets = refl } };
  has = λ left has. has;
}

-- what is left from a place on begins with the fact there
from-place : (facts left : List Fact) (place : ℕ) (fact : Fact) (cube : CountedView) → place < length facts
    → fact ≡ get_or facts place fact
    → HasCounted (drop place facts ++ left) cube → HasCounted (fact ∷ (drop (place + 1) facts ++ left)) cube
from-place facts left place fact cube below is has =
    let more : drop place facts ≡ fact ∷ drop (place + 1) facts =
    drop_more facts place fact below ∙ ap (λ f. f ∷ drop (place + 1) facts) (sym is) in
    subst (λ l. HasCounted (l ++ left) cube) more has

-- the next fact is there, and fits
pub IsTaking-there : (facts left : List Fact) (place : ℕ) (fact : Fact) (old now : CountedView) → place < length facts
    → fact ≡ get_or facts place fact → HasCounted (facts ++ left) old → IsTaking facts place old now
    → (others : List Fact) × HasCounted (fact ∷ others) now
IsTaking-there facts left place fact old now below is has taking =
    (drop (place + 1) facts ++ left, from-place facts left place fact now below is (taking.has left has))

pub IsTaking-fits : (facts : List Fact) (place : ℕ) (fact : Fact) (old now : CountedView) → place < length facts
    → fact ≡ get_or facts place fact → AllFitCounted old facts → IsTaking facts place old now
    → fits_counted now.texts now.cube.schema fact ≡ true
IsTaking-fits facts place fact old now below is fit taking =
    fits_counted-same old now fact taking.same (rw (← is) at (fit place fact below))

-- one fact more is taken
pub IsTaking-more : (facts : List Fact) (place : ℕ) (fact : Fact) (old now next : CountedView) → place < length facts
    → fact ≡ get_or facts place fact → SameCounted now next
    → ((left : List Fact) → HasCounted (fact ∷ left) now → HasCounted left next)
    → IsTaking facts place old now → IsTaking facts (place + 1) old next
IsTaking-more facts place fact old now next below is same takes taking = record {
  same = SameCounted-trans old now next taking.same same;
  has = λ left has. takes (drop (place + 1) facts ++ left)
      (from-place facts left place fact now below is (taking.has left has));
}

-- past the last all are taken
pub LosesCounted-all : (facts : List Fact) (place : ℕ) (old now : CountedView) → length facts ≤ place
    → IsTaking facts place old now → LosesCounted facts old now
LosesCounted-all facts place old now past taking = record {
  same = taking.same;
  has = λ left has. subst (λ l. HasCounted (l ++ left) now) (drop_all place facts past) (taking.has left has);
}

-- ---- facts more and facts less

-- where a cube has gained the facts that came, it has those that are gone
pub has-gone : (come gone : List Fact) (old mid : CountedView) → (may : MaySettle come gone old)
    → GainsCounted come old mid → HasCounted (gone ++ may.left) mid
has-gone come gone old mid may gains =
    HasCounted-IsPermutation (come ++ may.counted) (gone ++ may.left) mid may.owed (gains.has may.counted may.has)

pub Settles-both : (come gone : List Fact) (old mid new : CountedView) → GainsCounted come old mid
    → LosesCounted gone mid new → Settles come gone old new
Settles-both come gone old mid new gains loses = record {
  same = SameCounted-trans old mid new gains.same loses.same;
  has = λ counted left has owed.
      loses.has left (HasCounted-IsPermutation (come ++ counted) (gone ++ left) mid owed (gains.has counted has));
}

-- ---- the cubes of all parts

-- a part's cube is for the same facts where it counts as many texts over the same sets
IsPartFor-same : (s : Layout) (parts part : ℕ) (old new : CountedView) → SameCounted old new
    → IsPartFor s parts part old → IsPartFor s parts part new
IsPartFor-same s parts part old new same is = record {
  is = record {
    lawful = is.is.lawful;
    schema = same.same.schema ∙ is.is.schema;
    texts = same.texts ∙ is.is.texts;
  };
  sets = same.same.sets ∙ is.sets;
}

-- the cube of a part that is behind can settle
pub MaySettle-behind : (ledger : LedgerView) (parts : List Part) (come gone : List Fact) (part : ℕ) (d : Part)
    → part < length parts → AreBehind ledger parts come gone → MaySettle come gone (get_or parts part d).cube
MaySettle-behind ledger parts come gone part d below behind =
    let at = behind.each part d below in
    record {
      come_fit = AllFitCounted-for ledger.schema (get_or parts part d).cube come at.over.is behind.come_fit;
      gone_fit = AllFitCounted-for ledger.schema (get_or parts part d).cube gone at.over.is behind.gone_fit;
      counted = at.counted;
      left = all_facts ledger.accounts;
      has = at.has;
      owed = at.owed;
    }

-- when all have settled none is behind
pub AreBehind-settled : (ledger : LedgerView) (old new : List Part) (come gone : List Fact) → length new ≡ length old
    → AllSettle come gone old new
    → ((part : ℕ) (d : Part) → part < length new → (get_or new part d).is_spent ≡ false)
    → AreBehind ledger old come gone → AreBehind ledger new [] []
AreBehind-settled ledger old new come gone long settle none behind = record {
  some = omega (arith, long, behind.some);
  fit = behind.fit;
  come_fit = All-nil (λ fact. fits ledger.schema fact ≡ true);
  gone_fit = All-nil (λ fact. fits ledger.schema fact ≡ true);
  each = λ part d below.
      let below_old : part < length old = omega (arith, long, below) in
      let at = behind.each part d below_old in
      let settled = settle part d below_old (none part d below) in
      rw long (record {
        over = IsPartFor-same ledger.schema (length old) part (get_or old part d).cube (get_or new part d).cube
            settled.same at.over;
        counted = all_facts ledger.accounts;
        has = settled.has at.counted (all_facts ledger.accounts) at.has at.owed;
        owed = IsPermutation-refl (all_facts ledger.accounts);
      });
}

-- nor is one when all were filled
pub AreBehind-filled : (ledger : LedgerView) (count : ℕ) (old new : List Part) → 1 ≤ count → length old ≡ count
    → length new ≡ length old → AllFit ledger.schema (all_facts ledger.accounts)
    → ArePartsFor ledger.schema count old → AllFill (all_facts ledger.accounts) old new
    → ((part : ℕ) (d : Part) → part < length new → (get_or new part d).is_spent ≡ false)
    → AreBehind ledger new [] []
AreBehind-filled ledger count old new some counted long fit are fill none = record {
  some = omega (arith, long, counted, some);
  fit = fit;
  come_fit = All-nil (λ fact. fits ledger.schema fact ≡ true);
  gone_fit = All-nil (λ fact. fits ledger.schema fact ≡ true);
  each = λ part d below.
      let below_old : part < length old = omega (arith, long, below) in
      let fills = fill part d below_old (none part d below) in
      rw (long, counted) (record {
        over = IsPartFor-same ledger.schema count part (get_or old part d).cube (get_or new part d).cube
            fills.same (are part d below_old);
        counted = all_facts ledger.accounts;
        has = fills.has;
        owed = IsPermutation-refl (all_facts ledger.accounts);
      });
}

-- where nothing waits the cubes have the facts of the books
pub ArePartsWith-behind : (ledger : LedgerView) (parts : List Part) (come gone : List Fact) → come ≡ [] → gone ≡ []
    → AreBehind ledger parts come gone
    → ArePartsWith ledger.schema (all_facts ledger.accounts) parts
ArePartsWith-behind ledger parts come gone none_come none_gone behind = record {
  some = behind.some;
  each = λ part d below.
      let at = behind.each part d below in
      let owed : IsPermutation at.counted (all_facts ledger.accounts) =
      subst (λ (l : List Fact). IsPermutation at.counted (l ++ all_facts ledger.accounts)) none_gone
      (subst (λ (l : List Fact). IsPermutation (l ++ at.counted) (gone ++ all_facts ledger.accounts))
      none_come at.owed) in
      record {
        over = record { schema = at.over.is.schema; sets = at.over.sets };
        has = HasFacts-HasCounted ledger.schema (all_facts ledger.accounts) (get_or parts part d).cube at.over.is
            behind.fit
            (HasCounted-IsPermutation at.counted (all_facts ledger.accounts) (get_or parts part d).cube owed at.has);
      };
}

-- ---- the books change

-- a copy that was made is of its fact
pub is_copy : (copy : Option Fact) (fact : Fact) → IsSome copy → IfSome copy (λ c. c ≡ fact) → copy ≡ Some fact
is_copy None fact some same = cc some
is_copy (Some c) fact some same = ap Some same

-- what is owed after a fact came and another is gone
owed-exchange : (come gone counted old new : List Fact) (put out : Option Fact)
    → IsPermutation (come ++ counted) (gone ++ old)
    → IsPermutation (option_to_list put ++ old) (option_to_list out ++ new)
    → IsPermutation ((come ++ option_to_list put) ++ counted) ((gone ++ option_to_list out) ++ new)
owed-exchange come gone counted old new put out owed change =
    let p = option_to_list put in
    let o = option_to_list out in
    subst (λ l. IsPermutation l ((gone ++ o) ++ new)) (sym (append_assoc come p counted))
    (subst (λ l. IsPermutation (come ++ (p ++ counted)) l) (sym (append_assoc gone o new))
    (IsPermutation-trans (come ++ (p ++ counted)) (p ++ (come ++ counted)) (gone ++ (o ++ new))
    (swap-front come p counted)
    (IsPermutation-trans (p ++ (come ++ counted)) (p ++ (gone ++ old)) (gone ++ (o ++ new))
    (IsPermutation-append_right p (come ++ counted) (gone ++ old) owed)
    (IsPermutation-trans (p ++ (gone ++ old)) (gone ++ (p ++ old)) (gone ++ (o ++ new)) (swap-front p gone old)
    (IsPermutation-append_right gone (p ++ old) (o ++ new) change)))))

-- the cubes are behind by what came and is gone besides
pub AreBehind-exchange : (old new : LedgerView) (parts : List Part) (come gone come' gone' : List Fact) (source : ℕ)
    (id : List ℕ) (out put : Option Fact) → 1 ≤ source → source ≤ length old.accounts
    → AtSource (Exchanges id out put) source old new → IfSome put (λ fact. fits old.schema fact ≡ true)
    → come' ≡ come ++ option_to_list put → gone' ≡ gone ++ option_to_list out → AreBehind old parts come gone
    → AreBehind new parts come' gone'
AreBehind-exchange old new parts come gone come' gone' source id out put first last at fit came went behind =
    let left = AllFit-exchange old new source id out put first last at behind.fit fit in
    rw (came, went, at.schema) (record {
      some = behind.some;
      fit = All-append_right (λ fact. fits old.schema fact ≡ true) (option_to_list out) (all_facts new.accounts) left;
      come_fit =
          All-append (λ fact. fits old.schema fact ≡ true) come (option_to_list put) behind.come_fit (fit-put put fit);
      gone_fit = All-append (λ fact. fits old.schema fact ≡ true) gone (option_to_list out) behind.gone_fit
          (All-append_left (λ fact. fits old.schema fact ≡ true) (option_to_list out) (all_facts new.accounts) left);
      each = λ part d below.
          let is = behind.each part d below in
          record {
            over = is.over;
            counted = is.counted;
            has = is.has;
            owed = owed-exchange come gone is.counted (all_facts old.accounts) (all_facts new.accounts) put out is.owed
                (all_facts-exchange old new source id out put first last at);
          };
    }) where
      fit-put : (put : Option Fact) → IfSome put (λ fact. fits old.schema fact ≡ true)
          → AllFit old.schema (option_to_list put)
      fit-put put fit = subst (AllFit old.schema) (append-nil (option_to_list put))
          (AllFit-come old.schema put [] fit (All-nil (λ fact. fits old.schema fact ≡ true)))

-- and stay behind by as much where an item is refused
pub AreBehind-refuse : (old new : LedgerView) (parts : List Part) (come gone : List Fact) (source number code : ℕ)
    → 1 ≤ source → source ≤ length old.accounts
    → AtSource (λ o n. n ≡ with_refusal o number code) source old new → AreBehind old parts come gone
    → AreBehind new parts come gone
AreBehind-refuse old new parts come gone source number code first last at behind =
    let change = all_facts-refuse old new source number code first last at in
    rw (at.schema) (record {
      some = behind.some;
      fit = All-permutation (λ fact. fits old.schema fact ≡ true) (all_facts old.accounts)
          (all_facts new.accounts) change behind.fit;
      come_fit = behind.come_fit;
      gone_fit = behind.gone_fit;
      each = λ part d below.
          let is = behind.each part d below in
          record {
            over = is.over;
            counted = is.counted;
            has = is.has;
            owed = IsPermutation-trans (come ++ is.counted) (gone ++ all_facts old.accounts)
                (gone ++ all_facts new.accounts) is.owed
                (IsPermutation-append_right gone (all_facts old.accounts) (all_facts new.accounts) change);
          };
    })

-- ---- the cubes made

-- the new parts, and one more
pub ArePartsFor-more : (s : Layout) (count : ℕ) (parts : List Part) (next : Part)
    → IsPartFor s count (length parts) next.cube → ArePartsFor s count parts
    → ArePartsFor s count (parts ++ next ∷ [])
ArePartsFor-more s count parts next is are part d below = elim (cases_lt part (length parts)) [
  | inl inside ↦ rw (get_or_append_left parts (next ∷ []) d part inside) (are part d inside)
  | inr past ↦
      let at : part ≡ length parts = omega (arith, past, below, length-append parts (next ∷ [])) in
      rw (at, get_or-append_seam parts next [] d) is
]

-- what is left of facts from a place on
pub next-fact : (facts : List Fact) (place : ℕ) (fact : Fact) → place < length facts → fact ≡ get_or facts place fact
    → drop place facts ≡ (fact ∷ []) ++ drop (place + 1) facts
next-fact facts place fact below is = drop_more facts place fact below ∙ ap (λ f. f ∷ drop (place + 1) facts) (sym is)

-- neither of two is true where one of them isn't
pub neither : (spent noted : Bool) → (spent || not noted) ≡ false → (spent ≡ false) × (noted ≡ true)
neither true noted is = cc is
neither false true is = (refl, refl)
neither false false is = cc is

-- the same where the refusal may have found no memory
pub AreBehind-refused : {T E : Type 0} (old new : LedgerView) (parts : List Part) (come gone : List Fact)
    (source number code : ℕ) (result : Result T E) → 1 ≤ source → source ≤ length old.accounts
    → OnOk result (AtSource (λ o n. n ≡ with_refusal o number code) source old new) → OnErr result (new ≡ old)
    → AreBehind old parts come gone → AreBehind new parts come gone
AreBehind-refused old new parts come gone source number code (Err e) first last ok err behind =
    subst (λ (l : LedgerView). AreBehind l parts come gone) (sym err) behind
AreBehind-refused old new parts come gone source number code (Ok x) first last ok err behind =
    AreBehind-refuse old new parts come gone source number code first last ok behind

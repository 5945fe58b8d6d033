-- A counted cube that gains facts, one after another.
use Rattle.std.proofs.Common.{◌≡◌, List, [], ◌++◌, append_assoc, sym, ap, ◌∙◌, subst}
use Rattle.std.specs.List.Sorted.{IsPermutation}
use Rattle.std.proofs.lemmas.List.{append-nil}
use Rattle.std.proofs.lemmas.List.Sorted.{IsPermutation-trans, IsPermutation-append_left}
use Rattle.cube_core.specs.declared.fact.Fact.{Fact}
use Rattle.cube_cells.specs.CountedCube.{CountedView, HasCounted}
use Rattle.cube_cells.proofs.CountedCubeLaws.{HasCounted-IsPermutation}
use Rattle.cube_ledger.proofs.LedgerLaws.{swap-front}
use Rattle.cube_build.specs.Parted.{GainsCounted, SameCounted}

-- it counts as many texts over the same sets after two changes
pub SameCounted-trans : (a b c : CountedView) → SameCounted a b → SameCounted b c → SameCounted a c
SameCounted-trans a b c first second = record {
  texts = second.texts ∙ first.texts;
  same = record {
    schema = second.same.schema ∙ first.same.schema;
    sets = second.same.sets ∙ first.same.sets;
  };
}

-- while a cube is filled with facts: some of them are in it, and these are left
pub record IsFilling (all left : List Fact) (old now : CountedView) : Type 0 where
  pub done : List Fact
  pub split : IsPermutation (done ++ left) all
  pub gains : GainsCounted done old now

-- more of them
pub IsFilling-more : (all left more rest : List Fact) (old now next : CountedView) → left ≡ more ++ rest
    → GainsCounted more now next → IsFilling all left old now → IsFilling all rest old next
IsFilling-more all left more rest old now next is gains filling = record {
  done = more ++ filling.done;
  split =
      IsPermutation-trans _ _ _
      (subst (λ l. IsPermutation l (filling.done ++ (more ++ rest))) (sym (append_assoc more filling.done rest))
      (swap-front more filling.done rest))
      (subst (λ l. IsPermutation (filling.done ++ l) all) is filling.split);
  gains = record {
    same = SameCounted-trans old now next filling.gains.same gains.same;
    has = λ before has. subst (λ l. HasCounted l next) (sym (append_assoc more filling.done before))
        (gains.has (filling.done ++ before) (filling.gains.has before has));
  };
}

-- at the end all are
pub GainsCounted-all : (all left : List Fact) (old now : CountedView) → left ≡ [] → IsFilling all left old now
    → GainsCounted all old now
GainsCounted-all all left old now none filling = record {
  same = filling.gains.same;
  has = λ before has.
      HasCounted-IsPermutation (filling.done ++ before) (all ++ before) now
      (IsPermutation-append_left before filling.done all
      (subst (λ l. IsPermutation l all) (ap (λ l. filling.done ++ l) none ∙ append-nil filling.done) filling.split))
      (filling.gains.has before has);
}

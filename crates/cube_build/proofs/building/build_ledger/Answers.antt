use Rattle.std.proofs.Common.{◌∙◌, sym, subst, ap, length}
use Rattle.cube_build.specs.Parts.{AreParts, first_ledger}
use Rattle.cube_build.proofs.InterestLaws.{made-alone}
use Rattle.cube_build.proofs.building.build_ledger.Goals as goal

pub of-requires : goal.of-requires
of-requires g c =
    subst AreParts (sym c.in_ok-lone.ensures.builders)
    (made-alone c.args.ledger c.in_ok-draft.draft c.in_ok-builder.builder c.in_ok-draft.ensures.ledger
    c.in_ok-draft.ensures.over c.in_ok-builder.ensures)

pub returns-clause-ledger : goal.returns-clause-ledger
returns-clause-ledger g c =
    ap first_ledger (c.of.ensures.builders ∙ c.in_ok-lone.ensures.builders) ∙ c.in_ok-builder.ensures.ledger
    ∙ c.in_ok-draft.ensures.ledger

pub returns-clause-one : goal.returns-clause-one
returns-clause-one g c = ap length (c.of.ensures.builders ∙ c.in_ok-lone.ensures.builders)

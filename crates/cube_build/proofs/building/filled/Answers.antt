use Rattle.std.proofs.Common.{◌≡◌, List, [], ◌∷◌, ◌++◌, ◌∙◌, ap, map, subst, sym}
use Rattle.cube_build.specs.Builder.{BuilderView}
use Rattle.cube_build.specs.Parts.{AreParts}
use Rattle.cube_build.specs.declared.making.Links.{Links}
use Rattle.cube_build.proofs.TakenLaws.{filled-alone}
use Rattle.cube_build.proofs.building.filled.Goals.{In_ok-keep}
use Rattle.cube_build.proofs.building.filled.Goals as goal

-- the part stands alone
alone : (c : In_ok-keep) → c.keep.new.self.builders.items ≡ c.in_ok-builder.builder ∷ []
alone c =
    c.in_ok-keep.ensures.builders
    ∙ ap (λ (bs : List BuilderView). bs ++ c.in_ok-builder.builder ∷ []) c.in_ok-making.ensures.builders

pub of-requires : goal.of-requires
of-requires c =
    subst AreParts (sym (alone (goal.at.of-requires c).In_ok-keep))
    (filled-alone c.args.part.builder c.in_ok-builder.builder c.in_ok-builder.ensures)

pub returns : goal.returns
returns c = record {
  counts = c.in_ok-builder.builder;
  builders = c.of.ensures.builders ∙ alone (goal.at.returns c).In_ok-keep;
  inlets =
      c.of.ensures.inlets ∙ c.in_ok-keep.ensures.links
      ∙ ap (λ (ls : List Links). map (λ (l : Links). l.inlets.items) ls ++ c.args.part.inlets.items ∷ [])
      c.in_ok-making.ensures.links;
  filled = c.in_ok-builder.ensures;
}

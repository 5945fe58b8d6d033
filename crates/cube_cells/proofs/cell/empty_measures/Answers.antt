use Rattle.std.proofs.Common.{◌≡◌, ◌∷◌, [], length, refl, arith}
use Rattle.std.proofs.lemmas.List.{length-append}
use Rattle.std.proofs.lemmas.List.Elements.{All-push}
use Rattle.cube_values.specs.Bag.{Bag, size_of}
use Rattle.cube_cells.proofs.cell.empty_measures.Goals as goal

pub loop-init : goal.loop-init
loop-init g c =
    rw c.in_ok-measures.ensures.items (record { so_many = refl; empty = λ k d inside. absurd (omega (arith, inside)) })

pub loop-preserved : goal.loop-preserved
loop-preserved g c =
    let bags = c.loop.measures.items in
    let is : length bags ≡ c.loop.counter = c.loop.invariant.so_many in
    rw c.in_ok-push.ensures.items (record {
      so_many = omega (arith, is, length-append bags (c.new.result ∷ []));
      empty = All-push (λ (bag : Bag). size_of bag ≡ 0) bags c.new.result c.loop.invariant.empty c.new.ensures.size;
    })

pub returns : goal.returns
returns g c =
    let is : length c.loop.measures.items ≡ c.loop.counter = c.loop.invariant.so_many in
    record { length = omega (arith, is); empty = c.loop.invariant.empty }

use Rattle.std.proofs.Common.{◌≡◌, ◌<◌, ◌++◌, ◌∙◌, ℕ, false, take, drop, length, map, get_or, ap, rules}
use Rattle.cube_cells.proofs.Tallies.ValueLaws.{take-append-drop}
use Rattle.cube_ledger.specs.Ledger.{all_facts}
use Rattle.cube_build.specs.Parted.{AllFill}
use Rattle.cube_build.specs.declared.parted.Part.{Part}
use Rattle.cube_build.proofs.PartedLaws.{AllFitCounted-for, AreBehind-filled}
use Rattle.cube_build.proofs.parted.filled_parts.Given.{Over}
use Rattle.cube_build.proofs.parted.filled_parts.Goals.{After-deref}
use Rattle.cube_build.proofs.parted.filled_parts.Goals as goal

-- the facts are those of the books
facts : (g : Over) (c : After-deref g) → map (λ fact. fact.now) c.deref.result.now ≡ all_facts c.args.ledger.now.accounts
facts g c = ap (map (λ fact. fact.now)) c.deref.ensures.value ∙ c.in_ok-facts.ensures.facts

pub fill_parts-requires-clause-each : goal.fill_parts-requires-clause-each
fill_parts-requires-clause-each g c = λ lifetimes live part d below.
    let inside : part < length c.in_ok-filled.filled.items = rw c.as_mut_slice.ensures.value at below in
    rw (c.as_mut_slice.ensures.value, facts g c)
    (AllFitCounted-for c.args.ledger.now.schema (get_or c.in_ok-filled.filled.items part d).cube
    (all_facts c.args.ledger.now.accounts) (c.in_ok-filled.ensures.each part d inside).is c.in_ok-facts.ensures.fit)

pub returns : goal.returns
returns g c =
    let old = c.in_ok-filled.filled in
    let new = c.fill_parts.new.parts in
    let long : length new ≡ length old.items = c.fill_parts.ensures.number ∙ ap length c.as_mut_slice.ensures.value in
    let whole : take old.len (new ++ drop (length new) old.items) ≡ new =
    take-append-drop old.items new old.len (search rules) long in
    let fill : AllFill (all_facts c.args.ledger.now.accounts) old.items new =
    rw (c.as_mut_slice.ensures.value, facts g (goal.at.returns g c).After-deref) at c.fill_parts.ensures.each in
    let none : (part : ℕ) (d : Part) → part < length new → (get_or new part d).is_spent ≡ false =
    rw (c.deref-2.ensures.value, whole) at c.is_any_spent.ensures c.if-is_any_spent.false in
    rw whole
    (AreBehind-filled c.args.ledger.now c.args.parts old.items new c.requires.some c.in_ok-filled.ensures.long long
    c.in_ok-filled.ensures.fit c.in_ok-filled.ensures.each fill none)

use Rattle.std.proofs.Common.{◌≡◌, ◌∙◌, ◌++◌, ◌∷◌, [], length, rules, sym, subst}
use Rattle.std.proofs.lemmas.Iterator.Adapters.{YieldsList-from_vec}
use Rattle.std.proofs.lemmas.Iterator.Consumers.{YieldsList-so_far, YieldsList-turn}
use Rattle.std.proofs.lemmas.Result.{err_from_is_err_and}
use Rattle.cube_core.proofs.ListLaws.{AllZip-length, AllZip-push}
use Rattle.cube_merge.specs.Faults.{FailsToOpen}
use Rattle.cube_merge.specs.Merging.{TookHeader}
use Rattle.cube_merge.proofs.FaultLaws.{FailsToOpenAll-at, opened-headers}
use Rattle.cube_merge.proofs.cubes.open_inputs.Goals as goal

pub loop-reader-preserved : goal.loop-reader-preserved
loop-reader-preserved g c =
    let taken : TookHeader g.R.Read.remaining c.args.header.now c.in-Some.reader c.in_ok-input.input = search rules in
    let pushed : c.push.new.self.items ≡ c.loop-reader.inputs.items ++ c.in_ok-input.input ∷ [] = search rules in
    rw pushed (AllZip-push (TookHeader g.R.Read.remaining c.args.header.now)
    c.loop-reader.yielded c.loop-reader.inputs.items c.in-Some.reader c.in_ok-input.input c.loop-reader.invariant taken)

pub returns-in_err-input-clause-err : goal.returns-in_err-input-clause-err
returns-in_err-input-clause-err g c =
    let p = err_from_is_err_and c.from_residual-in_err-input.result c.from_residual-in_err-input.ensures.1 in
    let loop = c.loop-reader in
    let gives = c.into_iter-reader-iterator.ensures.into_iter_gives in
    let turn =
    YieldsList-turn (YieldsList-from_vec c.args.readers.items (search (rules, gives)) (search (rules, gives)))
    loop.yielded loop.reader-iterator loop.yielded_by c.next.result c.next.new.self c.in-Some.reader c.in-Some.is
    c.next.ensures.steps in
    let so_far =
    YieldsList-so_far (YieldsList-from_vec c.args.readers.items (search (rules, gives)) (search (rules, gives)))
    loop.yielded loop.reader-iterator loop.yielded_by in
    let counted : c.len-in-loop-reader.result ≡ length loop.inputs.items = search rules in
    let place_is : c.len-in-loop-reader.result ≡ length loop.yielded = counted ∙ sym
    (AllZip-length (TookHeader g.R.Read.remaining c.args.header.now) loop.yielded loop.inputs.items loop.invariant) in
    rw (p.1, p.2) (FailsToOpenAll-at g.R.Read.remaining c.args.header.now c.args.readers.items
    (length loop.yielded) c.in-Some.reader c.in_err-input.field-0.0 turn.0 turn.1
    (opened-headers g.R.Read.remaining c.args.header.now c.args.readers.items loop.yielded loop.inputs.items so_far
    loop.invariant)
    (subst (λ n. FailsToOpen c.args.header.now n (g.R.Read.remaining c.in-Some.reader) c.in_err-input.field-0.0)
    place_is c.in_err-input.ensures.err))

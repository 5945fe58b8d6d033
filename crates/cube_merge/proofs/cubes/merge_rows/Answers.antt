use Rattle.std.proofs.Common.{◌≡◌, ◌∙◌, ◌++◌, ◌∷◌, [], true, false, length, rules, arith, length-append, refl, sym}
use Rattle.std.proofs.Common.{subst}
use Rattle.std.proofs.KnownBytes.{Appends-nil, Appends-trans}
use Rattle.std.proofs.lemmas.Result.{err_from_is_err_and}
use Rattle.std.specs.Io.KnownBytes.{Appends}
use Rattle.cube_merge.specs.Merging.{PutsNext}
use Rattle.cube_merge.specs.declared.fault.MergeFault.TheVariants.{Memory}
use Rattle.cube_merge.proofs.CubesLaws.{text_of_rows-more, text_of_rows-push}
use Rattle.cube_merge.proofs.LeastLaws.{AreAbove-none}
use Rattle.cube_merge.proofs.FaultLaws.{Stops-sending, Stops-waiting}
use Rattle.cube_merge.proofs.cubes.merge_rows.Goals as goal

pub returns-in_err-put_next-clause-err : goal.returns-in_err-put_next-clause-err
returns-in_err-put_next-clause-err g c =
    let p = err_from_is_err_and c.from_residual.result c.from_residual.ensures.1 in
    rw (p.1, p.2) (λ starts m.
    let so_far = c.loop.invariant.merging starts m in
    Stops-waiting c.args.given.now c.args.wanted.now starts (length c.args.inputs.now) c.loop.inputs so_far.0 so_far.1
    c.loop.desk.text.items so_far.2 so_far.3 so_far.5 _ _ _ so_far.4 c.in_err-put_next.ensures.err)

pub returns-in_err-send-clause-err : goal.returns-in_err-send-clause-err
returns-in_err-send-clause-err g c =
    let off : c.in_ok-put_next.field-0 ≡ false = search rules in
    let put = subst (λ b. PutsNext c.args.given.now c.args.wanted.now c.args.sources.now c.loop.inputs c.put_next.new.inputs
    c.loop.desk.text.items c.put_next.new.desk.text.items b) off (c.in_ok-put_next.ensures.ok) in
    let p = err_from_is_err_and c.from_residual-in_err-send.result c.from_residual-in_err-send.ensures.1 in
    rw (p.1, p.2) (λ starts m.
    let so_far = c.loop.invariant.merging starts m in
    let fails = rw (put.0) at (rw c.as_slice.ensures.value at c.in_err-send.ensures.err) in
    Stops-sending c.args.given.now c.args.wanted.now starts (length c.args.inputs.now) c.loop.inputs so_far.0 so_far.1
    c.loop.desk.text.items so_far.2 so_far.3 so_far.5 _ _ _ _ so_far.4 (rw so_far.6 at fails))

pub returns-then-not-branch-clause-ok : goal.returns-then-not-branch-clause-ok
returns-then-not-branch-clause-ok g c starts m =
    let off : c.in_ok-put_next.field-0 ≡ false = search rules in
    let put = subst (λ b. PutsNext c.args.given.now c.args.wanted.now c.args.sources.now c.loop.inputs c.put_next.new.inputs
    c.loop.desk.text.items c.put_next.new.desk.text.items b) off (c.in_ok-put_next.ensures.ok) in
    let so_far = c.loop.invariant.merging starts m in
    let sent = c.in_ok-send.ensures.ok in
    let last : Appends (g.W.Write.contents c.loop.w) (g.W.Write.contents c.send.new.w) c.loop.desk.text.items =
    rw (put.0) at (rw c.as_slice.ensures.value at sent.1) in (
      c.loop.inputs,
      so_far.0,
      so_far.2,
      so_far.3,
      put.2,
      subst (Appends (g.W.Write.contents c.args.w.now) (g.W.Write.contents c.send.new.w)) so_far.5
          (Appends-trans _ _ _ so_far.1 c.loop.desk.text.items so_far.4 last),
    )

pub returns-in-Err-clause-err : goal.returns-in-Err-clause-err
returns-in-Err-clause-err g c starts m =
    let on : c.in_ok-put_next.field-0 ≡ true = search rules in
    let put = subst
    (λ b. PutsNext c.args.given.now c.args.wanted.now c.args.sources.now c.loop.inputs c.put_next.new.inputs c.loop.desk.text.items
    c.put_next.new.desk.text.items b) on (c.in_ok-put_next.ensures.ok) c.requires.sources in
    let so_far = c.loop.invariant.merging starts m in
    Stops-sending c.args.given.now c.args.wanted.now starts (length c.args.inputs.now) c.put_next.new.inputs
    (so_far.0 ++ put.0 ∷ []) so_far.1 c.put_next.new.desk.text.items
    (c.put_next.auto.inputs ∙ so_far.2) (put.2 starts so_far.0 so_far.3)
    (text_of_rows-more c.args.wanted.now so_far.0 put.0 so_far.1 c.loop.desk.text.items c.put_next.new.desk.text.items
    so_far.5 put.1)
    c.in-Err.fault _ _ _ so_far.4 (rw so_far.6 at c.in-Err.ensures.err)

pub loop-preserved : goal.loop-preserved
loop-preserved g c =
    let on : c.in_ok-put_next.field-0 ≡ true = search rules in
    record {
      above = c.in_ok-put_next.ensures.above;
      merging = λ starts m.
          let put = subst
          (λ b. PutsNext c.args.given.now c.args.wanted.now c.args.sources.now c.loop.inputs c.put_next.new.inputs c.loop.desk.text.items
          c.put_next.new.desk.text.items b) on (c.in_ok-put_next.ensures.ok) c.requires.sources in
          let so_far = c.loop.invariant.merging starts m in
          let sent = c.in-Ok.ensures.ok in (
            so_far.0 ++ put.0 ∷ [],
            so_far.1 ++ sent.0,
            c.put_next.auto.inputs ∙ so_far.2,
            put.2 starts so_far.0 so_far.3,
            Appends-trans _ _ _ so_far.1 sent.0 so_far.4 sent.3,
            text_of_rows-push c.args.wanted.now so_far.0 put.0 so_far.1 c.loop.desk.text.items sent.0
                c.send_full.new.text.items so_far.5 (sym put.1 ∙ sent.1),
            omega (arith, sent.2, so_far.6, length-append so_far.1 sent.0),
          );
    }

pub returns-clause-err : goal.returns-clause-err
returns-clause-err g c starts m =
    let so_far = c.loop.invariant.merging starts m in
    Stops-waiting c.args.given.now c.args.wanted.now starts (length c.args.inputs.now)
    c.loop.inputs so_far.0 so_far.1 c.loop.desk.text.items so_far.2 so_far.3 so_far.5 Memory _ _ so_far.4 tt

pub loop-init : goal.loop-init
loop-init g c =
    record {
      above =
          AreAbove-none c.new-front.result.bound c.new-front.result.behind.items c.args.inputs.now c.new-front.ensures;
      merging = λ starts m. ([], [], refl, m, Appends-nil (g.W.Write.contents c.args.w.now), c.requires.header, refl);
    }

use Rattle.std.proofs.Common.{ℤ, ℕ, ◌-◌, pos, get_or, set, arith, ap, of_z, w64}
use Rattle.std.proofs.lemmas.List.{get_or_default}
use Rattle.cube_values.proofs.LogLaws.{rises-moved, joined-moved, IsJoined-more, counts-le-size_of}
use Rattle.cube_values.proofs.LogLaws.{get_or-set_before_default}
use Rattle.cube_values.proofs.log.join_at.Goals as goal

pub returns-then-pairs-place-clause-joined : goal.returns-then-pairs-place-clause-joined
returns-then-pairs-place-clause-joined c =
    IsJoined-more c.args.pairs.now c.args.place (pos 0, 0) c.requires.after c.requires.within
    (λ same. c.if-pairs-place.true (ap (of_z w64) same)) c.requires.joined

pub overflow_add-pairs : goal.overflow_add-pairs
overflow_add-pairs c =
    let a : ℤ × ℕ = get_or c.args.pairs.now (c.args.place - 1) (pos 0, 0) in
    let b : ℤ × ℕ = get_or (set c.args.pairs.now (c.args.place - 1) (a.0, 0)) c.args.place (pos 0, 0) in
    let first = get_or_default c.args.pairs.now (c.args.place - 1) (pos 0, 0) a (omega (arith, c.requires.within)) in
    let second =
    get_or-set_before_default c.args.pairs.now c.args.place a (pos 0, 0) c.requires.after c.requires.within in
    omega (
      arith,
      counts-le-size_of c.args.pairs.now c.args.place a b c.requires.after c.requires.within first second,
      c.requires.fits,
    )

pub returns-clause-rises : goal.returns-clause-rises
returns-clause-rises c =
    let a : ℤ × ℕ = get_or c.args.pairs.now (c.args.place - 1) (pos 0, 0) in
    let b : ℤ × ℕ = get_or (set c.args.pairs.now (c.args.place - 1) (a.0, 0)) c.args.place (pos 0, 0) in
    let first = get_or_default c.args.pairs.now (c.args.place - 1) (pos 0, 0) a (omega (arith, c.requires.within)) in
    let second =
    get_or-set_before_default c.args.pairs.now c.args.place a (pos 0, 0) c.requires.after c.requires.within in
    rises-moved c.args.pairs.now c.args.place a b c.requires.after c.requires.within first second c.requires.rises

pub returns-clause-joined : goal.returns-clause-joined
returns-clause-joined c =
    let a : ℤ × ℕ = get_or c.args.pairs.now (c.args.place - 1) (pos 0, 0) in
    let b : ℤ × ℕ = get_or (set c.args.pairs.now (c.args.place - 1) (a.0, 0)) c.args.place (pos 0, 0) in
    let first = get_or_default c.args.pairs.now (c.args.place - 1) (pos 0, 0) a (omega (arith, c.requires.within)) in
    let second =
    get_or-set_before_default c.args.pairs.now c.args.place a (pos 0, 0) c.requires.after c.requires.within in
    joined-moved c.args.pairs.now c.args.place a b c.requires.after c.requires.within first second c.requires.joined

use Rattle.std.proofs.Common.{ℕ, Option, None, ap, arith, inl, inr}
use Rattle.std.specs.Prelude.{Result, Ok, Err}
use Rattle.std.specs.Str.Parse.{ParsesUnsigned, ExplainsUnsignedError, HasUnsignedDigitsIfOk}
use Rattle.clap.specs.Words.{found_of}
use Rattle.clap.proofs.WalkLemmas.{one_text-rows}
use Rattle.cube_console.proofs.RequestLaws.{IsNumberOf-TriesOne, IsNumberOf-read, IsUpTo-given}
use Rattle.cube_console.proofs.request.number_of.Goals as goal

pub returns-in_default-clause-err : goal.returns-in_default-clause-err
returns-in_default-clause-err c number is bounds =
    let text = one_text-rows (found_of c.args.words.now) c.args.option.now in
    let read = IsNumberOf-read _
    (λ text r. ParsesUnsigned 64 10 text r × ExplainsUnsignedError 10 text r × HasUnsignedDigitsIfOk text r)
    _ c.try_get_one.result (λ t r gives. gives.0)
    c.try_get_one.ensures.none c.try_get_one.ensures.value c.args.most number c.ranges.most.fits (rw text is) bounds in
    absurd (c.in_default.not-Ok number read)

pub returns-in-Some-clause-err : goal.returns-in-Some-clause-err
returns-in-Some-clause-err c number is bounds =
    let text = one_text-rows (found_of c.args.words.now) c.args.option.now in
    let read = IsNumberOf-read _
    (λ text r. ParsesUnsigned 64 10 text r × ExplainsUnsignedError 10 text r × HasUnsignedDigitsIfOk text r)
    _ c.try_get_one.result (λ t r gives. gives.0)
    c.try_get_one.ensures.none c.try_get_one.ensures.value c.args.most number c.ranges.most.fits (rw text is) bounds in
    let told = rw (c.in-Ok.is, c.in-Some.is) at read in
    let inside = IsUpTo-given c.args.most c.in-Some.number number
    (ap (λ (r : Result (Option ℕ) _). elim r [ Ok x ↦ x | Err e ↦ None ]) told) bounds in
    elim c.if-most-number.either [
      | inl small ↦ absurd (omega (arith, small, inside.0))
      | inr large ↦ absurd (omega (arith, large.1, inside.1))
    ]

pub returns-in_default-number-clause-number : goal.returns-in_default-number-clause-number
returns-in_default-number-clause-number c =
    let text = one_text-rows (found_of c.args.words.now) c.args.option.now in
    let read = IsNumberOf-TriesOne _
    (λ text r. ParsesUnsigned 64 10 text r × ExplainsUnsignedError 10 text r × HasUnsignedDigitsIfOk text r)
    _ c.try_get_one.result (λ t r gives. gives.0)
    c.try_get_one.ensures.none c.try_get_one.ensures.value in
    let told = rw (c.in-Ok.is, c.in-Some.is) at read in
    rw (← text) told

pub returns-in_default-number-2-clause-number : goal.returns-in_default-number-2-clause-number
returns-in_default-number-2-clause-number c =
    let text = one_text-rows (found_of c.args.words.now) c.args.option.now in
    let read = IsNumberOf-TriesOne _
    (λ text r. ParsesUnsigned 64 10 text r × ExplainsUnsignedError 10 text r × HasUnsignedDigitsIfOk text r)
    _ c.try_get_one.result (λ t r gives. gives.0)
    c.try_get_one.ensures.none c.try_get_one.ensures.value in
    let told = rw c.in-Ok.is at read in
    rw (← text) told

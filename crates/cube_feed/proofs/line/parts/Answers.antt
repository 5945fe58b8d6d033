use Rattle.std.proofs.Common.{◌≡◌, true, Ok, Err}
use Rattle.std.specs.Prelude.{IfOk, OnOk}
use Rattle.cube_core.specs.Items.{field_at}
use Rattle.cube_feed.specs.SoundFields.{is_sound_id, are_sound}
use Rattle.std.proofs.lemmas.Result.{err_from_is_err_and}
use Rattle.cube_feed.proofs.LineLaws.{are_sound-dimensions, are_sound-measures, are_sound-parts}
use Rattle.cube_feed.proofs.line.parts.Goals as goal

pub returns-in_err-read_values-clause-line : goal.returns-in_err-read_values-clause-line
returns-in_err-read_values-clause-line g c =
    let p = err_from_is_err_and c.from_residual.result c.from_residual.ensures.1 in
    rw p.1 (λ stopped.
    are_sound-dimensions g.D.Spelled.spells g.M.Spelled.spells c.args.schema.now c.args.fields.now
    c.dimensions.result.now c.dimensions.ensures.value
    (c.in_err-read_values.ensures.line cc))

pub returns-in_err-read_values-2-clause-line : goal.returns-in_err-read_values-2-clause-line
returns-in_err-read_values-2-clause-line g c =
    let p =
    err_from_is_err_and c.from_residual-in_err-read_values-2.result c.from_residual-in_err-read_values-2.ensures.1 in
    rw p.1 (λ stopped.
    are_sound-measures g.D.Spelled.spells g.M.Spelled.spells c.args.schema.now c.args.fields.now c.dimensions.result.now
    c.len.result
    c.dimensions.ensures.value c.len.ensures (c.in_err-read_values-2.ensures.line cc))

pub returns-clause-sound : goal.returns-clause-sound
returns-clause-sound g c =
    elim c.id.result as (λ result. IfOk result (λ _. is_sound_id (field_at c.args.fields.now 1) ≡ true)
    → OnOk result (are_sound g.D.Spelled.spells g.M.Spelled.spells c.args.schema.now c.args.fields.now ≡ true)) [
      | Ok id ↦ λ sound. are_sound-parts g.D.Spelled.spells g.M.Spelled.spells c.args.schema.now c.args.fields.now
          c.dimensions.result.now c.len.result
          c.dimensions.ensures.value c.len.ensures sound c.in_ok-read_values.ensures.sound
          c.in_ok-read_values-2.ensures.sound
      | Err why ↦ λ sound. tt
    ] c.id.ensures.sound

use Rattle.std.proofs.Common.{◌<◌, ◌+◌, ◌∙◌, arith, false, refl, rules, sym, Some, None, Ok}
use Rattle.cube_core.proofs.ItemLaws.{takes-change_of}
use Rattle.cube_core.specs.FeedRecords.{plain_of}
use Rattle.cube_feed.specs.Feed.{after_header}
use Rattle.cube_feed.proofs.FeedLaws.{StillComes-Gives, StillComes-refl, StillComes-skip, not_read-whole_feed}
use Rattle.cube_feed.proofs.FeedLaws.{item-Gives, none-Gives}
use Rattle.cube_feed.proofs.feed.take_item.Goals as goal

pub loop-before-init : goal.loop-before-init
loop-before-init g c = (
  omega arith,
  refl,
  StillComes-refl (after_header c.args.schema.now c.args.rows.now.columns c.args.number c.args.rows.now.text.left),
  λ whole. refl,
)

pub returns-then-not-branch-clause-gives : goal.returns-then-not-branch-clause-gives
returns-then-not-branch-clause-gives g c =
    let s = c.args.schema.now in
    let columns = c.args.rows.now.columns in
    let left = c.loop-before.rows.text.left in
    let new = after_header s columns c.args.number c.take_record.new.text.left in
    rw c.loop-before.invariant.1
    (StillComes-Gives (after_header s columns c.args.number c.args.rows.now.text.left)
    (after_header s columns c.loop-before.before left)
    new (Ok None) c.loop-before.invariant.2
    (none-Gives s columns c.loop-before.before left c.take_record.new.text new
    (rw c.if-not-branch.true at c.in_ok-take_record.ensures)))

pub returns-then-is_read_at-clause-gives : goal.returns-then-is_read_at-clause-gives
returns-then-is_read_at-clause-gives g c =
    let s = c.args.schema.now in
    let columns = c.args.rows.now.columns in
    let before = c.loop-before.before in
    let left = c.loop-before.rows.text.left in
    let item = c.in_ok-item_of.field-0 in
    let same = c.loop-before.invariant.1 in
    let below : before < s.max_records = search rules in
    let read = rw (c.fields.ensures, same) at (sym c.is_read_at.ensures ∙ c.if-is_read_at.true) in
    rw (c.in_ok-item_of.ensures.kept.0, c.in_ok-item_of.ensures.kept.1, same)
    (StillComes-Gives (after_header s columns c.args.number c.args.rows.now.text.left)
    (after_header s columns before left)
    (after_header s columns item.number c.take_record.new.text.left) (Ok (Some item)) c.loop-before.invariant.2
    (item-Gives s columns before left c.take_record.new.text item below
    (rw c.if-not-branch.false at c.in_ok-take_record.ensures) read
    c.in_ok-item_of.ensures.number (rw same at c.in_ok-item_of.ensures.what)))

pub returns-then-is_read_at-clause-taken : goal.returns-then-is_read_at-clause-taken
returns-then-is_read_at-clause-taken g c =
    let s = c.args.schema.now in
    let number = c.loop-before.before + 1 in
    rw c.in_ok-item_of.ensures.what
    (takes-change_of s (plain_of s c.loop-before.rows.columns number c.take_record.new.text.fields))

pub loop-before-preserved : goal.loop-before-preserved
loop-before-preserved g c =
    let s = c.args.schema.now in
    let columns = c.args.rows.now.columns in
    let before = c.loop-before.before in
    let same = c.loop-before.invariant.1 in
    let below : before < s.max_records = search rules in
    let other = rw (c.fields.ensures, same) at (sym c.is_read_at.ensures ∙ c.if-is_read_at.false) in (
      omega arith,
      same,
      StillComes-skip s columns before (after_header s columns c.args.number c.args.rows.now.text.left)
          c.loop-before.rows.text.left c.take_record.new.text below
          (rw c.if-not-branch.false at c.in_ok-take_record.ensures) other c.loop-before.invariant.2,
      λ whole. absurd (not_read-whole_feed s
          (plain_of s columns (before + 1) c.take_record.new.text.fields) whole other),
    )

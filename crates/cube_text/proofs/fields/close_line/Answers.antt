use Rattle.std.proofs.Common.{arith}
use Rattle.std.proofs.lemmas.Result.{on_ok_weaker}
use Rattle.cube_text.proofs.FieldLaws.{EndsLine-some, line-blank}
use Rattle.cube_text.proofs.fields.close_line.Goals as goal

pub returns-then-len-start-gt1 : goal.returns-then-len-start-gt1
returns-then-len-start-gt1 c =
    let old = c.args.text.now.items in
    on_ok_weaker c.end_line.result
    (λ ends before fields long is. EndsLine-some before fields c.args.start old c.end_line.new.text.items long
    (omega (arith, c.if-len-start-gt1.true, c.len.ensures)) is ends)
    c.end_line.ensures

pub returns : goal.returns
returns c before fields long is =
    line-blank before fields c.args.start c.args.text.now.items c.truncate.new.self.items
    c.extend_from_slice.new.self.items long (omega (arith, c.if-len-start-gt1.false, c.len.ensures)) is
    c.truncate.ensures.items c.in_ok-extend_from_slice.ensures.items

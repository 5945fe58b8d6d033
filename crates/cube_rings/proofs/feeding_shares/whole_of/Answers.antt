use Rattle.std.proofs.lemmas.Result.{IfOk-weaker}
use Rattle.cube_rings.proofs.feeding_shares.whole_of.Goals as goal

pub returns : goal.returns
returns g c =
    IfOk-weaker c.only.result _ _
    (λ wholes one. record { whole = c.in_ok-put_together.field-0; one = one; is = c.in_ok-put_together.ensures })
    c.only.ensures

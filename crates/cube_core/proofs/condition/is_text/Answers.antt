use Rattle.std.proofs.Common.{◌∙◌, ap, List, ℕ}
use Rattle.std.specs.Ordering.{eq_by_cmp}
use Rattle.std.specs.Cmp.Lexicographic.{texts_ties}
use Rattle.cube_core.specs.Conditions.{text_cmp}
use Rattle.cube_core.proofs.condition.is_text.Goals as goal

pub returns-in-Some-Some : goal.returns-in-Some-Some
returns-in-Some-Some c = let text = c.in-Some-Some.text.now in
    rw (c.in-Some-Some.is-0, c.in-Some-Some.is-1)
    (c.eq.ensures ∙ texts_ties text c.as_str.result.now
    ∙ ap (λ (value : List ℕ). eq_by_cmp text_cmp text value) c.as_str.ensures.value)

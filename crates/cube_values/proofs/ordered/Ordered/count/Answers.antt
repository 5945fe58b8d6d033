use Rattle.std.proofs.Common.{ℤ, List, ◌≡◌, length, arith, rules}
use Rattle.cube_values.proofs.OrderedLaws.{size_of-listed}
use Rattle.cube_values.proofs.ordered.Ordered.count.Goals as goal

pub overflow_sub-result : goal.overflow_sub-result
overflow_sub-result c =
    let all : List ℤ = c.self.inside.numbers.items in
    let owed : List ℤ = c.self.inside.taken.items in
    let numbers : c.len.result ≡ length all = search rules in
    let taken : c.len-2.result ≡ length owed = search rules in
    omega (arith, numbers, taken, size_of-listed c.self.inside.trace.bag all owed c.self.invariant.same)

pub returns : goal.returns
returns c =
    let all : List ℤ = c.self.inside.numbers.items in
    let owed : List ℤ = c.self.inside.taken.items in
    let numbers : c.len.result ≡ length all = search rules in
    let taken : c.len-2.result ≡ length owed = search rules in
    rw (← c.self.view_is)
    (omega (arith, numbers, taken, size_of-listed c.self.inside.trace.bag all owed c.self.invariant.same))

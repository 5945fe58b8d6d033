use Rattle.cube_core.proofs.WideLaws.{product_in_halves}
use Rattle.cube_core.proofs.wide.Wide.product.Goals as goal

pub returns : goal.returns
returns c = product_in_halves 18446744073709551616 c.args.left c.args.right

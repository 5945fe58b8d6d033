use Rattle.std.proofs.Common.{refl}
use Rattle.cube_core.proofs.KeyOrderLaws.{key_cmp-IsTotalOrder}
use Rattle.cube_laws.proofs.OrderLaws.{key_cmp-byte, key_cmp-front, key_cmp-first}
use Rattle.cube_laws.proofs.order.texts_come_before_null_and_null_before_all.Goals as goal

pub returns : goal.returns
returns c = record {
  text_before_null = λ name coords others. refl;
  text_before_all = λ name coords others. refl;
  null_before_all = λ coords others. refl;
  by_bytes = key_cmp-byte;
  front_first = key_cmp-front;
  next_decides = key_cmp-first;
  turned = key_cmp-IsTotalOrder.antisymm;
}

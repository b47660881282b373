use Rattle.reiser_items.proofs.Imports.{length, ap, arith}
use Rattle.reiser_items.proofs.Lists.{pointers_length}
use Rattle.reiser_items.proofs.pointers.Pointers.get.Goals as goal

pub overflow_mul-i : goal.overflow_mul-i
overflow_mul-i c = omega (arith, c.requires, pointers_length c.self.inside.body.now, ap length c.self.view_is)

pub u32_at-requires : goal.u32_at-requires
u32_at-requires c = omega (arith, c.requires, pointers_length c.self.inside.body.now, ap length c.self.view_is)

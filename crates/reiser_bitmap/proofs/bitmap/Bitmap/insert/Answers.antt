use Rattle.reiser_bitmap.proofs.Imports.{◌<◌, ◌/◌, true, length, set, ◌∙◌, ap, arith, length-set}
use Rattle.reiser_bitmap.proofs.BitLemmas.{length-bits, bits-set, read, tail-set}
use Rattle.reiser_bitmap.proofs.bitmap.Bitmap.insert.Goals as goal

pub index_mut-requires : goal.index_mut-requires
index_mut-requires c = omega (arith, length-bits c.self.inside.blocks c.self.inside.bytes.items, ap length c.self.view_is, c.self.invariant.room)

pub invariant_of-self : goal.invariant_of-self
invariant_of-self c =
    let within : c.args.b < c.self.inside.blocks = omega (arith, length-bits c.self.inside.blocks c.self.inside.bytes.items, ap length c.self.view_is) in
    let room : c.args.b / 8 < length c.self.inside.bytes.items = omega (arith, c.self.invariant.room) in
    let was = read c.self.inside.bytes.items (c.args.b / 8) c.index_mut.result.now room c.index_mut.ensures.value in
    record {
      room = rw length-set c.self.invariant.room;
      tail = tail-set c.self.inside.blocks c.self.inside.bytes.items c.args.b c.index_mut.result.now within c.self.invariant.room was c.self.invariant.tail;
      small = c.self.invariant.small;
    }

pub returns : goal.returns
returns c =
    let within : c.args.b < c.self.inside.blocks = omega (arith, length-bits c.self.inside.blocks c.self.inside.bytes.items, ap length c.self.view_is) in
    let room : c.args.b / 8 < length c.self.inside.bytes.items = omega (arith, c.self.invariant.room) in
    bits-set c.self.inside.blocks c.self.inside.bytes.items c.args.b c.index_mut.result.now within c.self.invariant.room (read c.self.inside.bytes.items (c.args.b / 8) c.index_mut.result.now room c.index_mut.ensures.value) ∙ ap (λ s. set s c.args.b true) c.self.view_is

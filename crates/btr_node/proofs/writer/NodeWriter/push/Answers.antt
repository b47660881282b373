use Rattle.btr_node.proofs.Imports.{◌≡◌, ◌≤◌, ◌+◌, ◌-◌, ◌++◌, ◌∷◌, [], length, ap, ◌∙◌, arith, HEADER_SIZE, ITEM_SIZE, key_layout, contents, room, keys_of, ascends, Ascends, held, stored_items, stored_children}
use Rattle.btr_node.proofs.Holding.{room_of, push_steps, with_item, length-stored_items}
use Rattle.btr_node.proofs.Spelled.{key_spelled}
use Rattle.btr_node.proofs.writer.NodeWriter.push.Goals as goal

pub add_item-requires-clause-heads : goal.add_item-requires-clause-heads
add_item-requires-clause-heads c =
    let known = room_of c.self.inside.buffer.items c.self.inside.low c.self.inside.started c.self.inside.want c.self.inside.chunk_tree c.self.inside.items c.self.inside.children c.self.invariant in
    omega (arith, known.room_is, ap room c.self.view_is, c.room.ensures, c.if-room-body.false)

pub add_item-requires-clause-placed : goal.add_item-requires-clause-placed
add_item-requires-clause-placed c =
    let known = room_of c.self.inside.buffer.items c.self.inside.low c.self.inside.started c.self.inside.want c.self.inside.chunk_tree c.self.inside.items c.self.inside.children c.self.invariant in
    known.low_within

pub add_item-requires-clause-small : goal.add_item-requires-clause-small
add_item-requires-clause-small c =
    let known = room_of c.self.inside.buffer.items c.self.inside.low c.self.inside.started c.self.inside.want c.self.inside.chunk_tree c.self.inside.items c.self.inside.children c.self.invariant in
    known.small

pub overflow_add-self : goal.overflow_add-self
overflow_add-self c =
    let known = room_of c.self.inside.buffer.items c.self.inside.low c.self.inside.started c.self.inside.want c.self.inside.chunk_tree c.self.inside.items c.self.inside.children c.self.invariant in
    omega (arith, known.entries, known.low_within, known.small)

pub overflow_sub-self : goal.overflow_sub-self
overflow_sub-self c =
    let known = room_of c.self.inside.buffer.items c.self.inside.low c.self.inside.started c.self.inside.want c.self.inside.chunk_tree c.self.inside.items c.self.inside.children c.self.invariant in
    omega (arith, known.room_is, ap room c.self.view_is, c.room.ensures, c.if-room-body.false)

pub invariant_of-self : goal.invariant_of-self
invariant_of-self c =
    let pushed =
    let draft_is = c.self.view_is in
    let known = room_of c.self.inside.buffer.items c.self.inside.low c.self.inside.started c.self.inside.want c.self.inside.chunk_tree c.self.inside.items c.self.inside.children c.self.invariant in
    let fits : ITEM_SIZE + length c.args.body.now ≤ room (held c.self.inside.buffer.items c.self.inside.started c.self.inside.want c.self.inside.chunk_tree c.self.inside.items c.self.inside.children) =
    omega (arith, c.if-room-body.false, c.room.ensures, ap room draft_is) in
    let spelled : key_layout.fits c.args.key = key_spelled c.args.key (omega arith) (omega arith) (omega arith) in
    let leaf : c.self.inside.want.level ≡ 0 = ap (λ d. d.want.level) draft_is ∙ c.requires.leaf in
    let order : Ascends (keys_of (stored_items c.self.inside.buffer.items c.self.inside.items) ++ c.args.key ∷ []) =
    ap (λ d. ascends (keys_of d.items ++ c.args.key ∷ [])) draft_is ∙ c.requires.order in
    let none : stored_children c.self.inside.buffer.items c.self.inside.children ≡ [] = c.self.invariant.right.leaf leaf in
    let filled = c.self.invariant.filled ∙ ap (λ cs. contents (length c.self.inside.buffer.items - HEADER_SIZE) (stored_items c.self.inside.buffer.items c.self.inside.items) cs) none in
    let written = c.add_item.ensures.item (stored_items c.self.inside.buffer.items c.self.inside.items) (length-stored_items c.self.inside.buffer.items c.self.inside.items) c.self.invariant.placed filled in
    push_steps c.self.inside.buffer.items c.add_item.new.buffer.items c.self.inside.low c.self.inside.started c.self.inside.want c.self.inside.chunk_tree c.self.inside.items c.self.inside.children c.args.key c.args.body.now
    c.self.invariant leaf fits spelled order c.add_item.ensures.size written in
    pushed.holds

pub returns-clause-ok : goal.returns-clause-ok
returns-clause-ok c =
    let pushed =
    let draft_is = c.self.view_is in
    let known = room_of c.self.inside.buffer.items c.self.inside.low c.self.inside.started c.self.inside.want c.self.inside.chunk_tree c.self.inside.items c.self.inside.children c.self.invariant in
    let fits : ITEM_SIZE + length c.args.body.now ≤ room (held c.self.inside.buffer.items c.self.inside.started c.self.inside.want c.self.inside.chunk_tree c.self.inside.items c.self.inside.children) =
    omega (arith, c.if-room-body.false, c.room.ensures, ap room draft_is) in
    let spelled : key_layout.fits c.args.key = key_spelled c.args.key (omega arith) (omega arith) (omega arith) in
    let leaf : c.self.inside.want.level ≡ 0 = ap (λ d. d.want.level) draft_is ∙ c.requires.leaf in
    let order : Ascends (keys_of (stored_items c.self.inside.buffer.items c.self.inside.items) ++ c.args.key ∷ []) =
    ap (λ d. ascends (keys_of d.items ++ c.args.key ∷ [])) draft_is ∙ c.requires.order in
    let none : stored_children c.self.inside.buffer.items c.self.inside.children ≡ [] = c.self.invariant.right.leaf leaf in
    let filled = c.self.invariant.filled ∙ ap (λ cs. contents (length c.self.inside.buffer.items - HEADER_SIZE) (stored_items c.self.inside.buffer.items c.self.inside.items) cs) none in
    let written = c.add_item.ensures.item (stored_items c.self.inside.buffer.items c.self.inside.items) (length-stored_items c.self.inside.buffer.items c.self.inside.items) c.self.invariant.placed filled in
    push_steps c.self.inside.buffer.items c.add_item.new.buffer.items c.self.inside.low c.self.inside.started c.self.inside.want c.self.inside.chunk_tree c.self.inside.items c.self.inside.children c.args.key c.args.body.now
    c.self.invariant leaf fits spelled order c.add_item.ensures.size written in
    pushed.is ∙ ap (λ d. with_item d c.args.key c.args.body.now) c.self.view_is

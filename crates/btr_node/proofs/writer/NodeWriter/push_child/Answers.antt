use Rattle.btr_node.proofs.Imports.{◌≡◌, ◌≤◌, ◌-◌, ◌++◌, ◌∷◌, [], length, ap, ◌∙◌, arith, HEADER_SIZE, KEY_PTR_SIZE, contents, room, child_layout, first_keys, ascends, Ascends, held, stored_items, stored_children}
use Rattle.btr_node.proofs.Holding.{room_of, push_child_steps, with_child, length-stored_children}
use Rattle.btr_node.proofs.Spelled.{key_spelled, child_spelled}
use Rattle.btr_node.proofs.writer.NodeWriter.push_child.Goals as goal

pub add_child-requires : goal.add_child-requires
add_child-requires c =
    let known = room_of c.self.inside.buffer.items c.self.inside.low c.self.inside.started c.self.inside.want c.self.inside.chunk_tree c.self.inside.items c.self.inside.children c.self.invariant in
    omega (arith, known.room_is, known.entries, known.low_within, ap room c.self.view_is, c.room.ensures, c.if-room-lt-SIZE.false)

pub overflow_add-self : goal.overflow_add-self
overflow_add-self c =
    let known = room_of c.self.inside.buffer.items c.self.inside.low c.self.inside.started c.self.inside.want c.self.inside.chunk_tree c.self.inside.items c.self.inside.children c.self.invariant in
    omega (arith, known.entries, known.low_within, known.small)

pub invariant_of-self : goal.invariant_of-self
invariant_of-self c =
    let pushed =
    let draft_is = c.self.view_is in
    let fits : KEY_PTR_SIZE ≤ room (held c.self.inside.buffer.items c.self.inside.started c.self.inside.want c.self.inside.chunk_tree c.self.inside.items c.self.inside.children) =
    omega (arith, c.if-room-lt-SIZE.false, c.room.ensures, ap room draft_is) in
    let spelled : child_layout.fits c.args.child =
    child_spelled c.args.child (key_spelled c.args.child.key (omega arith) (omega arith) (omega arith)) (omega arith) (omega arith) in
    let inner : 1 ≤ c.self.inside.want.level = omega (arith, ap (λ d. d.want.level) draft_is, c.requires.inner) in
    let order : Ascends (first_keys (stored_children c.self.inside.buffer.items c.self.inside.children) ++ c.args.child.key ∷ []) =
    ap (λ d. ascends (first_keys d.children ++ c.args.child.key ∷ [])) draft_is ∙ c.requires.order in
    let none : stored_items c.self.inside.buffer.items c.self.inside.items ≡ [] = c.self.invariant.right.inner inner in
    let filled = c.self.invariant.filled ∙ ap (λ is. contents (length c.self.inside.buffer.items - HEADER_SIZE) is (stored_children c.self.inside.buffer.items c.self.inside.children)) none in
    let written = c.add_child.ensures.link (stored_children c.self.inside.buffer.items c.self.inside.children) (length-stored_children c.self.inside.buffer.items c.self.inside.children) filled in
    push_child_steps c.self.inside.buffer.items c.add_child.new.buffer.items c.self.inside.low c.self.inside.started c.self.inside.want c.self.inside.chunk_tree c.self.inside.items c.self.inside.children c.args.child
    c.self.invariant inner fits spelled order c.add_child.ensures.size written in
    pushed.holds

pub returns-clause-ok : goal.returns-clause-ok
returns-clause-ok c =
    let pushed =
    let draft_is = c.self.view_is in
    let fits : KEY_PTR_SIZE ≤ room (held c.self.inside.buffer.items c.self.inside.started c.self.inside.want c.self.inside.chunk_tree c.self.inside.items c.self.inside.children) =
    omega (arith, c.if-room-lt-SIZE.false, c.room.ensures, ap room draft_is) in
    let spelled : child_layout.fits c.args.child =
    child_spelled c.args.child (key_spelled c.args.child.key (omega arith) (omega arith) (omega arith)) (omega arith) (omega arith) in
    let inner : 1 ≤ c.self.inside.want.level = omega (arith, ap (λ d. d.want.level) draft_is, c.requires.inner) in
    let order : Ascends (first_keys (stored_children c.self.inside.buffer.items c.self.inside.children) ++ c.args.child.key ∷ []) =
    ap (λ d. ascends (first_keys d.children ++ c.args.child.key ∷ [])) draft_is ∙ c.requires.order in
    let none : stored_items c.self.inside.buffer.items c.self.inside.items ≡ [] = c.self.invariant.right.inner inner in
    let filled = c.self.invariant.filled ∙ ap (λ is. contents (length c.self.inside.buffer.items - HEADER_SIZE) is (stored_children c.self.inside.buffer.items c.self.inside.children)) none in
    let written = c.add_child.ensures.link (stored_children c.self.inside.buffer.items c.self.inside.children) (length-stored_children c.self.inside.buffer.items c.self.inside.children) filled in
    push_child_steps c.self.inside.buffer.items c.add_child.new.buffer.items c.self.inside.low c.self.inside.started c.self.inside.want c.self.inside.chunk_tree c.self.inside.items c.self.inside.children c.args.child
    c.self.invariant inner fits spelled order c.add_child.ensures.size written in
    pushed.is ∙ ap (λ d. with_child d c.args.child) c.self.view_is

use Rattle.reiser_make.proofs.Imports.{◌≡◌, ◌-◌, ◌++◌, ℕ, List, length, take, drop, ap, ◌∙◌, arith, length-take, length-append, leaf_bytes, leaf_contents, node_head, node_room, items_behind, SampleItem}
use Rattle.reiser_make.proofs.Placing.{node_is}
use Rattle.reiser_make.proofs.sample.Sample.put_leaf_bytes.Goals as goal

pub returns : goal.returns
unfolding leaf_bytes
returns c =
    let all : List SampleItem = items_behind c.args.self.now c.args.at in
    let mine : List SampleItem = take c.args.leaf.now.count all in
    let head : List ℕ = c.put_node_head.new.into in
    let post : List ℕ = drop 24 c.args.into.now in
    let long : length head ≡ 24 = ap length c.put_node_head.ensures in
    node_is (length (head ++ post) - 24) head post c.put_items.new.behind long (omega (arith, length-append head post, long))
    ∙ ap (λ z. z ++ c.put_items.new.behind) c.put_node_head.ensures
    ∙ ap (λ z. node_head 1 c.args.leaf.now.count (node_room - c.args.leaf.now.used) ++ z) c.put_items.ensures
    ∙ ap (λ n. node_head 1 n (node_room - c.args.leaf.now.used) ++ leaf_contents c.args.self.now mine) (let counted : c.args.leaf.now.count ≡ length mine = omega (arith, length-take c.args.leaf.now.count all, c.requires.packed.is.0.count) in counted)
    ∙ ap (λ n. node_head 1 (length mine) (node_room - n) ++ leaf_contents c.args.self.now mine) c.requires.packed.is.0.used

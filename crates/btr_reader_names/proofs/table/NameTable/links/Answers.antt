use Rattle.btr_reader_names.proofs.Imports.{◌<◌, ◌≤◌, ◌∙◌, ◌++◌, ◌∷◌, [], if◌then◌else◌, List, length, get_or, map, filter, sym, ap, arith, take_all, contains, same_node, NodeLink, DirIndex, is_link, link_of}
use Rattle.btr_reader_names.proofs.Members.{map_kept}
use Rattle.btr_reader_names.proofs.table.NameTable.links.Goals as goal

pub loop-naming-preserved : goal.loop-naming-preserved
loop-naming-preserved c =
    let all : List DirIndex = c.args.self.now.namings.items in
    let within : c.loop-naming.naming-index < length all = omega (arith, c.loop-naming-test.true, ap length c.deref-naming-items.ensures.value) in
    let at = c.naming-item.is ∙ ap (λ (l : List DirIndex). get_or l c.loop-naming.naming-index c.naming-item.result) c.deref-naming-items.ensures.value in
    c.in_ok-add_link.ensures
    ∙ (ap (λ (l : List NodeLink). l ++ (if is_link c.args.self.now (contains same_node c.args.named.now) c.naming-item.result then link_of c.naming-item.result ∷ [] else [])) c.loop-naming.invariant
    ∙ sym (map_kept link_of (is_link c.args.self.now (contains same_node c.args.named.now)) all c.loop-naming.naming-index c.naming-item.result within at))

pub returns : goal.returns
returns c =
    let all : List DirIndex = c.args.self.now.namings.items in
    let past : length all ≤ c.loop-naming.naming-index = omega (arith, c.loop-naming-test.false, ap length c.deref-naming-items.ensures.value) in
    c.loop-naming.invariant ∙ ap (λ (l : List DirIndex). map link_of (filter (is_link c.args.self.now (contains same_node c.args.named.now)) l)) (take_all c.loop-naming.naming-index all past)

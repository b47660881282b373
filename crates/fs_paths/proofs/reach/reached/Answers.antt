use Rattle.fs_paths.proofs.Imports.{List, sym, subst, rules, answers_always, IfOk-weaker, contains, NodeLink, same_node, AreReached, AscendByDirectory}
use Rattle.fs_paths.proofs.Queues.{reached_sorted}
use Rattle.fs_paths.proofs.reach.reached.Goals as goal

pub reach_sorted-requires : goal.reach_sorted-requires
reach_sorted-requires c = subst AscendByDirectory (sym c.deref.ensures.value) (record { sorted = c.in_ok-sort_by_key.ensures.sorted (λ link. link.dir) (answers_always _ _ _ (λ f a r g h. search rules)) })

pub returns : goal.returns
returns c =
    let links : List NodeLink = c.args.links.items in
    IfOk-weaker c.reach_sorted.result _ _
    (λ set is. reached_sorted links c.sort_by_key.new.self.items c.args.root (contains same_node set) c.in_ok-sort_by_key.ensures.permutation (subst (λ (l : List NodeLink). AreReached l c.args.root (contains same_node set)) c.deref.ensures.value is))
    c.reach_sorted.ensures

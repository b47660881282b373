use Rattle.convert_trees.proofs.Imports.{◌∙◌, ◌+◌, ◌<◌, List, length, count_by, sym, ap, arith, keys, root, same_key, links_in}
use Rattle.std.proofs.Common.{take_all}
use Rattle.reiser_volume.specs.reiser_volume_objects.declared.naming.Naming.{Naming}
use Rattle.convert_trees.proofs.Indexing.{counted_no, counted_yes}
use Rattle.convert_trees.proofs.roots.saved_index.Goals as goal
use Rattle.convert_trees.proofs.roots.saved_index.Goals.{then-is_root, else-is_root}

pub loop-i-preserved : goal.loop-i-preserved
loop-i-preserved c =
    let inside : c.loop-i.i < length (links_in c.args.volume.now) = omega (arith, c.loop-i-test.true, c.link_count-i-end.ensures.exact, c.loop-i.auto.i-end) in
    elim c.if-is_root.branch [
      | then-is_root w ↦ record {
        few = omega (arith, w.index-is, c.loop-i.invariant.few);
        counted = λ image opened.
            counted_yes (λ (n : Naming). same_key n.dir root) (links_in c.args.volume.now) c.loop-i.i c.loop-i.index c.if-is_root.index inside
            (λ n there. sym (c.is_root.ensures (keys c.args.volume.now.named) n.dir (c.new-numbers.ensures.numbered image opened) (c.link.ensures.ends image opened n there).0) ∙ w.if-is_root.true) w.index-is (c.loop-i.invariant.counted image opened);
      }
      | else-is_root w ↦ record {
        few = omega (arith, w.index-is, c.loop-i.invariant.few);
        counted = λ image opened.
            counted_no (λ (n : Naming). same_key n.dir root) (links_in c.args.volume.now) c.loop-i.i c.loop-i.index c.if-is_root.index inside
            (λ n there. sym (c.is_root.ensures (keys c.args.volume.now.named) n.dir (c.new-numbers.ensures.numbered image opened) (c.link.ensures.ends image opened n there).0) ∙ w.if-is_root.false) w.index-is (c.loop-i.invariant.counted image opened);
      }
    ]

pub returns : goal.returns
returns c = λ image opened.
    c.loop-i.invariant.counted image opened
    ∙ ap (λ (ns : List Naming). 2 + count_by (λ (n : Naming). same_key n.dir root) ns)
    (take_all c.loop-i.i (links_in c.args.volume.now) (omega (arith, c.loop-i-test.false, c.link_count-i-end.ensures.exact)))

use Rattle.file_items.proofs.Imports.{◌++◌, ◌∙◌, List, ap, sym, on_ok_weaker, Item, keys, links_in}
use Rattle.file_items.proofs.Named.{name_items_root, name_items_other}
use Rattle.file_items.proofs.files.FileTree.add_names.Goals as goal

pub returns-then-is_root-clause-names : goal.returns-then-is_root-clause-names
returns-then-is_root-clause-names c = λ s image known keys_are links_are key at.
    let is_root = sym (c.is_root.ensures (keys c.args.volume.now.named) key known.numbers_are at) ∙ c.if-is_root.true in
    on_ok_weaker c.add_root_ref.result (λ is. is ∙ ap (λ (l : List Item). c.args.items.now ++ l) (sym (name_items_root s key is_root))) c.add_root_ref.ensures

pub returns-else-is_root-clause-names : goal.returns-else-is_root-clause-names
returns-else-is_root-clause-names c = λ s image known keys_are links_are key at.
    let other = sym (c.is_root.ensures (keys c.args.volume.now.named) key known.numbers_are at) ∙ c.if-is_root.false in
    on_ok_weaker c.add_items.result (λ is. is ∙ ap (λ (l : List Item). c.args.items.now ++ l) (sym (name_items_other s key (keys c.args.volume.now.named) (links_in c.args.volume.now) other keys_are links_are)))
    (c.add_items.ensures image known key at)

use Rattle.btr_reader.proofs.Imports.{◌≡◌, ℕ, Bool, nat_eq, List, map, take, Image, MapRange, TreeItem, row_of, get, contains, same_node, IsReadTree, made_row}
use Rattle.btr_reader.proofs.rows.rows_of.Given as goal

abbrev pub invariant-loop-i : goal.invariant-loop-i
invariant-loop-i l = (image : Image) (ranges : List MapRange) (items : List TreeItem) (root : ℕ) (has_root : ℕ → Bool)
    → IsReadTree l.names (contains same_node l.named) (λ ino. get nat_eq l.contents.known ino) image ranges items root has_root → l.rows ≡ map (λ p. row_of (made_row image ranges items l.paths.items p)) (take l.i l.paths.items)

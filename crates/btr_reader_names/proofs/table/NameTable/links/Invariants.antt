use Rattle.btr_reader_names.proofs.Imports.{◌≡◌, map, filter, take, contains, same_node, is_link, link_of}
use Rattle.btr_reader_names.proofs.table.NameTable.links.Given as goal

abbrev pub invariant-loop-naming : goal.invariant-loop-naming
invariant-loop-naming l = l.links.items ≡ map link_of (filter (is_link l.self (contains same_node l.named)) (take l.naming-index l.self.namings.items))

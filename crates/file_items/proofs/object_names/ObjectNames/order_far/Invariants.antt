use Rattle.file_items.proofs.Imports.{◌≡◌, map, take, INODE_EXTREF, make_key, ascending, offset_of}
use Rattle.file_items.proofs.object_names.ObjectNames.order_far.Given as goal

abbrev pub invariant-loop-i : goal.invariant-loop-i
invariant-loop-i l = record {
  refs : l.self.refs ≡ l.fn.self.refs;
  far : l.self.far ≡ ascending offset_of l.fn.self.far;
  extrefs : l.self.extrefs ≡ map (λ i. (make_key l.ino INODE_EXTREF i.0.objectid, i.1)) (take l.i (ascending offset_of l.fn.self.far));
}

use Rattle.extent_pieces.proofs.Imports.{◌≡◌, ◌++◌, ◌-◌, ◌≤◌, tails_from}
use Rattle.extent_pieces.proofs.parts.FileParts.add_tails.Given as goal

abbrev pub invariant-loop-k : goal.invariant-loop-k
invariant-loop-k l = record {
  low : l.at ≤ l.k;
  owned : l.self.owned.items ≡ l.fn.self.owned.items;
  tails : l.self.tails.items ≡ l.fn.self.tails.items ++ tails_from l.inode l.at (l.k - l.at);
  inlines : l.self.inlines ≡ l.fn.self.inlines;
  bytes : l.self.inline_bytes ≡ l.fn.self.inline_bytes;
}

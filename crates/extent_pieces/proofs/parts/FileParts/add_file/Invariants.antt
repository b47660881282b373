use Rattle.extent_pieces.proofs.Imports.{◌≡◌, ◌++◌, ◌+◌, ◌<◌, ◌^◌, take, All, flat_map, owned_in, tails_in}
use Rattle.extent_pieces.proofs.parts.FileParts.add_file.Given as goal

abbrev pub invariant-loop-j : goal.invariant-loop-j
invariant-loop-j l = All (λ r. r.at + r.count < 2 ^ 64) l.map → record {
  owned : l.self.owned.items ≡ l.fn.self.owned.items ++ flat_map (owned_in l.inode) (take l.j l.map);
  tails : l.self.tails.items ≡ l.fn.self.tails.items ++ flat_map (tails_in l.inode) (take l.j l.map);
  inlines : l.self.inlines ≡ l.fn.self.inlines;
  bytes : l.self.inline_bytes ≡ l.fn.self.inline_bytes;
}

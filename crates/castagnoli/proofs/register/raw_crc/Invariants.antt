use Rattle.castagnoli.proofs.Imports.{◌≡◌, ℕ, ◌+◌, ◌-◌, ◌≤◌, length, take, raw_crc}
use Rattle.castagnoli.proofs.register.raw_crc.Given as goal

abbrev pub invariant-words : goal.invariant-words
invariant-words l = record {
  inside : l.at ≤ length l.bytes;
  register : l.register ≡ raw_crc l.start (take l.at l.bytes);
}

abbrev pub decreases-words : goal.decreases-words
decreases-words l = length l.bytes - l.at

abbrev pub invariant-loop-byte : goal.invariant-loop-byte
invariant-loop-byte l = l.register ≡ raw_crc l.start (take (l.at + l.byte-index) l.bytes)

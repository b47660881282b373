-- The names of a tree by their hashes.
use Rattle.std.specs.Prelude.{◌≡◌, ℕ, ◌+◌, ◌==◌, Bool, List, [], ◌∷◌}
use Rattle.std.specs.List.Sorted.{IsSortedByKey}
use Rattle.std.specs.Ordering.{nat_cmp}
use Rattle.castagnoli.specs.Castagnoli.{extref_hash}
use Rattle.btr_check_rules.specs.Names.{IndexEntry}
use Rattle.btr_check_names.specs.declared.hashes.HashAt.{HashAt}

abbrev pub has_hash : ℕ → HashAt → Bool
has_hash hash k = k.hash == hash

abbrev pub AscendByHash : List HashAt → Type 0
AscendByHash keys = IsSortedByKey (λ k. k.hash) nat_cmp keys

-- the hash of an entry's name in its directory, and its number
abbrev pub hash_at : ℕ → IndexEntry → HashAt
hash_at number e = record { hash = extref_hash e.entry.dir e.entry.name; number = number }

-- those of entries whose numbers count up from n
abbrev pub hashes_from : ℕ → List IndexEntry → List HashAt
hashes_from n [] = []
hashes_from n (e ∷ entries) = hash_at n e ∷ hashes_from (n + 1) entries

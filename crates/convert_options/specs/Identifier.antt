-- The identifier of a file system.
use Rattle.std.specs.Prelude.{ℕ, Bool, List, bytes_eq, replicate}

-- the nil UUID of RFC 9562, sixteen zero bytes, which names nothing
abbrev pub is_nil : List ℕ → Bool
is_nil id = bytes_eq id (replicate 16 0)

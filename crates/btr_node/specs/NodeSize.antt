-- The sizes of nodes, in bytes.
use Rattle.std.specs.Prelude.{◌≡◌, ◌⊎◌, ℕ}

abbrev pub IsNodeSize : ℕ → Type 0
IsNodeSize n = (n ≡ 4096) ⊎ (n ≡ 8192) ⊎ (n ≡ 16384) ⊎ (n ≡ 32768) ⊎ (n ≡ 65536)

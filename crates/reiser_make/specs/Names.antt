-- Names in a sample, and where they stand in a directory.
use Rattle.std.specs.Prelude.{ℕ, zero, suc, ◌+◌, ◌*◌, ◌/◌, ◌%◌, ◌^◌, max, List, [], ◌∷◌, ◌++◌, codes, fold}

-- n decimal digits, the highest first
abbrev pub decimal : ℕ → ℕ → List ℕ
decimal zero x = []
decimal (suc n) x = (48 + x / 10 ^ n % 10) ∷ decimal n x

-- the name of directory k
unfoldable pub directory_name : ℕ → List ℕ
directory_name k = codes "d" ++ decimal 4 k

-- name i of the files
unfoldable pub file_name : ℕ → List ℕ
file_name i = codes "f" ++ decimal 5 i

-- the hash r5 of ReiserFS (`r5_hash` of Linux's fs/reiserfs/hashes.c), of a name whose bytes are below 128
abbrev pub r5_step : ℕ → ℕ → ℕ
r5_step a byte = (a + byte * 16 + byte / 16) * 11 % 2 ^ 32

unfoldable pub r5 : List ℕ → ℕ
r5 name = fold r5_step 0 name

-- Where a name stands: its hash without the highest bit and the low seven, which number equal hashes. The names of a sample
-- have hashes of their own, so their numbers are 0.
unfoldable pub entry_offset : List ℕ → ℕ
entry_offset name = max 128 (r5 name % 2 ^ 31 / 128 * 128)

-- Numbers that look random and are the same each time: the linear congruential generator of Knuth's MMIX, of 64 bits.
use Rattle.std.specs.Prelude.{ℕ, ◌+◌, ◌*◌, ◌/◌, ◌%◌, ◌^◌}

-- the state behind a state
unfoldable pub next_state : ℕ → ℕ
next_state state = (state * 6364136223846793005 + 1442695040888963407) % 2 ^ 64

-- the number below m that a state gives: by its high bits, since its low ones have short periods
unfoldable pub drawn : ℕ → ℕ → ℕ
drawn m state = state / 2 ^ 33 % m

-- Blocks of 4096 bytes, by their numbers: block n stands at the address 4096 * n.
use Rattle.std.specs.Prelude.{ℕ, ◌*◌, ◌^◌, nat_lt, Bool, ◌&&◌}
use Rattle.btr_check_rules.specs.Recount.{is_within}
use Rattle.btr_check_rules.specs.declared.span.Span.{Span}

-- the block stands at an address of 64 bits, which lies in a range
abbrev pub has_block : Span → ℕ → Bool
has_block span n = nat_lt n (2 ^ 52) && is_within span (4096 * n)

-- What is asked of chunks and device items, as tests.
use Rattle.std.specs.Prelude.{ℕ, ◌+◌, ◌-◌, ◌%◌, ◌^◌, ◌==◌, nat_eq, nat_le, Bool, true, not, ◌&&◌, ◌||◌, Option, Some, None}
use Rattle.std.specs.Cmp.Lexicographic.{pointwise}
use Rattle.btr_check_rules.specs.btr_reader.btr_space_items.declared.stripe.Stripe.{Stripe}
use Rattle.btr_check_rules.specs.btr_reader.btr_super.declared.superblock.Super.{Super}
use Rattle.btr_check_rules.specs.btr_reader.declared.chunk.ChunkAt.{ChunkAt}
use Rattle.btr_check_rules.specs.declared.span.Span.{Span}

-- a stripe of so many bytes is on the volume's device, and lies within its bytes
abbrev pub is_stripe : Super → ℕ → Stripe → Bool
is_stripe s length stripe =
    (stripe.devid == s.dev_item.devid)
    && (pointwise nat_eq stripe.device_uuid s.dev_item.uuid && ((stripe.offset % 4096 == 0) && nat_le (stripe.offset + length) s.total_bytes))

abbrev pub is_second : Super → ℕ → Option Stripe → Bool
is_second s length None = true
is_second s length (Some stripe) = is_stripe s length stripe

-- Linux takes a chunk
abbrev pub is_chunk : Super → ChunkAt → Bool
is_chunk s c =
    (c.chunk.sector_size == 4096)
    && ((c.chunk.stripe_len == 65536)
    && (not (c.chunk.length == 0)
    && ((c.logical % 4096 == 0)
    && ((c.chunk.length % 4096 == 0)
    && (nat_le (c.logical + c.chunk.length) (2 ^ 64 - 1) && (is_stripe s c.chunk.length c.chunk.stripe && is_second s c.chunk.length c.mirror))))))

-- two ranges have no byte in common
abbrev pub are_apart : Span → Span → Bool
are_apart a b = nat_le (a.start + a.length) b.start || nat_le (b.start + b.length) a.start

-- Bodies of chunks, as the Btrfs on-disk format documentation has them (struct btrfs_chunk).
use Rattle.std.specs.Prelude.{ℕ, ◌+◌, ◌*◌, ◌==◌, nat_lt, if◌then◌else◌, List, length, Option, Some, None}
use Rattle.btr_keys.specs.btrfs_format.declared.size.TheConstants.{CHUNK_HEAD_SIZE, STRIPE_SIZE}
use Rattle.btr_keys.specs.vol_block.Volume.{field}
use Rattle.btr_keys.specs.Layout.{Layout, made_by, ◌▸◌, u16, u32, u64, part, spelling}
use Rattle.btr_space_items.specs.Stripe.{stripe_layout}
use Rattle.btr_space_items.specs.declared.stripe.Stripe.{Stripe}
use Rattle.btr_space_items.specs.declared.chunk.Chunk.{Chunk}

abbrev pub make_chunk : ℕ → ℕ → ℕ → ℕ → ℕ → ℕ → ℕ → ℕ → ℕ → Stripe → Chunk
make_chunk length owner stripe_len kind io_align io_width sector_size num_stripes sub_stripes stripe =
    record {
      length = length;
      owner = owner;
      stripe_len = stripe_len;
      kind = kind;
      io_align = io_align;
      io_width = io_width;
      sector_size = sector_size;
      num_stripes = num_stripes;
      sub_stripes = sub_stripes;
      stripe = stripe;
    }

-- a chunk up to the end of its first stripe
unfoldable pub chunk_layout : Layout Chunk Chunk
chunk_layout =
    made_by make_chunk
    ▸ u64 (λ v. v.length)
    ▸ u64 (λ v. v.owner)
    ▸ u64 (λ v. v.stripe_len)
    ▸ u64 (λ v. v.kind)
    ▸ u32 (λ v. v.io_align)
    ▸ u32 (λ v. v.io_width)
    ▸ u32 (λ v. v.sector_size)
    ▸ u16 (λ v. v.num_stripes)
    ▸ u16 (λ v. v.sub_stripes)
    ▸ part stripe_layout (λ v. v.stripe)

-- the chunk that is the whole body: 48 bytes, and 32 for each stripe, of which there is at least one
abbrev pub chunk_of : List ℕ → Option Chunk
chunk_of body =
    if nat_lt (length body) 80 then None
    else (if length body == CHUNK_HEAD_SIZE + STRIPE_SIZE * field 2 body 44 then Some (chunk_layout.read body) else None)

-- the 80 bytes of a chunk of one stripe
abbrev pub chunk_bytes : Chunk → List ℕ
chunk_bytes chunk = spelling chunk_layout chunk

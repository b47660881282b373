-- Times, as the Btrfs on-disk format documentation has them (struct btrfs_timespec).
use Rattle.std.specs.Prelude.{ℕ, ℤ, List, drop, Option}
use Rattle.vol_block.specs.btrfs_format.declared.size.TheConstants.{TIMESPEC_SIZE}
use Rattle.btr_keys.specs.Layout.{Layout, LayoutField, made_by, ◌▸◌, i64, u32, part, whole, spelling}
use Rattle.btr_keys.specs.declared.stamp.Stamp.{Stamp}

abbrev pub make_stamp : ℤ → ℕ → Stamp
make_stamp sec nsec = record { sec = sec; nsec = nsec }

unfoldable pub stamp_layout : Layout Stamp Stamp
stamp_layout =
    made_by make_stamp
    ▸ i64 (λ t. t.sec)
    ▸ u32 (λ t. t.nsec)

-- the time in the 12 bytes from a place on
abbrev pub stamp_at : List ℕ → ℕ → Stamp
stamp_at bytes at = stamp_layout.read (drop at bytes)

-- the time that is the whole slice
abbrev pub stamp_of : List ℕ → Option Stamp
stamp_of bytes = whole TIMESPEC_SIZE stamp_layout bytes

-- the 12 bytes of a time
abbrev pub stamp_bytes : Stamp → List ℕ
stamp_bytes stamp = spelling stamp_layout stamp

-- a field that is a time
abbrev pub stamp : {R : Type 0} → (R → Stamp) → LayoutField R Stamp
stamp get = part stamp_layout get

-- Stripes of chunks, as the Btrfs on-disk format documentation has them (struct btrfs_stripe).
use Rattle.std.specs.Prelude.{ℕ, List, drop, Option}
use Rattle.btr_keys.specs.btrfs_format.declared.size.TheConstants.{STRIPE_SIZE}
use Rattle.btr_keys.specs.Layout.{Layout, made_by, ◌▸◌, u64, array, whole, spelling}
use Rattle.btr_space_items.specs.declared.stripe.Stripe.{Stripe}

abbrev pub make_stripe : ℕ → ℕ → List ℕ → Stripe
make_stripe devid offset device_uuid =
    record {
      devid = devid;
      offset = offset;
      device_uuid = device_uuid;
    }

unfoldable pub stripe_layout : Layout Stripe Stripe
stripe_layout =
    made_by make_stripe
    ▸ u64 (λ v. v.devid)
    ▸ u64 (λ v. v.offset)
    ▸ array 16 (λ v. v.device_uuid)

-- the value in the 32 bytes from a place on
abbrev pub stripe_at : List ℕ → ℕ → Stripe
stripe_at bytes at = stripe_layout.read (drop at bytes)

-- the value that is the whole body
abbrev pub stripe_of : List ℕ → Option Stripe
stripe_of body = whole STRIPE_SIZE stripe_layout body

-- the 32 bytes of a value
abbrev pub stripe_bytes : Stripe → List ℕ
stripe_bytes value = spelling stripe_layout value

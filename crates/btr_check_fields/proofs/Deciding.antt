-- The tests of chunks tell what is asked of them.
use Rattle.btr_check_fields.proofs.Imports.{◌≡◌, ℕ, ◌+◌, ◌-◌, ◌%◌, ◌^◌, ◌≤◌, ◌==◌, Bool, true, nat_eq, List, [], Option, Some, None, refl, arith, leb, Decides, Decides-and, Decides-eqb, Decides-like, Decides-not, nat_tests, Stripe, Super, ChunkAt, IsChunkOn, IsStripe, second_of, All-cons, All-head, All-nil, All-tail}
use Rattle.std.specs.Cmp.Lexicographic.{pointwise}
use Rattle.std.specs.List.{All}
use Rattle.std.proofs.lemmas.Slice.Eq.{slice_eq-Decides}
use Rattle.btr_check_fields.specs.Tests.{is_chunk, is_second, is_stripe}

pub decides_leb : (a b : ℕ) → Decides (leb a b) (a ≤ b)
decides_leb a b = grind (arith, nat_tests)

-- a test decides that it is true
pub itself : (b : Bool) → Decides b (b ≡ true)
itself b = ((λ is. is), (λ is. is))

pub decides_uuid : (a b : List ℕ) → Decides (pointwise nat_eq a b) (a ≡ b)
decides_uuid a b = slice_eq-Decides Decides-eqb a b (pointwise nat_eq a b) refl

abbrev StripeParts : Super → ℕ → Stripe → Type 0
StripeParts s length stripe = (stripe.devid ≡ s.dev_item.devid) × ((stripe.device_uuid ≡ s.dev_item.uuid) × ((stripe.offset % 4096 ≡ 0) × (stripe.offset + length ≤ s.total_bytes)))

stripe_from : (s : Super) (length : ℕ) (stripe : Stripe) → StripeParts s length stripe → IsStripe s length stripe
stripe_from s length stripe p = record { device = (p.0, p.1.0); start = p.1.1.0; inside = p.1.1.1 }

stripe_parts : (s : Super) (length : ℕ) (stripe : Stripe) → IsStripe s length stripe → StripeParts s length stripe
stripe_parts s length stripe is = (is.device.0, (is.device.1, (is.start, is.inside)))

pub decides_stripe : (s : Super) (length : ℕ) (stripe : Stripe) → Decides (is_stripe s length stripe) (IsStripe s length stripe)
decides_stripe s length stripe =
    Decides-like (is_stripe s length stripe) (stripe_from s length stripe) (stripe_parts s length stripe)
    (Decides-and _ _ (Decides-eqb stripe.devid s.dev_item.devid)
    (Decides-and _ _ (decides_uuid stripe.device_uuid s.dev_item.uuid)
    (Decides-and _ _ (Decides-eqb (stripe.offset % 4096) 0) (decides_leb (stripe.offset + length) s.total_bytes))))

decides_second : (s : Super) (length : ℕ) (stripe : Option Stripe) → Decides (is_second s length stripe) (All (IsStripe s length) (second_of stripe))
decides_second s length None = (λ _. All-nil (IsStripe s length), λ _. refl)
decides_second s length (Some stripe) =
    Decides-like {P = IsStripe s length stripe} (is_stripe s length stripe) (λ is. All-cons (IsStripe s length) stripe [] is (All-nil (IsStripe s length))) (All-head (IsStripe s length) stripe []) (decides_stripe s length stripe)

abbrev ChunkParts : Super → ChunkAt → Type 0
ChunkParts s c =
    (c.chunk.sector_size ≡ 4096)
    × ((c.chunk.stripe_len ≡ 65536)
    × ((¬ (c.chunk.length ≡ 0))
    × ((c.logical % 4096 ≡ 0)
    × ((c.chunk.length % 4096 ≡ 0)
    × ((c.logical + c.chunk.length ≤ 2 ^ 64 - 1) × (IsStripe s c.chunk.length c.chunk.stripe × All (IsStripe s c.chunk.length) (second_of c.mirror)))))))

chunk_from : (s : Super) (c : ChunkAt) → ChunkParts s c → IsChunkOn s c
chunk_from s c (sectors, (stripes, (some, (start, (whole, (ends, (first, second))))))) = record {
  sectors = sectors;
  stripe_len = stripes;
  some = some;
  whole = (start, whole);
  ends = omega (arith, ends);
  stripes = All-cons (IsStripe s c.chunk.length) c.chunk.stripe (second_of c.mirror) first second;
}

chunk_parts : (s : Super) (c : ChunkAt) → IsChunkOn s c → ChunkParts s c
chunk_parts s c is =
    let ends = is.ends in
    (is.sectors, (is.stripe_len, (is.some, (is.whole.0, (is.whole.1, (omega (arith, ends), (All-head (IsStripe s c.chunk.length) c.chunk.stripe (second_of c.mirror) is.stripes, All-tail (IsStripe s c.chunk.length) c.chunk.stripe (second_of c.mirror) is.stripes)))))))

pub decides_chunk : (s : Super) (c : ChunkAt) → Decides (is_chunk s c) (IsChunkOn s c)
decides_chunk s c =
    Decides-like (is_chunk s c) (chunk_from s c) (chunk_parts s c)
    (Decides-and _ _ (Decides-eqb c.chunk.sector_size 4096)
    (Decides-and _ _ (Decides-eqb c.chunk.stripe_len 65536)
    (Decides-and _ _ (Decides-not (c.chunk.length == 0) (Decides-eqb c.chunk.length 0))
    (Decides-and _ _ (Decides-eqb (c.logical % 4096) 0)
    (Decides-and _ _ (Decides-eqb (c.chunk.length % 4096) 0)
    (Decides-and _ _ (decides_leb (c.logical + c.chunk.length) (2 ^ 64 - 1))
    (Decides-and _ _ (decides_stripe s c.chunk.length c.chunk.stripe) (decides_second s c.chunk.length c.mirror))))))))

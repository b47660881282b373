-- Chunks with the same fields are one, and chunks among others are those.
use Rattle.btr_check_trees.proofs.Imports.{◌≡◌, Bool, true, false, List, Option, Some, None, refl, sym, ap, subst, false≢true, Decides-and, Decides-eqb, Decides-like, not_from_Decides, All-contains, Decides, All, Contains, list_any, ChunkAt, same_body, same_chunk, same_mirror, same_stripe, all_from_contains, decides_some, not_none, some_same, AreSystem}
use Rattle.btr_check_rules.specs.btr_reader.btr_space_items.declared.chunk.Chunk.{Chunk}
use Rattle.btr_check_rules.specs.btr_reader.btr_space_items.declared.stripe.Stripe.{Stripe}
use Rattle.btr_check_fields.proofs.Deciding.{decides_uuid}

abbrev StripeParts : Stripe → Stripe → Type 0
StripeParts a b = (a.devid ≡ b.devid) × ((a.offset ≡ b.offset) × (a.device_uuid ≡ b.device_uuid))

one_stripe : (a b : Stripe) → StripeParts a b → a ≡ b
one_stripe a b (p1, (p2, p3)) = let same : record { devid = a.devid; offset = a.offset; device_uuid = a.device_uuid } ≡ record { devid = b.devid; offset = b.offset; device_uuid = b.device_uuid } = cc in same

stripe_parts : (a b : Stripe) → a ≡ b → StripeParts a b
stripe_parts a b same = (ap (λ (s : Stripe). s.devid) same, (ap (λ (s : Stripe). s.offset) same, ap (λ (s : Stripe). s.device_uuid) same))

decides_stripe : (a b : Stripe) → Decides (same_stripe a b) (a ≡ b)
decides_stripe a b =
    Decides-like (same_stripe a b) (one_stripe a b) (stripe_parts a b) (Decides-and _ _ (Decides-eqb a.devid b.devid) (Decides-and _ _ (Decides-eqb a.offset b.offset) (decides_uuid a.device_uuid b.device_uuid)))

decides_mirror : (a b : Option Stripe) → Decides (same_mirror a b) (a ≡ b)
decides_mirror None None = ((λ _. refl), (λ _. refl))
decides_mirror None (Some b) = ((λ not_so. absurd (false≢true not_so)), (λ same. absurd (not_none b same)))
decides_mirror (Some a) None = ((λ not_so. absurd (false≢true not_so)), (λ same. absurd (not_none a (sym same))))
decides_mirror (Some a) (Some b) = Decides-like {P = a ≡ b} {Q = Some a ≡ Some b} (same_stripe a b) (λ same. ap Some same) (λ same. some_same a b same) (decides_stripe a b)

abbrev BodyParts : Chunk → Chunk → Type 0
BodyParts a b =
    (a.length ≡ b.length)
    × ((a.owner ≡ b.owner)
    × ((a.stripe_len ≡ b.stripe_len)
    × ((a.kind ≡ b.kind)
    × ((a.io_align ≡ b.io_align)
    × ((a.io_width ≡ b.io_width)
    × ((a.sector_size ≡ b.sector_size)
    × ((a.num_stripes ≡ b.num_stripes) × ((a.sub_stripes ≡ b.sub_stripes) × (a.stripe ≡ b.stripe)))))))))

one_body : (a b : Chunk) → BodyParts a b → a ≡ b
one_body a b (p1, (p2, (p3, (p4, (p5, (p6, (p7, (p8, (p9, p10))))))))) = let same : record { length = a.length; owner = a.owner; stripe_len = a.stripe_len; kind = a.kind; io_align = a.io_align; io_width = a.io_width; sector_size = a.sector_size; num_stripes = a.num_stripes; sub_stripes = a.sub_stripes; stripe = a.stripe } ≡ record { length = b.length; owner = b.owner; stripe_len = b.stripe_len; kind = b.kind; io_align = b.io_align; io_width = b.io_width; sector_size = b.sector_size; num_stripes = b.num_stripes; sub_stripes = b.sub_stripes; stripe = b.stripe } = cc in same

body_parts : (a b : Chunk) → a ≡ b → BodyParts a b
body_parts a b same =
    subst (BodyParts a) same (refl, (refl, (refl, (refl, (refl, (refl, (refl, (refl, (refl, refl)))))))))

decides_body : (a b : Chunk) → Decides (same_body a b) (a ≡ b)
decides_body a b =
    Decides-like (same_body a b) (one_body a b) (body_parts a b)
    (Decides-and _ _ (Decides-eqb a.length b.length)
    (Decides-and _ _ (Decides-eqb a.owner b.owner)
    (Decides-and _ _ (Decides-eqb a.stripe_len b.stripe_len)
    (Decides-and _ _ (Decides-eqb a.kind b.kind)
    (Decides-and _ _ (Decides-eqb a.io_align b.io_align)
    (Decides-and _ _ (Decides-eqb a.io_width b.io_width)
    (Decides-and _ _ (Decides-eqb a.sector_size b.sector_size)
    (Decides-and _ _ (Decides-eqb a.num_stripes b.num_stripes) (Decides-and _ _ (Decides-eqb a.sub_stripes b.sub_stripes) (decides_stripe a.stripe b.stripe))))))))))

abbrev ChunkParts : ChunkAt → ChunkAt → Type 0
ChunkParts a b = (a.logical ≡ b.logical) × ((a.chunk ≡ b.chunk) × (a.mirror ≡ b.mirror))

one_chunk : (a b : ChunkAt) → ChunkParts a b → a ≡ b
one_chunk a b (p1, (p2, p3)) = let same : record { logical = a.logical; chunk = a.chunk; mirror = a.mirror } ≡ record { logical = b.logical; chunk = b.chunk; mirror = b.mirror } = cc in same

chunk_parts : (a b : ChunkAt) → a ≡ b → ChunkParts a b
chunk_parts a b same = subst (ChunkParts a) same (refl, (refl, refl))

decides_same : (a b : ChunkAt) → Decides (same_chunk a b) (a ≡ b)
decides_same a b =
    Decides-like (same_chunk a b) (one_chunk a b) (chunk_parts a b)
    (Decides-and _ _ (Decides-eqb a.logical b.logical) (Decides-and _ _ (decides_body a.chunk b.chunk) (decides_mirror a.mirror b.mirror)))

-- the test of being among some decides it
pub decides_among : (c : ChunkAt) (others : List ChunkAt) → Decides (list_any (same_chunk c) others) (Contains others c)
decides_among c others =
    Decides-like {P = (x : ChunkAt) × Contains others x × (c ≡ x)} {Q = Contains others c} (list_any (same_chunk c) others) (λ some. subst (Contains others) (sym some.2) some.1) (λ h. (c, h, refl))
    (decides_some (same_chunk c) (λ (x : ChunkAt). c ≡ x) others (λ x h. decides_same c x))

-- one is missing among the others, or none is
pub one_missing : (chunks others : List ChunkAt) (c : ChunkAt) → Contains chunks c → list_any (same_chunk c) others ≡ false → Decides false (All (λ d. Contains others d) chunks)
one_missing chunks others c h none = (
  (λ is. absurd (false≢true is)),
  (λ all. absurd (not_from_Decides _ (decides_among c others) none (All-contains (λ d. Contains others d) chunks c all h))),
)

pub none_missing : (chunks others : List ChunkAt) → All (λ d. Contains others d) chunks → Decides true (All (λ d. Contains others d) chunks)
none_missing chunks others all = ((λ is. all), (λ are. refl))

pub one_among : (c : ChunkAt) (others : List ChunkAt) → list_any (same_chunk c) others ≡ true → Contains others c
one_among c others is = (decides_among c others).0 is

-- each of these is one of those, and the other way round
pub first_missing : (boot system : List ChunkAt) → Decides false (All (λ c. Contains system c) boot) → Decides false (AreSystem boot system)
first_missing boot system first =
    ((λ is. absurd (false≢true is)), (λ are. absurd (false≢true (first.1 (all_from_contains (λ d. Contains system d) boot (λ c h. (are c).0 h))))))

pub both_among : (b : Bool) (boot system : List ChunkAt) → Decides true (All (λ c. Contains system c) boot) → Decides b (All (λ c. Contains boot c) system) → Decides b (AreSystem boot system)
both_among b boot system first second =
    Decides-like {P = All (λ c. Contains boot c) system} {Q = AreSystem boot system} b
    (λ all c. ((λ h. All-contains (λ d. Contains system d) boot c (first.0 refl) h), (λ h. All-contains (λ d. Contains boot d) system c all h)))
    (λ are. all_from_contains (λ d. Contains boot d) system (λ c h. (are c).1 h))
    second

-- What a crash leaves in each phase of a conversion.
use Rattle.convert_core.proofs.Imports.{◌≡◌, ◌≢◌, ◌∙◌, ◌⊎◌, inl, inr, ⊎_elim, ℕ, ◌≤◌, ◌<◌, ◌+◌, List, length, refl, sym, ap, subst, arith, [], Bool, true, false, true≢false, cond, set, get_or-set_same, get_or-set_other, Btrfs, Neither, Reiser, Ids, format_in, Image, History, IsSettled, LeftSince, WritesOnly, block_at, clock, reads, writes_length, writes_none, writes_then, writes_weaker, left_outside, left_then, left_unwritten, reads_outside, IsNodeSize, HasPieces, HasCopies, IsMirror, IsSwitchPart, IsSwitched, IsHalfSwitched, IsLeftBySwitch, IsMirrorOf, Super, superblock, used_of, used_length, Options, DiffersInFree, KeepsOldVolume, IsConvertPlace, IsConverted, IsConvertible, IsEither, IsFree, IsNew, IsPutDown, IsHalfConverted, Written, cases_eq, length-set, codes, nat_le, SUPER_BLOCK}
use Rattle.std.proofs.lemmas.Bool.Decides.{nat_tests}
use Rattle.reiser_volume.specs.vol_block.Format.{has_bytes_at, has_reiser_magic}
use Rattle.super_turn.specs.Laws.{HasHalf}
use Rattle.super_turn.proofs.Backs.{half_turned}
use Rattle.convert_core.proofs.Copying.{super_used}
use Rattle.convert_core.proofs.Putting.{convertible, free_before, node_free, piece_some, used_not_free}
use Rattle.convert_core.proofs.Reserved.{free_apart, piece_apart, switch_reserved}
use Rattle.convert_core.proofs.Standing.{InNodes, InPieces, stands_stay}

-- while free blocks alone are written, a crash leaves the old volume
pub free_crash : (h₀ h₁ : History) → IsSettled h₀ → WritesOnly (λ b _. IsFree (reads h₀) b) h₀ h₁ → (other : Image) → LeftSince (clock h₀) h₁ other → KeepsOldVolume (reads h₀) other
free_crash h₀ h₁ settled only other left =
    let outside = left_outside (λ b. IsFree (reads h₀) b) h₀ h₁ only settled other left in
    record { size = outside.0; used = λ b used. outside.1 b (used_not_free (reads h₀) b used) }

-- ---- behind the volume

-- a free unit lies in the volume
free_inside : (image : Image) (b : ℕ) → IsFree image b → b < (superblock image).blocks
free_inside image b free = (let size = used_length image in omega (arith, free.inside, size))

-- so no block there lies in one
behind_not_free : (image : Image) (b : ℕ) → (superblock image).blocks ≤ b → ¬ IsFree image b
behind_not_free image b behind free = omega (arith, free_inside image b free, behind)

-- nor is one written by the switch
abbrev pub IsSwitchPlace : ℕ → ℕ → Type 0
IsSwitchPlace blocks b = (b ≡ 16) ⊎ IsMirrorOf blocks b

behind_no_place : (blocks b : ℕ) → 16 < blocks → blocks ≤ b → IsSwitchPlace blocks b → ⊥
behind_no_place blocks b some behind place = ⊎_elim (λ is. omega (arith, is, some, behind)) (λ copy. omega (arith, copy.1, behind)) place

switch_places : (bytes : List ℕ) (blocks : ℕ) (h₁ h₂ : History) → WritesOnly (IsSwitchPart bytes blocks) h₁ h₂ → WritesOnly (λ b _. IsSwitchPlace blocks b) h₁ h₂
switch_places bytes blocks = writes_weaker (IsSwitchPart bytes blocks) (λ b _. IsSwitchPlace blocks b) (λ b written part. ⊎_elim (λ is. inl is) (λ copy. inr (copy.mirror, copy.within)) part)

pub switch_outside : (bytes : List ℕ) (blocks : ℕ) (h₁ h₂ : History) → WritesOnly (IsSwitchPart bytes blocks) h₁ h₂ → (b : ℕ) → ¬ IsSwitchPlace blocks b → block_at (reads h₂) b ≡ block_at (reads h₁) b
switch_outside bytes blocks h₁ h₂ only = reads_outside (IsSwitchPlace blocks) h₁ h₂ (switch_places bytes blocks h₁ h₂ only)

-- the blocks behind the volume are those that were there
abbrev pub KeepsBehind : Image → Image → Type 0
KeepsBehind image other = (b : ℕ) → (superblock image).blocks ≤ b → block_at other b ≡ block_at image b

pub behind_for : (image old other : Image) → old ≡ image → KeepsBehind old other → KeepsBehind image other
behind_for image old other is = subst (λ (i : Image). KeepsBehind i other) is

module _ (o : Options) (ids : Ids) (now : ℕ) (image put : Image) (w : Written) (down : IsPutDown o ids now image put w) where
  abbrev of : HasPieces down.m.volume image down.m.options down.m.plan down.m.pieces
  of = down.conversion.making.has_pieces

  pub put_convertible : IsConvertible o image
  put_convertible = subst (λ (p : Options). IsConvertible p image) down.conversion.options_are (convertible down.m.volume image down.m.options down.m.plan down.m.pieces of)

  -- no block of a piece is that of the superblock or of a copy
  piece_elsewhere : (b : ℕ) → InPieces down.m b → (b ≡ 16) ⊎ IsMirror b → ⊥
  piece_elsewhere b at is =
      piece_apart down.m.volume image down.m.options down.m.plan down.m.pieces of at.0 at.1 b at.2 at.3 (switch_reserved (length (used_of image)) b is)

  module _ (size : IsNodeSize o.nodesize) where
    -- nor is one of a node
    node_elsewhere : (b : ℕ) → InNodes down.m b → (b ≡ 16) ⊎ IsMirror b → ⊥
    node_elsewhere b at =
        free_apart image b
        (node_free down.m.volume image down.m.options down.m.plan down.m.pieces of (subst (λ (p : Options). IsNodeSize p.nodesize) (sym down.conversion.options_are) size) b at)

    -- the superblock over all that was put down is the new volume
    pub switched_new : (other : Image) → IsSwitched w.superblock.bytes w.blocks put other → KeepsBehind image other → IsNew o ids now image other down.m down.r down.nodes
    switched_new other is behind = record {
      conversion = down.conversion;
      stands =
          stands_stay image put other down.m down.r down.nodes (piece_some down.m.volume image down.m.options down.m.plan down.m.pieces of) is.size
          (λ b at. is.others b (λ here. piece_elsewhere b at (inl here)) (λ mirror. piece_elsewhere b at (inr mirror.0)))
          (λ b at. is.others b (λ here. node_elsewhere b at (inl here)) (λ mirror. node_elsewhere b at (inr mirror.0)))
          down.stands;
      superblock = is.superblock_is ∙ down.superblock;
      others = λ b other_block no_mirror outside. is.others b other_block (λ mirror. no_mirror (mirror.0, subst (λ (n : ℕ). b + 1 < n) down.blocks mirror.1)) ∙ down.others b outside;
      behind = λ b low. behind b (subst (λ (s : Super). s.blocks ≤ b) of.opened.sup low);
    }

    -- with its copies the volume is converted
    pub converted : (other : Image) → IsSwitched w.superblock.bytes w.blocks put other → KeepsBehind image other → HasCopies w.superblock.bytes w.blocks other → IsConverted o ids now image other
    converted other is behind copies = record {
      m = down.m;
      r = down.r;
      nodes = down.nodes;
      new = switched_new other is behind;
      copies =
          subst (λ (bytes : List ℕ). HasCopies bytes down.m.volume.sup.blocks other) down.superblock
          (subst (λ (n : ℕ). HasCopies w.superblock.bytes n other) down.blocks copies);
    }

-- ---- block 16 half turned

btrfs_by : (short btrfs reiser : Bool) → short ≡ false → btrfs ≡ true → cond short Neither (cond btrfs Btrfs (cond reiser Reiser Neither)) ≡ Btrfs
btrfs_by false true reiser long is = refl
btrfs_by true btrfs reiser long is = absurd (true≢false long)
btrfs_by false false reiser long is = absurd (true≢false (sym is))

not_true : (t : Bool) → (t ≡ true → ⊥) → t ≡ false
not_true true never = absurd (never refl)
not_true false never = refl

-- a disk whose format is not Btrfs has not its magic
no_magic : (image : Image) → format_in image ≢ Btrfs → 16 < length image → has_bytes_at (block_at image SUPER_BLOCK) 64 (codes "_BHRfS_M") ≡ false
no_magic image other long =
    not_true (has_bytes_at (block_at image SUPER_BLOCK) 64 (codes "_BHRfS_M"))
    (λ is. other (btrfs_by (nat_le (length image) 16) (has_bytes_at (block_at image SUPER_BLOCK) 64 (codes "_BHRfS_M")) (has_reiser_magic (block_at image SUPER_BLOCK)) (grind (arith, nat_tests, long)) is))

module _ (o : Options) (ids : Ids) (now : ℕ) (image put : Image) (w : Written) (down : IsPutDown o ids now image put w) (reiser : format_in image ≢ Btrfs) (before : KeepsOldVolume image put) (other : Image) (is : IsHalfSwitched w.copy put other) where
  abbrev old : List ℕ
  old = block_at put SUPER_BLOCK

  long : 16 < length image
  long = down.conversion.making.has_pieces.accepted.clean.superblock.there

  old_is : old ≡ block_at image SUPER_BLOCK
  old_is = before.used 16 (super_used down.m.volume image down.m.options down.m.plan down.m.pieces down.conversion.making.has_pieces)

  has_half : HasHalf old w.copy other
  has_half = record {
    whole = is.whole;
    other_magic = ap (λ (bytes : List ℕ). has_bytes_at bytes 64 (codes "_BHRfS_M")) old_is ∙ no_magic image reiser long;
    inside = omega (arith, down.inside, is.size);
    elsewhere = down.elsewhere;
    small = is.small;
    copy = is.others w.copy down.elsewhere ∙ down.copy ∙ sym old_is;
    half = is.half;
  }

  keeps : KeepsOldVolume image (set other 16 old)
  keeps = record {
    size = length-set other 16 old ∙ is.size ∙ before.size;
    used = λ b used. ⊎_elim
        (λ here. subst (λ (n : ℕ). block_at (set other 16 old) n ≡ block_at image n) (sym here) (get_or-set_same other 16 old [] (omega (arith, long, is.size, before.size)) ∙ old_is))
        (λ rest. get_or-set_other other 16 b old [] rest ∙ is.others b rest ∙ before.used b used) (cases_eq b 16);
  }

  pub half_converted : IsHalfConverted image other
  half_converted =
      let both = half_turned old w.copy other has_half in
      record { half = both.0; old = subst (KeepsOldVolume image) (sym both.1) keeps }

-- what was written before the switch: nothing, or free blocks of a volume that can be converted
abbrev pub MayWrite : Options → History → History → Type 0
MayWrite o h₀ h₁ = (h₁ ≡ h₀) ⊎ (IsConvertible o (reads h₀) × WritesOnly (λ b _. IsFree (reads h₀) b) h₀ h₁)

may_only : (o : Options) (h₀ h₁ : History) → MayWrite o h₀ h₁ → WritesOnly (λ b _. IsFree (reads h₀) b) h₀ h₁
may_only o h₀ h₁ may =
    ⊎_elim (λ same. subst (λ (h : History). WritesOnly (λ b _. IsFree (reads h₀) b) h₀ h) (sym same) (writes_none (λ b _. IsFree (reads h₀) b) h₀)) (λ both. both.1) may

-- so at any answer only free blocks differ
pub may_keep : (o : Options) (h₀ h₁ : History) → MayWrite o h₀ h₁ → DiffersInFree (reads h₀) (reads h₁)
may_keep o h₀ h₁ may = record {
  size = writes_length (λ b _. IsFree (reads h₀) b) h₀ h₁ (may_only o h₀ h₁ may);
  others = reads_outside (λ b. IsFree (reads h₀) b) h₀ h₁ (may_only o h₀ h₁ may);
}

-- ---- where a conversion writes

pub may_places : (o : Options) (h₀ h₁ : History) → MayWrite o h₀ h₁ → WritesOnly (λ b _. IsConvertPlace (reads h₀) b) h₀ h₁
may_places o h₀ h₁ may =
    writes_weaker (λ b _. IsFree (reads h₀) b) (λ b _. IsConvertPlace (reads h₀) b) (λ b written free. inr (free_inside (reads h₀) b free, inl free)) h₀ h₁ (may_only o h₀ h₁ may)

switch_place : (image : Image) (blocks b : ℕ) → blocks ≡ (superblock image).blocks → IsSwitchPlace blocks b → IsConvertPlace image b
switch_place image blocks b are place =
    ⊎_elim (λ is. inl is) (λ copy. let below = copy.1 in inr (omega (arith, below, are), inr (copy.0, subst (λ (n : ℕ). b + 1 < n) are copy.1))) place

down_blocks : (o : Options) (ids : Ids) (now : ℕ) (image put : Image) (w : Written) → IsPutDown o ids now image put w → w.blocks ≡ (superblock image).blocks
down_blocks o ids now image put w down = down.blocks ∙ ap (λ (s : Super). s.blocks) down.conversion.making.has_pieces.opened.sup

pub switch_only : (o : Options) (ids : Ids) (now : ℕ) (h₀ h₁ h₂ : History) → MayWrite o h₀ h₁ → (w : Written) → IsPutDown o ids now (reads h₀) (reads h₁) w → WritesOnly (IsSwitchPart w.superblock.bytes w.blocks) h₁ h₂
    → WritesOnly (λ b _. IsConvertPlace (reads h₀) b) h₀ h₂
switch_only o ids now h₀ h₁ h₂ may w down only =
    writes_then (λ b _. IsConvertPlace (reads h₀) b) h₀ h₁ h₂ (may_places o h₀ h₁ may)
    (writes_weaker (λ b _. IsSwitchPlace w.blocks b) (λ b _. IsConvertPlace (reads h₀) b)
    (λ b written place. switch_place (reads h₀) w.blocks b (down_blocks o ids now (reads h₀) (reads h₁) w down) place) h₁ h₂
    (switch_places w.superblock.bytes w.blocks h₁ h₂ only))

-- where block 16 is put back first
pub back_places : (image : Image) (h₀ h₁ : History) → WritesOnly (λ b _. b ≡ 16) h₀ h₁ → WritesOnly (λ b _. IsConvertPlace image b) h₀ h₁
back_places image = writes_weaker (λ b _. b ≡ 16) (λ b _. IsConvertPlace image b) (λ b written is. inl is)

-- and the switch too writes nothing behind the volume
pub keeps_behind : (o : Options) (ids : Ids) (now : ℕ) (h₀ h₁ : History) → MayWrite o h₀ h₁ → (w : Written) → IsPutDown o ids now (reads h₀) (reads h₁) w → 16 < w.blocks → (other : Image)
    → ((b : ℕ) → ¬ IsSwitchPlace w.blocks b → block_at other b ≡ block_at (reads h₁) b) → KeepsBehind (reads h₀) other
keeps_behind o ids now h₀ h₁ may w down some other outside b behind =
    let blocks = down_blocks o ids now (reads h₀) (reads h₁) w down in
    let low : w.blocks ≤ b = omega (arith, blocks, behind) in
    outside b (behind_no_place w.blocks b some low)
    ∙ (may_keep o h₀ h₁ may).others b (behind_not_free (reads h₀) b behind)

module _ (o : Options) (ids : Ids) (now : ℕ) (h₀ h₁ : History) (settled : IsSettled h₀) (reiser : format_in (reads h₀) ≢ Btrfs) (may : MayWrite o h₀ h₁) where
  -- before the switch
  pub early_crash : (other : Image) → LeftSince (clock h₀) h₁ other → IsEither o ids now (reads h₀) other
  early_crash other left =
      ⊎_elim (λ same. inl (left_unwritten h₀ h₁ settled same other left)) (λ both. inr (reiser, both.0, inl (free_crash h₀ h₁ settled both.1 other left))) may

  -- and while the superblock and its copies are written
  pub switch_crash : (h₂ : History) (w : Written) → IsNodeSize o.nodesize → IsPutDown o ids now (reads h₀) (reads h₁) w → IsSettled h₁ → 16 < w.blocks
      → WritesOnly (IsSwitchPart w.superblock.bytes w.blocks) h₁ h₂
      → ((other : Image) → LeftSince (clock h₁) h₂ other → IsLeftBySwitch w.copy w.superblock.bytes w.blocks (reads h₁) other)
      → (other : Image) → LeftSince (clock h₀) h₂ other → IsEither o ids now (reads h₀) other
  switch_crash h₂ w size down put some only each other left =
      let can : IsConvertible o (reads h₀) = put_convertible o ids now (reads h₀) (reads h₁) w down in
      let before : KeepsOldVolume (reads h₀) (reads h₁) = free_before (reads h₀) h₀ h₁ refl (may_only o h₀ h₁ may) in
      ⊎_elim (λ early. early_crash other early)
      (λ late. ⊎_elim
      (λ same. inr (reiser, can, inl (subst (KeepsOldVolume (reads h₀)) (sym same) before)))
      (λ turned. ⊎_elim
      (λ half. inr (reiser, can, inr (inl (half_converted o ids now (reads h₀) (reads h₁) w down reiser before other half))))
      (λ is. inr (
        reiser,
        can,
        inr (inr (
          down.m,
          down.r,
          down.nodes,
          switched_new o ids now (reads h₀) (reads h₁) w down size other is
              (keeps_behind o ids now h₀ h₁ may w down some other (left_outside (IsSwitchPlace w.blocks) h₁ h₂ (switch_places w.superblock.bytes w.blocks h₁ h₂ only) put other late).1),
        )),
      ))
      turned)
      (each other late))
      (left_then (λ b _. IsFree (reads h₀) b) (IsSwitchPart w.superblock.bytes w.blocks) h₀ h₁ h₂ (may_only o h₀ h₁ may) only other left)

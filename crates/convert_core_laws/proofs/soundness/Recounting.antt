-- The fields of a converted volume's superblock, and its chunks as they are read.
use Rattle.convert_core_laws.proofs.Imports.{◌≡◌, ℕ, ◌+◌, ◌*◌, ◌==◌, Bool, true, false, not, List, ◌++◌, Option, refl, sym, ap, subst, ◌∙◌, unwrap_or, BIG_METADATA, EXTENDED_IREF, MIXED_BACKREF, NO_HOLES, SKINNY_METADATA, FREE_SPACE_TREE, Image, Ids, form_of, SumKind, Crc32c, csum_number, known_kind, Form, has_feature, Making, new_ids, form, used_bytes, TreeRoots, IsNew, new_super, HasFsid, NewIdsFit, IsNewVolume, boot_part, other_part, super_for, IsNodeSize, device_body, AreIds, TreeNode, PlannedChunk, Options, known-number, has_ro_feature}
use Rattle.std.proofs.Common.{bit_and, if◌then◌else◌}
use Rattle.convert_core_laws.proofs.reading.Superblock.{own_fsid}

-- a volume of the premises is one that opens
pub volume_for : NewIdsFit → (o : Options) (ids : Ids) (now : ℕ) (image other : Image) (m : Making) (r : TreeRoots) (nodes : List TreeNode) → IsNew o ids now image other m r nodes → IsNodeSize o.nodesize → AreIds ids → HasFsid image o.uuid
    → IsNewVolume o ids now image other m r nodes
volume_for fit o ids now image other m r nodes is size are has =
    let own : AreIds m.ids = subst AreIds (sym is.conversion.ids_are) are in
    let fsid : HasFsid image m.options.uuid = subst (λ (p : Options). HasFsid image p.uuid) (sym is.conversion.options_are) has in
    record { new = is; size = size; ids_ = fit image m is.conversion.making own fsid }

module _ (m : Making) (r : TreeRoots) (nodes : List TreeNode) where
  pub used_is : (super_for m r nodes).bytes_used ≡ used_bytes m nodes
  unfolding new_super
  used_is = refl

  pub generation_is : (super_for m r nodes).generation ≡ 1
  unfolding new_super
  generation_is = refl

  -- its features
  pub with_skinny : has_feature (super_for m r nodes) SKINNY_METADATA ≡ true
  unfolding new_super
  with_skinny = by (m.options.nodesize == 4096)
    where
      by : (b : Bool) → not (bit_and (if b then MIXED_BACKREF + EXTENDED_IREF + SKINNY_METADATA + NO_HOLES else MIXED_BACKREF + EXTENDED_IREF + SKINNY_METADATA + NO_HOLES + BIG_METADATA) SKINNY_METADATA == 0) ≡ true
      by true = refl
      by false = refl

  pub with_extended : has_feature (super_for m r nodes) EXTENDED_IREF ≡ true
  unfolding new_super
  with_extended = by (m.options.nodesize == 4096)
    where
      by : (b : Bool) → not (bit_and (if b then MIXED_BACKREF + EXTENDED_IREF + SKINNY_METADATA + NO_HOLES else MIXED_BACKREF + EXTENDED_IREF + SKINNY_METADATA + NO_HOLES + BIG_METADATA) EXTENDED_IREF == 0) ≡ true
      by true = refl
      by false = refl

  pub without_holes : has_feature (super_for m r nodes) NO_HOLES ≡ true
  unfolding new_super
  without_holes = by (m.options.nodesize == 4096)
    where
      by : (b : Bool) → not (bit_and (if b then MIXED_BACKREF + EXTENDED_IREF + SKINNY_METADATA + NO_HOLES else MIXED_BACKREF + EXTENDED_IREF + SKINNY_METADATA + NO_HOLES + BIG_METADATA) NO_HOLES == 0) ≡ true
      by true = refl
      by false = refl

  pub without_free_space_tree : has_ro_feature (super_for m r nodes) FREE_SPACE_TREE ≡ false
  unfolding new_super
  without_free_space_tree = refl

  pub total_is : (super_for m r nodes).total_bytes ≡ 4096 * m.volume.sup.blocks
  unfolding new_super
  total_is = refl

  pub device_is : (super_for m r nodes).dev_item ≡ device_body (new_ids m) m.volume.sup.blocks m.chunks
  unfolding new_super
  device_is = refl

  pub nodesize_is : (super_for m r nodes).nodesize ≡ m.options.nodesize
  unfolding new_super
  nodesize_is = refl

  kind_is : unwrap_or (known_kind (csum_number m.options.sums)) Crc32c ≡ m.options.sums
  kind_is = ap (λ (known : Option SumKind). unwrap_or known Crc32c) (known-number m.options.sums)

  pub form_is : form_of (super_for m r nodes) ≡ form m
  unfolding new_super
  form_is =
      ap (λ (id : List ℕ). let f : Form = record { fsid = id; nodesize = m.options.nodesize; sums = unwrap_or (known_kind (csum_number m.options.sums)) Crc32c } in f)
      (own_fsid m r nodes)
      ∙ ap (λ (kind : SumKind). let f : Form = record { fsid = (new_ids m).fsid; nodesize = m.options.nodesize; sums = kind } in f) kind_is

  pub fsid_is : (form_of (super_for m r nodes)).fsid ≡ (new_ids m).fsid
  fsid_is = ap (λ (f : Form). f.fsid) form_is

-- the chunks that are read are those of the plan
abbrev pub in_parts : List PlannedChunk → List PlannedChunk
in_parts chunks = boot_part chunks ++ other_part chunks

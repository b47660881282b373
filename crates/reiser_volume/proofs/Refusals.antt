-- What is refused of a volume, group by group, and that an accepted one is not refused.
use Rattle.reiser_volume.proofs.Imports.{◌≡◌, ℕ, ◌≤◌, ◌&&◌, Bool, true, false, cond, List, [], ◌∷◌, length, Option, Some, None, Contains, All, refl, sym, ap, subst, ◌∙◌, true≢false, arith, Result, Err, IfErr, nat_tests, All-cons, All-contains, SUPER_BLOCK, Image, block_at, VolAnswer, Refused, Fault, Memory, has, bitmap_of, system_blocks, NamesFreeBlock, Super, superblock_fields, IsCleanSuper, superblock_refusal, superblock_rules, first_refusal, IsClean, pending_transactions, tree_damages, items_of_tree, HasNoted, AreObjects, IsObjectsRefusal, IsVolumeRule, IsVolumeAnswer, IsVerdict, RefusesVolume, IsSuperOf, IsBitmapOf, IsFoundSound, IsFrontOf, IsFrontRule, NamesFrontRule, IsFrontAnswer, RefusesFront, IsAccepted, IsRefusal, IsFrontAccepted, IsFrontRefusal, superblock, used_of, reiser_tree_of, volume_items, superblock_rule, journal_rule, bitmap_rule, front_rule, tree_rule, objects_rule, names_rule, has_reiser_magic}
use Rattle.std.specs.Prelude.{nat_lt}
use Rattle.reiser_bitmap.specs.refusals.declared.refusal.VolumeRefusal.{VolumeRefusal}
use Rattle.reiser_bitmap.specs.refusals.declared.refusal.VolumeRefusal.TheVariants.{NotVolume, Unclean, Unsupported, Short, JournalPending, Damaged, HasAttributes, PendingLinks, NameTaken, NameTooLong, HashCrowd}
use Rattle.reiser_bitmap.specs.refusals.declared.rule.Rule.{Rule}
use Rattle.reiser_bitmap.specs.refusals.declared.rule.Rule.TheVariants.{SuperField, SystemFree, NodeHead, Layout, KeyOrder, BlockFree, BlockRange, BlockTwice, Body, EntryForm, ObjectForm, Overlap, NameTwice, DirTwice, SizeRange, Reread}
use Rattle.reiser_super.specs.State.{IsPendingIn, IsJournalAnswer}
use Rattle.reiser_super.proofs.Clean.{none_from_clean}
use Rattle.reiser_bitmap.specs.Answers.{IsNoRefusal}
use Rattle.reiser_volume_objects.specs.reiser_walk.Answers.{IsTreeRule}
use Rattle.reiser_volume_objects.specs.declared.table.Objects.{Objects}
use Rattle.reiser_volume_objects.specs.Read.{IsObjectsReadAnswer, BlamesTree}
use Rattle.reiser_volume_objects.specs.Reach.{Refuses, IsObjectsAnswer, object_rules}
use Rattle.reiser_volume_names.specs.Refuses.{RefusesNames, IsNamesRule, IsNamesAnswer}
use Rattle.reiser_volume.specs.declared.front.Front.{Front}
use Rattle.reiser_volume_names.proofs.Broken.{names_broken}
use Rattle.reiser_volume_objects.proofs.Broken as objects
use Rattle.reiser_volume.proofs.Holding.{used_length}

in_none : {X : Type 0} (xs : List X) (x : X) → xs ≡ [] → Contains xs x → ⊥
in_none xs x none is = omega (arith, is.1, ap length none)

free_named : (image : Image) (r : VolumeRefusal) → IsFrontAccepted image → NamesFreeBlock (used_of image) (superblock image).journal_first (superblock image).journal_size r → ⊥
free_named image r a names =
    true≢false (sym (a.system names.0 (subst (λ (n : ℕ). Contains (system_blocks n (superblock image).journal_first (superblock image).journal_size) names.0) (used_length image) names.2)) ∙ names.3)

-- superblock, journal and bitmap that are accepted are not refused
pub front_not_refused : (image : Image) (r : VolumeRefusal) → IsFrontRefusal image r → IsFrontAccepted image → ⊥
front_not_refused image r (superblock_rule is) a =
    let both : None ≡ Some r = sym (none_from_clean _ _ a.clean.superblock) ∙ is in
    cc
front_not_refused image r (journal_rule trans clean waits is) a = in_none _ trans a.clean.journal waits
front_not_refused image r (bitmap_rule clean names) a = free_named image r a names

pub accepted_front : (image : Image) → IsAccepted image → IsFrontAccepted image
accepted_front image a = record { clean = a.clean; system = a.system }

-- an accepted volume is not refused
pub not_refused : (image : Image) (r : VolumeRefusal) → IsRefusal image r → IsAccepted image → ⊥
not_refused image r (front_rule is) a = front_not_refused image r is (accepted_front image a)
not_refused image r (tree_rule clean marks among) a = in_none _ r a.tree among
not_refused image r (objects_rule clean marks sound is) a = objects.broken (superblock image).root (volume_items image) r is a.objects
not_refused image r (names_rule clean marks sound are is) a = names_broken (volume_items image) r is a.names

-- a device that is too short to have a superblock
no_block : (b magic : Bool) (o : Option VolumeRefusal) → b ≡ false → cond (b && magic) o (Some NotVolume) ≡ Some NotVolume
no_block false magic o is = refl
no_block true magic o is = absurd (true≢false is)

pub short_refused : (image : Image) → length image ≤ 16 → IsFrontRefusal image NotVolume
short_refused image short =
    let no : nat_lt SUPER_BLOCK (length image) ≡ false = grind (arith, nat_tests) in
    superblock_rule (no_block (nat_lt SUPER_BLOCK (length image)) (has_reiser_magic (block_at image SUPER_BLOCK)) _ no)

pub super_found : (image : Image) (bytes : List ℕ) (device : ℕ) (s : Super) → s ≡ superblock_fields bytes → IsCleanSuper bytes device → bytes ≡ block_at image SUPER_BLOCK → device ≡ length image → IsSuperOf image s
super_found image bytes device s fields clean same size = record {
  fields = fields ∙ ap superblock_fields same;
  clean = subst (λ (b : List ℕ). IsCleanSuper b (length image)) same (subst (λ (n : ℕ). IsCleanSuper bytes n) size clean);
}

pub super_refused : (image : Image) (bytes : List ℕ) (device : ℕ) (r : VolumeRefusal) → Some r ≡ superblock_refusal bytes device → bytes ≡ block_at image SUPER_BLOCK → device ≡ length image → IsFrontRefusal image r
super_refused image bytes device r is same size =
    superblock_rule (subst (λ (b : List ℕ). superblock_refusal b (length image) ≡ Some r) same (subst (λ (n : ℕ). superblock_refusal bytes n ≡ Some r) size (sym is)))

module _ (image : Image) (s : Super) (found : IsSuperOf image s) where
  pub journal_refused : (e : VolAnswer) → IsPendingIn (pending_transactions s image) e → RefusesFront image e
  journal_refused (Refused (JournalPending trans)) pending = journal_rule trans found.clean (subst (λ (t : Super). Contains (pending_transactions t image) trans) found.fields pending) refl
  journal_refused (Refused NotVolume) pending = absurd pending
  journal_refused (Refused (Unclean state)) pending = absurd pending
  journal_refused (Refused (Unsupported feature value)) pending = absurd pending
  journal_refused (Refused (Short volume device)) pending = absurd pending
  journal_refused (Refused (Damaged block rule)) pending = absurd pending
  journal_refused (Refused (HasAttributes dir object)) pending = absurd pending
  journal_refused (Refused (PendingLinks object)) pending = absurd pending
  journal_refused (Refused (NameTaken dir object)) pending = absurd pending
  journal_refused (Refused (NameTooLong dir object length)) pending = absurd pending
  journal_refused (Refused (HashCrowd dir object hash)) pending = absurd pending
  journal_refused Fault pending = tt
  journal_refused Memory pending = tt

  clean_found : pending_transactions s image ≡ [] → IsClean image
  clean_found none = record { superblock = found.clean; journal = subst (λ (t : Super). pending_transactions t image ≡ []) found.fields none }

  loaded : (used : List Bool) → used ≡ used_of image → (P : List Bool → Super → Type 0) → P used s → P (used_of image) (superblock image)
  loaded used is P h = subst (λ (u : List Bool). P u (superblock image)) is (subst (λ (t : Super). P used t) found.fields h)

  bits_found : (used : List Bool) → used ≡ bitmap_of s.blocks image → used ≡ used_of image
  bits_found used is = is ∙ ap (λ (t : Super). bitmap_of t.blocks image) found.fields

  pub bitmap_refused : (used : List Bool) (r : VolumeRefusal) → pending_transactions s image ≡ [] → used ≡ bitmap_of s.blocks image → NamesFreeBlock used s.journal_first s.journal_size r → IsFrontRefusal image r
  bitmap_refused used r none is names = bitmap_rule (clean_found none) (loaded used (bits_found used is) (λ u t. NamesFreeBlock u t.journal_first t.journal_size r) names)

  pub bitmap_found : (used : List Bool) → pending_transactions s image ≡ [] → used ≡ bitmap_of s.blocks image → All (λ b. has used b ≡ true) (system_blocks (length used) s.journal_first s.journal_size) → IsBitmapOf image used
  bitmap_found used none is all = record {
    clean = clean_found none;
    system = λ b among. All-contains (λ b. has (used_of image) b ≡ true) _ b
        (loaded used (bits_found used is) (λ u t. All (λ b. has u b ≡ true) (system_blocks (length u) t.journal_first t.journal_size)) all)
        (subst (λ (n : ℕ). Contains (system_blocks n (superblock image).journal_first (superblock image).journal_size) b) (sym (used_length image)) among);
    bits = bits_found used is;
  }

module _ (image : Image) (s : Super) (used : List Bool) (found : IsFoundSound image s used) where
  pub objects_refused : (e : VolAnswer) → Refuses s.root (volume_items image) e → RefusesVolume image e
  objects_refused (Refused r) is = objects_rule found.clean found.system found.tree (subst (λ (t : Super). IsObjectsRefusal t.root (volume_items image) r) found.fields is)
  objects_refused Fault is = tt
  objects_refused Memory is = tt

  pub names_refused : (e : VolAnswer) → AreObjects (volume_items image) → RefusesNames (volume_items image) e → RefusesVolume image e
  names_refused (Refused r) are is = names_rule found.clean found.system found.tree are is
  names_refused Fault are is = tt
  names_refused Memory are is = tt

module _ (image : Image) (s : Super) (used : List Bool) (found : IsSuperOf image s) (marked : IsBitmapOf image used) where
  pub tree_refused : (e : VolAnswer) → BlamesTree (reiser_tree_of s) image used e → RefusesVolume image e
  tree_refused (Refused r) is =
      tree_rule marked.clean marked.system
      (subst (λ (u : List Bool). Contains (tree_damages (reiser_tree_of (superblock image)) image u) r) marked.bits (subst (λ (t : Super). Contains (tree_damages (reiser_tree_of t) image used) r) found.fields is))
  tree_refused Fault is = tt
  tree_refused Memory is = tt

  pub tree_found : tree_damages (reiser_tree_of s) image used ≡ [] → IsFoundSound image s used
  tree_found none = record {
    fields = found.fields;
    clean = marked.clean;
    system = marked.system;
    bits = marked.bits;
    tree = subst (λ (u : List Bool). tree_damages (reiser_tree_of (superblock image)) image u ≡ []) marked.bits (subst (λ (t : Super). tree_damages (reiser_tree_of t) image used ≡ []) found.fields none);
  }

  pub items_found : (objects : Objects) → length used ≡ s.blocks → HasNoted objects (items_of_tree (reiser_tree_of s) image (length used)) → HasNoted objects (volume_items image)
  items_found objects size noted = subst (λ (t : Super). HasNoted objects (items_of_tree (reiser_tree_of t) image t.blocks)) found.fields (subst (λ (n : ℕ). HasNoted objects (items_of_tree (reiser_tree_of s) image n)) size noted)

-- what each group answers, whatever the source gives
abbrev all_known : List (Bool × VolumeRefusal) → Type 0
all_known [] = Unit {0}
all_known (rule ∷ rules) = NamesFrontRule rule.1 × all_known rules

one_of : (b : Bool) (o : Option VolumeRefusal) (e r : VolumeRefusal) → NamesFrontRule e → (o ≡ Some r → NamesFrontRule r) → cond b o (Some e) ≡ Some r → NamesFrontRule r
one_of true o e r known behind is = behind is
one_of false o e r known behind is = let same : e ≡ r = cc in subst NamesFrontRule same known

first_known : (rules : List (Bool × VolumeRefusal)) (r : VolumeRefusal) → all_known rules → first_refusal rules ≡ Some r → NamesFrontRule r
first_known [] r known is = let never : None ≡ Some r = is in absurd cc
first_known (rule ∷ rules) r known is = one_of rule.0 (first_refusal rules) rule.1 r known.0 (first_known rules r known.1) is

pub super_known : (bytes : List ℕ) (device : ℕ) (r : VolumeRefusal) → Some r ≡ superblock_refusal bytes device → NamesFrontRule r
super_known bytes device r is =
    let known : all_known (superblock_rules bytes device) = (tt, (tt, (tt, (tt, (tt, (tt, (tt, (tt, (tt, tt))))))))) in
    first_known (superblock_rules bytes device) r known (sym is)

front_rule_known : (rule : Rule) → IsFrontRule rule → IsVolumeRule rule
front_rule_known SuperField is = tt
front_rule_known SystemFree is = tt
front_rule_known NodeHead is = tt
front_rule_known Layout is = tt
front_rule_known KeyOrder is = tt
front_rule_known BlockFree is = tt
front_rule_known BlockRange is = tt
front_rule_known BlockTwice is = tt
front_rule_known Body is = tt
front_rule_known EntryForm is = tt
front_rule_known ObjectForm is = tt
front_rule_known Overlap is = tt
front_rule_known NameTwice is = tt
front_rule_known DirTwice is = tt
front_rule_known SizeRange is = tt
front_rule_known Reread is = is

pub front_known : (e : VolAnswer) → IsFrontAnswer e → IsVolumeAnswer e
front_known (Refused (Damaged block rule)) is = front_rule_known rule is
front_known (Refused NotVolume) is = tt
front_known (Refused (Unclean state)) is = tt
front_known (Refused (Unsupported feature value)) is = tt
front_known (Refused (Short volume device)) is = tt
front_known (Refused (JournalPending trans)) is = tt
front_known (Refused (HasAttributes dir object)) is = tt
front_known (Refused (PendingLinks object)) is = tt
front_known (Refused (NameTaken dir object)) is = tt
front_known (Refused (NameTooLong dir object length)) is = tt
front_known (Refused (HashCrowd dir object hash)) is = tt
front_known Fault is = tt
front_known Memory is = tt

pub front_refused : (image : Image) (e : VolAnswer) → RefusesFront image e → RefusesVolume image e
front_refused image (Refused r) is = front_rule is
front_refused image Fault is = tt
front_refused image Memory is = tt

module _ (image : Image) (front : Front) (of : IsFrontOf image front) where
  pub front_super : IsSuperOf image front.sup
  front_super = record { fields = of.sup; clean = of.accepted.clean.superblock }

  pub front_bitmap : IsBitmapOf image front.bitmap
  front_bitmap = record { clean = of.accepted.clean; system = of.accepted.system; bits = of.bitmap }

pub front_of : (image : Image) (s : Super) (used : List Bool) → IsSuperOf image s → IsBitmapOf image used → IsFrontOf image (record { sup = s; bitmap = used })
front_of image s used found marked = record { accepted = record { clean = marked.clean; system = marked.system }; sup = found.fields; bitmap = marked.bits }

pub verdict_known : (e : VolAnswer) → IsVerdict e → IsVolumeAnswer e
verdict_known (Refused r) is = is
verdict_known Fault is = tt
verdict_known Memory is = tt

-- what was read has no fault
pub no_fault : {T : Type 0} (r : Result T VolAnswer) → IfErr r IsVerdict → r ≡ Err Fault → ⊥
no_fault r known is = subst (λ (o : Result _ VolAnswer). IfErr o IsVerdict) is known

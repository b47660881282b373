-- What the rows of a volume are refused by, and its parts.
use Rattle.btr_reader.proofs.Imports.{◌≡◌, inl, inr, ℕ, ◌==◌, Bool, false, cond, List, [], ◌∷◌, length, map, Some, None, Result, Ok, Err, Contains, refl, sym, ◌∙◌, ap, subst, arith, MatchResult, nat_tests, SUPER_BLOCK, WholeRow, row_of, Row, Image, block_at, BtrAnswer, Refused, Fault, Memory, BtrRefusal, Super, super_refusals, super_of, unless_refused, super_in, MapRange, RefusesRows, super_on, chunk_map, opening_refusals, IsBtrfsOpened, IsAmong, IsSuperAnswer, own_super, own_map, log_of, log_tree, IsBtrfsRefusal, HasBtrfsRows, IsRowsRefusal, has_log, unreadable, ListsBtrfs, RefusesBtrfsRows, AreBtrfsRows, CanBeRead, IsFileTreeRefusal}
use Rattle.btr_reader.specs.Parts.{Tree}
use Rattle.btr_reader.specs.declared.volume.Btrfs.{Btrfs}
use Rattle.btr_reader.specs.Volume.{IsVolumeOn}
use Rattle.btr_reader.proofs.Opens.{super_refused}

abbrev ok_of : {A : Type 0} → A → Result A BtrRefusal
ok_of x = Ok x

ok_is : {A : Type 0} (x y : A) → ok_of x ≡ ok_of y → y ≡ x
ok_is x y same = cc same

-- a value that was not refused is the value
value_is : {A : Type 0} (refusals : List BtrRefusal) (x y : A) → unless_refused refusals x ≡ Ok y → y ≡ x
value_is [] x y same = ok_is x y same
value_is (r ∷ rs) x y same = absurd (cc same)

fields_are : (block : List ℕ) (place device : ℕ) (s : Super) → super_of block place device ≡ Ok s → s ≡ super_in block
unfolding super_of
fields_are block place device s read = value_is (super_refusals block place device) (super_in block) s read

pub opened_super : (image : Image) (s : Super) (ranges : List MapRange) → IsBtrfsOpened image s ranges → s ≡ own_super image
opened_super image s ranges opened = fields_are (block_at image SUPER_BLOCK) 16 _ s opened.super

pub opened_map : (image : Image) (s : Super) (ranges : List MapRange) → IsBtrfsOpened image s ranges → ranges ≡ own_map image
opened_map image s ranges opened = opened.map_is ∙ ap (chunk_map image) (opened_super image s ranges opened)

-- what is said of an opened volume's superblock and map is said of those of the disk
pub of_disk : (image : Image) (s : Super) (ranges : List MapRange) (P : Super → List MapRange → Type 0) → IsBtrfsOpened image s ranges → P s ranges → P (own_super image) (own_map image)
of_disk image s ranges P opened h =
    subst (λ (t : Super). P t (own_map image)) (opened_super image s ranges opened) (subst (P s) (opened_map image s ranges opened) h)

pub of_volume : (image : Image) (s : Super) (ranges : List MapRange) (P : Super → List MapRange → Type 0) → IsBtrfsOpened image s ranges → P (own_super image) (own_map image) → P s ranges
of_volume image s ranges P opened h =
    subst (P s) (sym (opened_map image s ranges opened)) (subst (λ (t : Super). P t (own_map image)) (sym (opened_super image s ranges opened)) h)

-- the superblock of a disk whose block 16 this is
pub read_here : (image : Image) (block : List ℕ) (device : ℕ) (read : Result Super BtrRefusal) → block ≡ block_at image SUPER_BLOCK → device ≡ length image → super_of block SUPER_BLOCK device ≡ read → super_on image ≡ read
read_here image block device read is size h =
    sym (ap (λ (b : List ℕ). super_of b SUPER_BLOCK device) is ∙ ap (super_of (block_at image SUPER_BLOCK) SUPER_BLOCK) size) ∙ h

none_of : (refusals : List BtrRefusal) (r : BtrRefusal) → refusals ≡ [] → Contains refusals r → ⊥
none_of refusals r none is =
    let here : Contains [] r = subst (λ (z : List BtrRefusal). Contains z r) none is in
    omega (arith, here.1)

pub none_in : (refusals : List BtrRefusal) → ((r : BtrRefusal) → Contains refusals r → ⊥) → refusals ≡ []
none_in [] none = refl
none_in (r ∷ rs) none = absurd (none r (0, omega arith, refl))

zero_is : (n : ℕ) → n ≡ 0 → cond (n == 0) None (Some n) ≡ None
zero_is n is = ap (λ (m : ℕ). cond (m == 0) None (Some m)) is

other_is : (n : ℕ) (b : Bool) → (n == 0) ≡ b → b ≡ false → cond (n == 0) None (Some n) ≡ Some n
other_is n b same is = ap (λ (t : Bool). cond t None (Some n)) (same ∙ is)

-- a volume without a log tree, and one with one
pub no_log : (image : Image) (s : Super) → super_on image ≡ Ok s → s.log_root ≡ 0 → log_tree image ≡ None
no_log image s read none = ap log_of read ∙ zero_is s.log_root none

pub one_log : (image : Image) (s : Super) → super_on image ≡ Ok s → ¬ (s.log_root ≡ 0) → log_tree image ≡ Some s.log_root
one_log image s read some = ap log_of read ∙ other_is s.log_root (s.log_root == 0) refl (grind (arith, nat_tests, some))

-- what the superblock, the opening and the file tree are refused by
pub super_refuses : (image : Image) (e : BtrAnswer) → IsSuperAnswer (super_on image) e → RefusesBtrfsRows image e
super_refuses image (Refused r) read = unreadable (ap log_of read) (inl (super_refused image (Refused r) read))
super_refuses image Fault read = tt
super_refuses image Memory read = tt

pub opening_refuses : (image : Image) (e : BtrAnswer) → log_tree image ≡ None → IsAmong (opening_refusals image) e → RefusesBtrfsRows image e
opening_refuses image (Refused r) none among = unreadable none (inl among)
opening_refuses image Fault none among = tt
opening_refuses image Memory none among = tt

tree_refuses : (image : Image) (s : Super) (ranges : List MapRange) (e : BtrAnswer) → s.log_root ≡ 0 → IsBtrfsOpened image s ranges → RefusesRows image s ranges e → RefusesBtrfsRows image e
tree_refuses image s ranges (Refused r) none opened (inl log) = absurd (log.0 none)
tree_refuses image s ranges (Refused r) none opened (inr bad) =
    unreadable (no_log image s opened.super none) (inr (opened.sound, of_disk image s ranges (λ t m. IsFileTreeRefusal image t m r) opened bad.1))
tree_refuses image s ranges Fault none opened refuses = tt
tree_refuses image s ranges Memory none opened refuses = tt

-- a volume whose file tree has no refusal is readable
tree_readable : (image : Image) (s : Super) (ranges : List MapRange) → IsBtrfsOpened image s ranges → ((r : BtrRefusal) → IsFileTreeRefusal image s ranges r → ⊥) → (r : BtrRefusal) → IsBtrfsRefusal image Tree r → ⊥
tree_readable image s ranges opened none r (inl among) = none_of (opening_refusals image) r opened.sound among
tree_readable image s ranges opened none r (inr bad) = none r (of_volume image s ranges (λ t m. IsFileTreeRefusal image t m r) opened bad.1)

-- the rows of an opened volume without a log tree
pub rows_listed : (image : Image) (volume : Btrfs) (result : Result (List Row) BtrAnswer) → IsVolumeOn image volume → volume.sup.log_root ≡ 0
    → MatchResult result (λ rows. (volume.sup.log_root ≡ 0) × ((whole : List WholeRow) × AreBtrfsRows image volume.sup volume.ranges.items whole × (rows ≡ map row_of whole))) (RefusesRows image volume.sup volume.ranges.items)
    → MatchResult result (ListsBtrfs image) (RefusesBtrfsRows image)
rows_listed image volume (Ok rows) on none (log, told) = (
  record {
    log = no_log image volume.sup on.opened.super none;
    tree = tree_readable image volume.sup volume.ranges.items on.opened told.1.readable;
  },
  (told.0, of_disk image volume.sup volume.ranges.items (λ t m. AreBtrfsRows image t m told.0) on.opened told.1, told.2),
)
rows_listed image volume (Err e) on none refuses = tree_refuses image volume.sup volume.ranges.items e none on.opened refuses

-- the answer of a superblock that is read from block 16
pub super_answer : (image : Image) (block : List ℕ) (device : ℕ) (e : BtrAnswer) → block ≡ block_at image SUPER_BLOCK → device ≡ length image → IsSuperAnswer (super_of block SUPER_BLOCK device) e → IsSuperAnswer (super_on image) e
super_answer image block device (Refused r) is size h = read_here image block device (Err r) is size h
super_answer image block device Fault is size h = tt
super_answer image block device Memory is size h = h

-- a volume whose rows are read is not refused
pub rows_not_refused : (image : Image) (r : BtrRefusal) → HasBtrfsRows image → IsRowsRefusal image r → ⊥
rows_not_refused image r has (has_log address log is) =
    let both : None ≡ Some address = sym has.log ∙ log in
    cc
rows_not_refused image r has (unreadable none is) = has.tree r is

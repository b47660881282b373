-- The inodes of a converted volume: where they stand, and whether their data has checksums.
use Rattle.convert_core_laws.proofs.Imports.{◌≡◌, ◌≤◌, ◌<◌, ℕ, ◌+◌, ◌*◌, ◌%◌, ◌^◌, Bool, true, false, not, ◌&&◌, List, [], ◌∷◌, ◌++◌, filter, map, Some, refl, sym, ap, subst, ◌∙◌, ⊎_elim, arith, ◌==◌, Contains, if◌then◌else◌, bit_and, w64, option_and_then, Less, cases_Bool, eq-eqb, ne_eqb, not_from_false, and_parts, eqb-true, fits_signed_from_abs, map-append, Contains-append_left, Contains-append_right, INODE_APPEND, INODE_IMMUTABLE, INODE_NOATIME, INODE_NODATASUM, INODE_NODUMP, INODE_SYNC, FIRST_FREE_OBJECTID, IMAGE_MODE, keys, in_filter, in_flat_map, Image, inode_bytes, inode_layout, inode_of, stamp_layout, Inode, inodes_read_back, Item, keys_of, ascends, has_no_sums, other_flags, TreeItem, bare_item, HasPieces, made_from, two_cases, extents_at, piece_bytes, pieces_of_volume, source_block, if_set, inode_flags, image_entries, image_flags, image_head, image_items, image_name, root_directory_items, Source, content_items, inode_in, kind_in, name_items, ino_of, object_items, stat_in, fs_tree_items, InodesAreThere, is_file, is_symlink, Kind, File, Symlink, inode_item, inode_made, ref_item, stamp_of, contains_head, contains_tail, root, same_key, ObjectKey, ObjectStat, same_key-true, by_inode, flag, Volume, HasBytes, item_cmp, Rise, Options, Piece, Plan}
use Rattle.std.proofs.Common.{pos}
use Rattle.btr_reader.proofs.btr_node.Ascending.{second_ascends}
use Rattle.convert_trees_laws.proofs.Exact.{inodes_are_read}
use Rattle.convert_core_laws.proofs.soundness.Keyed.{no_two}

-- of items that ascend two with one key are one
pub same_item : (items : List Item) (a b : Item) → Rise items → Contains items a → Contains items b → a.0 ≡ b.0 → a ≡ b
same_item items a b up h l same =
    ⊎_elim (λ (e : a ≡ b). e) (λ either. ⊎_elim (λ (less : item_cmp a b ≡ Less). absurd (no_two a b less same)) (λ (less : item_cmp b a ≡ Less). absurd (no_two b a less (sym same))) either)
    (two_cases (λ (x y : Item). item_cmp x y ≡ Less) items a b up h l)

-- ---- flags

even : (b : Bool) (n : ℕ) → n % 2 ≡ 0 → if_set b n % 2 ≡ 0
even true n is = is
even false n is = refl

sum_even : (x a b c d e : ℕ) → x ≤ 1 → a % 2 ≡ 0 → b % 2 ≡ 0 → c % 2 ≡ 0 → d % 2 ≡ 0 → e % 2 ≡ 0 → (x + (a + (b + (c + (d + e))))) % 2 ≡ x
sum_even x a b c d e few one two three four five = omega (arith, few, one, two, three, four, five)

at_most : (b : Bool) → if_set b INODE_NODATASUM ≤ 1
at_most true = omega arith
at_most false = omega arith

low_bit : (datasum : Bool) (flags : ℕ) (stat : ObjectStat) (kind : Kind) → inode_flags datasum flags stat kind % 2 ≡ if_set (is_file kind && not datasum) INODE_NODATASUM
low_bit datasum flags stat kind =
    sum_even (if_set (is_file kind && not datasum) INODE_NODATASUM) (if_set (flag flags stat 3) INODE_SYNC) (if_set (not (is_symlink kind) && flag flags stat 4) INODE_IMMUTABLE) (if_set (not (is_symlink kind) && flag flags stat 5) INODE_APPEND) (if_set (flag flags stat 6) INODE_NODUMP) (if_set (flag flags stat 7) INODE_NOATIME)
    (at_most (is_file kind && not datasum)) (even (flag flags stat 3) INODE_SYNC refl) (even (not (is_symlink kind) && flag flags stat 4) INODE_IMMUTABLE refl) (even (not (is_symlink kind) && flag flags stat 5) INODE_APPEND refl) (even (flag flags stat 6) INODE_NODUMP refl) (even (flag flags stat 7) INODE_NOATIME refl)

pub flags_are : (s : Source) (key : ObjectKey) → (inode_in s key).flags ≡ inode_flags s.datasum s.flags (stat_in s key) (kind_in s key)
unfolding inode_in
flags_are s key = refl

-- ---- flags that Linux knows

-- what holds of both holds of each
both : (p : Bool → Bool) → (p true && p false) ≡ true → (b : Bool) → p b ≡ true
both p t true = (and_parts (p true) (p false) t).0
both p t false = (and_parts (p true) (p false) t).1

abbrev flag_sum : Bool → Bool → Bool → Bool → Bool → Bool → ℕ
flag_sum a b c d e f = if_set a INODE_NODATASUM + (if_set b INODE_SYNC + (if_set c INODE_IMMUTABLE + (if_set d INODE_APPEND + (if_set e INODE_NODUMP + if_set f INODE_NOATIME))))

-- all sums of such flags have no bit of a mask, which is seen from each of the sums
abbrev all_of : (Bool → Bool) → Bool
all_of p = p true && p false

apart_from : (mask : ℕ) (a b c d e f : Bool) → all_of (λ a. all_of (λ b. all_of (λ c. all_of (λ d. all_of (λ e. all_of (λ f. bit_and (flag_sum a b c d e f) mask == 0)))))) ≡ true → bit_and (flag_sum a b c d e f) mask ≡ 0
apart_from mask a b c d e f t =
    let test : Bool → Bool → Bool → Bool → Bool → Bool → Bool = λ a b c d e f. bit_and (flag_sum a b c d e f) mask == 0 in
    eqb-true (bit_and (flag_sum a b c d e f) mask) 0
    (both (test a b c d e)
    (both (λ e. all_of (test a b c d e))
    (both (λ d. all_of (λ e. all_of (test a b c d e)))
    (both (λ c. all_of (λ d. all_of (λ e. all_of (test a b c d e))))
    (both (λ b. all_of (λ c. all_of (λ d. all_of (λ e. all_of (test a b c d e))))) (both (λ a. all_of (λ b. all_of (λ c. all_of (λ d. all_of (λ e. all_of (test a b c d e)))))) t a) b) c) d) e) f)

pub flags_known : (datasum : Bool) (flags : ℕ) (stat : ObjectStat) (kind : Kind) → bit_and (inode_flags datasum flags stat kind) other_flags ≡ 0
flags_known datasum flags stat kind =
    apart_from other_flags (is_file kind && not datasum) (flag flags stat 3) (not (is_symlink kind) && flag flags stat 4) (not (is_symlink kind) && flag flags stat 5) (flag flags stat 6) (flag flags stat 7) refl

-- a symlink is neither immutable nor append-only
pub link_flags : (datasum : Bool) (flags : ℕ) (stat : ObjectStat) → bit_and (inode_flags datasum flags stat Symlink) (INODE_IMMUTABLE + INODE_APPEND) ≡ 0
link_flags datasum flags stat = by (flag flags stat 3) (flag flags stat 6) (flag flags stat 7)
  where
    by : (b e f : Bool) → bit_and (flag_sum false b false false e f) (INODE_IMMUTABLE + INODE_APPEND) ≡ 0
    by true true true = refl
    by true true false = refl
    by true false true = refl
    by true false false = refl
    by false true true = refl
    by false true false = refl
    by false false true = refl
    by false false false = refl

-- the lowest flag is that of data without checksums
pub flag_bit : (s : Source) (key : ObjectKey) → (inode_in s key).flags % 2 ≡ if_set (is_file (kind_in s key) && not s.datasum) INODE_NODATASUM
flag_bit s key = ap (λ (n : ℕ). n % 2) (flags_are s key) ∙ low_bit s.datasum s.flags (stat_in s key) (kind_in s key)

-- data of files has checksums just where the option asks for them
pub file_sums : (s : Source) (key : ObjectKey) → s.datasum ≡ true → has_no_sums (inode_in s key) ≡ false
file_sums s key on =
    let is = flags_are s key in
    let bit = low_bit s.datasum s.flags (stat_in s key) (kind_in s key) in
    let none : if_set (is_file (kind_in s key) && not s.datasum) INODE_NODATASUM ≡ 0 = ap (λ (b : Bool). if_set (is_file (kind_in s key) && not b) INODE_NODATASUM) on ∙ off (is_file (kind_in s key)) in
    ne_eqb ((inode_in s key).flags % 2) 1 (λ e. never (ap (λ (n : ℕ). n % 2) is ∙ (bit ∙ none)) e)
  where
    off : (b : Bool) → if_set (b && false) INODE_NODATASUM ≡ 0
    off true = refl
    off false = refl

    never : {n : ℕ} → n ≡ 0 → n ≡ 1 → ⊥
    never zero_ one = omega (arith, zero_, one)

pub file_no_sums : (s : Source) (key : ObjectKey) → s.datasum ≡ false → kind_in s key ≡ File → has_no_sums (inode_in s key) ≡ true
file_no_sums s key off kind =
    let bit = low_bit s.datasum s.flags (stat_in s key) (kind_in s key) in
    let one : if_set (is_file (kind_in s key) && not s.datasum) INODE_NODATASUM ≡ 1 =
    ap (λ (b : Bool). if_set (is_file (kind_in s key) && not b) INODE_NODATASUM) off ∙ ap (λ (k : Kind). if_set (is_file k && true) INODE_NODATASUM) kind in
    eq-eqb ((inode_in s key).flags % 2) 1 (ap (λ (n : ℕ). n % 2) (flags_are s key) ∙ (bit ∙ one))

-- ---- the inode of an object

in_order : (all : List ObjectKey) (key : ObjectKey) → Contains all key → Contains (by_inode all) key
in_order all key h =
    ⊎_elim
    (λ (t : same_key key root ≡ true). subst (λ (k : ObjectKey). Contains (root ∷ filter (λ x. not (same_key x root)) all) k) (sym (same_key-true key root t)) (contains_head root (filter (λ x. not (same_key x root)) all)))
    (λ (f : same_key key root ≡ false). contains_tail key root (filter (λ x. not (same_key x root)) all) (in_filter (λ x. not (same_key x root)) all key h (not_from_false (same_key key root) f)))
    (cases_Bool (same_key key root))

own_there : (s : Source) (key : ObjectKey) → Contains (object_items s key) (inode_item (ino_of s key) (inode_in s key))
unfolding object_items
own_there s key = contains_head (inode_item (ino_of s key) (inode_in s key)) (name_items s key ++ content_items s key (kind_in s key))

pub inode_there : (s : Source) (key : ObjectKey) → Contains s.keys key → Contains (fs_tree_items s) (inode_item (ino_of s key) (inode_in s key))
unfolding fs_tree_items
inode_there s key h = in_flat_map (object_items s) (by_inode s.keys) key (inode_item (ino_of s key) (inode_in s key)) (in_order s.keys key h) (own_there s key)

-- an item in some leaf
abbrev placed : Item → TreeItem
placed i = record { leaf = 0; key = i.0; body = i.1 }

bare_placed : (items : List Item) → map bare_item (map placed items) ≡ items
bare_placed [] = refl
bare_placed (i ∷ items) = ap (λ (l : List Item). i ∷ l) (bare_placed items)

-- it reads as it was written
pub inode_reads : InodesAreThere → (volume : Volume) (image : Image) (o : Options) (plan : Plan) (pieces : List Piece) → HasPieces volume image o plan pieces → HasBytes image → (key : ObjectKey) → Contains (keys volume.named) key
    → inode_of (inode_bytes (inode_in (made_from volume image o pieces) key)) ≡ Some (inode_in (made_from volume image o pieces) key)
inode_reads there volume image o plan pieces has bytes key among =
    let s : Source = made_from volume image o pieces in
    let items : List TreeItem = map placed (fs_tree_items s) in
    let are : map bare_item items ≡ fs_tree_items s = bare_placed (fs_tree_items s) in
    let at = there volume image o plan pieces items key has are among in
    let read = inodes_are_read there volume image o plan pieces items key has are bytes among in
    sym (ap (λ (i : Item). inode_of i.1) at.2) ∙ (sym (ap (option_and_then (λ (i : TreeItem). inode_of i.body)) at.1) ∙ read)

-- ---- the inode of the saved image

abbrev pub image_inode : ℕ → List Piece → Bool → ℕ → Inode
image_inode blocks pieces datasum now = inode_made now IMAGE_MODE (4096 * blocks) (piece_bytes (pieces_of_volume pieces)) (image_flags datasum)

pub image_inode_there : (blocks : ℕ) (pieces : List Piece) (datasum : Bool) (now : ℕ) → Contains (image_items blocks pieces datasum now) (inode_item 257 (image_inode blocks pieces datasum now))
unfolding image_items image_head
image_inode_there blocks pieces datasum now =
    let own : Item = inode_item 257 (image_inode blocks pieces datasum now) in
    let rest : List Item = ref_item 257 FIRST_FREE_OBJECTID 2 image_name ∷ [] in
    Contains-append_left (root_directory_items now image_entries ++ (own ∷ rest)) (extents_at 257 source_block (pieces_of_volume pieces)) own
    (Contains-append_right (root_directory_items now image_entries) (own ∷ rest) own (contains_head own rest))

pub stamp_fits : (now : ℕ) → now < 2 ^ 63 → stamp_layout.fits (stamp_of now)
unfolding stamp_layout
stamp_fits now low = ((tt, fits_signed_from_abs w64 (pos now) (omega (arith, low))), omega arith)

image_fits : (blocks : ℕ) (pieces : List Piece) (datasum : Bool) (now : ℕ) → blocks ≤ 2 ^ 29 → piece_bytes (pieces_of_volume pieces) ≤ 2 ^ 41 → now < 2 ^ 63 → inode_layout.fits (image_inode blocks pieces datasum now)
unfolding inode_layout
image_fits blocks pieces datasum now few small low =
    ((((((((((((((((tt, omega arith), omega arith), omega (arith, few)), omega (arith, small)), omega arith), omega arith), omega arith), omega arith), omega arith), omega arith), flags datasum), omega arith), stamp_fits now low), stamp_fits now low), stamp_fits now low), stamp_fits 0 (omega arith))
  where
    flags : (b : Bool) → (if b then 4 else 5) < 256 ^ 8
    flags true = omega arith
    flags false = omega arith

pub image_inode_reads : (blocks : ℕ) (pieces : List Piece) (datasum : Bool) (now : ℕ) → blocks ≤ 2 ^ 29 → piece_bytes (pieces_of_volume pieces) ≤ 2 ^ 41 → now < 2 ^ 63
    → inode_of (inode_bytes (image_inode blocks pieces datasum now)) ≡ Some (image_inode blocks pieces datasum now)
image_inode_reads blocks pieces datasum now few small low = inodes_read_back (image_inode blocks pieces datasum now) (image_fits blocks pieces datasum now few small low)

-- its extents ascend by their keys
pub image_extents_ascend : (blocks : ℕ) (pieces : List Piece) (datasum : Bool) (now : ℕ) → ascends (keys_of (image_items blocks pieces datasum now)) ≡ true → ascends (keys_of (extents_at 257 source_block (pieces_of_volume pieces))) ≡ true
unfolding image_items
image_extents_ascend blocks pieces datasum now up =
    let head : List Item = image_head blocks (piece_bytes (pieces_of_volume pieces)) datasum now in
    let extents : List Item = extents_at 257 source_block (pieces_of_volume pieces) in
    second_ascends (keys_of head) (keys_of extents) (ap ascends (sym (map-append (λ (i : Item). i.0) head extents)) ∙ up)

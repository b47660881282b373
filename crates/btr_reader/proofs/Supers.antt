-- What is known of a superblock that is read.
use Rattle.btr_reader.proofs.Imports.{◌≡◌, ℕ, ◌*◌, ◌≤◌, eqb, nat_lt, nat_le, Bool, true, false, ◌&&◌, List, [], ◌∷◌, Result, Ok, Err, IfOk, codes, is_some, IsSome, refl, sym, ap, subst, arith, nat_tests, drop-drop, SUPER_BLOCK, SUPER_INFO_OFFSET, SUPER_MAGIC_OFFSET, BtrRefusal, BadBtrfs, Unsupported, SuperCsum, SuperField, Incompat, ChecksumType, SectorSize, NodeSize, DeviceCount, has_bytes_at, field, Super, super_in, super_layout, bad_field, is_super, has_fields, unread_bits, is_node_size, field_rules, feature_rules, failing, unless_refused, super_refusals, super_of, IsSuperInBounds}
use Rattle.btr_super.specs.Sums.{known_kind, csum_type_of, has_sum}
use Rattle.btr_reader_walk.proofs.btr_node.Rows.{both}
use Rattle.btr_reader_walk.proofs.Stacks.{sized}

-- a device that has no block 16 has no superblock
pub no_super : (block : List ℕ) (device : ℕ) → device ≤ 16 → super_of block SUPER_BLOCK device ≡ Err (BadBtrfs SUPER_INFO_OFFSET SuperField)
unfolding super_of
no_super block device few =
    let off : nat_lt 16 device ≡ false = grind (arith, nat_tests, few) in
    ap (λ t. unless_refused
    (failing ((t && has_bytes_at block SUPER_MAGIC_OFFSET (codes "_BHRfS_M"), bad_field)
    ∷ (is_some (known_kind (csum_type_of block)), Unsupported ChecksumType (csum_type_of block))
    ∷ (has_sum (known_kind (csum_type_of block)) block, BadBtrfs SUPER_INFO_OFFSET SuperCsum)
    ∷ field_rules (super_in block) SUPER_BLOCK device))
    (super_in block)) off

rule_holds : (t : Bool) (r : BtrRefusal) (rules : List (Bool × BtrRefusal)) → failing ((t, r) ∷ rules) ≡ [] → (t ≡ true) × (failing rules ≡ [])
rule_holds true r rules h = (refl, h)
rule_holds false r rules h = absurd (cc h)

abbrev ok_of : {A : Type 0} → A → Result A BtrRefusal
ok_of x = Ok x

ok_is : {A : Type 0} (x y : A) → ok_of x ≡ ok_of y → x ≡ y
ok_is x y h = cc h

none_refused : {A : Type 0} (rs : List BtrRefusal) (x y : A) → unless_refused rs x ≡ Ok y → (rs ≡ []) × (x ≡ y)
none_refused [] x y h = (refl, ok_is x y h)
none_refused (r ∷ rs) x y h = absurd (cc h)

le_of : (a b : ℕ) → nat_le a b ≡ true → a ≤ b
le_of a b h = grind (arith, nat_tests, h)

abbrev device_rules : Super → List (Bool × BtrRefusal)
device_rules s = (eqb s.num_devices 1, Unsupported DeviceCount s.num_devices) ∷ []

abbrev size_rules : Super → List (Bool × BtrRefusal)
size_rules s = (is_node_size s.nodesize, Unsupported NodeSize s.nodesize) ∷ device_rules s

abbrev sector_rules : Super → List (Bool × BtrRefusal)
sector_rules s = (eqb s.sectorsize 4096, Unsupported SectorSize s.sectorsize) ∷ size_rules s

bounds : (s : Super) (device : ℕ) → IsSome (known_kind s.csum_type) → failing (field_rules s SUPER_BLOCK device) ≡ [] → IsSuperInBounds s
bounds s device kind h =
    let first = rule_holds (has_fields s SUPER_BLOCK device) bad_field (feature_rules s) h in
    let bits = rule_holds (eqb (unread_bits s.incompat) 0) (Unsupported Incompat (unread_bits s.incompat)) (sector_rules s) first.1 in
    let sector = rule_holds (eqb s.sectorsize 4096) (Unsupported SectorSize s.sectorsize) (size_rules s) bits.1 in
    let size = rule_holds (is_node_size s.nodesize) (Unsupported NodeSize s.nodesize) (device_rules s) sector.1 in
    let own = both (eqb s.bytenr (4096 * 16)) _ first.0 in
    let root = both (nat_le s.root_level 7) _ own.1 in
    let chunks = both (nat_le s.chunk_root_level 7) _ root.1 in
    let log = both (nat_le s.log_root_level 7) _ chunks.1 in
    let array = both (nat_le s.sys_chunk_array_size 2048) _ log.1 in
    record {
      kind = kind;
      nodesize = sized s.nodesize size.0;
      root = le_of s.root_level 7 root.0;
      chunks = le_of s.chunk_root_level 7 chunks.0;
      array = le_of s.sys_chunk_array_size 2048 array.0;
    }

abbrev sum_rules : List ℕ → ℕ → List (Bool × BtrRefusal)
sum_rules block device = (has_sum (known_kind (csum_type_of block)) block, BadBtrfs SUPER_INFO_OFFSET SuperCsum) ∷ field_rules (super_in block) SUPER_BLOCK device

abbrev kind_rules : List ℕ → ℕ → List (Bool × BtrRefusal)
kind_rules block device = (is_some (known_kind (csum_type_of block)), Unsupported ChecksumType (csum_type_of block)) ∷ sum_rules block device

-- the type of the checksum is a field of the superblock
type_in : (block : List ℕ) → csum_type_of block ≡ (super_in block).csum_type
unfolding super_layout
type_in block = ap (λ (bytes : List ℕ). field 2 bytes 0) (sym (drop-drop 164 32 block))

pub in_bounds : (block : List ℕ) (device : ℕ) (s : Super) → super_of block SUPER_BLOCK device ≡ Ok s → IsSuperInBounds s
unfolding super_of
in_bounds block device s h =
    let read = none_refused (super_refusals block SUPER_BLOCK device) (super_in block) s h in
    let magic = rule_holds (is_super block SUPER_BLOCK device) bad_field (kind_rules block device) read.0 in
    let kind = rule_holds (is_some (known_kind (csum_type_of block))) (Unsupported ChecksumType (csum_type_of block)) (sum_rules block device) magic.1 in
    let sum = rule_holds (has_sum (known_kind (csum_type_of block)) block) (BadBtrfs SUPER_INFO_OFFSET SuperCsum) (field_rules (super_in block) SUPER_BLOCK device) kind.1 in
    subst IsSuperInBounds read.1 (bounds (super_in block) device (subst (λ (n : ℕ). IsSome (known_kind n)) (type_in block) kind.0) sum.1)

pub read_bounds : (block : List ℕ) (device : ℕ) (result : Result Super BtrRefusal) → result ≡ super_of block SUPER_BLOCK device → IfOk result IsSuperInBounds
read_bounds block device (Ok s) is = in_bounds block device s (sym is)
read_bounds block device (Err r) is = tt

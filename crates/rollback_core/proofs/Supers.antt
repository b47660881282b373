-- What is known of a Btrfs superblock that is read.
use Rattle.rollback_core.proofs.Imports.{◌≡◌, ℕ, ◌*◌, ◌/◌, ◌≤◌, eqb, nat_le, Bool, true, false, List, [], ◌∷◌, Result, Ok, refl, subst, arith, is_some, and_parts, nat_tests, SUPER_BLOCK, SUPER_INFO_OFFSET, BtrRefusal, BadBtrfs, Unsupported, Super, super_in, bad_field, is_super, has_fields, field_rules, feature_rules, failing, unless_refused, super_refusals, super_of}
use Rattle.reiser_bitmap.specs.refusals.declared.rule.BtrRule.TheVariants.{SuperCsum}
use Rattle.reiser_bitmap.specs.refusals.declared.rule.Feature.TheVariants.{ChecksumType}
use Rattle.btr_reader.specs.btr_super.Sums.{known_kind, csum_type_of, has_sum}

rule_holds : (t : Bool) (r : BtrRefusal) (rules : List (Bool × BtrRefusal)) → failing ((t, r) ∷ rules) ≡ [] → (t ≡ true) × (failing rules ≡ [])
rule_holds true r rules h = (refl, h)
rule_holds false r rules h = absurd (cc h)

abbrev ok_of : {A : Type 0} → A → Result A BtrRefusal
ok_of x = Ok x

ok_is : {A : Type 0} (x y : A) → ok_of x ≡ ok_of y → x ≡ y
ok_is x y h = cc h

none_refused : {A : Type 0} (rs : List BtrRefusal) (x y : A) → unless_refused rs x ≡ Ok y → (rs ≡ []) × (x ≡ y)
none_refused [] x y h = (refl, ok_is x y h)
none_refused (r ∷ rs) x y h = absurd (cc h)

le_of : (a b : ℕ) → nat_le a b ≡ true → a ≤ b
le_of a b h = grind (arith, nat_tests, h)

-- its volume is no longer than the device
fields_fit : (s : Super) (device : ℕ) → has_fields s SUPER_BLOCK device ≡ true → s.total_bytes ≤ 4096 * device
fields_fit s device h =
    let own = and_parts (eqb s.bytenr (4096 * 16)) _ h in
    let root = and_parts (nat_le s.root_level 7) _ own.1 in
    let chunks = and_parts (nat_le s.chunk_root_level 7) _ root.1 in
    let log = and_parts (nat_le s.log_root_level 7) _ chunks.1 in
    let array = and_parts (nat_le s.sys_chunk_array_size 2048) _ log.1 in
    let total = and_parts (nat_le s.total_bytes (4096 * device)) _ array.1 in
    le_of s.total_bytes (4096 * device) total.0

abbrev sum_rules : List ℕ → ℕ → List (Bool × BtrRefusal)
sum_rules block device = (has_sum (known_kind (csum_type_of block)) block, BadBtrfs SUPER_INFO_OFFSET SuperCsum) ∷ field_rules (super_in block) SUPER_BLOCK device

abbrev kind_rules : List ℕ → ℕ → List (Bool × BtrRefusal)
kind_rules block device = (is_some (known_kind (csum_type_of block)), Unsupported ChecksumType (csum_type_of block)) ∷ sum_rules block device

-- a superblock that is read is that of the block
pub super_is : (block : List ℕ) (device : ℕ) (s : Super) → super_of block SUPER_BLOCK device ≡ Ok s → super_in block ≡ s
unfolding super_of
super_is block device s h = (none_refused (super_refusals block SUPER_BLOCK device) (super_in block) s h).1

pub super_fits : (block : List ℕ) (device : ℕ) (s : Super) → super_of block SUPER_BLOCK device ≡ Ok s → s.total_bytes / 4096 ≤ device
unfolding super_of
super_fits block device s h =
    let read = none_refused (super_refusals block SUPER_BLOCK device) (super_in block) s h in
    let magic = rule_holds (is_super block SUPER_BLOCK device) bad_field (kind_rules block device) read.0 in
    let kind = rule_holds (is_some (known_kind (csum_type_of block))) (Unsupported ChecksumType (csum_type_of block)) (sum_rules block device) magic.1 in
    let sum = rule_holds (has_sum (known_kind (csum_type_of block)) block) (BadBtrfs SUPER_INFO_OFFSET SuperCsum) (field_rules (super_in block) SUPER_BLOCK device) kind.1 in
    let fields = rule_holds (has_fields (super_in block) SUPER_BLOCK device) bad_field (feature_rules (super_in block)) sum.1 in
    let fits : s.total_bytes ≤ 4096 * device = subst (λ (t : Super). t.total_bytes ≤ 4096 * device) read.1 (fields_fit (super_in block) device fields.0) in
    omega (arith, fits)

-- the device has block 16, which has the magic of Btrfs
pub super_magic : (block : List ℕ) (device : ℕ) (s : Super) → super_of block SUPER_BLOCK device ≡ Ok s → is_super block SUPER_BLOCK device ≡ true
unfolding super_of
super_magic block device s h = (rule_holds (is_super block SUPER_BLOCK device) bad_field (kind_rules block device) (none_refused (super_refusals block SUPER_BLOCK device) (super_in block) s h).0).0

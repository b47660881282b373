-- The copy of a superblock at another place is read there.
use Rattle.btr_super.proofs.Imports.{◌≡◌, ◌<◌, ◌≤◌, ◌+◌, ◌*◌, ◌^◌, ◌%◌, ◌==◌, ℕ, Bool, true, false, ◌&&◌, List, [], ◌∷◌, ◌++◌, length, take, drop, slice_index, codes, nat_eq, nat_lt, nat_le, Ok, Option, Some, None, is_some, refl, ap, sym, ◌∙◌, arith, eq-eqb, length-take, length-drop, lt-ltb, take_at, drop_at, drop-drop, drop-append-le, drop-take, starts_with, SUPER_INFO_OFFSET, SUPER_MAGIC_OFFSET, little_number, little_bytes, put_field, has_bytes_at, kind_sum, SumKind, BtrRefusal, device_layout, Super, known_kind, csum_type_of, has_sum, sealed_by, super_layout, super_in, mirror_bytes, is_super, has_fields, bad_field, block_rules, feature_rules, field_rules, failing, super_refusals, unless_refused, super_of, MirrorsRead, length-kind_sum}
use Rattle.byteorder.specs.Numbers.{little_number-reads_back}
use Rattle.refusals.specs.declared.refusal.BtrRefusal.TheVariants.{BadBtrfs, Unsupported}
use Rattle.refusals.specs.declared.rule.BtrRule.TheVariants.{SuperCsum}
use Rattle.refusals.specs.declared.rule.Feature.TheVariants.{ChecksumType}
use Rattle.btr_super.proofs.ReadBack.{starts_with_front, three_hold}

moved_rest : (c : List ℕ) (x : ℕ) → 24 ≤ length c → drop 24 (take 16 c ++ (little_bytes 8 x ++ drop 24 c)) ≡ drop 24 c
moved_rest c x long =
    let behind = little_bytes 8 x ++ drop 24 c in
    let len : length (take 16 c) ≡ 16 = omega (arith, length-take 16 c) in
    sym (drop-drop 8 16 (take 16 c ++ behind)) ∙ ap (drop 8) (drop_at (take 16 c) behind 16 len)

-- what the checksum covers, with another address, reads as the same superblock with that address
moved_reads : (c : List ℕ) (x : ℕ) → 24 ≤ length c → x < 256 ^ 8 → super_layout.read (take 16 c ++ (little_bytes 8 x ++ drop 24 c)) ≡ record (super_layout.read c) { bytenr = x }
unfolding super_layout device_layout
moved_reads c x long fits =
    let behind = little_bytes 8 x ++ drop 24 c in
    let moved = take 16 c ++ behind in
    let len : length (take 16 c) ≡ 16 = omega (arith, length-take 16 c) in
    let there : drop 16 moved ≡ behind = drop_at (take 16 c) behind 16 len in
    let rest : drop 24 moved ≡ drop 24 c = moved_rest c x long in
    let same : (k : ℕ) → drop (24 + k) moved ≡ drop (24 + k) c = λ k. sym (drop-drop k 24 moved) ∙ ap (drop k) rest ∙ drop-drop k 24 c in
    λ i. record {
      fsid = take_at (take 16 c) behind 16 len i;
      bytenr = (ap (little_number 8) there ∙ little_number-reads_back 8 x (drop 24 c) fits) i;
      flags = ap (little_number 8) (same 0) i;
      generation = ap (little_number 8) (same 16) i;
      root = ap (little_number 8) (same 24) i;
      chunk_root = ap (little_number 8) (same 32) i;
      log_root = ap (little_number 8) (same 40) i;
      log_root_transid = ap (little_number 8) (same 48) i;
      total_bytes = ap (little_number 8) (same 56) i;
      bytes_used = ap (little_number 8) (same 64) i;
      root_dir_objectid = ap (little_number 8) (same 72) i;
      num_devices = ap (little_number 8) (same 80) i;
      sectorsize = ap (little_number 4) (same 88) i;
      nodesize = ap (little_number 4) (same 92) i;
      leafsize = ap (little_number 4) (same 96) i;
      stripesize = ap (little_number 4) (same 100) i;
      sys_chunk_array_size = ap (little_number 4) (same 104) i;
      chunk_root_generation = ap (little_number 8) (same 108) i;
      compat = ap (little_number 8) (same 116) i;
      compat_ro = ap (little_number 8) (same 124) i;
      incompat = ap (little_number 8) (same 132) i;
      csum_type = ap (little_number 2) (same 140) i;
      root_level = ap (λ (z : List ℕ). slice_index z 0) (same 142) i;
      chunk_root_level = ap (λ (z : List ℕ). slice_index z 0) (same 143) i;
      log_root_level = ap (λ (z : List ℕ). slice_index z 0) (same 144) i;
      dev_item = ap device_layout.read (same 145) i;
      label = ap (take 256) (same 243) i;
      cache_generation = ap (little_number 8) (same 499) i;
      uuid_tree_generation = ap (little_number 8) (same 507) i;
      metadata_uuid = ap (take 16) (same 515) i;
      sys_chunk_array = ap (take 2048) (same 755) i;
      backup_roots = ap (take 672) (same 2803) i;
    }

-- the bytes of a block with another address, from byte 32 on
moved_covered : (block : List ℕ) (x : ℕ) → 56 ≤ length block → drop 32 (put_field 8 block 48 x) ≡ take 16 (drop 32 block) ++ (little_bytes 8 x ++ drop 24 (drop 32 block))
moved_covered block x long =
    let front = take 48 block in
    let behind = little_bytes 8 x ++ drop 8 (drop 48 block) in
    let len : length front ≡ 48 = omega (arith, length-take 48 block) in
    drop-append-le 32 front behind (omega (arith, len))
    ∙ ap (λ (z : List ℕ). z ++ behind) (drop-take 32 16 block)
    ∙ ap (λ (z : List ℕ). take 16 (drop 32 block) ++ (little_bytes 8 x ++ z)) (drop-drop 8 48 block ∙ sym (drop-drop 24 32 block))

unless_ok : {A : Type 0} (rs : List BtrRefusal) (x y : A) → unless_refused rs x ≡ Ok y → (rs ≡ []) × (x ≡ y)
unless_ok [] x y e = (refl, cc)
unless_ok (r ∷ rs) x y e = absurd cc

rule_holds : (b : Bool) (r : BtrRefusal) (rules : List (Bool × BtrRefusal)) → failing ((b, r) ∷ rules) ≡ [] → (b ≡ true) × (failing rules ≡ [])
rule_holds true r rules e = (refl, e)
rule_holds false r rules e = absurd cc

three_held : (a b c : Bool) (p q r : BtrRefusal) (rules : List (Bool × BtrRefusal)) → failing ((a, p) ∷ (b, q) ∷ (c, r) ∷ rules) ≡ [] → (a ≡ true) × (b ≡ true) × (c ≡ true) × (failing rules ≡ [])
three_held a b c p q r rules e =
    let first = rule_holds a p ((b, q) ∷ (c, r) ∷ rules) e in
    let second = rule_holds b q ((c, r) ∷ rules) first.1 in
    let third = rule_holds c r rules second.1 in
    (first.0, second.0, third.0, third.1)

holds_too : (b : Bool) (r : BtrRefusal) (rules : List (Bool × BtrRefusal)) → b ≡ true → failing rules ≡ [] → failing ((b, r) ∷ rules) ≡ []
holds_too b r rules x y = rw x y

both_of : (a b : Bool) → (a && b) ≡ true → (a ≡ true) × (b ≡ true)
both_of true b e = (refl, e)
both_of false b e = absurd cc

known_of : (o : Option SumKind) → is_some o ≡ true → (kind : SumKind) × (o ≡ Some kind)
known_of None e = absurd cc
known_of (Some kind) e = (kind, refl)

-- the bounds of fields beside the address
abbrev has_fields_beside : Super → ℕ → Bool
has_fields_beside s device =
    nat_le s.root_level 7 && (nat_le s.chunk_root_level 7 && (nat_le s.log_root_level 7
    && (nat_le s.sys_chunk_array_size 2048
    && (nat_le s.total_bytes (4096 * device) && (nat_le s.total_bytes (2 ^ 48) && (s.total_bytes % 4096 == 0))))))

-- the rules of fields hold at another place, with its address
fields_there : (s : Super) (place device to : ℕ) → failing (field_rules s place device) ≡ [] → failing (field_rules (record s { bytenr = 4096 * to }) to device) ≡ []
fields_there s place device to e =
    let first = rule_holds (has_fields s place device) bad_field (feature_rules s) e in
    let others = both_of (s.bytenr == 4096 * place) (has_fields_beside s device) first.0 in
    let holds : has_fields (record s { bytenr = 4096 * to }) to device ≡ true =
    ap (λ (b : Bool). b && has_fields_beside s device) (eq-eqb (4096 * to) (4096 * to) refl) ∙ others.1 in
    holds_too (has_fields (record s { bytenr = 4096 * to }) to device) bad_field (feature_rules s) holds first.1

pub mirrors_read : MirrorsRead
unfolding super_of
mirrors_read block s place device to len is below there =
    let read = unless_ok (super_refusals block place device) (super_in block) s is in
    let held =
    three_held (is_super block place device) (is_some (known_kind (csum_type_of block))) (has_sum (known_kind (csum_type_of block)) block) bad_field (Unsupported ChecksumType (csum_type_of block)) (BadBtrfs SUPER_INFO_OFFSET SuperCsum)
    (field_rules (super_in block) place device) read.0 in
    let kind = known_of (known_kind (csum_type_of block)) held.1 in
    let magic = both_of (nat_lt place device) (has_bytes_at block SUPER_MAGIC_OFFSET (codes "_BHRfS_M")) held.0 in
    let c = drop 32 block in
    let x = 4096 * to in
    let moved = put_field 8 block 48 x in
    let covered = take 16 c ++ (little_bytes 8 x ++ drop 24 c) in
    let long : 24 ≤ length c = omega (arith, len, length-drop 32 block) in
    let fits : x < 256 ^ 8 = omega (arith, below) in
    let is_covered : drop 32 moved ≡ covered = moved_covered block x (omega (arith, len)) in
    let rest : drop 24 covered ≡ drop 24 c = moved_rest c x long in
    let sum = kind_sum kind.0 covered in
    let copy = sum ++ covered in
    let type_moved : csum_type_of moved ≡ csum_type_of block =
    ap (little_number 2) (sym (drop-drop 164 32 moved) ∙ ap (drop 164) is_covered ∙ sym (drop-drop 140 24 covered) ∙ ap (drop 140) rest ∙ drop-drop 140 24 c ∙ drop-drop 164 32 block) in
    let sealed_is : mirror_bytes to block ≡ copy =
    ap (λ k. sealed_by k moved) (ap known_kind type_moved ∙ kind.1) ∙ ap (λ (z : List ℕ). kind_sum kind.0 z ++ z) is_covered in
    let behind : drop 32 copy ≡ covered = drop_at sum covered 32 (length-kind_sum kind.0 covered) in
    let reads : super_in copy ≡ record s { bytenr = x } = ap super_layout.read behind ∙ moved_reads c x long fits ∙ ap (λ (v : Super). record v { bytenr = x }) read.1 in
    let type_is : csum_type_of copy ≡ csum_type_of block =
    ap (little_number 2) (sym (drop-drop 164 32 copy) ∙ ap (drop 164) behind ∙ sym (drop-drop 140 24 covered) ∙ ap (drop 140) rest ∙ drop-drop 140 24 c ∙ drop-drop 164 32 block) in
    let names_kind : known_kind (csum_type_of copy) ≡ Some kind.0 = ap known_kind type_is ∙ kind.1 in
    let has_magic : has_bytes_at copy SUPER_MAGIC_OFFSET (codes "_BHRfS_M") ≡ true =
    ap (λ (z : List ℕ). starts_with nat_eq z (codes "_BHRfS_M")) (sym (drop-drop 32 32 copy) ∙ ap (drop 32) behind ∙ sym (drop-drop 8 24 covered) ∙ ap (drop 8) rest ∙ drop-drop 8 24 c ∙ drop-drop 32 32 block) ∙ magic.1 in
    let first : is_super copy to device ≡ true = ap (λ (b : Bool). nat_lt to device && b) has_magic ∙ ap (λ (b : Bool). b && true) (lt-ltb to device there) in
    let second : is_some (known_kind (csum_type_of copy)) ≡ true = ap is_some names_kind in
    let third : has_sum (known_kind (csum_type_of copy)) copy ≡ true =
    ap (λ k. has_sum k copy) names_kind ∙ ap (λ (z : List ℕ). starts_with nat_eq copy (kind_sum kind.0 z)) behind ∙ starts_with_front sum covered in
    let fields : failing (field_rules s place device) ≡ [] = ap (λ (v : Super). failing (field_rules v place device)) (sym read.1) ∙ held.3 in
    let none : failing (block_rules copy to device ++ field_rules (super_in copy) to device) ≡ [] =
    three_hold _ _ _ _ _ _ (field_rules (super_in copy) to device) first second third ∙ ap (λ (v : Super). failing (field_rules v to device)) reads ∙ fields_there s place device to fields in
    ap (λ (z : List ℕ). super_of z to device) sealed_is
    ∙ ap (λ (rs : List BtrRefusal). unless_refused rs (super_in copy)) none
    ∙ ap Ok reads

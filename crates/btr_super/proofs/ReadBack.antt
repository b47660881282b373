-- A superblock that is written is read again.
use Rattle.btr_super.proofs.Imports.{◌≡◌, ℕ, Bool, true, ◌&&◌, List, [], ◌∷◌, ◌++◌, length, drop, replicate, codes, nat_eq, nat_lt, Ok, Some, is_some, refl, ap, sym, ◌∙◌, eq-eqb, lt-ltb, drop_at, drop-drop, starts_with, SUPER_MAGIC_OFFSET, little_number, little_bytes, field, has_bytes_at, kind_sum, BtrRefusal, spelling, Reads, start, ◌▹◌, u8_reads, u16_reads, u32_reads, u64_reads, array_reads, part_reads, Super, known_kind, csum_type_of, has_sum, sealed_by, super_layout, make_super, super_in, super_bytes, is_super, block_rules, field_rules, failing, unless_refused, super_of, SupersReadBack, length-kind_sum}
use Rattle.btr_space_items.proofs.Records.{device_reads}
use Rattle.btr_super.proofs.Constants.{◌▹▹◌}

pub super_reads : Reads super_layout (λ s. s)
unfolding super_layout
super_reads =
    start make_super
    ▹ array_reads {n = 16} {get = λ s. s.fsid}
    ▹ u64_reads {get = λ s. s.bytenr}
    ▹ u64_reads {get = λ s. s.flags}
    ▹▹ codes "_BHRfS_M"
    ▹ u64_reads {get = λ s. s.generation}
    ▹ u64_reads {get = λ s. s.root}
    ▹ u64_reads {get = λ s. s.chunk_root}
    ▹ u64_reads {get = λ s. s.log_root}
    ▹ u64_reads {get = λ s. s.log_root_transid}
    ▹ u64_reads {get = λ s. s.total_bytes}
    ▹ u64_reads {get = λ s. s.bytes_used}
    ▹ u64_reads {get = λ s. s.root_dir_objectid}
    ▹ u64_reads {get = λ s. s.num_devices}
    ▹ u32_reads {get = λ s. s.sectorsize}
    ▹ u32_reads {get = λ s. s.nodesize}
    ▹ u32_reads {get = λ s. s.leafsize}
    ▹ u32_reads {get = λ s. s.stripesize}
    ▹ u32_reads {get = λ s. s.sys_chunk_array_size}
    ▹ u64_reads {get = λ s. s.chunk_root_generation}
    ▹ u64_reads {get = λ s. s.compat}
    ▹ u64_reads {get = λ s. s.compat_ro}
    ▹ u64_reads {get = λ s. s.incompat}
    ▹ u16_reads {get = λ s. s.csum_type}
    ▹ u8_reads {get = λ s. s.root_level}
    ▹ u8_reads {get = λ s. s.chunk_root_level}
    ▹ u8_reads {get = λ s. s.log_root_level}
    ▹ part_reads {get = λ s. s.dev_item} device_reads
    ▹ array_reads {n = 256} {get = λ s. s.label}
    ▹ u64_reads {get = λ s. s.cache_generation}
    ▹ u64_reads {get = λ s. s.uuid_tree_generation}
    ▹ array_reads {n = 16} {get = λ s. s.metadata_uuid}
    ▹▹ replicate 224 0
    ▹ array_reads {n = 2048} {get = λ s. s.sys_chunk_array}
    ▹ array_reads {n = 672} {get = λ s. s.backup_roots}
    ▹▹ replicate 565 0

-- the type of the checksum, and the magic, in what the checksum covers
type_in : (covered : List ℕ) → field 2 covered 164 ≡ (super_layout.read covered).csum_type
unfolding super_layout
type_in covered = refl

behind_id : (id rest : List ℕ) (bytenr flags : ℕ) → length id ≡ 16 → drop 32 (id ++ (little_bytes 8 bytenr ++ (little_bytes 8 flags ++ rest))) ≡ rest
behind_id id rest bytenr flags len =
    let behind = little_bytes 8 bytenr ++ (little_bytes 8 flags ++ rest) in
    sym (drop-drop 16 16 (id ++ behind)) ∙ ap (drop 16) (drop_at id behind 16 len)

magic_there : (id rest : List ℕ) (bytenr flags : ℕ) → length id ≡ 16 → has_bytes_at (id ++ (little_bytes 8 bytenr ++ (little_bytes 8 flags ++ (codes "_BHRfS_M" ++ rest)))) 32 (codes "_BHRfS_M") ≡ true
magic_there id rest bytenr flags len = ap (λ (z : List ℕ). starts_with nat_eq z (codes "_BHRfS_M")) (behind_id id (codes "_BHRfS_M" ++ rest) bytenr flags len)

magic_in : (s : Super) → super_layout.fits s → has_bytes_at (spelling super_layout s) 32 (codes "_BHRfS_M") ≡ true
unfolding super_layout
magic_in s fits = magic_there s.fsid _ s.bytenr s.flags fits.0.0.0.0.0.0.0.0.0.0.0.0.0.0.0.0.0.0.0.0.0.0.0.0.0.0.0.0.0.0.0.1

pub starts_with_front : (front rest : List ℕ) → starts_with nat_eq (front ++ rest) front ≡ true
starts_with_front [] rest = refl
starts_with_front (x ∷ front) rest = ap (λ (b : Bool). b && starts_with nat_eq (front ++ rest) front) (eq-eqb x x refl) ∙ starts_with_front front rest

pub three_hold : (a b c : Bool) (p q r : BtrRefusal) (rules : List (Bool × BtrRefusal)) → a ≡ true → b ≡ true → c ≡ true → failing ((a, p) ∷ (b, q) ∷ (c, r) ∷ rules) ≡ failing rules
three_hold a b c p q r rules x y z = rw (x, y, z) refl

pub supers_read_back : SupersReadBack
unfolding super_of
supers_read_back s kind place device fits known there fields =
    let covered = spelling super_layout s in
    let sum = kind_sum kind covered in
    let block = sum ++ covered in
    let type_is : field 2 covered 164 ≡ s.csum_type = type_in covered ∙ ap (λ (v : Super). v.csum_type) (super_reads.back s [] fits) in
    let kind_is : known_kind (field 2 covered 164) ≡ Some kind = ap known_kind type_is ∙ known in
    let is_block : super_bytes s ≡ block = ap (λ k. sealed_by k (replicate 32 0 ++ covered)) kind_is in
    let behind : drop 32 block ≡ covered = drop_at sum covered 32 (length-kind_sum kind covered) in
    let reads : super_in block ≡ s = ap super_layout.read behind ∙ super_reads.back s [] fits in
    let named : csum_type_of block ≡ field 2 covered 164 = ap (little_number 2) (sym (drop-drop 164 32 block) ∙ ap (drop 164) behind) in
    let names_kind : known_kind (csum_type_of block) ≡ Some kind = ap known_kind named ∙ kind_is in
    let magic : has_bytes_at block SUPER_MAGIC_OFFSET (codes "_BHRfS_M") ≡ true =
    ap (λ (z : List ℕ). starts_with nat_eq z (codes "_BHRfS_M")) (sym (drop-drop 32 32 block) ∙ ap (drop 32) behind) ∙ magic_in s fits in
    let first : is_super block place device ≡ true = ap (λ (b : Bool). nat_lt place device && b) magic ∙ ap (λ (b : Bool). b && true) (lt-ltb place device there) in
    let second : is_some (known_kind (csum_type_of block)) ≡ true = ap is_some names_kind in
    let third : has_sum (known_kind (csum_type_of block)) block ≡ true =
    ap (λ k. has_sum k block) names_kind ∙ ap (λ (z : List ℕ). starts_with nat_eq block (kind_sum kind z)) behind ∙ starts_with_front sum covered in
    let none : failing (block_rules block place device ++ field_rules (super_in block) place device) ≡ [] =
    three_hold _ _ _ _ _ _ (field_rules (super_in block) place device) first second third ∙ ap (λ (v : Super). failing (field_rules v place device)) reads ∙ fields in
    ap (λ (z : List ℕ). super_of z place device) is_block
    ∙ ap (λ (rs : List BtrRefusal). unless_refused rs (super_in block)) none
    ∙ ap Ok reads

-- The bytes of heads, items and children: how many they are, and that they read as what they spell.
use Rattle.btr_node.proofs.Imports.{◌≡◌, ◌<◌, ◌^◌, ℕ, ◌*◌, List, [], ◌∷◌, length, refl, arith, length-append, mul-suc, flat_map, ITEM_SIZE, KEY_PTR_SIZE, key_layout, Key, spelling, Reads, start, ◌▹◌, array_reads, u8_reads, u32_reads, u64_reads, part_reads, make_head, head_layout, make_child, child_layout, make_item_head, item_layout, Child, BtrItemHead}
use Rattle.btr_keys.proofs.Records.{key_reads}

pub item_size : (head : BtrItemHead) → length (spelling item_layout head) ≡ ITEM_SIZE
unfolding item_layout key_layout
item_size head = refl

pub child_size : (child : Child) → length (spelling child_layout child) ≡ KEY_PTR_SIZE
unfolding child_layout key_layout
child_size child = refl

pub item_reads : Reads item_layout (λ v. v)
unfolding item_layout
item_reads = start make_item_head ▹ part_reads key_reads ▹ u32_reads ▹ u32_reads

pub child_reads : Reads child_layout (λ v. v)
unfolding child_layout
child_reads = start make_child ▹ part_reads key_reads ▹ u64_reads ▹ u64_reads

pub head_reads : Reads head_layout (λ v. v)
unfolding head_layout
head_reads =
    start make_head ▹ array_reads ▹ u64_reads ▹ array_reads ▹ u8_reads ▹ array_reads ▹ u64_reads ▹ u64_reads ▹ u32_reads ▹ u8_reads

-- records of one width take as many widths as they are
pub length-records : {X : Type 0} (f : X → List ℕ) (width : ℕ) → ((x : X) → length (f x) ≡ width) → (xs : List X) → length (flat_map f xs) ≡ width * length xs
length-records f width each [] = omega arith
length-records f width each (x ∷ xs) =
    omega (arith, length-append (f x) (flat_map f xs), each x, length-records f width each xs, mul-suc width (length xs))

-- what fits in its fields has a spelling
pub key_spelled : (key : Key) → key.objectid < 2 ^ 64 → key.kind < 2 ^ 8 → key.offset < 2 ^ 64 → key_layout.fits key
unfolding key_layout
key_spelled key a b c = (((tt, a), b), c)

pub child_spelled : (child : Child) → key_layout.fits child.key → child.address < 2 ^ 64 → child.generation < 2 ^ 64 → child_layout.fits child
unfolding child_layout
child_spelled child a b c = (((tt, a), b), c)

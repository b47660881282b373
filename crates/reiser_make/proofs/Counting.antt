-- How many items and leaves there are.
use Rattle.reiser_make.proofs.Imports.{◌≡◌, ◌≤◌, ℕ, zero, suc, ◌+◌, ◌-◌, ◌*◌, Bool, true, false, ◌==◌, List, [], ◌∷◌, ◌++◌, length, refl, sym, ap, subst, ◌∙◌, arith, length-append, nat_le, nat_lt, cond, slice_index_or, items, items_of_name, items_from, items_of_content, pointer_items, byte_items, leaves, leaves_of, packed_behind, node_room, taken_by, Shape, object_count, directory_count, file_id, items_behind, SampleEntry, SampleItem, ItemPlace, ObjectId}
use Rattle.reiser_make.specs.declared.sample_entry.SampleEntry.TheVariants.{Name, Symlink, File}
use Rattle.reiser_make.proofs.Walking.{at_place, behind_first}

either_few : {X : Type 0} (b : Bool) (xs ys : List X) (n : ℕ) → length xs ≤ n → length ys ≤ n → length (cond b xs ys) ≤ n
either_few true xs ys n x y = x
either_few false xs ys n x y = y

either_some : {X : Type 0} (b : Bool) (xs ys : List X) → 1 ≤ length xs → 1 ≤ length ys → 1 ≤ length (cond b xs ys)
either_some true xs ys x y = x
either_some false xs ys x y = y

packed_most : (leaf : List SampleItem) (room : ℕ) (xs : List SampleItem) → length (packed_behind leaf room xs) ≤ 1 + length xs
packed_most leaf room [] = omega arith
packed_most leaf room (x ∷ xs) =
    either_few (nat_le (taken_by x) room) (packed_behind (leaf ++ x ∷ []) (room - taken_by x) xs) (leaf ∷ packed_behind (x ∷ []) (node_room - taken_by x) xs) (1 + suc (length xs))
    (omega (arith, packed_most (leaf ++ x ∷ []) (room - taken_by x) xs)) (omega (arith, packed_most (x ∷ []) (node_room - taken_by x) xs))

packed_some : (leaf : List SampleItem) (room : ℕ) (xs : List SampleItem) → 1 ≤ length (packed_behind leaf room xs)
packed_some leaf room [] = omega arith
packed_some leaf room (x ∷ xs) =
    either_some (nat_le (taken_by x) room) (packed_behind (leaf ++ x ∷ []) (room - taken_by x) xs) (leaf ∷ packed_behind (x ∷ []) (node_room - taken_by x) xs)
    (packed_some (leaf ++ x ∷ []) (room - taken_by x) xs) (omega arith)

leaves_of_some : (xs : List SampleItem) → 1 ≤ length xs → 1 ≤ length (leaves_of xs)
leaves_of_some [] some = absurd (omega arith)
leaves_of_some (x ∷ xs) some = packed_some (x ∷ []) (node_room - taken_by x) xs

pub leaves_most : (xs : List SampleItem) → length (leaves_of xs) ≤ length xs
leaves_most [] = omega arith
leaves_most (x ∷ xs) = omega (arith, packed_most (x ∷ []) (node_room - taken_by x) xs)

pointers_few : (old : Bool) (id : ObjectId) (i whole : ℕ) → length (pointer_items old id i whole) ≤ 1
pointers_few old id i whole = either_few (whole == 0) [] _ 1 (omega arith) (omega arith)

bytes_few : (old : Bool) (id : ObjectId) (i whole rest : ℕ) → length (byte_items old id i whole rest) ≤ 1
bytes_few old id i whole rest = either_few (rest == 0) [] _ 1 (omega arith) (omega arith)

content_few : (s : Shape) (i : ℕ) (content : SampleEntry) → length (items_of_content s i content) ≤ 3
unfolding items_of_content
content_few s i Name = omega arith
content_few s i Symlink = omega arith
content_few s i (File whole rest sparse) =
    let id : ObjectId = file_id (length s.names) i in
    omega (arith, length-append (pointer_items s.old id i whole) (byte_items s.old id i whole rest), pointers_few s.old id i whole, bytes_few s.old id i whole rest)

pub items_few : (s : Shape) (o : ℕ) → length (items_of_name s o) ≤ 3
unfolding items_of_name
items_few s o =
    let first : ℕ = directory_count (length s.names) + 1 in
    either_few (o == 0) _ _ 3 (omega arith)
    (either_few (nat_lt o first) _ _ 3 (omega arith) (content_few s (o - directory_count (length s.names) - 1) (slice_index_or s.names (o - directory_count (length s.names) - 1) Name)))

items_from_few : (s : Shape) (o n : ℕ) → length (items_from s o n) ≤ 3 * n
items_from_few s o zero = omega arith
items_from_few s o (suc n) = omega (arith, length-append (items_of_name s o) (items_from s (o + 1) n), items_few s o, items_from_few s (o + 1) n)

-- three items for each object
pub leaves_bound : (s : Shape) → length s.names ≤ 4000 → length (leaves s) ≤ 12123
unfolding leaves items
leaves_bound s few = omega (arith, leaves_most (items_from s 0 (object_count (length s.names))), items_from_few s 0 (object_count (length s.names)))

-- the root has items
pub leaves_some : (s : Shape) → 1 ≤ length (leaves s)
unfolding leaves items items_of_name
leaves_some s =
    let more : ℕ = directory_count (length s.names) + length s.names in
    let counted : object_count (length s.names) ≡ suc more = omega arith in
    let root : length (items_of_name s 0) ≡ 2 = refl in
    leaves_of_some (items_from s 0 (object_count (length s.names)))
    (subst (λ n. 1 ≤ length (items_from s 0 n)) (sym counted) (omega (arith, root, length-append (items_of_name s 0) (items_from s 1 more))))

pub leaves_first : (s : Shape) (at : ItemPlace) → at ≡ at_place 0 0 → 0 + length (leaves_of (items_behind s at)) ≡ length (leaves s)
unfolding leaves
leaves_first s at is = omega (arith, ap (λ a. length (leaves_of (items_behind s a))) is, ap (λ z. length (leaves_of z)) (behind_first s))

pub leaves_begin : (s : Shape) (at : ItemPlace) → at ≡ at_place 0 0 → leaves_of (items_behind s at) ≡ leaves s
unfolding leaves
leaves_begin s at is = ap (λ a. leaves_of (items_behind s a)) is ∙ ap leaves_of (behind_first s)

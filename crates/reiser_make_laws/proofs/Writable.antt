-- Each item of a sample has room in a leaf, its numbers in a head, and a body of the length that its head says.
use Rattle.reiser_make_laws.proofs.Imports.{◌≡◌, inr, ℕ, zero, suc, ◌+◌, ◌-◌, ◌*◌, ◌^◌, ◌≤◌, ◌<◌, Bool, true, false, cond, ◌==◌, List, [], ◌∷◌, ◌++◌, length, map, get_or, refl, ◌∙◌, ap, arith, length-append, All, nat_lt, range_with_len, flat_map, length-map-range_with_len, All-cons, little_bytes, EntryValue, stat_length, StatData, FitsHead, IsSmallContent, padded, entry_heads, entry_names, entries_length, entries_bytes, directory_entry, root_entries, file_entry, directory_entries, items, items_from, items_of_name, items_of_content, stat_item, directory_items, pointer_items, byte_items, body_bytes, pointers_of_content, rest_of_content, file_name, Shape, shape, directory_count, names_in, object_count, root_id, directory_id, file_id, sample_bytes, stored_before, SampleEntry, Name, Symlink, File, Body, Attributes, Root, Names, Pointers, Bytes, Target, SampleItem, ObjectId, directory_short, file_short, IsWritable}
use Rattle.reiser_make.specs.Shape.{pointer}
use Rattle.reiser_make_laws.proofs.Small.{AreSmall, contents_small, length_contents, small_at}

-- an item that can be written and fits into a leaf
pub record IsGood (s : Shape) (item : SampleItem) : Type 0 where
  pub writable : IsWritable s item
  pub fits : item.head.length ≤ 4048
  pub body : FitsHead item.head (body_bytes s item.head.old item.body)

abbrev pub AreGood : Shape → List SampleItem → Type 0
AreGood s [] = Unit {0}
AreGood s (x ∷ xs) = IsGood s x × AreGood s xs

pub good-append : (s : Shape) (xs ys : List SampleItem) → AreGood s xs → AreGood s ys → AreGood s (xs ++ ys)
good-append s [] ys first second = second
good-append s (x ∷ xs) ys first second = (first.0, good-append s xs ys first.1 second)

either_good : (s : Shape) (b : Bool) (xs ys : List SampleItem) → AreGood s xs → AreGood s ys → AreGood s (cond b xs ys)
either_good s true xs ys first second = first
either_good s false xs ys first second = second

pub all_writable : (s : Shape) (xs : List SampleItem) → AreGood s xs → All (IsWritable s) xs
all_writable s [] good = λ k d lt. absurd (omega (arith, lt))
all_writable s (x ∷ xs) good = All-cons (IsWritable s) x xs good.0.writable (all_writable s xs good.1)

-- an object's numbers have room
pub record HasRoomFor (id : ObjectId) : Type 0 where
  pub dir : id.dir < 2 ^ 32
  pub object : id.object < 2 ^ 32

stat_sized : (s : Shape) (old : Bool) (stat : StatData) → length (body_bytes s old (Attributes stat)) ≡ stat_length old
unfolding body_bytes
stat_sized s true stat = refl
stat_sized s false stat = refl

stat_low : (old : Bool) → stat_length old ≤ 44
stat_low true = omega arith
stat_low false = omega arith

stat_good : (s : Shape) (old : Bool) (id : ObjectId) (stat : StatData) → HasRoomFor id → IsGood s (stat_item old id stat)
stat_good s old id stat room =
    record { writable = record { dir = room.dir; object = room.object; offset = omega arith; count = omega arith; body = stat_sized s old stat }; fits = omega (arith, stat_low old); body = inr ((refl, stat_sized s old stat), omega arith) }

-- entries whose names take eight bytes
abbrev pub AreEights : List EntryValue → Type 0
AreEights [] = Unit {0}
AreEights (e ∷ es) = (length (padded e.name) ≡ 8) × AreEights es

pub length_entry_heads : (end : ℕ) (es : List EntryValue) → length (entry_heads end es) ≡ 16 * length es
length_entry_heads end [] = refl
length_entry_heads end (e ∷ es) = omega (arith, length_entry_heads (end - length (padded e.name)) es)

pub length_entry_names : (es : List EntryValue) → AreEights es → length (entry_names es) ≡ 8 * length es
length_entry_names [] eights = refl
length_entry_names (e ∷ es) eights = omega (arith, length-append (entry_names es) (padded e.name), eights.0, length_entry_names es eights.1)

length_entries : (es : List EntryValue) → AreEights es → length (entries_bytes es) ≡ 24 * length es
unfolding entries_bytes
length_entries es eights =
    omega (arith, length-append (entry_heads (entries_length es) es) (entry_names es), length_entry_heads (entries_length es) es, length_entry_names es eights)

row_eights : (f : ℕ → EntryValue) (a n : ℕ) → ((k : ℕ) → length (padded (f k).name) ≡ 8) → AreEights (map f (range_with_len a n))
row_eights f a zero each = tt
row_eights f a (suc n) each = (each a, row_eights f (a + 1) n each)

root_sized : (s : Shape) (old : Bool) → length (body_bytes s old Root) ≡ 24 * (2 + directory_count (length s.names))
unfolding body_bytes
root_sized s old =
    let number : ℕ = length s.names in
    let row : List EntryValue = map directory_entry (range_with_len 0 (directory_count number)) in
    omega (arith, length_entries (root_entries number) (refl, (refl, row_eights directory_entry 0 (directory_count number) directory_short)), length-map-range_with_len directory_entry 0 (directory_count number))

names_sized : (s : Shape) (old : Bool) (k : ℕ) → length (body_bytes s old (Names k)) ≡ 24 * (2 + names_in (length s.names) k)
unfolding body_bytes
names_sized s old k =
    let number : ℕ = length s.names in
    omega (arith, length_entries (directory_entries number k) (refl, (refl, row_eights (file_entry number) (100 * k) (names_in number k) file_short)), length-map-range_with_len (file_entry number) (100 * k) (names_in number k))

directory_good : (s : Shape) (id : ObjectId) (nlink count : ℕ) (body : Body) → HasRoomFor id → count ≤ 102 → length (body_bytes s true body) ≡ 24 * count → AreGood s (directory_items s.old id nlink count body)
directory_good s id nlink count body room few sized = (
  stat_good s s.old id _ room,
  (record { writable = record { dir = room.dir; object = room.object; offset = omega arith; count = omega (arith, few); body = sized }; fits = omega (arith, few); body = inr (tt, omega arith) }, tt),
)

pointers_sized : (first : ℕ) (sparse : Bool) (a n : ℕ) → length (flat_map (λ k. little_bytes 4 (pointer first sparse k)) (range_with_len a n)) ≡ 4 * n
pointers_sized first sparse a zero = refl
pointers_sized first sparse a (suc n) = omega (arith, pointers_sized first sparse (a + 1) n)

bytes_sized : (i : ℕ) (sparse : Bool) (j n : ℕ) → length (sample_bytes i sparse j n) ≡ n
unfolding sample_bytes
bytes_sized i sparse j n = length-map-range_with_len _ j n

module _ (s : Shape) (i : ℕ) (old : Bool) where
  pub pointers_body : (content : SampleEntry) (whole rest : ℕ) (sparse : Bool) → get_or s.names i Name ≡ content → content ≡ File whole rest sparse → length (body_bytes s old (Pointers i)) ≡ 4 * whole
  unfolding body_bytes
  pointers_body content whole rest sparse here is =
      ap (λ c. length (pointers_of_content s i c)) (here ∙ is) ∙ pointers_sized (stored_before s.names i) sparse 0 whole

  pub rest_body : (content : SampleEntry) (whole rest : ℕ) (sparse : Bool) → get_or s.names i Name ≡ content → content ≡ File whole rest sparse → length (body_bytes s old (Bytes i)) ≡ rest
  unfolding body_bytes
  rest_body content whole rest sparse here is =
      ap (λ c. length (rest_of_content i c)) (here ∙ is) ∙ bytes_sized i sparse (4096 * whole) rest

target_sized : (s : Shape) (old : Bool) (i : ℕ) → length (body_bytes s old (Target i)) ≡ 6
unfolding body_bytes file_name
target_sized s old i = refl

content_good : (s : Shape) (i : ℕ) (content : SampleEntry) → get_or s.names i Name ≡ content → IsSmallContent content → HasRoomFor (file_id (length s.names) i) → AreGood s (items_of_content s i content)
unfolding items_of_content
content_good s i Name here small room = tt
content_good s i Symlink here small room = (
  stat_good s s.old (file_id (length s.names) i) _ room,
  (record { writable = record { dir = room.dir; object = room.object; offset = omega arith; count = omega arith; body = target_sized s true (i - 1) }; fits = omega arith; body = inr (omega arith, omega arith) }, tt),
)
content_good s i (File whole rest sparse) here small room =
    let id : ObjectId = file_id (length s.names) i in (
      stat_good s s.old id _ room,
      good-append s (pointer_items s.old id i whole) (byte_items s.old id i whole rest)
          (either_good s (whole == 0) [] _ tt
          (record { writable = record { dir = room.dir; object = room.object; offset = omega arith; count = omega arith; body = pointers_body s i s.old (File whole rest sparse) whole rest sparse here refl }; fits = omega (arith, small.blocks); body = inr ((refl, omega (arith, pointers_body s i s.old (File whole rest sparse) whole rest sparse here refl)), omega arith) }, tt))
          (either_good s (rest == 0) [] _ tt
          (record { writable = record { dir = room.dir; object = room.object; offset = omega (arith, small.blocks); count = omega arith; body = rest_body s i s.old (File whole rest sparse) whole rest sparse here refl }; fits = omega (arith, small.bytes); body = inr (omega arith, omega (arith, small.blocks)) }, tt)),
    )

module _ (s : Shape) (few : length s.names ≤ 4000) (small : AreSmall s.names) where
  object_good : (o : ℕ) → o ≤ 5000 → AreGood s (items_of_name s o)
  unfolding items_of_name
  object_good o low =
      let number : ℕ = length s.names in
      let directories : ℕ = directory_count number in
      let i : ℕ = o - directories - 1 in
      either_good s (o == 0) _ _
      (directory_good s root_id (2 + directories) (2 + directories) Root (record { dir = omega arith; object = omega arith }) (omega (arith, few)) (root_sized s true))
      (either_good s (nat_lt o (directories + 1)) _ _
      (directory_good s (directory_id (o - 1)) 2 (2 + names_in number (o - 1)) (Names (o - 1)) (record { dir = omega arith; object = omega (arith, low) }) (omega arith) (names_sized s true (o - 1)))
      (content_good s i (get_or s.names i Name) refl (small_at s.names small i) (record { dir = omega (arith, low); object = omega (arith, low, few) })))

  from_good : (o n : ℕ) → o + n ≤ 5000 → AreGood s (items_from s o n)
  from_good o zero low = tt
  from_good o (suc n) low = good-append s (items_of_name s o) (items_from s (o + 1) n) (object_good o (omega (arith, low))) (from_good (o + 1) n (omega (arith, low)))

  items_good : AreGood s (items s)
  unfolding items
  items_good = from_good 0 (object_count (length s.names)) (omega (arith, few))

pub sample_good : (number : ℕ) (old : Bool) → number ≤ 4000 → AreGood (shape number old) (items (shape number old))
sample_good number old low = items_good (shape number old) (omega (arith, low, length_contents number)) (contents_small number)

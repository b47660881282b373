-- What is counted of an accepted volume is small.
use Rattle.extent_pieces.proofs.Imports.{◌≡◌, ℕ, ◌+◌, ◌-◌, ◌*◌, ◌/◌, ◌^◌, ◌<◌, ◌≤◌, ◌==◌, max, min, Bool, true, false, cond, List, [], ◌∷◌, ◌++◌, length, map, Some, None, refl, sym, ◌∙◌, ap, arith, subst, ⊎_elim, length-append, length-map, Contains, All, filter, sum_by, nat_le, nat_lt, if◌then◌else◌, div_ceil, range_with_len, and_parts, cases_eq, leb-true, ltb-true, length-range_with_len, sum_by-append, sum_by-cons, sum_by-le, Image, Kind, Directory, File, Symlink, Character, Block, Fifo, Socket, Subvolume, from_filter, from_map, begins_run, free_runs, maximal_runs, run_from, is_free_unit, unit_count, all_from_contains, ReiserItem, first_byte, named_block, Disk, disk_or_hole, holds_by_kind, is_held, ObjectKey, Naming, ObjectStat, kind_of_mode, is_symlink, IsObject, AreLinks, AreNamedKeys, IsSmallVolume, direct_bytes, direct_length, stat_at, used_of, volume_items, IsAccepted, accepted_is_small, used_length, Piece, AreSmall, Tail, is_tail, FileAt, file_at, file_blocks, file_tails, files_among, has_tail, inline_files, is_file_inline, is_file_at, is_symlink_at, owner, symlinks_among, tails, counts_of, files_of, Owners, begins_piece, copied_piece, copied_pieces, is_copied, kept_piece, kept_pieces, tail_piece, AreKeptPieces, IsKeptPiece}
use Rattle.std.specs.Prelude.{◌&&◌}
use Rattle.reiser_volume_files.specs.declared.map.RunFrom.TheVariants.{Tail as InTree}
use Rattle.std.proofs.lemmas.List.Concat.{length-flat_map}
use Rattle.reiser_volume.specs.reiser_node.declared.head.ItemKind.{ItemKind}
use Rattle.reiser_volume.specs.reiser_node.declared.head.ItemKind.TheVariants.{Stat, Indirect, Direct, Directory as Entries}
use Rattle.extent_pieces.proofs.Bounding.{apart_fit, few_between, filter_any, filter_few, filter_fewer, filter_none, sum_fewer}
use Rattle.extent_pieces.proofs.Dividing.{data_inside}
use Rattle.extent_pieces.proofs.Lists.{all_at}
use Rattle.extent_pieces.proofs.Maximal.{kept_are_maximal}
use Rattle.extent_pieces.proofs.Once.{kind_there, stat_there}

-- ---- blocks

pub few_runs : (used : List Bool) → length (free_runs used) ≤ length used
unfolding free_runs maximal_runs
few_runs used =
    let units : List ℕ = range_with_len 0 (unit_count used) in
    let starts : List ℕ = filter (begins_run (is_free_unit used)) units in
    let many = length-map starts (run_from (is_free_unit used) (unit_count used)) in
    let kept = filter_few (begins_run (is_free_unit used)) units in
    let all = length-range_with_len 0 (unit_count used) in
    omega (arith, many, kept, all)

pub few_kept : (used : List Bool) (owner : Owners) → length (kept_pieces used owner) ≤ length used
unfolding kept_pieces
few_kept used owner =
    let blocks : List ℕ = range_with_len 0 (length used) in
    let many = length-map (filter (begins_piece used owner) blocks) (kept_piece used owner) in
    let kept = filter_few (begins_piece used owner) blocks in
    let all = length-range_with_len 0 (length used) in
    omega (arith, many, kept, all)

pub few_copied : (used : List Bool) (owner : Owners) → length (copied_pieces used owner) ≤ length used
unfolding copied_pieces
few_copied used owner =
    let blocks : List ℕ = range_with_len 0 (length used) in
    let many = length-map (filter (is_copied used) blocks) (copied_piece owner) in
    let kept = filter_few (is_copied used) blocks in
    let all = length-range_with_len 0 (length used) in
    omega (arith, many, kept, all)

-- pieces of one block each
sum_ones : {X : Type 0} (f : X → Piece) (xs : List X) → ((x : X) → (f x).count ≡ 1) → sum_by (λ p. p.count) (map f xs) ≡ length xs
sum_ones f [] one = refl
sum_ones f (x ∷ xs) one =
    let all : sum_by (λ p. p.count) (f x ∷ map f xs) ≡ (f x).count + sum_by (λ p. p.count) (map f xs) = sum_by-cons (λ p. p.count) (f x) (map f xs) in
    let rest = sum_ones f xs one in
    let here = one x in
    omega (arith, all, rest, here)

pub copied_blocks : (used : List Bool) (owner : Owners) → sum_by (λ p. p.count) (copied_pieces used owner) ≡ length (copied_pieces used owner)
unfolding copied_pieces
copied_blocks used owner =
    let blocks : List ℕ = filter (is_copied used) (range_with_len 0 (length used)) in
    sum_ones (copied_piece owner) blocks (λ b. refl) ∙ sym (length-map blocks (copied_piece owner))

pub tail_blocks : (ts : List Tail) → sum_by (λ p. p.count) (map tail_piece ts) ≡ length ts
tail_blocks ts = sum_ones tail_piece ts (λ t. refl)

kept_inside : (used : List Bool) (owner : Owners) (p : Piece) → IsKeptPiece used owner p → p.place + p.count ≤ length used
kept_inside used owner p is =
    let some = is.some in
    let last = data_inside used (p.place + (p.count - 1)) (is.data_ (p.place + (p.count - 1)) (omega arith, omega (arith, some))) in
    omega (arith, some, last)

pub kept_blocks : (used : List Bool) (owner : Owners) → sum_by (λ p. p.count) (kept_pieces used owner) ≤ length used
kept_blocks used owner =
    let kept : List Piece = kept_pieces used owner in
    let are : AreKeptPieces used owner kept = kept_are_maximal used owner in
    let fit : 0 + sum_by (λ p. p.count) kept ≤ length used =
    apart_fit (λ p. p.place) (λ p. p.count) (length used) 0 kept (omega arith) (all_from_contains (λ p. 0 ≤ p.place) kept (λ p h. omega arith)) are.ascending
    (all_from_contains (λ p. p.place + p.count ≤ length used) kept (λ p h. kept_inside used owner p (all_at (IsKeptPiece used owner) kept p are.each h))) in
    omega (arith, fit)

-- ---- tails

in_no_tree : (n : ℕ) → is_tail (disk_or_hole n) ≡ true → ⊥
in_no_tree n = by (n == 0)
  where
    by : (b : Bool) → is_tail (if b then None else Some (Disk n)) ≡ true → ⊥
    by true t = absurd (cc)
    by false t = absurd (cc)

-- a block that lies in direct items has a byte of one
tail_held : (f : FileAt) (k : ℕ) → has_tail f k ≡ true → is_held f.items f.size k ≡ true
tail_held f k = by (nat_lt (4096 * k) f.size) (is_held f.items f.size k)
  where
    by : (low held : Bool) → is_tail (if low then (if held then Some InTree else disk_or_hole (named_block f.items k)) else None) ≡ true → held ≡ true
    by true true t = refl
    by true false t = absurd (in_no_tree (named_block f.items k) t)
    by false held t = absurd (cc)

-- an item of so many bytes has bytes of no more blocks
direct_few : (i : ReiserItem) (size n : ℕ) → length (filter (λ k. holds_by_kind Direct i size k) (range_with_len 0 n)) ≤ length i.body
direct_few i size n =
    let first : ℕ = first_byte i in
    let long : ℕ = length i.body in
    let bytes : (k : ℕ) → holds_by_kind Direct i size k ≡ true → max first (4096 * k) < min (min (first + long) (4096 * k + 4096)) size
    = λ k t. ltb-true (max first (4096 * k)) (min (min (first + long) (4096 * k + 4096)) size) t in
    ⊎_elim
    (λ (none : long ≡ 0).
    let few = few_between (λ k. holds_by_kind Direct i size k) 0 0 0 n (λ k t. let is = bytes k t in absurd (omega (arith, is, none))) in
    omega (arith, few))
    (λ (some : long ≡ 0 → ⊥).
    let few = few_between (λ k. holds_by_kind Direct i size k) (first / 4096) ((first + long + 4095) / 4096) 0 n
    (λ k t. let is = bytes k t in (omega (arith, is), omega (arith, is))) in
    omega (arith, few, some))
    (cases_eq long 0)

item_few : (i : ReiserItem) (size n : ℕ) → length (filter (λ k. holds_by_kind i.head.kind i size k) (range_with_len 0 n)) ≤ direct_bytes i
item_few i size n = by i.head.kind
  where
    by : (kind : ItemKind) → length (filter (λ k. holds_by_kind kind i size k) (range_with_len 0 n)) ≤ direct_length kind i.body
    by Stat = let none = filter_none (range_with_len 0 n) in omega (arith, none)
    by Indirect = let none = filter_none (range_with_len 0 n) in omega (arith, none)
    by Direct = direct_few i size n
    by Entries = let none = filter_none (range_with_len 0 n) in omega (arith, none)

abbrev bytes_of : FileAt → ℕ
bytes_of f = sum_by direct_bytes f.items

file_few : (inline : Bool) (f : FileAt) → length (file_tails inline f) ≤ bytes_of f
file_few inline f = by (is_file_inline inline f)
  where
    by : (b : Bool) → length {A = Tail} (if b then [] else map (λ k. record { inode = f.inode; at = k }) (filter (has_tail f) (file_blocks f))) ≤ bytes_of f
    by true = omega arith
    by false =
        let blocks : List ℕ = filter (has_tail f) (file_blocks f) in
        let many = length-map blocks (λ (k : ℕ). let t : Tail = record { inode = f.inode; at = k } in t) in
        let held = filter_fewer (has_tail f) (is_held f.items f.size) (file_blocks f) (tail_held f) in
        let few = filter_any (λ (i : ReiserItem) (k : ℕ). holds_by_kind i.head.kind i f.size k) direct_bytes f.items (file_blocks f) (λ i. item_few i f.size (div_ceil f.size 4096)) in
        omega (arith, many, held, few)

tails_sum : (inline : Bool) (fs : List FileAt) → length (tails inline fs) ≤ sum_by bytes_of fs
tails_sum inline fs =
    let many = length-flat_map (file_tails inline) fs in
    let few = sum_fewer (λ f. length (file_tails inline f)) bytes_of fs (file_few inline) in
    omega (arith, many, few)

-- what is summed over the files is no more than over all objects
files_sum : (g : FileAt → ℕ) (items : List ReiserItem) (keys some : List ObjectKey) → sum_by g (files_among items keys some) ≤ sum_by (λ key. g (file_at items keys key)) some
unfolding files_among
files_sum g items keys [] = omega arith
files_sum g items keys (key ∷ some) = by (is_file_at items key) (files_sum g items keys some)
  where
    by : (b : Bool) → sum_by g (map (file_at items keys) (filter (is_file_at items) some)) ≤ sum_by (λ k. g (file_at items keys k)) some
        → sum_by g (map (file_at items keys) (cond b (key ∷ filter (is_file_at items) some) (filter (is_file_at items) some))) ≤ sum_by (λ k. g (file_at items keys k)) (key ∷ some)
    by true less =
        let rest : List FileAt = map (file_at items keys) (filter (is_file_at items) some) in
        let all : sum_by g (file_at items keys key ∷ rest) ≡ g (file_at items keys key) + sum_by g rest = sum_by-cons g (file_at items keys key) rest in
        let other : sum_by (λ k. g (file_at items keys k)) (key ∷ some) ≡ g (file_at items keys key) + sum_by (λ k. g (file_at items keys k)) some = sum_by-cons (λ k. g (file_at items keys k)) key some in
        omega (arith, all, other, less)
    by false less =
        let other : sum_by (λ k. g (file_at items keys k)) (key ∷ some) ≡ g (file_at items keys key) + sum_by (λ k. g (file_at items keys k)) some = sum_by-cons (λ k. g (file_at items keys k)) key some in
        omega (arith, other, less)

few_files : (items : List ReiserItem) (keys some : List ObjectKey) → length (files_among items keys some) ≤ length some
unfolding files_among
few_files items keys some =
    let many = length-map (filter (is_file_at items) some) (file_at items keys) in
    let kept = filter_few (is_file_at items) some in
    omega (arith, many, kept)

few_symlinks : (items : List ReiserItem) (keys some : List ObjectKey) → length (symlinks_among items keys some) ≤ length some
unfolding symlinks_among
few_symlinks items keys some =
    let many = length-map (filter (is_symlink_at items) some) (file_at items keys) in
    let kept = filter_few (is_symlink_at items) some in
    omega (arith, many, kept)

-- ---- what stays in the tree

inline_short : (inline : Bool) (f : FileAt) → is_file_inline inline f ≡ true → f.size ≤ 2048
inline_short inline f t = leb-true f.size 2048 (and_parts (nat_le f.size 2048) (has_tail f 0) (and_parts inline (nat_le f.size 2048 && has_tail f 0) t).1).0

inline_sum : (inline : Bool) (fs : List FileAt) → sum_by (λ f. f.size) (inline_files inline fs) ≤ 2048 * length fs
inline_sum inline fs =
    let short = sum_by-le (λ f. f.size) 2048 (inline_files inline fs) (all_from_contains (λ f. f.size ≤ 2048) (inline_files inline fs) (λ f h. inline_short inline f (from_filter (is_file_inline inline) fs f h).1)) in
    let few = filter_few (is_file_inline inline) fs in
    omega (arith, short, few)

is_link : (kind : Kind) → is_symlink kind ≡ true → kind ≡ Symlink
is_link Symlink t = refl
is_link Directory t = absurd (cc)
is_link File t = absurd (cc)
is_link Character t = absurd (cc)
is_link Block t = absurd (cc)
is_link Fifo t = absurd (cc)
is_link Socket t = absurd (cc)
is_link Subvolume t = absurd (cc)

module _ (image : Image) (accepted : IsAccepted image) (keys : List ObjectKey) (are : AreNamedKeys (volume_items image) keys) where
  abbrev items : List ReiserItem
  items = volume_items image

  target_short : (key : ObjectKey) → Contains keys key → is_symlink_at items key ≡ true → (stat_at items key).fields.size ≤ 3900
  target_short key among link =
      let object : IsObject items key = accepted.objects.each key ((are.exact key).0 among) in
      let kind : object.kind ≡ Symlink = is_link object.kind (sym (ap is_symlink (kind_there items key object)) ∙ link) in
      let known : kind_of_mode object.stat.fields.mode ≡ Some Symlink = object.known ∙ ap (λ (k : Kind). Some k) kind in
      subst (λ (stat : ObjectStat). stat.fields.size ≤ 3900) (sym (stat_there items key object)) (accepted.names.keeps.targets key object.stat ((are.exact key).0 among) object.has_stat known)

  links_short : All (λ f. f.size ≤ 3900) (symlinks_among items keys keys)
  unfolding symlinks_among
  links_short = all_from_contains (λ f. f.size ≤ 3900) (symlinks_among items keys keys) (λ f h.
      let mapped = from_map (file_at items keys) (filter (is_symlink_at items) keys) f h in
      let kept = from_filter (is_symlink_at items) keys mapped.0 mapped.1 in
      subst (λ (g : FileAt). g.size ≤ 3900) mapped.2 (target_short mapped.0 kept.0 kept.1))

  few_tails : (inline : Bool) → length (tails inline (files_of image keys)) ≤ 2 ^ 41
  few_tails inline =
      let small : IsSmallVolume image = accepted_is_small image accepted in
      let direct = small.direct keys are.once in
      let sum = tails_sum inline (files_of image keys) in
      let over = files_sum bytes_of items keys keys in
      omega (arith, direct, sum, over)

  pub counts_small : (inline : Bool) (visible links : List Naming) → AreLinks items visible links → AreSmall (counts_of inline image keys links)
  counts_small inline visible links are_links =
      let used : List Bool = used_of image in
      let by : Owners = owner (files_of image keys) in
      let ts : List Tail = tails inline (files_of image keys) in
      let small : IsSmallVolume image = accepted_is_small image accepted in
      let long = used_length image in
      let most = small.blocks in
      let runs = few_runs used in
      let kept = few_kept used by in
      let copied = few_copied used by in
      let blocks_kept = kept_blocks used by in
      let blocks_copied = copied_blocks used by in
      let blocks_tails = tail_blocks ts in
      let tails_few = few_tails inline in
      let tail_pieces = length-map ts tail_piece in
      let back = length-append (copied_pieces used by) (map tail_piece ts) in
      let all = length-append (kept_pieces used by) (copied_pieces used by ++ map tail_piece ts) in
      let sum_back = sum_by-append (λ (p : Piece). p.count) (copied_pieces used by) (map tail_piece ts) in
      let sum_all = sum_by-append (λ (p : Piece). p.count) (kept_pieces used by) (copied_pieces used by ++ map tail_piece ts) in
      let objects = small.objects keys are in
      let names = small.links visible links are_links in
      let letters = small.names visible links are_links in
      let symlinks = few_symlinks items keys keys in
      let files = few_files items keys keys in
      let inlines = filter_few (is_file_inline inline) (files_of image keys) in
      let link_bytes = sum_by-le (λ (f : FileAt). f.size) 3900 (symlinks_among items keys keys) links_short in
      let inline_bytes = inline_sum inline (files_of image keys) in
      record {
        blocks = omega (arith, long, most);
        runs = omega (arith, runs, long, most);
        pieces = omega (arith, kept, copied, tails_few, tail_pieces, back, all, long, most);
        piece_blocks = omega (arith, blocks_kept, blocks_copied, blocks_tails, copied, tails_few, sum_back, sum_all, long, most);
        copies = omega (arith, copied, long, most);
        tails = omega (arith, tails_few);
        objects = omega (arith, objects);
        names = omega (arith, names);
        letters = omega (arith, letters);
        inlines = omega (arith, symlinks, files, inlines, objects);
        inline_bytes = omega (arith, link_bytes, inline_bytes, symlinks, files, objects);
      }

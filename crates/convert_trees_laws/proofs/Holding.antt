-- The pieces of an accepted volume hold its files.
use Rattle.convert_trees_laws.proofs.Imports.{◌≡◌, ◌≤◌, ◌<◌, ℕ, ◌+◌, ◌-◌, ◌*◌, ◌==◌, ◌&&◌, nat_le, nat_lt, not, inl, inr, Bool, true, false, List, [], ◌∷◌, ◌++◌, length, length-append, map, filter, get_or, Option, Some, None, refl, sym, ap, subst, ◌∙◌, ⊎_elim, if◌then◌else◌, arith, AllPairs, div_ceil, range_with_len, IsPermutation, option_map_or, is_lt, and_parts, cases_Bool, cases_lt, leb-true, ltb-true, nat_tests, length-drop, length-range_with_len, Contains-append_cases, Contains-append_left, Contains-append_right, Contains-permutation, IsPermutation-sym, apart_from_distinct, in_filter, in_flat_map, in_map, keys, Image, is_file, Kind, Directory, File, Symlink, Character, Block, Fifo, Socket, Subvolume, contains_cases, contains_head, contains_range, contains_tail, RunFrom, Disk, block_from, ReiserItem, ObjectKey, items_of, root, same_key, object_cmp, ino_of_key, count_one, stays_in_tree, is_tail, volume_items, Volume, Options, Piece, Plan, Tail as TailBlock, FileAt, file_at, file_blocks, file_tails, files_among, has_tail, is_file_at, is_file_inline, HoldsUsed, advanced, copied_pieces, tail_piece, at_place, at_places, blocks_of_units, plans_have_room, all_at, IsFileOf, file_of, lies_owns, owner_is, HasExtents, HasPieces, ComesFrom, in_piece, made_from, Source, kind_in, ino_of, size_in}
use Rattle.std.specs.Prelude.{Contains}
use Rattle.convert_steps.specs.reiser_volume_files.declared.map.RunFrom.TheVariants.{Tail}
use Rattle.convert_steps.proofs.reiser_volume.Owners.{owners_are_one}
use Rattle.convert_trees_laws.specs.Held.{FilesAreHeld}
use Rattle.convert_trees_laws.proofs.Apart.{all_files, all_tails, back, by, cover, kept, made, permuted, placed_distinct, places, rest, some_blocks, used}
use Rattle.convert_trees_laws.proofs.FileBlocks.{Disjoint, Lies, all_disjoint, once, one_file, piece_lies, tail_there}

-- ---- pieces and their places

-- a piece as it was before it got its place
record IsOld (old : List Piece) (p : Piece) : Type 0 where
  was : Piece
  among : Contains old was
  from : was.from ≡ p.from
  count : was.count ≡ p.count
  owner : was.owner ≡ p.owner

old_of : (old : List Piece) (bs : List ℕ) (p : Piece) → Contains (at_places old bs) p → IsOld old p
old_of [] bs p h = absurd (omega (arith, h.1))
old_of (q ∷ old) [] p h = absurd (omega (arith, h.1))
old_of (q ∷ old) (b ∷ bs) p h =
    ⊎_elim
    (λ (same : at_place q b ≡ p). record { was = q; among = contains_head q old; from = ap (λ (r : Piece). r.from) same; count = ap (λ (r : Piece). r.count) same; owner = ap (λ (r : Piece). r.owner) same })
    (λ (later : Contains (at_places old bs) p). let of = old_of old bs p later in record { was = of.was; among = contains_tail of.was q old of.among; from = of.from; count = of.count; owner = of.owner })
    (contains_cases p (at_place q b) (at_places old bs) h)

-- and at its place, where there are enough places
placed_of : (old : List Piece) (bs : List ℕ) (q : Piece) → length old ≤ length bs → Contains old q → (b : ℕ) × Contains (at_places old bs) (at_place q b)
placed_of [] bs q enough h = absurd (omega (arith, h.1))
placed_of (r ∷ old) [] q enough h = absurd (omega (arith, enough))
placed_of (r ∷ old) (b ∷ bs) q enough h =
    ⊎_elim
    (λ (same : r ≡ q). (b, subst (λ (x : Piece). Contains (at_place r b ∷ at_places old bs) (at_place x b)) same (contains_head (at_place r b) (at_places old bs))))
    (λ (later : Contains old q). let at = placed_of old bs q (omega (arith, enough)) later in (at.0, contains_tail (at_place q at.0) (at_place r b) (at_places old bs) at.1))
    (contains_cases q r old h)

units_long : (units : List ℕ) → length (blocks_of_units units) ≡ 256 * length units
units_long [] = refl
units_long (u ∷ units) =
    let first = length-range_with_len (256 * u) 256 in
    let later = units_long units in
    let both = length-append (range_with_len (256 * u) 256) (blocks_of_units units) in
    omega (arith, first, later, both)

-- ---- ranges of blocks of files that overlap

abbrev clash_of : ℕ → ℕ → Option (ℕ × ℕ) → Option (ℕ × ℕ) → Bool
clash_of m n None w = false
clash_of m n (Some a) None = false
clash_of m n (Some a) (Some b) = (a.0 == b.0) && (nat_lt a.1 (b.1 + n) && nat_lt b.1 (a.1 + m))

abbrev clash : Piece → Piece → Bool
clash p q = clash_of p.count q.count p.owner q.owner

clash_flips : (p q : Piece) → clash p q ≡ clash q p
clash_flips p q = by_owner p.owner q.owner
  where
    turned : (a b : ℕ) (c d : Bool) → ((a == b) && (c && d)) ≡ ((b == a) && (d && c))
    turned a b true true = grind (arith, nat_tests)
    turned a b true false = grind (arith, nat_tests)
    turned a b false true = grind (arith, nat_tests)
    turned a b false false = grind (arith, nat_tests)

    by_owner : (x y : Option (ℕ × ℕ)) → clash_of p.count q.count x y ≡ clash_of q.count p.count y x
    by_owner None None = refl
    by_owner None (Some b) = refl
    by_owner (Some a) None = refl
    by_owner (Some a) (Some b) = turned a.0 b.0 (nat_lt a.1 (b.1 + q.count)) (nat_lt b.1 (a.1 + p.count))

no_clash : (p q : Piece) → Disjoint p q → clash p q ≡ false
no_clash p q apart = by_owner p.owner q.owner refl refl
  where
    equal : (a b : ℕ) → (a == b) ≡ true → a ≡ b
    equal a b is = grind (arith, nat_tests)

    by_owner : (x y : Option (ℕ × ℕ)) → p.owner ≡ x → q.owner ≡ y → clash_of p.count q.count x y ≡ false
    by_owner None y is_p is_q = refl
    by_owner (Some a) None is_p is_q = refl
    by_owner (Some a) (Some b) is_p is_q = test ((a.0 == b.0) && (nat_lt a.1 (b.1 + q.count) && nat_lt b.1 (a.1 + p.count))) refl
      where
        test : (t : Bool) → ((a.0 == b.0) && (nat_lt a.1 (b.1 + q.count) && nat_lt b.1 (a.1 + p.count))) ≡ t → t ≡ false
        test false is = refl
        test true is =
            let parts = and_parts (a.0 == b.0) (nat_lt a.1 (b.1 + q.count) && nat_lt b.1 (a.1 + p.count)) is in
            let more = and_parts (nat_lt a.1 (b.1 + q.count)) (nat_lt b.1 (a.1 + p.count)) parts.1 in
            let low = ltb-true a.1 (b.1 + q.count) more.0 in
            let high = ltb-true b.1 (a.1 + p.count) more.1 in
            ⊎_elim (λ before. absurd (omega (arith, before, high))) (λ behind. absurd (omega (arith, behind, low)))
            (apart a.0 a.1 b.1 is_p (is_q ∙ ap (λ (n : ℕ). let w : Option (ℕ × ℕ) = Some (n, b.1) in w) (sym (equal a.0 b.0 parts.0))))

apart_of : (p q : Piece) → clash p q ≡ false → Disjoint p q
apart_of p q none = λ i k l own_p own_q.
    ⊎_elim
    (λ (low : k < l + q.count). ⊎_elim
    (λ (high : l < k + p.count). absurd (both i k l low high (sym (ap (λ (x : Option (ℕ × ℕ)). clash_of p.count q.count x q.owner) own_p ∙ ap (λ (y : Option (ℕ × ℕ)). clash_of p.count q.count (Some (i, k)) y) own_q) ∙ none)))
    (λ (before : k + p.count ≤ l). inl before)
    (cases_lt l (k + p.count)))
    (λ (behind : l + q.count ≤ k). inr behind)
    (cases_lt k (l + q.count))
  where
    both : (i k l : ℕ) → k < l + q.count → l < k + p.count → ((i == i) && (nat_lt k (l + q.count) && nat_lt l (k + p.count))) ≡ false → ⊥
    both i k l low high is = grind (arith, nat_tests)

-- ---- small facts

file_kind : (kind : Kind) → is_file kind ≡ true → kind ≡ File
file_kind File is = refl
file_kind Directory is = absurd (cc)
file_kind Symlink is = absurd (cc)
file_kind Character is = absurd (cc)
file_kind Block is = absurd (cc)
file_kind Fifo is = absurd (cc)
file_kind Socket is = absurd (cc)
file_kind Subvolume is = absurd (cc)

none_there : (r : RunFrom) → (let o : Option RunFrom = None in o) ≡ Some r → ⊥
none_there r is = absurd (cc)

-- a block that lies anywhere begins below the size
lies_low : (items : List ReiserItem) (size k : ℕ) (r : RunFrom) → block_from items size k ≡ Some r → 4096 * k < size
lies_low items size k r lies =
    ⊎_elim
    (λ (t : nat_lt (4096 * k) size ≡ true). ltb-true (4096 * k) size t)
    (λ (f : nat_lt (4096 * k) size ≡ false). let none : block_from items size k ≡ None = rw f refl in absurd (none_there r (sym none ∙ lies)))
    (cases_Bool (nat_lt (4096 * k) size))

-- a file with a block on the disk is not inline
disk_stays : (inline : Bool) (items : List ReiserItem) (size k b : ℕ) → block_from items size k ≡ Some (Disk b) → stays_in_tree inline items size File ≡ false
disk_stays inline items size k b lies = ⊎_elim
    (λ (t : stays_in_tree inline items size File ≡ true).
    let parts = and_parts inline (nat_le size 2048 && is_tail (block_from items size 0)) t in
    let more = and_parts (nat_le size 2048) (is_tail (block_from items size 0)) parts.1 in
    let few = leb-true size 2048 more.0 in
    let low = lies_low items size k (Disk b) lies in
    let first : k ≡ 0 = omega (arith, few, low) in
    let no : false ≡ true = sym (ap is_tail (ap (block_from items size) (sym first) ∙ lies)) ∙ more.1 in
    absurd cc)
    (λ (f : stays_in_tree inline items size File ≡ false). f)
    (cases_Bool (stays_in_tree inline items size File))

advanced_from : (w : Option (ℕ × ℕ)) (n i k : ℕ) → advanced w n ≡ Some (i, k) → (first : ℕ) × (w ≡ Some (i, first)) × (first + n ≡ k)
advanced_from None n i k is = absurd (cc)
advanced_from (Some a) n i k is =
    let inode : a.0 ≡ i = ap (λ (o : Option (ℕ × ℕ)). option_map_or (λ x. x.0) o 0) is in
    let block : a.1 + n ≡ k = ap (λ (o : Option (ℕ × ℕ)). option_map_or (λ x. x.1) o 0) is in
    (a.1, ap (λ (m : ℕ). let w : Option (ℕ × ℕ) = Some (m, a.1) in w) inode, block)

-- ---- the pieces of a volume

module _ (volume : Volume) (image : Image) (o : Options) (plan : Plan) (pieces : List Piece) (has_pieces : HasPieces volume image o plan pieces) where
  abbrev s : Source
  s = made_from volume image o pieces

  abbrev items : List ReiserItem
  items = volume_items image

  abbrev named : List ObjectKey
  named = has_pieces.plan_.keys

  abbrev all : List Piece
  all = kept image has_pieces.found o plan has_pieces.plan_ ++ rest image has_pieces.found o plan has_pieces.plan_

  abbrev the_files : List FileAt
  the_files = all_files image has_pieces.found o plan has_pieces.plan_

  inode_same : (key : ObjectKey) → ino_of_key named key ≡ ino_of s key
  inode_same key = ap (λ (n : ℕ). if same_key key root then 256 else 257 + n) (count_one items named (keys volume.named) has_pieces.plan_.sorted.are_keys has_pieces.opened.are_keys (λ k. is_lt (object_cmp k key) && not (same_key k root)))

  to_named : (key : ObjectKey) → Contains s.keys key → Contains named key
  to_named key h = (has_pieces.plan_.sorted.are_keys.exact key).1 ((has_pieces.opened.are_keys.exact key).0 h)

  from_named : (key : ObjectKey) → Contains named key → Contains s.keys key
  from_named key h = (has_pieces.opened.are_keys.exact key).1 ((has_pieces.plan_.sorted.are_keys.exact key).0 h)

  abbrev there : List Piece
  there = kept image has_pieces.found o plan has_pieces.plan_ ++ at_places (rest image has_pieces.found o plan has_pieces.plan_) (places image has_pieces.found o plan has_pieces.plan_)

  same : IsPermutation there pieces
  same = permuted image has_pieces.found o plan has_pieces.plan_ pieces has_pieces.placed

  was_old : (p : Piece) → Contains pieces p → IsOld all p
  was_old p h =
      ⊎_elim
      (λ here. record { was = p; among = Contains-append_left (kept image has_pieces.found o plan has_pieces.plan_) (rest image has_pieces.found o plan has_pieces.plan_) p here; from = refl; count = refl; owner = refl })
      (λ later.
      let of = old_of (rest image has_pieces.found o plan has_pieces.plan_) (places image has_pieces.found o plan has_pieces.plan_) p later in
      record { was = of.was; among = Contains-append_right (kept image has_pieces.found o plan has_pieces.plan_) (rest image has_pieces.found o plan has_pieces.plan_) of.was of.among; from = of.from; count = of.count; owner = of.owner })
      (Contains-append_cases (kept image has_pieces.found o plan has_pieces.plan_) (at_places (rest image has_pieces.found o plan has_pieces.plan_) (places image has_pieces.found o plan has_pieces.plan_)) p
      (Contains-permutation pieces there p (IsPermutation-sym there pieces same) h))

  enough : length (rest image has_pieces.found o plan has_pieces.plan_) ≤ length (places image has_pieces.found o plan has_pieces.plan_)
  enough =
      let room = (plans_have_room image has_pieces.found o plan has_pieces.plan_).room in
      let many = units_long plan.data_ in
      let left = ap length (back image has_pieces.found o plan has_pieces.plan_) in
      let dropped = length-drop has_pieces.found.kept has_pieces.found.items.items in
      omega (arith, room, many, left, dropped)

  -- a piece that has its place
  record IsThere (q : Piece) : Type 0 where
    piece : Piece
    among : Contains pieces piece
    from : piece.from ≡ q.from
    count : piece.count ≡ q.count
    owner : piece.owner ≡ q.owner

  is_there : (q : Piece) → Contains all q → IsThere q
  is_there q h =
      ⊎_elim
      (λ here. record { piece = q; among = Contains-permutation there pieces q same (Contains-append_left (kept image has_pieces.found o plan has_pieces.plan_) _ q here); from = refl; count = refl; owner = refl })
      (λ later.
      let at = placed_of (rest image has_pieces.found o plan has_pieces.plan_) (places image has_pieces.found o plan has_pieces.plan_) q enough later in
      record { piece = at_place q at.0; among = Contains-permutation there pieces (at_place q at.0) same (Contains-append_right (kept image has_pieces.found o plan has_pieces.plan_) _ (at_place q at.0) at.1); from = refl; count = refl; owner = refl })
      (Contains-append_cases (kept image has_pieces.found o plan has_pieces.plan_) (rest image has_pieces.found o plan has_pieces.plan_) q h)

  -- ---- each block of an owned piece

  file_key : (f : FileAt) → Contains the_files f → IsFileOf items named named f
  file_key f h = file_of items named named f h

  stays : (p : Piece) (q : IsOld all p) (i first : ℕ) → p.owner ≡ Some (i, first) → (lies : Lies the_files q.was i first 0) → stays_in_tree o.inline lies.file.items lies.file.size File ≡ false
  stays p q i first owned lies = by_from q.was.from refl
    where
      by_from : (x : Option ℕ) → q.was.from ≡ x → stays_in_tree o.inline lies.file.items lies.file.size File ≡ false
      by_from (Some b) is =
          disk_stays o.inline lies.file.items lies.file.size (first + 0) (b + 0)
          (lies.lies ∙ ap (λ (x : Option ℕ). let r : Option RunFrom = Some (option_map_or (λ c. Disk (c + 0)) x Tail) in r) is)
      by_from None is =
          let t = tail_there image has_pieces.found o plan has_pieces.plan_ q.was q.among is in
          let inode : t.file.inode ≡ i = ap (λ (w : Option (ℕ × ℕ)). option_map_or (λ x. x.0) w 0) (ap (λ (r : Piece). r.owner) t.is ∙ (q.owner ∙ owned)) in
          let file = one_file image has_pieces.found o plan has_pieces.plan_ t.file lies.file t.among lies.among (inode ∙ sym lies.inode) in
          subst (λ (f : FileAt). stays_in_tree o.inline f.items f.size File ≡ false) file t.stays

  each_of : (p : Piece) (i first : ℕ) → Contains pieces p → p.owner ≡ Some (i, first) → (key : ObjectKey) × HasExtents s key × (ino_of s key ≡ i) × ((j : ℕ) → j < p.count → ComesFrom s key (first + j) (in_piece p j))
  each_of p i first h owned =
      let q = was_old p h in
      let own : q.was.owner ≡ Some (i, first) = q.owner ∙ owned in
      let some : 1 ≤ q.was.count = all_at (λ r. 1 ≤ r.count) all q.was (some_blocks image has_pieces.found o plan has_pieces.plan_) q.among in
      let zero_lies = piece_lies image has_pieces.found o plan has_pieces.plan_ q.was q.among i first 0 own (omega (arith, some)) in
      let of = file_key zero_lies.file zero_lies.among in
      let kind : kind_in s of.key ≡ File = file_kind (kind_in s of.key) of.file in
      let inode : ino_of s of.key ≡ i = sym (inode_same of.key) ∙ (ap (λ (f : FileAt). f.inode) of.is ∙ zero_lies.inode) in
      let out : stays_in_tree o.inline (items_of of.key items) (size_in s of.key) File ≡ false = subst (λ (f : FileAt). stays_in_tree o.inline f.items f.size File ≡ false) (sym of.is) (stays p q i first owned zero_lies) in (
        of.key,
        record { named = from_named of.key of.among; file = kind; not_inline = ap (λ (k : Kind). stays_in_tree o.inline (items_of of.key items) (size_in s of.key) k) kind ∙ out },
        inode,
        λ j inside.
            let lies = piece_lies image has_pieces.found o plan has_pieces.plan_ q.was q.among i first j own (let c = q.count in omega (arith, inside, c)) in
            let file = one_file image has_pieces.found o plan has_pieces.plan_ lies.file (file_at items named of.key) lies.among (subst (λ (f : FileAt). Contains the_files f) (sym of.is) zero_lies.among) (lies.inode ∙ sym (ap (λ (f : FileAt). f.inode) of.is ∙ zero_lies.inode)) in
            sym (ap (λ (f : FileAt). block_from f.items f.size (first + j)) file) ∙ (lies.lies ∙ ap (λ (x : Option ℕ). let r : Option RunFrom = Some (option_map_or (λ b. Disk (b + j)) x Tail) in r) q.from),
      )

  -- ---- each block of a file

  abbrev IsIn : ObjectKey → ℕ → RunFrom → Type 0
  IsIn key k from = (p : Piece) × (first : ℕ) × Contains pieces p × (p.owner ≡ Some (ino_of s key, first)) × (first ≤ k) × (k < first + p.count) × (from ≡ in_piece p (k - first))

  file_in : (key : ObjectKey) → HasExtents s key → Contains the_files (file_at items named key)
  unfolding files_among
  file_in key ext = in_map (file_at items named) (filter (is_file_at items) named) key (in_filter (is_file_at items) named key (to_named key ext.named) (ap is_file ext.file))

  whole_of : (key : ObjectKey) (k : ℕ) (from : RunFrom) → HasExtents s key → ComesFrom s key k from → IsIn key k from
  whole_of key k (Disk b) ext lies =
      let f : FileAt = file_at items named key in
      let owned : by image has_pieces.found o plan has_pieces.plan_ b ≡ Some (f.inode, k) =
      owner_is the_files the_files f k b (once image has_pieces.found o plan has_pieces.plan_) (λ g h. h) (file_in key ext) lies in
      let owns = lies_owns image has_pieces.accepted named has_pieces.plan_.sorted.are_keys key k b (to_named key ext.named) lies in
      let full = (owners_are_one.holds image has_pieces.accepted key k b owns).used in
      let found = (cover image has_pieces.found o plan has_pieces.plan_).whole b full in
      let q : Piece = found.1 in
      let in_q : Contains all q = (found.0, found.2, found.3) in
      let first : ℕ = found.4.0 in
      let low : first ≤ b = found.4.2 in
      let high : b < first + q.count = found.4.3 in
      let holds : HoldsUsed (used image has_pieces.found o plan has_pieces.plan_) (by image has_pieces.found o plan has_pieces.plan_) q =
      all_at (HoldsUsed (used image has_pieces.found o plan has_pieces.plan_) (by image has_pieces.found o plan has_pieces.plan_)) all q (cover image has_pieces.found o plan has_pieces.plan_).each in_q in
      let from = advanced_from q.owner (b - first) f.inode k (sym (holds.owners first b found.4.1 low high) ∙ owned) in
      let at = is_there q in_q in
      let start : ℕ = from.0 in
      let sum : start + (b - first) ≡ k = from.2 in
      let count = at.count in
      let back_ : first + (k - start) ≡ b = omega (arith, sum, low) in (
        at.piece,
        start,
        at.among,
        at.owner ∙ (from.1 ∙ ap (λ (n : ℕ). let w : Option (ℕ × ℕ) = Some (n, start) in w) (inode_same key)),
        omega (arith, sum),
        omega (arith, sum, low, high, count),
        sym (ap (λ (x : Option ℕ). option_map_or (λ c. Disk (c + (k - start))) x Tail) (at.from ∙ found.4.1) ∙ ap (λ (n : ℕ). Disk n) back_),
      )
  whole_of key k Tail ext lies =
      let f : FileAt = file_at items named key in
      let t : TailBlock = record { inode = f.inode; at = k } in
      let out : is_file_inline o.inline f ≡ false = sym (ap (λ (kind : Kind). stays_in_tree o.inline (items_of key items) (size_in s key) kind) ext.file) ∙ ext.not_inline in
      let low = lies_low (items_of key items) (size_in s key) k Tail lies in
      let passes : has_tail f k ≡ true = ap is_tail lies in
      let among : Contains (filter (has_tail f) (file_blocks f)) k = in_filter (has_tail f) (file_blocks f) k (contains_range 0 (div_ceil f.size 4096) k (omega arith) (omega (arith, low))) passes in
      let listed : Contains (map (λ (n : ℕ). let u : TailBlock = record { inode = f.inode; at = n } in u) (filter (has_tail f) (file_blocks f))) t = in_map (λ (n : ℕ). let u : TailBlock = record { inode = f.inode; at = n } in u) (filter (has_tail f) (file_blocks f)) k among in
      let in_file : Contains (file_tails o.inline f) t = subst (λ (b : Bool). Contains (if b then [] else map (λ (n : ℕ). let u : TailBlock = record { inode = f.inode; at = n } in u) (filter (has_tail f) (file_blocks f))) t) (sym out) listed in
      let in_tails : Contains (all_tails image has_pieces.found o plan has_pieces.plan_) t = in_flat_map (file_tails o.inline) the_files f t (file_in key ext) in_file in
      let q : Piece = tail_piece t in
      let in_q : Contains all q =
      Contains-append_right (kept image has_pieces.found o plan has_pieces.plan_) (rest image has_pieces.found o plan has_pieces.plan_) q
      (Contains-append_right (copied_pieces (used image has_pieces.found o plan has_pieces.plan_) (by image has_pieces.found o plan has_pieces.plan_)) (made image has_pieces.found o plan has_pieces.plan_) q
      (in_map tail_piece (all_tails image has_pieces.found o plan has_pieces.plan_) t in_tails)) in
      let at = is_there q in_q in
      let count : at.piece.count ≡ 1 = at.count in (
        at.piece,
        k,
        at.among,
        at.owner ∙ ap (λ (n : ℕ). let w : Option (ℕ × ℕ) = Some (n, k) in w) (inode_same key),
        omega arith,
        omega (arith, count),
        sym (ap (λ (x : Option ℕ). option_map_or (λ c. Disk (c + (k - k))) x Tail) at.from),
      )

  once_of : AllPairs Disjoint pieces
  once_of =
      let distinct = placed_distinct image has_pieces.found o plan has_pieces.plan_ clash clash_flips (λ p q b. refl) (λ p q b. refl)
      (λ i j d order inside. no_clash (get_or all i d) (get_or all j d) (all_disjoint image has_pieces.found o plan has_pieces.plan_ i j d order inside)) pieces has_pieces.placed in
      λ i j d order inside. apart_of (get_or pieces i d) (get_or pieces j d) (apart_from_distinct clash pieces i j d distinct order inside)

pub files_are_held : FilesAreHeld
files_are_held volume image o plan pieces has_pieces = record {
  whole = whole_of volume image o plan pieces has_pieces;
  each = each_of volume image o plan pieces has_pieces;
  once = once_of volume image o plan pieces has_pieces;
}

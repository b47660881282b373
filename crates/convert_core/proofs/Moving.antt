-- The pieces of a volume with a plan: where they lie, and that they can be written.
use Rattle.convert_core.proofs.Imports.{◌≡◌, ◌≢◌, ◌⊎◌, ◌≤◌, ◌<◌, ℕ, ◌+◌, ◌-◌, ◌/◌, ◌^◌, inl, inr, ◌||◌, Bool, true, false, List, [], ◌∷◌, ◌++◌, length, map, filter, take, drop, Option, Some, None, refl, sym, ap, subst, ◌∙◌, ⊎_elim, arith, All, Contains, MatchOption, both_ways, cases_eq, or_cases, or_left, or_right, All-append, All-cons, All-contains, All-drop, All-head, All-nil, All-tail, All-take, All-weaker, Contains-permutation, IsPermutation-sym, keys, from_flat_map, from_map, Image, has, IsFreeUnit, all_from_contains, ObjectKey, used_of, volume_items, Volume, used_length, is_among, is_chosen, AreUnitsApart, IsSoundPlan, need, Options, Piece, Plan, plans_sound, FileAt, file_blocks, file_tails, has_tail, is_file_inline, owner, tails, files_of, CoverUsed, HoldsUsed, IsKeptPiece, LieWell, LiesInUnit, Owners, copied_pieces, kept_pieces, tail_piece, WerePlaced, at_place, at_places, blocks_of_units, all_at, all_map, kept_are_maximal, at_second, at_third, HasPieces, CanMove, HasOwner, IsMovedTo, IsMovedPlace, IsMirror, IsFree, IsTaken, places_are_apart, IsCopied, is_copied_piece, pieces_cover_used}
use Rattle.std.proofs.Common.{if◌then◌else◌}
use Rattle.reiser_volume.specs.reiser_volume_names.Names.{ino_of_key}
use Rattle.unit_plan.proofs.Starts.{among_contains, contains_among}
use Rattle.extent_pieces.specs.declared.tail.Tail.{Tail}
use Rattle.extent_pieces.proofs.Once.{IsFileOf, file_of}
use Rattle.convert_core.proofs.One.{ascending_one}

-- ---- what holds of pieces wherever they lie

module _ (P : Piece → Type 0) (anywhere : (q : Piece) (b : ℕ) → P q → P (at_place q b)) where
  all_moved : (old : List Piece) (places : List ℕ) → All P old → All P (at_places old places)
  all_moved [] places all = All-nil P
  all_moved (q ∷ old) [] all = All-nil P
  all_moved (q ∷ old) (b ∷ bs) all = All-cons P (at_place q b) (at_places old bs) (anywhere q b (All-head P q old all)) (all_moved old bs (All-tail P q old all))

  -- holds of them once they have their places
  all_placed : (kept : ℕ) (units : List ℕ) (old new : List Piece) → WerePlaced kept units old new → All P old → All P new
  all_placed kept units old new are all =
      let there : List Piece = take kept old ++ at_places (drop kept old) (blocks_of_units units) in
      let each : All P there = All-append P (take kept old) (at_places (drop kept old) (blocks_of_units units)) (All-take P kept old all) (all_moved (drop kept old) (blocks_of_units units) (All-drop P kept old all)) in
      all_from_contains P new (λ q h. All-contains P there q each (Contains-permutation new there q (IsPermutation-sym there new are.same) h))

-- ---- small facts

some_none : (b : ℕ) → (let o : Option ℕ = Some b in o) ≡ None → ⊥
some_none b is = absurd (cc)

some_is : (a b : ℕ) → (let o : Option ℕ = Some a in o) ≡ Some b → a ≡ b
some_is a b is = cc

-- a piece stays where it lies, or moves
pub stays_or_moves : (from : Option ℕ) (place : ℕ) → (from ≡ Some place) ⊎ (from ≢ Some place)
stays_or_moves None place = inr (λ is. some_none place (sym is))
stays_or_moves (Some a) place =
    ⊎_elim (λ (same : a ≡ place). inl (ap (λ (n : ℕ). let o : Option ℕ = Some n in o) same)) (λ (other : a ≢ place). inr (λ is. other (some_is a place is))) (cases_eq a place)

taken_is : (plan : Plan) (b : ℕ) → (is_among plan.system (b / 256) ≡ true) ⊎ ((is_among plan.metadata (b / 256) ≡ true) ⊎ (is_among plan.data_ (b / 256) ≡ true)) → IsTaken plan b
unfolding is_chosen
taken_is plan b in_some =
    ⊎_elim (λ system. or_left (is_among plan.system (b / 256)) _ system)
    (λ others. or_right (is_among plan.system (b / 256)) _ (⊎_elim (λ metadata. or_left (is_among plan.metadata (b / 256)) _ metadata) (λ data_. or_right (is_among plan.metadata (b / 256)) _ data_) others)) in_some

taken_cases : (plan : Plan) (b : ℕ) → IsTaken plan b → (is_among plan.system (b / 256) ≡ true) ⊎ ((is_among plan.metadata (b / 256) ≡ true) ⊎ (is_among plan.data_ (b / 256) ≡ true))
unfolding is_chosen
taken_cases plan b taken =
    ⊎_elim (λ system. inl system) (λ others. inr (or_cases (is_among plan.metadata (b / 256)) (is_among plan.data_ (b / 256)) others))
    (or_cases (is_among plan.system (b / 256)) (is_among plan.metadata (b / 256) || is_among plan.data_ (b / 256)) taken)

-- ---- tails

-- a file that the piece is for has a name
abbrev IsNamed : List ObjectKey → Piece → Type 0
IsNamed named q = q.from ≡ None → (key : ObjectKey) × (k : ℕ) × Contains named key × (q.owner ≡ Some (ino_of_key named key, k))

tail_inode : (inline : Bool) (f : FileAt) (t : Tail) → Contains (file_tails inline f) t → f.inode ≡ t.inode
tail_inode inline f t h = by (is_file_inline inline f) h
  where
    by : (b : Bool) → Contains (if b then [] else map (λ k. record { inode = f.inode; at = k }) (filter (has_tail f) (file_blocks f))) t → f.inode ≡ t.inode
    by true h = absurd (omega (arith, h.1))
    by false h = let of = from_map (λ (k : ℕ). let u : Tail = record { inode = f.inode; at = k } in u) (filter (has_tail f) (file_blocks f)) t h in ap (λ (u : Tail). u.inode) of.2

module _ (volume : Volume) (image : Image) (o : Options) (plan : Plan) (pieces : List Piece) (of : HasPieces volume image o plan pieces) where
  abbrev used : List Bool
  used = used_of image

  abbrev named : List ObjectKey
  named = of.plan_.keys

  abbrev old : List Piece
  old = of.found.items.items

  abbrev by : Owners
  by = owner (files_of image named)

  abbrev all_tails : List Tail
  all_tails = tails o.inline (files_of image named)

  pub sound : IsSoundPlan used (need of.found.counts o) plan
  sound = plans_sound used (need of.found.counts o) plan of.plan_.enough of.plan_.plan_

  pub well : LieWell used plan.data_ pieces
  well = places_are_apart image of.found o plan pieces of.plan_ of.placed

  -- ---- units of the plan

  pub system_free : (b : ℕ) → Contains plan.system (b / 256) → IsFree image b
  system_free b h = all_at (IsFreeUnit used) plan.system (b / 256) sound.system.free h

  pub metadata_free : (b : ℕ) → Contains plan.metadata (b / 256) → IsFree image b
  metadata_free b h = all_at (IsFreeUnit used) plan.metadata (b / 256) sound.metadata.free h

  data_free : (b : ℕ) → is_among plan.data_ (b / 256) ≡ true → IsFree image b
  data_free b t = all_at (IsFreeUnit used) plan.data_ (b / 256) sound.data_.free (among_contains plan.data_ (b / 256) t)

  pub system_taken : (b : ℕ) → Contains plan.system (b / 256) → IsTaken plan b
  system_taken b h = taken_is plan b (inl (contains_among plan.system (b / 256) h))

  pub metadata_taken : (b : ℕ) → Contains plan.metadata (b / 256) → IsTaken plan b
  metadata_taken b h = taken_is plan b (inr (inl (contains_among plan.metadata (b / 256) h)))

  -- whatever the plan takes is free
  pub taken_free : (b : ℕ) → IsTaken plan b → IsFree image b
  taken_free b taken =
      ⊎_elim (λ system. system_free b (among_contains plan.system (b / 256) system))
      (λ others. ⊎_elim (λ metadata. metadata_free b (among_contains plan.metadata (b / 256) metadata)) (λ data_. data_free b data_) others) (taken_cases plan b taken)

  -- ---- pieces that move

  place_unit : (b : ℕ) → IsMovedPlace pieces b → is_among plan.data_ (b / 256) ≡ true
  place_unit b h =
      let q : Piece = h.1 in
      let among : Contains pieces q = (h.0, h.2, h.3) in
      let moved : IsMovedTo b q = h.4 in
      subst (λ (n : ℕ). is_among plan.data_ (n / 256) ≡ true) moved.place (all_at (LiesInUnit plan.data_) pieces q well.moved among moved.moved).1

  -- the place of a piece that moves is free, and in a unit that the plan takes
  pub place_free : (b : ℕ) → IsMovedPlace pieces b → IsFree image b
  place_free b h = data_free b (place_unit b h)

  pub place_taken : (b : ℕ) → IsMovedPlace pieces b → IsTaken plan b
  place_taken b h = taken_is plan b (inr (inr (place_unit b h)))

  -- ---- what pieces hold

  covered : CoverUsed used by old
  covered = subst (CoverUsed used by) (sym of.plan_.found_.pieces_are) (pieces_cover_used used by all_tails)

  -- the blocks that a piece holds are used
  abbrev HoldsOnlyUsed : Piece → Type 0
  HoldsOnlyUsed q = (b j : ℕ) → q.from ≡ Some b → j < q.count → has used (b + j) ≡ true

  all_used : All HoldsOnlyUsed pieces
  all_used =
      all_placed HoldsOnlyUsed (λ q b all. all) of.found.kept plan.data_ old pieces of.placed
      (All-weaker (HoldsUsed used by) HoldsOnlyUsed (λ q holds b j is inside. holds.used_ (b + j) (b, is, omega arith, omega (arith, inside))) old covered.each)

  kept_named : All (IsNamed named) (kept_pieces used by)
  kept_named = All-weaker (IsKeptPiece used by) (IsNamed named) (λ q is none. absurd (some_none q.place (sym is.stays ∙ none))) (kept_pieces used by) (kept_are_maximal used by).each

  copied_named : All (IsNamed named) (copied_pieces used by)
  copied_named = all_from_contains (IsNamed named) (copied_pieces used by) (λ q h none.
      let copied : IsCopied used by q = is_copied_piece used by q h in
      absurd (some_none copied.block (sym (ap (λ (r : Piece). r.from) copied.is) ∙ none)))

  tail_named : (t : Tail) → Contains all_tails t → IsNamed named (tail_piece t)
  tail_named t h none =
      let file = from_flat_map (file_tails o.inline) (files_of image named) t h in
      let is : IsFileOf (volume_items image) named named file.0 = file_of (volume_items image) named named file.0 file.1 in
      let inode : t.inode ≡ ino_of_key named is.key = sym (ap (λ (f : FileAt). f.inode) is.is ∙ tail_inode o.inline file.0 t file.2) in
      (is.key, t.at, is.among, ap (λ (i : ℕ). let w : Option (ℕ × ℕ) = Some (i, t.at) in w) inode)

  old_named : All (IsNamed named) old
  old_named = subst (All (IsNamed named)) (sym of.plan_.found_.pieces_are)
      (All-append (IsNamed named) (kept_pieces used by) (copied_pieces used by ++ map tail_piece all_tails) kept_named
      (All-append (IsNamed named) (copied_pieces used by) (map tail_piece all_tails) copied_named (all_map (IsNamed named) tail_piece all_tails tail_named)))

  all_named : All (IsNamed named) pieces
  all_named = all_placed (IsNamed named) (λ q b is. is) of.found.kept plan.data_ old pieces of.placed old_named

  -- the objects of the table
  keys_are : named ≡ keys volume.named
  keys_are =
      ascending_one named (keys volume.named) of.plan_.sorted.ascend of.opened.ascends
      (λ key h. (of.opened.are_keys.exact key).1 ((of.plan_.sorted.are_keys.exact key).0 h)) (λ key h. (of.plan_.sorted.are_keys.exact key).1 ((of.opened.are_keys.exact key).0 h))

  -- a tail's block of the file is below its bound
  low_block : (q : Piece) (i k : ℕ) → Contains pieces q → q.owner ≡ Some (i, k) → k < 2 ^ 52
  low_block q i k h is =
      let bound : MatchOption q.owner (Unit {0}) (λ w. w.1 + q.count ≤ 2 ^ 32) = all_at (λ (r : Piece). MatchOption r.owner (Unit {0}) (λ w. w.1 + r.count ≤ 2 ^ 32)) pieces q well.apart.owners h in
      let low : k + q.count ≤ 2 ^ 32 = subst (λ (w : Option (ℕ × ℕ)). MatchOption w (Unit {0}) (λ x. x.1 + q.count ≤ 2 ^ 32)) is bound in
      omega (arith, low)

  owner_there : (q : Piece) → Contains pieces q → HasOwner named q
  owner_there q h none = let found = all_at (IsNamed named) pieces q all_named h none in (found.0, found.1, found.2, found.3, low_block q (ino_of_key named found.0) found.1 h found.3)

  -- ---- all of it

  pub can_move : CanMove volume image pieces
  can_move = record {
    accepted = of.accepted;
    opened = of.opened;
    single = all_from_contains (λ q. q.from ≢ Some q.place → q.count ≡ 1) pieces (λ q h moved. (all_at (LiesInUnit plan.data_) pieces q well.moved h moved).0);
    inside = λ b h.
        let within = (place_free b h).inside in
        let long = used_length image in
        let fits = of.accepted.clean.superblock.fits in
        omega (arith, within, long, fits);
    unused = λ b h. (place_free b h).unused b refl;
    apart = λ i j d order inside moved other same.
        let less = well.apart.ascending i j d order inside in
        let some = well.apart.some i d (omega (arith, order, inside)) in
        omega (arith, less, some, same);
    sources = λ q b j h is inside. all_at HoldsOnlyUsed pieces q all_used h b j is inside;
    owners = λ q h. subst (λ (ks : List ObjectKey). HasOwner ks q) keys_are (owner_there q h);
  }

  -- ---- pieces and units of nodes

  -- a block of a piece lies in no unit of nodes
  module _ (units : List ℕ) (free : (b : ℕ) → Contains units (b / 256) → IsFree image b) (other : AreUnitsApart units plan.data_) where
    in_no_unit : (q : Piece) → Contains pieces q → (b : ℕ) → q.place ≤ b → b < q.place + q.count → Contains units (b / 256) → ⊥
    in_no_unit q h b low high in_unit =
        ⊎_elim
        (λ (stays : q.from ≡ Some q.place).
        let at : q.place + (b - q.place) ≡ b = omega (arith, low) in
        let full : has used b ≡ true = subst (λ (n : ℕ). has used n ≡ true) at (all_at HoldsOnlyUsed pieces q all_used h q.place (b - q.place) stays (omega (arith, low, high))) in
        both_ways (has used b) ((free b in_unit).unused b refl) full)
        (λ (moves : q.from ≢ Some q.place).
        let is = all_at (LiesInUnit plan.data_) pieces q well.moved h moves in
        let one = is.0 in
        let here : q.place ≡ b = omega (arith, one, low, high) in
        other (b / 256) in_unit (among_contains plan.data_ (b / 256) (subst (λ (n : ℕ). is_among plan.data_ (n / 256) ≡ true) here is.1)))
        (stays_or_moves q.from q.place)

  pub piece_not_system : (q : Piece) → Contains pieces q → (b : ℕ) → q.place ≤ b → b < q.place + q.count → Contains plan.system (b / 256) → ⊥
  piece_not_system = in_no_unit plan.system system_free sound.system_data

  pub piece_not_metadata : (q : Piece) → Contains pieces q → (b : ℕ) → q.place ≤ b → b < q.place + q.count → Contains plan.metadata (b / 256) → ⊥
  piece_not_metadata = in_no_unit plan.metadata metadata_free sound.metadata_data

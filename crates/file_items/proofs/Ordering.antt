-- Pieces by the numbers that they stand under.
use Rattle.file_items.proofs.Imports.{◌≡◌, ◌<◌, ◌≤◌, ℕ, suc, ◌+◌, ◌*◌, ◌^◌, ◌==◌, Bool, true, false, cond, is_some, List, [], ◌∷◌, ◌++◌, length, filter, map, take, drop, get_or, sum_by, AllPairs, Some, None, Option, refl, sym, ap, subst, ◌∙◌, ◌&&◌, arith, slice_get, unwrap_or, All, MatchOption, option_map_or, map-append, append-nil, filter-append, sum_by-cons, sum_by_push, slice_get_within, get_or_from_slice_get, slice_get-get_or, ascending, is_under, Spot, take_push, told_at, told_long, ascending_filter, ascending_kept, ascending_sum, capped, ascending_map, Piece, owner_inode, file_block, source_block, by_block, is_owned_by, pieces_of, TellsPieces, AreOwners}
use Rattle.unit_plan.specs.Pieces.{ArePlaced}
use Rattle.file_items.proofs.Streaming.{next_of}

map_twice : {A B C : Type 0} (f : B → C) (g : A → B) (xs : List A) → map (λ x. f (g x)) xs ≡ map f (map g xs)
map_twice f g [] = refl
map_twice {A} {B} {C} f g (x ∷ xs) = ap (λ (l : List C). f (g x) ∷ l) (map_twice f g xs)

filter_map : {A B : Type 0} (p : B → Bool) (f : A → B) (xs : List A) → filter p (map f xs) ≡ map f (filter (λ x. p (f x)) xs)
filter_map p f [] = refl
filter_map {A} {B} p f (x ∷ xs) = by (filter_map p f xs) (p (f x))
  where
    by : filter p (map f xs) ≡ map f (filter (λ y. p (f y)) xs) → (b : Bool) → cond b (f x ∷ filter p (map f xs)) (filter p (map f xs)) ≡ map f (cond b (x ∷ filter (λ y. p (f y)) xs) (filter (λ y. p (f y)) xs))
    by later true = ap (λ (l : List B). f x ∷ l) later
    by later false = later

pub filter_alike : {A : Type 0} (p q : A → Bool) (xs : List A) → ((x : A) → p x ≡ q x) → filter p xs ≡ filter q xs
filter_alike p q [] same = refl
filter_alike {A} p q (x ∷ xs) same = ap (λ (b : Bool). cond b (x ∷ filter p xs) (filter p xs)) (same x) ∙ ap (λ (l : List A). cond (q x) (x ∷ l) l) (filter_alike p q xs same)

filter_twice : {A : Type 0} (p q : A → Bool) (xs : List A) → filter p (filter q xs) ≡ filter (λ x. q x && p x) xs
filter_twice p q [] = refl
filter_twice {A} p q (x ∷ xs) = by (filter_twice p q xs) (q x)
  where
    by : filter p (filter q xs) ≡ filter (λ y. q y && p y) xs → (b : Bool) → filter p (cond b (x ∷ filter q xs) (filter q xs)) ≡ cond (b && p x) (x ∷ filter (λ y. q y && p y) xs) (filter (λ y. q y && p y) xs)
    by later true = ap (λ (l : List A). cond (p x) (x ∷ l) l) later
    by later false = later

module _ (pieces : List Piece) (number : Piece → ℕ) where
  abbrev seen : Spot → ℕ × Option Piece
  seen spot = (spot.of, slice_get pieces spot.number)

  abbrev said : Piece → ℕ × Option Piece
  said p = (number p, Some p)

  -- what the spots tell without their numbers
  pub tells_there : (spots : List Spot) (told : List Piece) → TellsPieces pieces number spots told → map (λ spot. slice_get pieces spot.number) spots ≡ map (λ (p : Piece). Some p) told
  tells_there spots told tells = map_twice (λ (e : ℕ × Option Piece). e.1) seen spots ∙ (ap (map (λ (e : ℕ × Option Piece). e.1)) tells ∙ sym (map_twice (λ (e : ℕ × Option Piece). e.1) said told))

  pub tells_sorted : (spots sorted : List Spot) (told : List Piece) → TellsPieces pieces number spots told → sorted ≡ ascending (λ spot. spot.of) spots → TellsPieces pieces number sorted (ascending number told)
  tells_sorted spots sorted told tells is =
      ap (map seen) is ∙ (sym (ascending_map (λ (e : ℕ × Option Piece). e.0) seen spots) ∙ (ap (ascending (λ (e : ℕ × Option Piece). e.0)) tells ∙ ascending_map (λ (e : ℕ × Option Piece). e.0) said told))

  pub tells_under : (n : ℕ) (spots : List Spot) (told : List Piece) → TellsPieces pieces number spots told → TellsPieces pieces number (filter (is_under n) spots) (filter (λ p. number p == n) told)
  tells_under n spots told tells =
      sym (filter_map (λ (e : ℕ × Option Piece). e.0 == n) seen spots) ∙ (ap (filter (λ (e : ℕ × Option Piece). e.0 == n)) tells ∙ filter_map (λ (e : ℕ × Option Piece). e.0 == n) said told)

  -- one spot more, and one piece more
  pub tells_push : (spots : List Spot) (told : List Piece) (i : ℕ) (p : Piece) → TellsPieces pieces number spots told → slice_get pieces i ≡ Some p → TellsPieces pieces number (spots ++ record { of = number p; number = i } ∷ []) (told ++ p ∷ [])
  tells_push spots told i p tells there =
      map-append seen spots (record { of = number p; number = i } ∷ [])
      ∙ (ap (λ (l : List (ℕ × Option Piece)). l ++ (number p, slice_get pieces i) ∷ []) tells
      ∙ (ap (λ (o : Option Piece). map said told ++ (number p, o) ∷ []) there ∙ sym (map-append said told (p ∷ []))))

  part_more : (t : Piece → Bool) (i : ℕ) (p : Piece) → slice_get pieces i ≡ Some p → filter t (take (i + 1) pieces) ≡ filter t (take i pieces) ++ cond (t p) (p ∷ []) []
  part_more t i p there =
      ap (filter t) (ap (λ (k : ℕ). take k pieces) one ∙ (take_push i pieces p (slice_get_within pieces i p there) ∙ ap (λ (q : Piece). take i pieces ++ q ∷ []) (get_or_from_slice_get pieces i p p there)))
      ∙ filter-append t (take i pieces) (p ∷ [])
    where
      one : i + 1 ≡ suc i
      one = omega arith

  pub tells_more : (t : Piece → Bool) (spots new : List Spot) (i under : ℕ) (p : Piece) → TellsPieces pieces number spots (filter t (take i pieces)) → slice_get pieces i ≡ Some p → t p ≡ true → under ≡ number p → new ≡ spots ++ record { of = under; number = i } ∷ []
      → TellsPieces pieces number new (filter t (take (i + 1) pieces))
  tells_more t spots new i under p tells there passes under_is new_is =
      ap (map seen) (new_is ∙ ap (λ (k : ℕ). spots ++ record { of = k; number = i } ∷ []) under_is)
      ∙ (tells_push spots (filter t (take i pieces)) i p tells there
      ∙ ap (map said) (ap (λ (b : Bool). filter t (take i pieces) ++ cond b (p ∷ []) []) (sym passes) ∙ sym (part_more t i p there)))

  pub tells_same : (t : Piece → Bool) (spots : List Spot) (i : ℕ) (p : Piece) → TellsPieces pieces number spots (filter t (take i pieces)) → slice_get pieces i ≡ Some p → t p ≡ false → TellsPieces pieces number spots (filter t (take (i + 1) pieces))
  tells_same t spots i p tells there fails =
      tells ∙ ap (map said) (sym (part_more t i p there ∙ (ap (λ (b : Bool). filter t (take i pieces) ++ cond b (p ∷ []) []) fails ∙ append-nil (filter t (take i pieces)))))

-- the pieces of an inode among all by their blocks
owned_test : (ino : ℕ) (p : Piece) → (is_some p.owner && (owner_inode p == ino)) ≡ is_owned_by ino p
owned_test ino p = by p.owner
  where
    by : (o : Option (ℕ × ℕ)) → (is_some o && (option_map_or (λ x. x.0) o 0 == ino)) ≡ option_map_or (λ x. x.0 == ino) o false
    by None = refl
    by (Some x) = refl

pub of_inode : (pieces : List Piece) (ino : ℕ) → filter (λ p. owner_inode p == ino) (ascending owner_inode (by_block pieces)) ≡ pieces_of pieces ino
of_inode pieces ino =
    ascending_filter owner_inode ino (by_block pieces)
    ∙ (ascending_kept file_block (λ p. owner_inode p == ino) (filter (λ p. is_some p.owner) pieces)
    ∙ ap (ascending file_block) (filter_twice (λ p. owner_inode p == ino) (λ p. is_some p.owner) pieces ∙ filter_alike (λ p. is_some p.owner && (owner_inode p == ino)) (is_owned_by ino) pieces (owned_test ino)))

-- the spots of all owned pieces under their inodes
pub owners_are : (pieces : List Piece) (spots sorted : List Spot) → TellsPieces pieces owner_inode spots (by_block pieces) → sorted ≡ ascending (λ spot. spot.of) spots → AreOwners sorted pieces
owners_are pieces spots sorted tells is = λ ino.
    tells_there pieces owner_inode (filter (is_under ino) sorted) (filter (λ p. owner_inode p == ino) (ascending owner_inode (by_block pieces)))
    (tells_under pieces owner_inode ino sorted (ascending owner_inode (by_block pieces)) (tells_sorted pieces owner_inode spots sorted (by_block pieces) tells is))
    ∙ ap (map (λ (p : Piece). Some p)) (of_inode pieces ino)

-- the piece that a spot tells
pub record IsPieceAt (pieces told : List Piece) (i number : ℕ) : Type 0 where
  pub piece : Piece
  pub there : slice_get pieces number ≡ Some piece
  pub at : slice_get told i ≡ Some piece
  pub more : take (i + 1) told ≡ take i told ++ piece ∷ []
  pub rest : drop i told ≡ piece ∷ drop (i + 1) told

no_piece : Piece
no_piece = record { from = None; count = 0; owner = None; place = 0 }

pub piece_at : (pieces told : List Piece) (spots : List Spot) (i : ℕ) (spot : Spot) → map (λ s. slice_get pieces s.number) spots ≡ map (λ (p : Piece). Some p) told → slice_get spots i ≡ Some spot → IsPieceAt pieces told i spot.number
piece_at pieces told spots i spot tells here =
    let long = told_long (λ (s : Spot). slice_get pieces s.number) spots told tells in
    let within = slice_get_within spots i spot here in
    by (omega (arith, long, within))
  where
    by : i < length told → IsPieceAt pieces told i spot.number
    by inside =
        let p : Piece = get_or told i no_piece in
        let at = slice_get-get_or told i no_piece inside in
        let one : i + 1 ≡ suc i = omega arith in
        let next = next_of told i inside in
        let same : next.first ≡ p = some_same next.first p (sym next.stands ∙ at) in
        record {
          piece = p;
          there = told_at (λ (s : Spot). slice_get pieces s.number) spots told i spot tells here ∙ at;
          at = at;
          more = ap (λ (k : ℕ). take k told) one ∙ take_push i told no_piece inside;
          rest = next.rest ∙ ap (λ (q : Piece). q ∷ drop (i + 1) told) same;
        }
      where
        some_same : (a b : Piece) → Some a ≡ Some b → a ≡ b
        some_same a b is = cc

pub all_at : (P : Piece → Type 0) (pieces : List Piece) (i : ℕ) (p : Piece) → All P pieces → slice_get pieces i ≡ Some p → P p
all_at P pieces i p all there = subst P (get_or_from_slice_get pieces i p p there) (all i p (slice_get_within pieces i p there))

pub owner_block : (p : Piece) (t : ℕ × ℕ) (b : ℕ) → p.owner ≡ Some t → b ≡ t.1 → b ≡ file_block p
owner_block p t b is block = block ∙ sym (ap (λ (o : Option (ℕ × ℕ)). option_map_or (λ x. x.1) o 0) is)

pub source_is : (p : Piece) (b : ℕ) → p.from ≡ Some b → b ≡ source_block p
source_is p b is = sym (ap (λ (o : Option ℕ). option_map_or (λ x. x) o 0) is)

-- what placed pieces are bounded by
pub record IsBounded (p : Piece) : Type 0 where
  pub place : p.place < 2 ^ 52
  pub count : p.count < 2 ^ 52
  pub source : source_block p < 2 ^ 52
  pub block : file_block p < 2 ^ 52

pub bounded : (blocks : ℕ) (pieces : List Piece) (i : ℕ) (p : Piece) → blocks < 2 ^ 52 → ArePlaced blocks pieces → slice_get pieces i ≡ Some p → IsBounded p
bounded blocks pieces i p small placed there =
    let inside = all_at (λ (q : Piece). q.place + q.count ≤ blocks) pieces i p placed.inside there in
    record {
      place = omega (arith, inside, small);
      count = omega (arith, inside, small);
      source = from p.from (all_at (λ (q : Piece). MatchOption q.from (Unit {0}) (λ b. b + q.count ≤ blocks)) pieces i p placed.sources there);
      block = owned p.owner (all_at (λ (q : Piece). MatchOption q.owner (Unit {0}) (λ o. o.1 + q.count ≤ 2 ^ 32)) pieces i p placed.owners there);
    }
  where
    from : (o : Option ℕ) → MatchOption o (Unit {0}) (λ b. b + p.count ≤ blocks) → option_map_or (λ b. b) o 0 < 2 ^ 52
    from None h = omega arith
    from (Some b) h = omega (arith, h, small)

    owned : (o : Option (ℕ × ℕ)) → MatchOption o (Unit {0}) (λ x. x.1 + p.count ≤ 2 ^ 32) → option_map_or (λ x. x.1) o 0 < 2 ^ 52
    owned None h = omega arith
    owned (Some x) h = omega (arith, h)

pub piece_same : (a b : Piece) → Some a ≡ Some b → a ≡ b
piece_same a b is = cc

-- the inode of an owner
pub unwrapped : (o : Option (ℕ × ℕ)) (t : ℕ × ℕ) → t ≡ unwrap_or o (0, 0) → t.0 ≡ option_map_or (λ x. x.0) o 0
unwrapped None t is = ap (λ (x : ℕ × ℕ). x.0) is
unwrapped (Some x) t is = ap (λ (y : ℕ × ℕ). y.0) is

pub owner_more : (pieces told : List Piece) (spots new : List Spot) (i number under : ℕ) (p : Piece) → TellsPieces pieces owner_inode spots (take i told) → slice_get pieces number ≡ Some p → under ≡ owner_inode p → take (i + 1) told ≡ take i told ++ p ∷ []
    → new ≡ spots ++ record { of = under; number = number } ∷ [] → TellsPieces pieces owner_inode new (take (i + 1) told)
owner_more pieces told spots new i number under p tells there under_is more new_is =
    ap (map {B = ℕ × Option Piece} (λ (s : Spot). (s.of, slice_get pieces s.number))) (new_is ∙ ap (λ (k : ℕ). spots ++ record { of = k; number = number } ∷ []) under_is)
    ∙ (tells_push pieces owner_inode spots (take i told) number p tells there ∙ ap (map {B = ℕ × Option Piece} (λ (q : Piece). (owner_inode q, Some q))) (sym more))

-- the blocks of some pieces, with one more
pub count_more : (some new : List Piece) (p : Piece) (blocks sum : ℕ) → blocks ≡ capped (sum_by (λ q. q.count) some) → sum ≡ capped (blocks + p.count) → new ≡ some ++ p ∷ [] → sum ≡ capped (sum_by (λ q. q.count) new)
count_more some new p blocks sum before is new_is =
    summed (sum_by (λ q. q.count) some) blocks p.count sum before is ∙ ap capped (sym (sum_by_push (λ (q : Piece). q.count) some p) ∙ ap (sum_by (λ (q : Piece). q.count)) (sym new_is))
  where
    summed : (t a n s : ℕ) → a ≡ capped t → s ≡ capped (a + n) → s ≡ capped (t + n)
    summed t a n s was is = omega arith

-- those that pass a test
pub tested_more : (pieces : List Piece) (t : Piece → Bool) (i : ℕ) (p : Piece) → slice_get pieces i ≡ Some p → t p ≡ true → filter t (take (i + 1) pieces) ≡ filter t (take i pieces) ++ p ∷ []
tested_more pieces t i p there passes = part_more pieces (λ q. 0) t i p there ∙ ap (λ (b : Bool). filter t (take i pieces) ++ cond b (p ∷ []) []) passes

pub tested_same : (pieces : List Piece) (t : Piece → Bool) (i : ℕ) (p : Piece) → slice_get pieces i ≡ Some p → t p ≡ false → filter t (take (i + 1) pieces) ≡ filter t (take i pieces)
tested_same pieces t i p there fails = part_more pieces (λ q. 0) t i p there ∙ (ap (λ (b : Bool). filter t (take i pieces) ++ cond b (p ∷ []) []) fails ∙ append-nil (filter t (take i pieces)))

-- all blocks of placed pieces are within the volume
sum_from : (blocks low : ℕ) (pieces : List Piece) → AllPairs (λ p q. p.place + p.count ≤ q.place) pieces → All (λ p. p.place + p.count ≤ blocks) pieces → All (λ p. low ≤ p.place) pieces → low ≤ blocks → low + sum_by (λ p. p.count) pieces ≤ blocks
sum_from blocks low [] pairs inside above within = omega (arith, within)
sum_from blocks low (p ∷ pieces) pairs inside above within =
    let own = inside 0 p (omega arith) in
    let first = above 0 p (omega arith) in
    let rest = sum_from blocks (p.place + p.count) pieces (λ i j d less h. pairs (suc i) (suc j) d (omega (arith, less)) (omega (arith, h))) (λ k d h. inside (suc k) d (omega (arith, h))) (λ k d h. pairs 0 (suc k) d (omega arith) (omega (arith, h))) own in
    let whole = sum_by-cons (λ (q : Piece). q.count) p pieces in
    omega (arith, own, first, rest, whole)

sum_of_part : (t : Piece → Bool) (pieces : List Piece) → sum_by (λ p. p.count) (filter t pieces) ≤ sum_by (λ p. p.count) pieces
sum_of_part t [] = omega arith
sum_of_part t (p ∷ pieces) = by (sum_of_part t pieces) (t p)
  where
    by : sum_by (λ q. q.count) (filter t pieces) ≤ sum_by (λ q. q.count) pieces → (b : Bool) → sum_by (λ q. q.count) (cond b (p ∷ filter t pieces) (filter t pieces)) ≤ sum_by (λ q. q.count) (p ∷ pieces)
    by later true =
        let one = sum_by-cons (λ (q : Piece). q.count) p (filter t pieces) in
        let two = sum_by-cons (λ (q : Piece). q.count) p pieces in
        omega (arith, one, two, later)
    by later false = let two = sum_by-cons (λ (q : Piece). q.count) p pieces in omega (arith, two, later)

pub sum_within : (blocks : ℕ) (pieces : List Piece) (t : Piece → Bool) → ArePlaced blocks pieces → sum_by (λ p. p.count) (filter t pieces) ≤ blocks
sum_within blocks pieces t placed =
    let whole = sum_from blocks 0 pieces placed.ascending placed.inside (λ k d h. omega arith) (omega arith) in
    let part = sum_of_part t pieces in
    omega (arith, whole, part)

pub bytes_are : (pieces : List Piece) → sum_by (λ p. 4096 * p.count) pieces ≡ 4096 * sum_by (λ p. p.count) pieces
bytes_are [] = refl
bytes_are (p ∷ pieces) =
    let one = sum_by-cons (λ (q : Piece). 4096 * q.count) p pieces in
    let two = sum_by-cons (λ (q : Piece). q.count) p pieces in
    let rest = bytes_are pieces in
    omega (arith, one, two, rest)

pub owned_within : (blocks : ℕ) (pieces : List Piece) (ino : ℕ) → ArePlaced blocks pieces → sum_by (λ p. p.count) (pieces_of pieces ino) ≤ blocks
owned_within blocks pieces ino placed =
    let same = ascending_sum file_block (λ p. p.count) (filter (is_owned_by ino) pieces) in
    let part = sum_within blocks pieces (is_owned_by ino) placed in
    omega (arith, same, part)

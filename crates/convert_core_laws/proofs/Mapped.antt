-- The chunks of a conversion map each address of a piece to its place.
use Rattle.convert_core_laws.proofs.Imports.{◌≡◌, ◌≤◌, ◌<◌, ℕ, ◌+◌, ◌-◌, ◌*◌, ◌/◌, ◌&&◌, ◌||◌, not, nat_le, nat_lt, inl, inr, Bool, true, false, List, [], ◌∷◌, length, Option, Some, None, refl, sym, ap, subst, ◌∙◌, ⊎_elim, arith, Contains, range_with_len, and_from, cases_lt, not_from_false, or_left, or_right, nat_tests, list_any-from_Any, Image, is_reserved, holds, place, MapRange, HasPieces, can_move, stays_or_moves, well, piece_apart, LiesInUnit, all_at, reserved_no, has, contains_cases, contains_head, contains_range, contains_tail, used_of, Volume, used_length, holds_data, is_among, is_data, AreChunks, HoldsUnit, IsChunk, is_data_unit, is_filler, role_of, usable_end, use_of, need, PlannedChunk, Role, System, Metadata, Data, Options, Piece, Plan, roles_uses, ChunksMapPieces, identity_range}
use Rattle.std.proofs.Common.{if◌then◌else◌}
use Rattle.reiser_volume.specs.reiser_super.declared.superblock.Super.{Super}

-- a map that gives each of its addresses itself
own_address : (ranges : List MapRange) (r : MapRange) (a : ℕ) → ((x : MapRange) → Contains ranges x → x.physical ≡ x.logical) → Contains ranges r → holds r a ≡ true → place ranges a ≡ Some a
own_address [] r a same h is = absurd (omega (arith, h.1))
own_address (x ∷ ranges) r a same h is =
    by (λ (f : holds x a ≡ false).
    ⊎_elim (λ (own : x ≡ r). absurd (never (holds x a) (subst (λ (y : MapRange). holds y a ≡ true) (sym own) is) f))
    (λ (later : Contains ranges r). own_address ranges r a (λ y among. same y (contains_tail y x ranges among)) later is) (contains_cases r x ranges h))
    (holds x a) refl
  where
    low : (l n : ℕ) → (nat_le l a && nat_lt a (l + n)) ≡ true → l ≤ a
    low l n t = grind (arith, nat_tests)

    never : (b : Bool) → b ≡ true → b ≡ false → ⊥
    never b on off = absurd (cc)

    by : (holds x a ≡ false → place ranges a ≡ Some a) → (b : Bool) → holds x a ≡ b → (if b then Some (x.physical + (a - x.logical)) else place ranges a) ≡ Some a
    by later true t =
        let from = low x.logical x.length t in
        let there = same x (contains_head x ranges) in
        ap (λ (n : ℕ). let o : Option ℕ = Some n in o) (let e : x.physical + (a - x.logical) ≡ a = omega (arith, from, there) in e)
    by later false f = later f

some_use : (used : List Bool) (plan : Plan) (u : ℕ) → is_data_unit used plan u ≡ true → (r : Role) × (use_of used plan u ≡ Some r)
some_use used plan u is = by (is_among plan.system u) (is_among plan.metadata u)
  where
    by : (s m : Bool) → (r : Role) × ((if s then Some System else if m then Some Metadata else if is_data_unit used plan u || is_filler used plan u then Some Data else None) ≡ Some r)
    by true m = (System, refl)
    by false true = (Metadata, refl)
    by false false = (Data, ap (λ (b : Bool). if b || is_filler used plan u then Some Data else None) is)

-- a used block that is not reserved makes its unit one of data
holds_it : (used : List Bool) (b : ℕ) → is_data used b ≡ true → holds_data used (b / 256) ≡ true
unfolding holds_data
holds_it used b is =
    let among = contains_range (256 * (b / 256)) 256 b (omega arith) (omega arith) in
    list_any-from_Any (is_data used) (range_with_len (256 * (b / 256)) 256) (among.0, b, among.1, among.2, is)

module _ (volume : Volume) (image : Image) (o : Options) (plan : Plan) (pieces : List Piece) (of : HasPieces volume image o plan pieces) where
  abbrev used : List Bool
  used = used_of image

  data_unit : (p : Piece) → Contains pieces p → (b : ℕ) → p.place ≤ b → b < p.place + p.count → is_data_unit used plan (b / 256) ≡ true
  data_unit p among b low high =
      ⊎_elim
      (λ stays.
      let source = (can_move volume image o plan pieces of).sources p p.place (b - p.place) among stays (omega (arith, low, high)) in
      let full : has used b ≡ true = subst (λ (n : ℕ). has used n ≡ true) (let e : p.place + (b - p.place) ≡ b = omega (arith, low) in e) source in
      let free : is_reserved b (length used) ≡ false = reserved_no b (length used) (piece_apart volume image o plan pieces of p among b low high) in
      or_right (is_among plan.data_ (b / 256)) (holds_data used (b / 256)) (holds_it used b (and_from (has used b) (not (is_reserved b (length used))) full (not_from_false (is_reserved b (length used)) free))))
      (λ moves.
      let unit = all_at (LiesInUnit plan.data_) pieces p (well volume image o plan pieces of).moved among moves in
      let one = unit.0 in
      let here : p.place ≡ b = omega (arith, one, low, high) in
      or_left (is_among plan.data_ (b / 256)) (holds_data used (b / 256)) (subst (λ (n : ℕ). is_among plan.data_ (n / 256) ≡ true) here unit.1))
      (stays_or_moves p.from p.place)

  -- each block of a piece lies in a chunk
  in_chunk : (chunks : List PlannedChunk) → AreChunks plan (length used) chunks → (p : Piece) → Contains pieces p → (b : ℕ) → p.place ≤ b → b < p.place + p.count
      → (c : PlannedChunk) × Contains chunks c × (c.start ≤ b) × (b < c.start + c.length)
  in_chunk chunks are p among b low high =
      let apart = piece_apart volume image o plan pieces of p among b low high in
      let inside = all_at (λ q. q.place + q.count ≤ length used) pieces p (well volume image o plan pieces of).apart.inside among in
      let n : ℕ = length used in
      let first : 256 ≤ b = ⊎_elim (λ (less : b < 256). absurd (apart (inl less))) (λ (more : 256 ≤ b). more) (cases_lt b 256) in
      let last : b < 16 * (n / 16) = ⊎_elim (λ (less : b < 16 * (n / 16)). less) (λ (more : 16 * (n / 16) ≤ b). absurd (apart (inr (inr (inr (more, omega (arith, high, inside))))))) (cases_lt b (16 * (n / 16))) in
      let needed = some_use used plan (b / 256) (data_unit p among b low high) in
      let role : role_of plan n (b / 256) ≡ Some needed.0 = roles_uses used (need of.found.counts o) plan of.plan_.enough of.plan_.plan_ (b / 256) (omega (arith, first)) ∙ needed.1 in
      let found = are.whole (b / 256) needed.0 role in
      let c : PlannedChunk = found.1 in
      let there : Contains chunks c = (found.0, found.2, found.3) in
      let unit : HoldsUnit c (b / 256) = found.4 in
      let is : IsChunk (role_of plan n) (usable_end n) c = all_at (IsChunk (role_of plan n) (usable_end n)) chunks c are.each there in
      let from = unit.low in
      let to = unit.high in
      let end = is.ends in
      (c, there, omega (arith, from), omega (arith, to, end, last))

pub chunks_map : ChunksMapPieces
chunks_map image m ranges making are =
    let of : HasPieces m.volume image m.options m.plan m.pieces = making.has_pieces in
    let blocks : m.volume.sup.blocks ≡ length (used_of image) = ap (λ (sup : Super). sup.blocks) of.opened.sup ∙ sym (used_length image) in
    let chunks : AreChunks m.plan (length (used_of image)) m.chunks = subst (λ (n : ℕ). AreChunks m.plan n m.chunks) blocks making.chunks_are in
    record {
      places = λ p a among low high.
          let found = in_chunk m.volume image m.options m.plan m.pieces of m.chunks chunks p among (a / 4096) (omega (arith, low)) (omega (arith, high)) in
          let c : PlannedChunk = found.0 in
          let from = found.2 in
          let to = found.3 in
          own_address ranges (identity_range c) a (λ x h. let of_chunk = are.each x h in ap (λ (r : MapRange). r.physical) of_chunk.2 ∙ sym (ap (λ (r : MapRange). r.logical) of_chunk.2)) (are.whole c found.1)
          (within (4096 * c.start) (4096 * c.length) a (omega (arith, from)) (omega (arith, to)));
    }
  where
    within : (l n a : ℕ) → l ≤ a → a < l + n → (nat_le l a && nat_lt a (l + n)) ≡ true
    within l n a low high = grind (arith, nat_tests)

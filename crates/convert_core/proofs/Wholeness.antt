-- What was prepared of a volume is whole.
use Rattle.convert_core.proofs.Imports.{◌≡◌, ◌≤◌, ◌<◌, ℕ, ◌+◌, ◌^◌, List, length, get_or, sym, ap, subst, ◌∙◌, ⊎_elim, arith, All, AllPairs, cases_lt, SUPER_BLOCK, Image, block_at, IsNodeSize, Super, superblock, used_of, Volume, used_length, system_few, need, Counts, Need, Options, Piece, Plan, Ids, HasPieces, IsPrepared, Prepared, IsWhole}
use Rattle.convert_trees_laws.proofs.Fitting.{pieces_small}
use Rattle.reiser_volume.specs.reiser_super.Rules.{IsCleanSuper}
use Rattle.convert_steps.specs.space_items.Stream.{ArePieces, IsSmallPiece}
use Rattle.convert_core.proofs.Moving.{well}

-- ---- pieces that are looked at one after the other

abbrev pub Ascend : List Piece → Type 0
Ascend pieces = AllPairs (λ p q. p.place + p.count ≤ q.place) pieces

-- The first i ascend and lie on the volume, and end at an end or before. Where all ascend, those that come lie behind it.
pub record ArePlacedTo (pieces : List Piece) (blocks end i : ℕ) : Type 0 where
  pub small : (k : ℕ) (d : Piece) → k < i → IsSmallPiece (get_or pieces k d)
  pub inside : (k : ℕ) (d : Piece) → k < i → (get_or pieces k d).place + (get_or pieces k d).count ≤ blocks
  pub ascending : (k l : ℕ) (d : Piece) → k < l → l < i → (get_or pieces k d).place + (get_or pieces k d).count ≤ (get_or pieces l d).place
  pub before : (k : ℕ) (d : Piece) → k < i → (get_or pieces k d).place + (get_or pieces k d).count ≤ end
  pub behind : Ascend pieces → (k : ℕ) (d : Piece) → i ≤ k → k < length pieces → end ≤ (get_or pieces k d).place

module _ (pieces : List Piece) (blocks end i : ℕ) (p : Piece) (at : (d : Piece) → get_or pieces i d ≡ p) (old : ArePlacedTo pieces blocks end i) where
  pub placed_more : end ≤ p.place → IsSmallPiece p → p.place + p.count ≤ blocks → i < length pieces → ArePlacedTo pieces blocks (p.place + p.count) (i + 1)
  placed_more order small inside more = record {
    small = λ k d h. ⊎_elim (λ first. old.small k d first) (λ last. let here : k ≡ i = omega (arith, h, last) in subst (λ (n : ℕ). IsSmallPiece (get_or pieces n d)) (sym here) (subst IsSmallPiece (sym (at d)) small)) (cases_lt k i);
    inside = λ k d h. ⊎_elim (λ first. old.inside k d first) (λ last. let here : k ≡ i = omega (arith, h, last) in subst (λ (n : ℕ). (get_or pieces n d).place + (get_or pieces n d).count ≤ blocks) (sym here) (subst (λ (q : Piece). q.place + q.count ≤ blocks) (sym (at d)) inside)) (cases_lt k i);
    ascending = λ k l d less h.
        ⊎_elim (λ first. old.ascending k l d less first)
        (λ last.
        let here : l ≡ i = omega (arith, h, last) in
        let low = old.before k d (omega (arith, here, less)) in
        let place : (get_or pieces l d).place ≡ p.place = ap (λ (n : ℕ). (get_or pieces n d).place) here ∙ ap (λ (q : Piece). q.place) (at d) in
        omega (arith, low, order, place))
        (cases_lt l i);
    before = λ k d h.
        ⊎_elim (λ first. let low = old.before k d first in omega (arith, low, order))
        (λ last. let here : k ≡ i = omega (arith, h, last) in subst (λ (n : ℕ). (get_or pieces n d).place + (get_or pieces n d).count ≤ p.place + p.count) (sym here) (subst (λ (q : Piece). q.place + q.count ≤ p.place + p.count) (sym (at d)) (omega arith)))
        (cases_lt k i);
    behind = λ all k d low h. subst (λ (q : Piece). q.place + q.count ≤ (get_or pieces k d).place) (at d) (all i k d (omega (arith, low)) h);
  }

-- ---- what was prepared

module _ (volume : Volume) (image : Image) (o : Options) (plan : Plan) (pieces : List Piece) (of : HasPieces volume image o plan pieces) where
  pub blocks_are : volume.sup.blocks ≡ (superblock image).blocks
  blocks_are = ap (λ (s : Super). s.blocks) of.opened.sup

  pub map_long : length volume.bitmap ≡ volume.sup.blocks
  map_long = ap length of.opened.bitmap ∙ (used_length image ∙ sym blocks_are)

  clean : IsCleanSuper (block_at image SUPER_BLOCK) (length image)
  clean = of.accepted.clean.superblock

  pub blocks_some : 16 < volume.sup.blocks
  blocks_some = let low = clean.bounds.blocks in omega (arith, low, blocks_are)

  pub blocks_few : volume.sup.blocks ≤ 2 ^ 29
  blocks_few = let high = clean.count in omega (arith, high, blocks_are)

  pub blocks_inside : volume.sup.blocks ≤ length image
  blocks_inside = let fits = clean.fits in omega (arith, fits, blocks_are)

  pub are_pieces : ArePieces pieces
  are_pieces = let long = used_length image in pieces_small (length (used_of image)) pieces (let few = blocks_few in omega (arith, few, long, blocks_are)) (well volume image o plan pieces of).apart

  pub places_inside : All (λ q. q.place + q.count ≤ volume.sup.blocks) pieces
  places_inside = λ k d h. let long = used_length image in let inside = (well volume image o plan pieces of).apart.inside k d h in omega (arith, inside, long, blocks_are)

pub prepared_whole : (image : Image) (o : Options) (ids : Ids) (p : Prepared) → IsPrepared image o ids p → p.need.system ≤ 2 ^ 14 → IsWhole p (length image)
prepared_whole image o ids p is few = record {
  some = blocks_some p.volume image o p.plan p.pieces.items.items is.has_pieces;
  small = blocks_few p.volume image o p.plan p.pieces.items.items is.has_pieces;
  inside = blocks_inside p.volume image o p.plan p.pieces.items.items is.has_pieces;
  bitmap = map_long p.volume image o p.plan p.pieces.items.items is.has_pieces;
  pieces = are_pieces p.volume image o p.plan p.pieces.items.items is.has_pieces;
  places = places_inside p.volume image o p.plan p.pieces.items.items is.has_pieces;
  system = few;
}

pub told_whole : (image : Image) (o : Options) (ids : Ids) (p : Prepared) (device : ℕ) → IsNodeSize o.nodesize → length image ≡ device → IsPrepared image o ids p → IsWhole p device
told_whole image o ids p device size long is =
    let counts : Counts = is.has_pieces.found.counts in
    let told : p.need ≡ need counts o = is.need_is ∙ ap (λ (c : Counts). need c o) is.counts_are in
    let blocks = blocks_few p.volume image o p.plan p.pieces.items.items is.has_pieces in
    let map = used_length image in
    let same = blocks_are p.volume image o p.plan p.pieces.items.items is.has_pieces in
    let few : (need counts o).system ≤ 16384 =
    system_few (used_of image) counts o size (omega (arith, blocks, map, same)) (ap (λ (c : Counts). c.blocks) is.has_pieces.plan_.found_.counts_are)
    (ap (λ (c : Counts). c.runs) is.has_pieces.plan_.found_.counts_are) in
    subst (IsWhole p) long (prepared_whole image o ids p is (subst (λ (n : Need). n.system ≤ 2 ^ 14) (sym told) few))

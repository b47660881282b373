-- What a piece holds once it was written.
use Rattle.convert_steps.proofs.Imports.{◌≡◌, ◌<◌, ℕ, ◌+◌, ◌^◌, [], length, set, Option, Some, None, Result, Ok, Err, sym, ap, ◌∙◌, get_or-set_same, arith, Contains, MatchResult, keys, IsFault, Image, block_at, VolAnswer, tail_block, ino_of_key, items_of, ObjectKey, stat_at, volume_items, Volume, Piece, HasOwner, HoldsPiece}

some_same : (a b : ℕ) → (let o : Option ℕ = Some a in o) ≡ Some b → a ≡ b
some_same a b is = cc

some_never : (b : ℕ) → (let o : Option ℕ = None in o) ≡ Some b → ⊥
some_never b is = absurd (cc)

abbrev inode_in : Option (ℕ × ℕ) → ℕ
inode_in None = 0
inode_in (Some o) = o.0

abbrev block_in : Option (ℕ × ℕ) → ℕ
block_in None = 0
block_in (Some o) = o.1

module _ (volume : Volume) (image new : Image) (p : Piece) where
  -- a block that was copied
  pub copy_holds : {T : Type 0} (result : Result T VolAnswer) (from : ℕ) → p.from ≡ Some from → p.count ≡ 1 → p.place < length image
      → MatchResult result (λ _. new ≡ set image p.place (block_at image from)) IsFault → MatchResult result (λ _. HoldsPiece volume image new p) IsFault
  copy_holds (Ok x) from at one inside wrote = record {
    blocks = λ b j is few.
        let same = some_same from b (sym at ∙ is) in
        let here : p.place + j ≡ p.place = omega (arith, few, one) in
        let there : b + j ≡ from = omega (arith, few, one, same) in
        ap (block_at new) here
        ∙ (ap (λ (i : Image). block_at i p.place) wrote ∙ (get_or-set_same image p.place (block_at image from) [] inside ∙ ap (block_at image) (sym there)));
    tail = λ key k none among owner. absurd (some_never from (sym none ∙ at));
  }
  copy_holds (Err e) from at one inside wrote = wrote

  -- a tail that was written
  pub tail_holds : {T : Type 0} (result : Result T VolAnswer) (inode at : ℕ) → p.from ≡ None → p.owner ≡ Some (inode, at) → p.place < length image → HasOwner (keys volume.named) p
      → (at < 2 ^ 52 → (key : ObjectKey) → Contains (keys volume.named) key → inode ≡ ino_of_key (keys volume.named) key
      → MatchResult result (λ _. new ≡ set image p.place (tail_block (items_of key (volume_items image)) (stat_at (volume_items image) key).fields.size at)) IsFault)
      → MatchResult result (λ _. HoldsPiece volume image new p) IsFault
  tail_holds (Ok x) inode at none own inside owned each = record {
    blocks = λ b j is few. absurd (some_never b (sym none ∙ is));
    tail = λ key k _ among owner.
        let first : inode ≡ ino_of_key (keys volume.named) key = ap inode_in (sym own ∙ owner) in
        let second : at ≡ k = ap block_in (sym own ∙ owner) in
        let has = owned none in
        let known : at ≡ has.1 = ap block_in (sym own ∙ has.3) in
        ap (λ (i : Image). block_at i p.place) (each (omega (arith, known, has.4)) key among first)
        ∙ (get_or-set_same image p.place _ [] inside ∙ ap (λ (n : ℕ). tail_block (items_of key (volume_items image)) (stat_at (volume_items image) key).fields.size n) second);
  }
  tail_holds (Err e) inode at none own inside owned each =
      let has = owned none in
      let known : at ≡ has.1 = ap block_in (sym own ∙ has.3) in
      each (omega (arith, known, has.4)) has.0 has.2 (ap inode_in (sym own ∙ has.3))

-- The bootstrap array, one chunk after the other.
use Rattle.convert_steps.proofs.Imports.{◌≡◌, ℕ, suc, ◌+◌, ◌-◌, ◌≤◌, Bool, true, false, cond, List, [], ◌∷◌, ◌++◌, length, take, drop, replicate, filter, Some, refl, sym, ◌∙◌, ap, arith, append_assoc, length-append, take-suc, slice_get, append-nil, length-replicate, replicate-append-replicate, take-append-drop, take_all, slice_get_within, get_or_from_slice_get, chunk_bytes, chunk_layout, chunk_body, chunk_item, PlannedChunk, Ids, boot_bytes, is_system_role, record_bytes, flat_map, filter-append}
use Rattle.std.proofs.lemmas.Grind.{flat_map-append}
use Rattle.btr_tree.specs.btr_keys.Key.{key_bytes, key_layout}
use Rattle.btr_tree.specs.btr_keys.declared.key.Key.{Key}
use Rattle.btr_tree.proofs.btr_node.Putting.{put_is}
use Rattle.btr_tree_writer.specs.btr_space_items.Stripe.{stripe_layout}
use Rattle.btr_tree_writer.specs.btr_space_items.declared.chunk.Chunk.{Chunk}
use borrow.Rule.Slice.PartMut.{put_mid}

pub length_key : (key : Key) → length (key_bytes key) ≡ 17
unfolding key_layout
length_key key = refl

length_chunk : (c : Chunk) → length c.stripe.device_uuid ≡ 16 → length (chunk_bytes c) ≡ 80
unfolding chunk_layout stripe_layout
length_chunk c uuid = omega (arith, uuid, length-append c.stripe.device_uuid [], length-append (c.stripe.device_uuid ++ []) [])

pub length_record : (ids : Ids) (c : PlannedChunk) → length ids.device ≡ 16 → length (record_bytes (chunk_item ids c)) ≡ 97
length_record ids c uuid =
    omega (arith, length-append (key_bytes (chunk_item ids c).0) (chunk_item ids c).1, length_key (chunk_item ids c).0, length_chunk (chunk_body ids c) uuid)

-- a key and a body, written one behind the other
pub record_made : (into key body K B : List ℕ) → length into ≡ 97 → length key ≡ 17 → key ≡ K → body ≡ B
    → put_mid 17 (length (key ++ drop 17 into) - 17) (key ++ drop 17 into) body ≡ K ++ B
record_made into key body K B long short is_key is_body =
    put_is 17 (length (key ++ drop 17 into) - 17) (key ++ drop 17 into) key (drop 17 into) [] body
    (ap (λ (l : List ℕ). key ++ l) (sym (append-nil (drop 17 into)))) short
    (omega (arith, length-append key (drop 17 into), short))
    ∙ (ap (λ (l : List ℕ). key ++ l) (append-nil body) ∙ (ap (λ (l : List ℕ). l ++ body) is_key ∙ ap (λ (l : List ℕ). K ++ l) is_body))

module _ (ids : Ids) where
  boot_append : (xs ys : List PlannedChunk) → boot_bytes ids (xs ++ ys) ≡ boot_bytes ids xs ++ boot_bytes ids ys
  boot_append xs ys =
      ap (flat_map (λ c. record_bytes (chunk_item ids c))) (filter-append (λ c. is_system_role c.role) xs ys)
      ∙ flat_map-append (λ c. record_bytes (chunk_item ids c)) (filter (λ c. is_system_role c.role) xs) (filter (λ c. is_system_role c.role) ys)

  boot_one : (c : PlannedChunk) (b : Bool) → is_system_role c.role ≡ b → boot_bytes ids (c ∷ []) ≡ cond b (record_bytes (chunk_item ids c)) []
  boot_one c true is = ap (λ (t : Bool). flat_map (λ d. record_bytes (chunk_item ids d)) (cond t (c ∷ []) [])) is ∙ append-nil (record_bytes (chunk_item ids c))
  boot_one c false is = ap (λ (t : Bool). flat_map (λ d. record_bytes (chunk_item ids d)) (cond t (c ∷ []) [])) is

  module _ (cs : List PlannedChunk) (i : ℕ) (c : PlannedChunk) (at : slice_get cs i ≡ Some c) where
    taken : take (i + 1) cs ≡ take i cs ++ c ∷ []
    taken =
        let one : i + 1 ≡ suc i = omega arith in
        ap (λ (n : ℕ). take n cs) one ∙ (take-suc cs i c (slice_get_within cs i c at) ∙ ap (λ (d : PlannedChunk). take i cs ++ d ∷ []) (get_or_from_slice_get cs i c c at))

    boot_more : (b : Bool) → is_system_role c.role ≡ b → boot_bytes ids (take (i + 1) cs) ≡ boot_bytes ids (take i cs) ++ cond b (record_bytes (chunk_item ids c)) []
    boot_more b is =
        ap (boot_bytes ids) taken ∙ (boot_append (take i cs) (c ∷ []) ∙ ap (λ (l : List ℕ). boot_bytes ids (take i cs) ++ l) (boot_one c b is))

    -- any other chunk adds nothing
    pub boot_same : is_system_role c.role ≡ false → boot_bytes ids (take (i + 1) cs) ≡ boot_bytes ids (take i cs)
    boot_same is = boot_more false is ∙ append-nil (boot_bytes ids (take i cs))

    module _ (uuid : length ids.device ≡ 16) (is : is_system_role c.role ≡ true) where
      pub boot_longer : length (boot_bytes ids (take (i + 1) cs)) ≡ length (boot_bytes ids (take i cs)) + 97
      boot_longer =
          omega (arith, ap (λ (l : List ℕ). length l) (boot_more true is), length-append (boot_bytes ids (take i cs)) (record_bytes (chunk_item ids c)), length_record ids c uuid)

      pub boot_room : length (boot_bytes ids cs) ≤ 2048 → length (boot_bytes ids (take i cs)) + 97 ≤ 2048
      boot_room fits =
          let apart : boot_bytes ids (take (i + 1) cs ++ drop (i + 1) cs) ≡ boot_bytes ids cs = ap (boot_bytes ids) (take-append-drop (i + 1) cs) in
          omega (
            arith,
            boot_longer,
            fits,
            ap (λ (l : List ℕ). length l) apart,
            ap (λ (l : List ℕ). length l) (boot_append (take (i + 1) cs) (drop (i + 1) cs)),
            length-append (boot_bytes ids (take (i + 1) cs)) (boot_bytes ids (drop (i + 1) cs)),
          )

      -- its record goes behind the others
      pub boot_put : (len : ℕ) (array new : List ℕ) → length (boot_bytes ids cs) ≤ 2048 → len ≡ 97 → new ≡ record_bytes (chunk_item ids c)
          → array ≡ boot_bytes ids (take i cs) ++ replicate (2048 - length (boot_bytes ids (take i cs))) 0
          → put_mid (length (boot_bytes ids (take i cs))) len array new ≡ boot_bytes ids (take (i + 1) cs) ++ replicate (2048 - length (boot_bytes ids (take (i + 1) cs))) 0
      boot_put len array new fits sized wrote built =
          let front : List ℕ = boot_bytes ids (take i cs) in
          let left : ℕ = 2048 - length front - 97 in
          let split : 2048 - length front ≡ 97 + left = omega (arith, boot_room fits) in
          let behind : 2048 - length (boot_bytes ids (take (i + 1) cs)) ≡ left = omega (arith, boot_longer) in
          let zeros : replicate (2048 - length front) 0 ≡ replicate 97 0 ++ replicate left 0 =
          ap (λ (n : ℕ). replicate n 0) split ∙ sym (replicate-append-replicate 97 left 0) in
          let more : front ++ new ≡ boot_bytes ids (take (i + 1) cs) = ap (λ (l : List ℕ). front ++ l) wrote ∙ sym (boot_more true is) in
          put_is (length front) len array front (replicate 97 0) (replicate left 0) new (built ∙ ap (λ (l : List ℕ). front ++ l) zeros) refl (length-replicate {A = ℕ} 97 0 ∙ sym sized)
          ∙ (sym (append_assoc front new (replicate left 0)) ∙ (ap (λ (l : List ℕ). l ++ replicate left 0) more
          ∙ ap (λ (n : ℕ). boot_bytes ids (take (i + 1) cs) ++ replicate n 0) (sym behind)))

  -- the loop has come to the end
  pub boot_all : (cs : List PlannedChunk) (i : ℕ) → length cs ≤ i → boot_bytes ids (take i cs) ≡ boot_bytes ids cs
  boot_all cs i past = ap (boot_bytes ids) (take_all i cs past)

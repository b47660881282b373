-- The block of an inner node, by its parts.
use Rattle.reiser_make.proofs.Imports.{◌≡◌, ◌≤◌, ℕ, suc, ◌+◌, ◌-◌, ◌*◌, List, ◌++◌, length, drop, replicate, sym, ap, ◌∙◌, arith, append_assoc, flat_map, range_with_len, length-map-range_with_len, inner_bytes, child, child_key, disk_child_bytes, children_from, node_head, node_room, Shape, DiskChild}
use Rattle.reiser_make.proofs.Lists.{flat_map_map}

-- the keys of all children but the first
later_keys : (s : Shape) (level first count : ℕ) → 1 ≤ count
    → flat_map child_key (drop 1 (children_from s level first count)) ≡ flat_map (λ m. child_key (child s level m)) (range_with_len (first + 1) (count - 1))
later_keys s level first count some =
    let more : count ≡ suc (count - 1) = omega arith in
    ap (λ n. flat_map child_key (drop 1 (children_from s level first n))) more ∙ flat_map_map child_key (child s level) (range_with_len (first + 1) (count - 1))

pub inner_is : (s : Shape) (level first count room : ℕ) (head keys pointers : List ℕ) → 1 ≤ count → room ≡ node_room - (24 * count - 16)
    → head ≡ node_head (level + 1) (count - 1) (node_room - (24 * count - 16))
    → keys ≡ head ++ flat_map (λ m. child_key (child s level m)) (range_with_len (first + 1) (count - 1))
    → pointers ≡ keys ++ flat_map (λ m. disk_child_bytes (child s level m)) (range_with_len first count)
    → pointers ++ replicate room 0 ≡ inner_bytes (level + 1) (children_from s level first count)
unfolding inner_bytes
inner_is s level first count room head keys pointers some is-room is-head is-keys is-pointers =
    let all : List DiskChild = children_from s level first count in
    let K : List ℕ = flat_map (λ m. child_key (child s level m)) (range_with_len (first + 1) (count - 1)) in
    let P : List ℕ = flat_map (λ m. disk_child_bytes (child s level m)) (range_with_len first count) in
    let Z : List ℕ = replicate room 0 in
    let counted : length all ≡ count = length-map-range_with_len (child s level) first count in
    let free : room ≡ node_room - (24 * length all - 16) = is-room ∙ ap (λ n. node_room - (24 * n - 16)) (sym counted) in
    let head' : head ≡ node_head (level + 1) (length all - 1) (node_room - (24 * length all - 16)) = is-head ∙ ap (λ n. node_head (level + 1) (n - 1) (node_room - (24 * n - 16))) (sym counted) in
    ap (λ z. z ++ Z) (is-pointers ∙ ap (λ z. z ++ P) is-keys)
    ∙ append_assoc (head ++ K) P Z
    ∙ append_assoc head K (P ++ Z)
    ∙ ap (λ h. h ++ (K ++ (P ++ Z))) head'
    ∙ ap (λ z. node_head (level + 1) (length all - 1) (node_room - (24 * length all - 16)) ++ (z ++ (P ++ Z))) (sym (later_keys s level first count some))
    ∙ ap (λ z. node_head (level + 1) (length all - 1) (node_room - (24 * length all - 16)) ++ (flat_map child_key (drop 1 all) ++ (z ++ Z))) (sym (flat_map_map disk_child_bytes (child s level) (range_with_len first count)))
    ∙ ap (λ n. node_head (level + 1) (length all - 1) (node_room - (24 * length all - 16)) ++ (flat_map child_key (drop 1 all) ++ (flat_map disk_child_bytes all ++ replicate n 0))) free

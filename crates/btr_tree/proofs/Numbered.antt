-- Items and slots that are numbered.
use Rattle.btr_tree.proofs.Imports.{◌≡◌, ℕ, zero, suc, ◌+◌, ◌*◌, ◌%◌, ◌<◌, ◌≤◌, ◌^◌, Bool, true, false, List, [], ◌∷◌, ◌++◌, map, Ordering, Less, IsTrue, refl, sym, ◌∙◌, ap, subst, arith, range_with_len, nat_cmp_is, ordering_then, Key, Item, keys_of, ascends, is_before, Ascends, joined, AreSlots, Building, Holds, IsSameBuilding, all_made}
use Rattle.std.proofs.Common.{nat_cmp, is_lt, All}
use Rattle.std.proofs.lemmas.List.FromFn.{get_or-map-range_with_len, length-map-range_with_len, map-range_with_len_more}
use Rattle.btr_node.specs.btrfs_format.declared.key.TheConstants.{INODE_ITEM}
use Rattle.btr_tree.proofs.Standing.{hand_order}

-- what holds of each value of a function holds of each in a list of these
pub all_row : (f : ℕ → ℕ) (P : ℕ → Type 0) (n : ℕ) → ((k : ℕ) → k < n → P (f k)) → All P (map f (range_with_len 0 n))
all_row f P n each i d within =
    let lt : i < n = omega (arith, within, length-map-range_with_len f 0 n) in
    subst P (sym (get_or-map-range_with_len f 0 n i i d lt (omega arith))) (each i lt)

abbrev pub slot_in_a_row : ℕ → ℕ
slot_in_a_row k = 65536 + 4096 * k

-- nodes of 4096 bytes one behind the other
pub slots_in_a_row : (n : ℕ) → n ≤ 1000 → AreSlots 4096 (map (λ k. 65536 + 4096 * k) (range_with_len 0 n))
slots_in_a_row n few = record {
  aligned = all_row slot_in_a_row (λ a. a % 4096 ≡ 0) n (λ k lt. omega arith);
  apart = λ i j d lt within is.
      let all : j < n = omega (arith, within, length-map-range_with_len slot_in_a_row 0 n) in
      let first = get_or-map-range_with_len slot_in_a_row 0 n i i d (omega (arith, lt, all)) (omega arith) in
      let second = get_or-map-range_with_len slot_in_a_row 0 n j j d all (omega arith) in
      omega (arith, lt, sym first ∙ (is ∙ second));
  small = all_row slot_in_a_row (λ a. a < 2 ^ 64) n (λ k lt. omega (arith, lt, few));
}

pub slots_within : (n blocks : ℕ) → n + 16 ≤ blocks → All (λ a. a + 4096 ≤ 4096 * blocks) (map (λ k. 65536 + 4096 * k) (range_with_len 0 n))
slots_within n blocks long = all_row slot_in_a_row (λ a. a + 4096 ≤ 4096 * blocks) n (λ k lt. omega (arith, lt, long))

abbrev pub numbered_key : ℕ → Key
numbered_key k = record { objectid = k; kind = INODE_ITEM; offset = 0 }

abbrev pub numbered_item : List ℕ → ℕ → Item
numbered_item body k = (numbered_key k, body)

next_before : (a : ℕ) → is_before (numbered_key a) (numbered_key (a + 1)) ≡ true
next_before a = ap (λ (o : Ordering). is_lt (ordering_then o (ordering_then (nat_cmp 1 1) (nat_cmp 0 0)))) (sym (nat_cmp_is a (a + 1) Less (omega arith)))

numbered_ascend : (body : List ℕ) (a n : ℕ) → ascends (keys_of (map (numbered_item body) (range_with_len a n))) ≡ true
numbered_ascend body a zero = refl
numbered_ascend body a (suc zero) = refl
numbered_ascend body a (suc (suc n)) =
    joined (is_before (numbered_key a) (numbered_key (a + 1))) (ascends (keys_of (map (numbered_item body) (range_with_len (a + 1) (suc n))))) (next_before a) (numbered_ascend body (a + 1) (suc n))

pub one_more : (body : List ℕ) (n : ℕ) → map (λ k. (record { objectid = k; kind = INODE_ITEM; offset = 0 }, body)) (range_with_len 0 n) ++ (numbered_key n, body) ∷ [] ≡ map (numbered_item body) (range_with_len 0 (n + 1))
one_more body n = sym (map-range_with_len_more (numbered_item body) 0 n n (omega arith))

-- a builder that holds the items before number n may have it next
pub next_order : (b : Building) (body : List ℕ) (n : ℕ) → Holds b (map (numbered_item body) (range_with_len 0 n)) → Ascends (keys_of b.made.draft.items ++ numbered_key n ∷ [])
next_order b body n h =
    hand_order (all_made b h.front) (numbered_key n) body
    (subst (λ (items : List Item). Ascends (keys_of items)) (sym (ap (λ (items : List Item). items ++ numbered_item body n ∷ []) h.pushed_is ∙ one_more body n)) (numbered_ascend body 0 (n + 1)))

pub not_true : (b : Bool) → (IsTrue b → false ≡ true) → b ≡ false
not_true true no_way = sym (no_way refl)
not_true false no_way = refl

pub same_twice : (a b c : Building) → IsSameBuilding a b → IsSameBuilding b c → IsSameBuilding a c
same_twice a b c first second = record {
  form = second.form ∙ first.form;
  owner = second.owner ∙ first.owner;
  generation = second.generation ∙ first.generation;
  slots = second.slots ∙ first.slots;
  offsets = second.offsets ∙ first.offsets;
  chunk_tree = second.chunk_tree ∙ first.chunk_tree;
}

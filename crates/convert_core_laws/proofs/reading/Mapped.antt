-- Each address in a chunk means itself.
use Rattle.convert_core_laws.proofs.Imports.{◌≡◌, ◌≤◌, ◌<◌, ℕ, ◌+◌, ◌-◌, ◌*◌, ◌/◌, ◌^◌, leb, ltb, Bool, true, false, List, [], ◌∷◌, ◌++◌, length, map, Some, sym, ap, subst, ⊎_elim, arith, Contains, if◌then◌else◌, and_from, both_ways, cases_Bool, le-leb, lt-ltb, not_from_false, nat_tests, Contains-append_cases, Contains-append_left, Contains-append_right, from_filter, from_map, in_filter, in_map, Image, IsNodeSize, GivesItself, IsInNode, IsInSlots, holds, place, IsMaking, Making, chunk_slots, slots, is_system_role, all_at, any_from, contains_cases, chunk_ends, chunks_of, used_few, used_of, PlannedChunk, System, AreRangesFor, GivesItsOwn, boot_part, map_for, other_part, range_for}
use Rattle.std.specs.Prelude.{not, ◌&&◌}
use Rattle.convert_core_laws.proofs.reading.Places.{HasBlock, HasBlockOf, chunk_slot_block, piece_block, slot_block}

inside : (low long a : ℕ) → low ≤ a → a < low + long → (leb low a && ltb a (low + long)) ≡ true
inside low long a first last = and_from (leb low a) (ltb a (low + long)) (le-leb low a first) (lt-ltb a (low + long) last)

low_of : (low long a : ℕ) → (leb low a && ltb a (low + long)) ≡ true → low ≤ a
low_of low long a t = grind (arith, nat_tests, t)

-- an address that some of these chunks hold
pub itself : (cs : List PlannedChunk) (c : PlannedChunk) (a : ℕ) → Contains cs c → 4096 * c.start ≤ a → a < 4096 * c.start + 4096 * c.length → place (map range_for cs) a ≡ Some a
itself [] c a among low high = absurd (omega (arith, among.1))
itself (d ∷ cs) c a among low high =
    ⊎_elim
    (λ (t : holds (range_for d) a ≡ true).
    let first : 4096 * d.start ≤ a = low_of (4096 * d.start) (4096 * d.length) a t in
    let at : 4096 * d.start + (a - 4096 * d.start) ≡ a = omega (arith, first) in
    by (holds (range_for d) a) t (ap Some at))
    (λ (f : holds (range_for d) a ≡ false).
    past (holds (range_for d) a) f
    (⊎_elim (λ (same : d ≡ c). absurd (both_ways (holds (range_for d) a) f (subst (λ (e : PlannedChunk). holds (range_for e) a ≡ true) (sym same) (inside (4096 * c.start) (4096 * c.length) a low high))))
    (λ (later : Contains cs c). itself cs c a later low high) (contains_cases c d cs among)))
    (cases_Bool (holds (range_for d) a))
  where
    by : (b : Bool) → b ≡ true → Some (4096 * d.start + (a - 4096 * d.start)) ≡ Some a → (if b then Some (4096 * d.start + (a - 4096 * d.start)) else place (map range_for cs) a) ≡ Some a
    by true t is = is
    by false t is = absurd (cc t)

    past : (b : Bool) → b ≡ false → place (map range_for cs) a ≡ Some a → (if b then Some (4096 * d.start + (a - 4096 * d.start)) else place (map range_for cs) a) ≡ Some a
    past true f is = absurd (cc f)
    past false f is = is

-- all chunks are among those of the array and the others
pub in_parts : (chunks : List PlannedChunk) (c : PlannedChunk) → Contains chunks c → Contains (boot_part chunks ++ other_part chunks) c
in_parts chunks c among =
    ⊎_elim
    (λ (t : is_system_role c.role ≡ true). Contains-append_left (boot_part chunks) (other_part chunks) c (in_filter (λ (d : PlannedChunk). is_system_role d.role) chunks c among t))
    (λ (f : is_system_role c.role ≡ false). Contains-append_right (boot_part chunks) (other_part chunks) c (in_filter (λ (d : PlannedChunk). not (is_system_role d.role)) chunks c among (not_from_false (is_system_role c.role) f)))
    (cases_Bool (is_system_role c.role))

-- and the other way
from_parts : (chunks : List PlannedChunk) (c : PlannedChunk) → Contains (boot_part chunks ++ other_part chunks) c → Contains chunks c
from_parts chunks c among =
    ⊎_elim (λ first. (from_filter (λ (d : PlannedChunk). is_system_role d.role) chunks c first).0) (λ second. (from_filter (λ (d : PlannedChunk). not (is_system_role d.role)) chunks c second).0)
    (Contains-append_cases (boot_part chunks) (other_part chunks) c among)

pub ranges_are : (chunks : List PlannedChunk) → AreRangesFor chunks (map_for chunks)
ranges_are chunks = record {
  each = λ r h. let at = from_map range_for (boot_part chunks ++ other_part chunks) r h in (at.0, from_parts chunks at.0 at.1, sym at.2);
  whole = λ c h. in_map range_for (boot_part chunks ++ other_part chunks) c (in_parts chunks c h);
}

pub in_boot : (chunks : List PlannedChunk) (c : PlannedChunk) → Contains chunks c → c.role ≡ System → Contains (boot_part chunks) c
in_boot chunks c among is = in_filter (λ (d : PlannedChunk). is_system_role d.role) chunks c among (ap is_system_role is)

-- a block that lies in a chunk
block_itself : (cs : List PlannedChunk) (c : PlannedChunk) (a : ℕ) → Contains cs c → c.start ≤ a / 4096 → a / 4096 < c.start + c.length → place (map range_for cs) a ≡ Some a
block_itself cs c a among low high = itself cs c a among (omega (arith, low)) (omega (arith, high))

pub node_blocks : (n : ℕ) → IsNodeSize n → 1 ≤ n / 4096
node_blocks n size =
    ⊎_elim (λ (e : n ≡ 4096). at 4096 e (omega arith))
    (λ rest. ⊎_elim (λ (e : n ≡ 8192). at 8192 e (omega arith))
    (λ rest'. ⊎_elim (λ (e : n ≡ 16384). at 16384 e (omega arith))
    (λ rest''. ⊎_elim (λ (e : n ≡ 32768). at 32768 e (omega arith)) (λ (e : n ≡ 65536). at 65536 e (omega arith)) rest'')
    rest')
    rest)
    size
  where
    at : (k : ℕ) → n ≡ k → 1 ≤ k / 4096 → 1 ≤ n / 4096
    at k e some = subst (λ (x : ℕ). 1 ≤ x / 4096) (sym e) some

module _ (image : Image) (m : Making) (made : IsMaking image m) (size : IsNodeSize m.options.nodesize) where
  abbrev n : ℕ
  n = m.options.nodesize

  -- a chunk ends before the greatest address
  small : (c : PlannedChunk) → Contains m.chunks c → c.start + c.length ≤ 2 ^ 29
  small c among =
      let end : c.start + c.length ≤ length (used_of image) = all_at (λ (d : PlannedChunk). d.start + d.length ≤ length (used_of image)) m.chunks c (chunk_ends m.plan (length (used_of image)) m.chunks (chunks_of image m made)) among in
      omega (arith, end, used_few image m made)

  -- a block of a node at a slot
  in_slot : (list : List ℕ) (a j : ℕ) → Contains list a → j < n / 4096 → IsInSlots n list ((a + 4096 * j) / 4096)
  in_slot list a j among h = any_from (λ (x : ℕ). IsInNode n x ((a + 4096 * j) / 4096)) list a among (omega arith, omega (arith, h))

  gives : (list : List ℕ) (cs : List PlannedChunk) (a j : ℕ) → Contains list a → j < n / 4096
      → (c : PlannedChunk) → Contains m.chunks c → Contains cs c → c.start ≤ (a + 4096 * j) / 4096 → (a + 4096 * j) / 4096 < c.start + c.length
      → (a + 4096 * j < 2 ^ 64) × (place (map range_for cs) (a + 4096 * j) ≡ Some (a + 4096 * j))
  gives list cs a j among h c there here low high =
      let end = small c there in
      (omega (arith, high, end), block_itself cs c (a + 4096 * j) here low high)

  -- the nodes of the chunk tree lie in chunks that the array has
  pub boot_nodes : (a : ℕ) → Contains (chunk_slots m) a → GivesItself (map range_for (boot_part m.chunks)) n a
  boot_nodes a among = λ j h.
      let at : HasBlockOf System m.chunks ((a + 4096 * j) / 4096) = chunk_slot_block image m made size ((a + 4096 * j) / 4096) (in_slot (chunk_slots m) a j among h) in
      gives (chunk_slots m) (boot_part m.chunks) a j among h at.has.chunk at.has.among (in_boot m.chunks at.has.chunk at.has.among at.role_is) at.has.low at.has.high

  all_nodes : (list : List ℕ) → ((b : ℕ) → IsInSlots n list b → HasBlock m.chunks b) → (a : ℕ) → Contains list a → GivesItself (map_for m.chunks) n a
  all_nodes list block a among = λ j h.
      let at : HasBlock m.chunks ((a + 4096 * j) / 4096) = block ((a + 4096 * j) / 4096) (in_slot list a j among h) in
      gives list (boot_part m.chunks ++ other_part m.chunks) a j among h at.chunk at.among (in_parts m.chunks at.chunk at.among) at.low at.high

  pub all_itself : GivesItsOwn m (map_for m.chunks)
  all_itself = record {
    chunk_nodes = all_nodes (chunk_slots m) (λ b at. (chunk_slot_block image m made size b at).has);
    nodes = all_nodes (slots m) (slot_block image m made size);
    pieces = λ p a among low high.
        let at : HasBlock m.chunks (a / 4096) = piece_block image m made p among (a / 4096) (omega (arith, low)) (omega (arith, high)) in
        block_itself (boot_part m.chunks ++ other_part m.chunks) at.chunk a (in_parts m.chunks at.chunk at.among) at.low at.high;
  }

  -- each address of a slot is small
  pub slot_small : (a : ℕ) → Contains (slots m) a → a < 2 ^ 41
  slot_small a among =
      let some : 1 ≤ n / 4096 = node_blocks n size in
      let at : HasBlock m.chunks ((a + 4096 * 0) / 4096) = slot_block image m made size ((a + 4096 * 0) / 4096) (in_slot (slots m) a 0 among some) in
      let end = small at.chunk at.among in
      let high = at.high in
      omega (arith, high, end)

  pub chunk_slot_small : (a : ℕ) → Contains (chunk_slots m) a → a < 2 ^ 41
  chunk_slot_small a among =
      let some : 1 ≤ n / 4096 = node_blocks n size in
      let at : HasBlock m.chunks ((a + 4096 * 0) / 4096) = (chunk_slot_block image m made size ((a + 4096 * 0) / 4096) (in_slot (chunk_slots m) a 0 among some)).has in
      let end = small at.chunk at.among in
      let high = at.high in
      omega (arith, high, end)

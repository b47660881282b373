-- A block that a file's map names has one owner.
use Rattle.reiser_volume.proofs.Imports.{◌≡◌, ◌≢◌, ℕ, ◌+◌, ◌-◌, ◌/◌, ◌<◌, ◌≤◌, ◌==◌, true, false, List, length, get_or, count_by, sum_by, Contains, All, AllPairs, ⊎_elim, refl, sym, ap, subst, ◌∙◌, true≢false, arith, eqb-true, eq-eqb, cases_lt, get_or_default, All-contains, get_or-le-sum_by, Image, count_once, count_twice, from_filter, has, is_system, system_pass, pointers, pointers_length, BlockPointer, ReiserTree, ReiserItem, Event, KeepsRules, is_system_of, tree_events, visits_in, reached_in, sound_exactly, first_byte, NamesBlock, named_place, ObjectKey, same_key, object_key_of, items_of, same_key-true, Owns, HoldsData, OwnersAreOne, superblock, used_of, reiser_tree_of, volume_items, IsAccepted}
use Rattle.reiser_volume.proofs.Holding.{used_length}
use Rattle.reiser_volume.proofs.Reaching.{count_some, counted, sum_two, leads_there, visits_there, names_there, Counted, counted_inside, named_as_pointers}
use Rattle.reiser_volume.proofs.SameRows.{none_saves}

-- an item of the tree names the block, for this file block of this object
record Names (items : List ReiserItem) (key : ObjectKey) (k block : ℕ) : Type 0 where
  item : ReiserItem
  among : Contains items item
  own : object_key_of item.head ≡ key
  names : NamesBlock k block item

module _ (image : Image) (a : IsAccepted image) where
  abbrev tree : ReiserTree
  tree = reiser_tree_of (superblock image)

  abbrev events : List Event
  events = tree_events tree image (superblock image).blocks

  rules_by : (n : ℕ) → length (used_of image) ≡ n → All (λ p. p.block < n) (reached_in (tree_events tree image n))
      × All (λ p. has (used_of image) p.block ≡ true) (reached_in (tree_events tree image n))
      × All (λ p. is_system_of tree p.block ≡ false) (reached_in (tree_events tree image n))
      × AllPairs (λ p q. p.block ≢ q.block) (reached_in (tree_events tree image n))
  rules_by n long =
      let k : KeepsRules tree image (used_of image) = (sound_exactly tree image (used_of image)).0 a.tree in
      subst (λ (n : ℕ). All (λ p. p.block < n) (reached_in (tree_events tree image n))
      × All (λ p. has (used_of image) p.block ≡ true) (reached_in (tree_events tree image n))
      × All (λ p. is_system_of tree p.block ≡ false) (reached_in (tree_events tree image n))
      × AllPairs (λ p q. p.block ≢ q.block) (reached_in (tree_events tree image n))) long (k.inside, k.all_used, k.no_system, k.once)

  abbrev rules : All (λ p. p.block < (superblock image).blocks) (reached_in events)
      × All (λ p. has (used_of image) p.block ≡ true) (reached_in events)
      × All (λ p. is_system_of tree p.block ≡ false) (reached_in events)
      × AllPairs (λ p q. p.block ≢ q.block) (reached_in events)
  rules = rules_by (superblock image).blocks (used_length image)

  module _ (b : ℕ) where
    few : count_by (leads_there b) (reached_in events) ≤ 1
    few = count_once (leads_there b) (reached_in events) (λ i j d below within first second. rules.3 i j d below within (eqb-true _ b first ∙ sym (eqb-true _ b second)))

    parts : Counted b events
    parts = counted_inside b image (superblock image).blocks (tree.height - 1) 16 tree.root

    few_named : sum_by (names_there b) (volume_items image) ≤ 1
    few_named = let all = parts in let one = few in omega (arith, all, one)

    -- what an item names for a file block is one of its pointers
    once : (i : ReiserItem) (k : ℕ) → Contains (volume_items image) i → b ≢ 0 → NamesBlock k b i → names_there b i ≡ count_by (λ c. c == b) (pointers i.body)
    once i k among some n = named_as_pointers b i n.names.kind (none_saves (volume_items image) i a.objects.no_save_link among) some

    pointer_there : (i : ReiserItem) (k : ℕ) → NamesBlock k b i → get_or (pointers i.body) (k - first_byte i / 4096) 0 ≡ b
    pointer_there i k n = sym n.names.is ∙ n.block_is

    place_within : (i : ReiserItem) (k : ℕ) → NamesBlock k b i → k - first_byte i / 4096 < length (pointers i.body)
    place_within i k n = let from = n.names.from in let to = n.names.to in let long = pointers_length i.body in omega (arith, from, to, long)

    passes : (c : ℕ) → c ≡ b → (c == b) ≡ true
    passes c is = eq-eqb c b is

    at_least : (i : ReiserItem) (k : ℕ) → Contains (volume_items image) i → b ≢ 0 → NamesBlock k b i → 1 ≤ names_there b i
    at_least i k among some n =
        let place : ℕ = k - first_byte i / 4096 in
        let own = counted (λ c. c == b) (pointers i.body) b (place, place_within i k n, sym (get_or_default (pointers i.body) place 0 b (place_within i k n)) ∙ pointer_there i k n) (passes b refl) in
        let same = once i k among some n in
        omega (arith, own, same)

    one_place : (i : ReiserItem) (k j : ℕ) → Contains (volume_items image) i → b ≢ 0 → NamesBlock k b i → NamesBlock j b i → ¬ (k < j)
    one_place i k j among some m n less =
        let start : ℕ = first_byte i / 4096 in
        let from = m.names.from in
        let two : 2 ≤ count_by (λ c. c == b) (pointers i.body) =
        count_twice (λ c. c == b) (pointers i.body) (k - start) (j - start) 0 (omega (arith, less, from)) (place_within i j n) (passes _ (pointer_there i k m)) (passes _ (pointer_there i j n)) in
        let same = once i k among some m in
        let part : names_there b (get_or (volume_items image) among.0 i) ≤ sum_by (names_there b) (volume_items image) = get_or-le-sum_by (names_there b) (volume_items image) among.0 i among.1 in
        let own : names_there b (get_or (volume_items image) among.0 i) ≡ names_there b i = ap (names_there b) among.2 in
        let all = few_named in
        omega (arith, two, same, part, own, all)

    one_item : (i j : ReiserItem) (k l : ℕ) (first : Contains (volume_items image) i) (second : Contains (volume_items image) j) → b ≢ 0 → NamesBlock k b i → NamesBlock l b j → ¬ (first.0 < second.0)
    one_item i j k l first second some m n less =
        let both : names_there b (get_or (volume_items image) first.0 i) + names_there b (get_or (volume_items image) second.0 i) ≤ sum_by (names_there b) (volume_items image) = sum_two (names_there b) (volume_items image) first.0 second.0 i less second.1 in
        let one : names_there b (get_or (volume_items image) first.0 i) ≡ names_there b i = ap (names_there b) first.2 in
        let other : names_there b (get_or (volume_items image) second.0 i) ≡ names_there b j = ap (names_there b) (get_or_default (volume_items image) second.0 i j second.1 ∙ second.2) in
        let low = at_least i k first some m in
        let high = at_least j l second some n in
        let all = few_named in
        omega (arith, both, one, other, low, high, all)

    same_owner : (key other : ObjectKey) (k j : ℕ) → b ≢ 0 → Names (volume_items image) key k b → Names (volume_items image) other j b → (key ≡ other) × (k ≡ j)
    same_owner key other k j some m n =
        ⊎_elim (λ less. absurd (one_item m.item n.item k j m.among n.among some m.names n.names less))
        (λ not_less. ⊎_elim (λ more. absurd (one_item n.item m.item j k n.among m.among some n.names m.names more)) (λ not_more. at_one (omega (arith, not_less, not_more))) (cases_lt n.among.0 m.among.0))
        (cases_lt m.among.0 n.among.0)
      where
        at_one : m.among.0 ≡ n.among.0 → (key ≡ other) × (k ≡ j)
        at_one place =
            let same : m.item ≡ n.item = sym m.among.2 ∙ (ap (λ (p : ℕ). get_or (volume_items image) p m.item) place ∙ (get_or_default (volume_items image) n.among.0 m.item n.item n.among.1 ∙ n.among.2)) in
            let moved : NamesBlock j b m.item = subst (NamesBlock j b) (sym same) n.names in (
              sym m.own ∙ (ap (λ (i : ReiserItem). object_key_of i.head) same ∙ n.own),
              ⊎_elim (λ less. absurd (one_place m.item k j m.among some m.names moved less))
                  (λ not_less. ⊎_elim (λ more. absurd (one_place m.item j k m.among some moved m.names more)) (λ not_more. omega (arith, not_less, not_more)) (cases_lt j k))
                  (cases_lt k j),
            )

    -- where an item names the block, it is reached, and not as a node
    holds_data : (i : ReiserItem) (k : ℕ) → Contains (volume_items image) i → b ≢ 0 → NamesBlock k b i → HoldsData image b
    holds_data i k among some n =
        let part : names_there b (get_or (volume_items image) among.0 i) ≤ sum_by (names_there b) (volume_items image) = get_or-le-sum_by (names_there b) (volume_items image) among.0 i among.1 in
        let own : names_there b (get_or (volume_items image) among.0 i) ≡ names_there b i = ap (names_there b) among.2 in
        let low = at_least i k among some n in
        let all = parts in
        let p = count_some (leads_there b) (reached_in events) (omega (arith, part, own, low, all)) in
        let there : p.0.block ≡ b = eqb-true p.0.block b p.2 in
        let bounds = a.clean.superblock.bounds in
        let free : is_system (superblock image).journal_first (superblock image).journal_size b ≡ false = subst (λ (c : ℕ). is_system_of tree c ≡ false) there (All-contains (λ (p : BlockPointer). is_system_of tree p.block ≡ false) (reached_in events) p.0 rules.2 p.1) in
        record {
          within = subst (λ (c : ℕ). c < (superblock image).blocks) there (All-contains (λ (p : BlockPointer). p.block < (superblock image).blocks) (reached_in events) p.0 rules.0 p.1);
          used = subst (λ (c : ℕ). has (used_of image) c ≡ true) there (All-contains (λ (p : BlockPointer). has (used_of image) p.block ≡ true) (reached_in events) p.0 rules.1 p.1);
          no_node = λ v visited is.
              let seen = counted (visits_there b) (visits_in events) v visited (passes v.to.block is) in
              let one = few in
              omega (arith, part, own, low, all, seen, one);
          no_system = λ kept.
              let s = superblock image in
              let is = ((system_pass s.blocks s.journal_first s.journal_size b (omega (arith, bounds.blocks)) bounds.journal_end).0 kept).1 in
              true≢false (sym is ∙ free);
        }

  names_by : (key : ObjectKey) (k block : ℕ) → Owns image key k block → Names (volume_items image) key k block
  names_by key k block o =
      let items : List ReiserItem = items_of key (volume_items image) in
      let n = named_place items k (λ none. o.some (sym o.points ∙ none)) in
      let kept = from_filter (λ (i : ReiserItem). same_key (object_key_of i.head) key) (volume_items image) n.item (n.place, n.within, n.is) in
      record { item = n.item; among = kept.0; own = same_key-true (object_key_of n.item.head) key kept.1; names = subst (λ (c : ℕ). NamesBlock k c n.item) o.points n.fact }

pub owners_are_one : OwnersAreOne
owners_are_one = record {
  holds = λ image a key k block o. let n = names_by image a key k block o in holds_data image a block n.item k n.among o.some n.names;
  one = λ image a key other k j block o p. same_owner image a block key other k j o.some (names_by image a key k block o) (names_by image a other j block p);
}

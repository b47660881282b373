-- What is written to tell the free space of block groups keeps part 10.
use Rattle.btr_check_rules.proofs.Imports.{◌≡◌, ◌≤◌, ◌<◌, ℕ, ◌∙◌, true, ap, refl, subst, sym, arith, List, Bool, not, ◌&&◌, All, Contains, length, map, get_or, All-contains, at_head, from_flat_map, in_flat_map, Item, Recount, object_of}
use Rattle.btr_reader.specs.declared.chunk.ChunkAt.{ChunkAt}
use Rattle.free_space.specs.declared.range.Range.{Range}
use Rattle.free_space.specs.Runs.{AreFreeRuns, end_of, is_in, is_in_any}
use Rattle.free_space.proofs.Told.{IsOf, free_space_is_told, group_of}
use Rattle.free_space.specs.Tree.{TellsFreeSpace, group_items, info_item, run_item}
use Rattle.free_space.specs.Told.{TellsGroup}
use Rattle.btr_check_rules.specs.FreeSpace.{AreRecounted, IsInRange, WrittenFreeSpaceIsKept, chunk_range, space_items, taken_ranges}
use Rattle.btr_check_rules.proofs.At.{each_at}
use Rattle.btr_check_rules.proofs.Distinct.{all_from_contains}

-- which ranges take the same addresses does not matter
runs_by_same : (used taken : List Range) (g : Range) (runs : List Range) → ((a : ℕ) → is_in_any used a ≡ is_in_any taken a) → AreFreeRuns used g runs → AreFreeRuns taken g runs
runs_by_same used taken g runs same are = record { exact = λ a. are.exact a ∙ ap (λ (t : Bool). is_in a g && not t) (same a); some = are.some; apart = are.apart }

tells_by_same : (groups used taken : List Range) (items : List Item) → ((a : ℕ) → is_in_any used a ≡ is_in_any taken a) → TellsFreeSpace groups used items → TellsFreeSpace groups taken items
tells_by_same groups used taken items same tells = record {
  runs = tells.runs;
  are_runs = λ k d h. runs_by_same used taken (get_or groups k d) (tells.runs (get_or groups k d)) same (tells.are_runs k d h);
  items_are = tells.items_are;
}

-- ---- each item stands in the range of its group

begins : (g : Range) (i : Item) → IsOf g i → is_in i.0.objectid g ≡ true
begins g i of = grind (arith, of.0, of.1, of.2)

ends : (g h : Range) (i : Item) → g ≡ h → IsOf g i → i.0.objectid < end_of h
ends g h i same of = subst (λ (k : Range). i.0.objectid < end_of k) same (omega (arith, of.1, of.2))

module _ (r : Recount) (groups used : List Range) (are : AreRecounted r groups used) (tells : TellsFreeSpace groups used (space_items r)) where
  abbrev told : Range → List Item
  told g = group_items g (tells.runs g)

  -- the item of a group is among the items
  info_there : (g : Range) → Contains groups g → Contains (space_items r) (info_item g (length (tells.runs g)))
  info_there g h =
      subst (λ items. Contains items (info_item g (length (tells.runs g)))) (sym tells.items_are) (in_flat_map told groups g (info_item g (length (tells.runs g))) h (at_head (info_item g (length (tells.runs g))) (map run_item (tells.runs g))))

  of_group : (g : Range) (i : Item) → Contains groups g → IsOf g i → IsInRange r i
  of_group g i h of = record {
    range = (info_item g (length (tells.runs g)), info_there g h, refl, begins g i of);
    before = let at = All-contains (λ g. (c : ChunkAt) × Contains r.chunks c × (g ≡ chunk_range c)) groups g are.groups_ h in (at.0, at.1, ends g (chunk_range at.0) i at.2 of);
  }

  in_range : All (IsInRange r) (space_items r)
  in_range = all_from_contains (IsInRange r) (space_items r) (λ i h.
      let from = from_flat_map told groups i (subst (λ items. Contains items i) tells.items_are h) in
      of_group from.0 i from.1 (All-contains (IsOf from.0) (told from.0) i
      (group_of used from.0 (tells.runs from.0) (All-contains (λ (g : Range). 1 ≤ g.length) groups from.0 are.apart.some from.1) (All-contains (λ g. AreFreeRuns used g (tells.runs g)) groups from.0 tells.are_runs from.1)) from.2))

pub written_free_space_is_kept : WrittenFreeSpaceIsKept
written_free_space_is_kept r groups used valid there are tells few a has = record {
  valid = λ at. valid;
  there = λ at. there;
  items = each_at object_of a (IsInRange r) (space_items r) (in_range r groups used are tells);
  groups = λ k d h at. All-contains (TellsGroup (taken_ranges r) (space_items r)) groups (chunk_range (get_or r.chunks k d))
      (free_space_is_told groups (taken_ranges r) (space_items r) are.apart (tells_by_same groups used (taken_ranges r) (space_items r) are.taken tells) few) (are.chunks k d h);
}

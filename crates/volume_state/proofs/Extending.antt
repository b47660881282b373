-- One item more, of those in whose ranges reserved blocks are looked for.
use Rattle.volume_state.proofs.Imports.{◌≡◌, ⊎_elim, ℕ, ◌+◌, List, [], ◌∷◌, ◌++◌, Contains, Option, Some, None, sym, ◌∙◌, ap, subst, arith, Contains-append_cases, Contains-append_left, Contains-append_right, DiskRange, TreeItem, MapRange, at_head, head_or_tail, HoldsExtent, LieIn, TellsReserved, item_range}
use Rattle.volume_state.specs.Extents.{TellsRange}
use Rattle.volume_state.proofs.Placed.{no_some, some_is}

module _ (ranges : List MapRange) (blocks : ℕ) (items : List TreeItem) (i : TreeItem) where
  last : (r : DiskRange) (b : ℕ) → item_range i ≡ Some r → LieIn ranges r.disk_bytenr r.disk_num_bytes b → HoldsExtent (items ++ i ∷ []) ranges b
  last r b is lies = record { item = i; among = Contains-append_right items (i ∷ []) i (at_head i []); range = r; range_is = is; lies = lies }

  only : (x : TreeItem) → Contains (i ∷ []) x → i ≡ x
  only x among = ⊎_elim (λ first. first) (λ later. absurd (omega (arith, later.1))) (head_or_tail i [] x among)

  pub found_more : (o : Option DiskRange) (told : Option ℕ) → item_range i ≡ o → TellsRange ranges blocks o told → TellsReserved (HoldsExtent items ranges) blocks None
      → TellsReserved (HoldsExtent (items ++ i ∷ []) ranges) blocks told
  found_more None None range tells none = λ b reserved holds.
      ⊎_elim (λ before. none b reserved (record { item = holds.item; among = before; range = holds.range; range_is = holds.range_is; lies = holds.lies }))
      (λ here. no_some holds.range (sym range ∙ (ap item_range (only holds.item here) ∙ holds.range_is)))
      (Contains-append_cases items (i ∷ []) holds.item holds.among)
  found_more None (Some b) range tells none = absurd (no_some b (sym tells))
  found_more (Some r) None range tells none = λ b reserved holds.
      ⊎_elim (λ before. none b reserved (record { item = holds.item; among = before; range = holds.range; range_is = holds.range_is; lies = holds.lies }))
      (λ here.
      let same : r ≡ holds.range = some_is r holds.range (sym range ∙ (ap item_range (only holds.item here) ∙ holds.range_is)) in
      tells b reserved (subst (λ (x : DiskRange). LieIn ranges x.disk_bytenr x.disk_num_bytes b) (sym same) holds.lies))
      (Contains-append_cases items (i ∷ []) holds.item holds.among)
  found_more (Some r) (Some b) range tells none = (tells.0, last r b range tells.1)

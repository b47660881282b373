-- The chunks of the array and of the chunk tree, each once, are those of the plan.
use Rattle.convert_core_laws.proofs.Imports.{◌≡◌, ◌≢◌, ◌≤◌, ℕ, ◌+◌, ◌*◌, ◌^◌, ◌&&◌, Bool, true, false, not, cond, List, [], ◌∷◌, ◌++◌, length, map, Option, Some, None, refl, sym, ap, subst, ◌∙◌, ⊎_elim, arith, Contains, if◌then◌else◌, flat_map, list_any, option_map, cases_Bool, ne_eqb, or_left, or_right, Ids, Item, chunk_made, chunk_in, new_chunk, same_body, same_chunk, ChunkAt, added_chunk, chunks_on, is_system_role, chunk_at, other_part, contains_cases, contains_head, contains_tail, chunk_body, chunk_item, chunk_items, PlannedChunk}
use Rattle.convert_core_laws.proofs.reading.Chunks.{all_fit, same_itself}

-- a chunk of the array is no new one
known : (ids : Ids) (boot : List PlannedChunk) (c : PlannedChunk) → Contains boot c → list_any (same_chunk (chunk_at ids c)) (map (chunk_at ids) boot) ≡ true
known ids [] c h = absurd (omega (arith, h.1))
known ids (d ∷ boot) c h =
    ⊎_elim
    (λ (same : d ≡ c). or_left (same_chunk (chunk_at ids c) (chunk_at ids d)) _ (subst (λ (e : PlannedChunk). same_chunk (chunk_at ids c) (chunk_at ids e) ≡ true) (sym same) (same_itself (chunk_at ids c))))
    (λ (later : Contains boot c). or_right (same_chunk (chunk_at ids c) (chunk_at ids d)) _ (known ids boot c later))
    (contains_cases c d boot h)

-- one that begins elsewhere is
unknown : (ids : Ids) (boot : List PlannedChunk) (c : PlannedChunk) → ((d : PlannedChunk) → Contains boot d → c.start ≢ d.start) → list_any (same_chunk (chunk_at ids c)) (map (chunk_at ids) boot) ≡ false
unknown ids [] c each = refl
unknown ids (d ∷ boot) c each =
    let apart : c.start ≢ d.start = each d (contains_head d boot) in
    let other : same_chunk (chunk_at ids c) (chunk_at ids d) ≡ false =
    ap (λ (b : Bool). b && (same_body (chunk_body ids c) (chunk_body ids d) && true)) (ne_eqb (4096 * c.start) (4096 * d.start) (λ e. apart (omega (arith, e)))) in
    rw other (unknown ids boot c (λ e h. each e (contains_tail e d boot h)))

module _ (ids : Ids) (boot : List PlannedChunk) (long : length ids.device ≡ 16) where
  abbrev array : List ChunkAt
  array = map (chunk_at ids) boot

  -- what an item of the chunk tree adds
  abbrev adds : Item → List ChunkAt
  adds i = added_chunk (chunk_in array i.0 i.1)

  abbrev by_test : ChunkAt → Bool → List ChunkAt
  by_test c b = added_chunk (Some (if b then None else Some c))

  -- what is known of the chunks
  pub record Known (cs : List PlannedChunk) : Type 0 where
    pub small : (c : PlannedChunk) → Contains cs c → c.start + c.length ≤ 2 ^ 29
    pub booted : (c : PlannedChunk) → Contains cs c → is_system_role c.role ≡ true → Contains boot c
    pub others : (c d : PlannedChunk) → Contains cs c → is_system_role c.role ≡ false → Contains boot d → c.start ≢ d.start

  of_item : (c : PlannedChunk) → c.start + c.length ≤ 2 ^ 29 → adds (chunk_item ids c) ≡ by_test (chunk_at ids c) (list_any (same_chunk (chunk_at ids c)) array)
  of_item c small =
      let fits = (all_fit ids (c ∷ []) long (λ d h. ⊎_elim (λ (same : c ≡ d). subst (λ (e : PlannedChunk). e.start + e.length ≤ 2 ^ 29) same small) (λ (none : Contains [] d). absurd (omega (arith, none.1))) (contains_cases d c [] h))).0 in
      ap (λ (o : Option ChunkAt). added_chunk (option_map (new_chunk array) o)) (chunk_made (chunk_at ids c) fits)

  pub all_added : (cs : List PlannedChunk) → Known cs → flat_map adds (map (chunk_item ids) cs) ≡ map (chunk_at ids) (other_part cs)
  all_added [] is = refl
  all_added (c ∷ cs) is =
      let head : Contains (c ∷ cs) c = contains_head c cs in
      let rest : flat_map adds (map (chunk_item ids) cs) ≡ map (chunk_at ids) (other_part cs) =
      all_added cs (record {
        small = λ d h. is.small d (contains_tail d c cs h);
        booted = λ d h. is.booted d (contains_tail d c cs h);
        others = λ d e h. is.others d e (contains_tail d c cs h);
      }) in
      let here = of_item c (is.small c head) in
      ⊎_elim
      (λ (t : is_system_role c.role ≡ true).
      ap (λ (l : List ChunkAt). l ++ flat_map adds (map (chunk_item ids) cs)) (here ∙ ap (by_test (chunk_at ids c)) (known ids boot c (is.booted c head t)))
      ∙ (rest ∙ ap (map (chunk_at ids)) (sym (off c cs t))))
      (λ (f : is_system_role c.role ≡ false).
      ap (λ (l : List ChunkAt). l ++ flat_map adds (map (chunk_item ids) cs)) (here ∙ ap (by_test (chunk_at ids c)) (unknown ids boot c (λ d h. is.others c d head f h)))
      ∙ (ap (λ (l : List ChunkAt). chunk_at ids c ∷ l) rest ∙ ap (map (chunk_at ids)) (sym (on c cs f))))
      (cases_Bool (is_system_role c.role))
    where
      on : (c : PlannedChunk) (cs : List PlannedChunk) → is_system_role c.role ≡ false → other_part (c ∷ cs) ≡ c ∷ other_part cs
      on c cs f = ap (λ (b : Bool). cond (not b) (c ∷ other_part cs) (other_part cs)) f

      off : (c : PlannedChunk) (cs : List PlannedChunk) → is_system_role c.role ≡ true → other_part (c ∷ cs) ≡ other_part cs
      off c cs t = ap (λ (b : Bool). cond (not b) (c ∷ other_part cs) (other_part cs)) t

  -- the device's item adds nothing
  pub chunks_added : (blocks : ℕ) (cs : List PlannedChunk) → Known cs → chunks_on array (chunk_items ids blocks cs) ≡ array ++ map (chunk_at ids) (other_part cs)
  chunks_added blocks cs is = ap (λ (l : List ChunkAt). array ++ l) (all_added cs is)

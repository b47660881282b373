-- The tests of a node's bytes tell what is asked of them.
use Rattle.btr_check_fields.proofs.Imports.{◌≡◌, ℕ, ◌+◌, ◌≤◌, ◌==◌, ◌||◌, ◌⊎◌, inl, inr, Bool, true, false, not, List, [], ◌∷◌, length, replicate, refl, sym, ap, subst, ◌∙◌, ⊎_elim, Decides, both_ways, cases_Bool, Decides-and, Decides-eqb, Decides-like, Decides-not, Decides-or, HEADER_FLAG_WRITTEN, MIXED_BACKREF_REV, ITEM_SIZE, Super, Recount, is_packed, is_packed_leaf, is_written, keeps_bytes}
use Rattle.btr_check_rules.specs.Nodes.{IsWritten, KeepsNode, RELOCATED, ArePacked, node_bytes}
use Rattle.btr_check_rules.specs.btr_reader.outside.History.{Image}
use Rattle.btr_check_rules.specs.btr_reader.btr_node.Head.{behind_head, head_in, nritems}
use Rattle.btr_check_rules.specs.btr_reader.btr_node.Records.{records_in}
use Rattle.btr_check_rules.specs.btr_reader.btr_node.declared.head.Head.{Head}
use Rattle.btr_check_rules.specs.btr_reader.btr_node.declared.item.BtrItemHead.{BtrItemHead}
use Rattle.btr_check_rules.specs.btr_reader.btr_reader_walk.declared.tree.NodePointer.{NodePointer}
unfoldable use Rattle.btr_check_rules.specs.btr_reader.btr_node.Leaf.{heads_in, item_layout}
use Rattle.btr_check_fields.proofs.Deciding.{decides_leb, decides_uuid}

decides_written : (h : Head) → Decides (is_written h) (IsWritten h)
decides_written h =
    Decides-like {P = ((h.flags ≡ (HEADER_FLAG_WRITTEN ∷ replicate 6 0)) ⊎ (h.flags ≡ ((HEADER_FLAG_WRITTEN + RELOCATED) ∷ replicate 6 0))) × (h.revision ≡ MIXED_BACKREF_REV)} {Q = IsWritten h} (is_written h) (λ p. record { flags = p.0; revision = p.1 }) (λ is. (is.flags, is.revision))
    (Decides-and _ _ (Decides-or _ _ (decides_uuid h.flags (HEADER_FLAG_WRITTEN ∷ replicate 6 0)) (decides_uuid h.flags ((HEADER_FLAG_WRITTEN + RELOCATED) ∷ replicate 6 0))) (Decides-eqb h.revision MIXED_BACKREF_REV))

-- where a fact is asked for only if another one holds
decides_if : {P Q : Type 0} (x y : Bool) → Decides x P → Decides y Q → Decides (not x || y) (P → Q)
decides_if {P} {Q} x y dx dy = Decides-like (not x || y) to from (Decides-or _ _ (Decides-not x dx) dy)
  where
    to : (¬ P) ⊎ Q → P → Q
    to (inl not_so) p = absurd (not_so p)
    to (inr q) p = q

    from : (P → Q) → (¬ P) ⊎ Q
    from f = ⊎_elim (λ (is_so : x ≡ true). inr (f (dx.0 is_so))) (λ (not_so : x ≡ false). inl (λ p. both_ways x not_so (dx.1 p))) (cases_Bool x)

decides_packed : (end : ℕ) (heads : List BtrItemHead) → Decides (is_packed end heads) (ArePacked end heads)
decides_packed end [] = ((λ is. tt), (λ is. refl))
decides_packed end (h ∷ heads) = Decides-and _ _ (Decides-eqb (h.offset + h.size) end) (decides_packed h.offset heads)

abbrev Parts : Super → NodePointer → List ℕ → Type 0
Parts s p bytes = IsWritten (head_in bytes) × ((p.generation ≤ s.generation) × (p.level ≡ 0 → ArePacked (length (behind_head bytes)) (heads_in bytes)))

decides_parts : (s : Super) (p : NodePointer) (bytes : List ℕ) → Decides (keeps_bytes s p bytes) (Parts s p bytes)
decides_parts s p bytes =
    Decides-and _ _ (decides_written (head_in bytes))
    (Decides-and _ _ (decides_leb p.generation s.generation)
    (decides_if (p.level == 0) (is_packed (length (behind_head bytes)) (heads_in bytes)) (Decides-eqb p.level 0) (decides_packed (length (behind_head bytes)) (heads_in bytes))))

pub decides_node : (image : Image) (r : Recount) (s : Super) (p : NodePointer) (bytes : List ℕ) → r.super ≡ s → node_bytes image r p.address ≡ bytes → Decides (keeps_bytes s p bytes) (KeepsNode image r p)
decides_node image r s p bytes same is =
    subst (λ (b : List ℕ). Decides (keeps_bytes s p b) (KeepsNode image r p)) is
    (subst (λ (z : Super). Decides (keeps_bytes z p (node_bytes image r p.address)) (KeepsNode image r p)) same
    (Decides-like {P = Parts r.super p (node_bytes image r p.address)} {Q = KeepsNode image r p} _ (λ q. record { written = q.0; generation = q.1.0; packed = q.1.1 }) (λ is. (is.written, (is.generation, is.packed)))
    (decides_parts r.super p (node_bytes image r p.address))))

-- the data of a leaf, by what stands behind its head
pub packed_leaf : (level count : ℕ) (bytes behind : List ℕ) → level ≡ 0 → count ≡ nritems bytes → behind ≡ behind_head bytes → is_packed (length behind) (records_in ITEM_SIZE item_layout count behind) ≡ is_packed_leaf level bytes
unfolding heads_in
packed_leaf level count bytes behind leaf some is =
    ap (λ (l : List ℕ). is_packed (length l) (records_in ITEM_SIZE item_layout count l)) is
    ∙ (ap (λ (n : ℕ). is_packed (length (behind_head bytes)) (records_in ITEM_SIZE item_layout n (behind_head bytes))) some
    ∙ ap (λ (n : ℕ). not (n == 0) || is_packed (length (behind_head bytes)) (heads_in bytes)) (sym leaf))

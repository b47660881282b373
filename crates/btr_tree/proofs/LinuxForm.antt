-- What was written whole has the form that Linux wants.
use Rattle.btr_tree.proofs.Imports.{◌≡◌, ◌≤◌, inl, ℕ, ◌+◌, ◌-◌, ◌*◌, List, [], ◌∷◌, length, refl, sym, ap, subst, ◌∙◌, arith, length-append, All-weaker, HEADER_SIZE, ITEM_SIZE, KEY_PTR_SIZE, Draft, draft_bytes, contents, data_of, heads_of, head_of, head_in, nritems, behind_head, Item, item_layout, heads_in, records_in, Expect, size_within, node_head, node_behind_head, bytes_of-parts, nodes_in, walk_events, NodesHaveLinuxForm, IsExact, IsWhole, IsWritten, ArePacked, IsPacked, HasLinuxForm}
use Rattle.btr_node.specs.declared.head.Head.{Head}
use Rattle.btr_node.proofs.ReadBack.{heads_back, length-contents}

module _ (nodesize : ℕ) (want : Expect) (chunk_tree bytes : List ℕ) (is : IsExact nodesize want chunk_tree bytes) where
  head_is : head_in bytes ≡ head_of is.draft
  head_is = ap head_in is.bytes_are ∙ node_head is.draft is.right

  pub exact_written : IsWritten bytes
  exact_written = record {
    flags = (0, inl refl, ap (λ (h : Head). h.flags) head_is);
    revision = ap (λ (h : Head). h.revision) head_is;
  }

  pub exact_packed : want.level ≡ 0 → IsPacked bytes
  unfolding heads_in
  exact_packed leaf =
      let draft : Draft = is.draft in
      let n : ℕ = draft.nodesize - HEADER_SIZE in
      let small = size_within draft.nodesize is.right.nodesize in
      let level : draft.want.level ≡ 0 = ap (λ (w : Expect). w.level) is.want_is ∙ leaf in
      let rest : behind_head bytes ≡ contents n draft.items draft.children = ap behind_head is.bytes_are ∙ node_behind_head draft is.right in
      let count : nritems bytes ≡ length draft.items = ap (λ (h : Head). h.count) head_is ∙ omega (arith, ap length (is.right.leaf level)) in
      let fits : draft_bytes draft.items + KEY_PTR_SIZE * length draft.children ≤ n = omega (arith, is.right.fits) in
      let long : length (behind_head bytes) ≡ n = ap length rest ∙ length-contents n draft.items draft.children fits in
      let heads : heads_in bytes ≡ heads_of n draft.items =
      ap (λ k. records_in ITEM_SIZE item_layout k (behind_head bytes)) count
      ∙ (ap (records_in ITEM_SIZE item_layout (length draft.items)) rest ∙ heads_back n draft.items draft.children (omega (arith, small.1)) fits is.right.keys) in
      subst (λ (e : ℕ). ArePacked e (heads_in bytes)) (sym long)
      (subst (ArePacked n) (sym heads) (packed_down n draft.items (omega (arith, fits, bytes_of-parts draft.items))))
    where
      packed_down : (end : ℕ) (items : List Item) → length (data_of items) ≤ end → ArePacked end (heads_of end items)
      packed_down end [] fits = tt
      packed_down end (item ∷ items) fits =
          let long = length-append (data_of items) item.1 in (omega (arith, fits, long), packed_down (end - length item.1) items (omega (arith, fits, long)))

pub have_form : NodesHaveLinuxForm
have_form = λ image ranges form owner chunk_tree root whole.
    All-weaker (IsWhole image ranges form owner chunk_tree) (HasLinuxForm image ranges form.nodesize)
    (λ p is. record {
      written = exact_written form.nodesize _ chunk_tree _ is.exact;
      packed = exact_packed form.nodesize _ chunk_tree _ is.exact;
      firsts = is.firsts;
    })
    (nodes_in (walk_events image ranges form root owner)) whole

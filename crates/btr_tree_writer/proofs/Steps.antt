-- A step of writing a tree: the next item comes, and is pushed.
use Rattle.btr_tree_writer.proofs.Imports.{◌≡◌, inl, inr, ⊎_elim, ℕ, ◌+◌, ◌-◌, ◌*◌, ◌<◌, ◌≤◌, List, [], ◌∷◌, ◌++◌, length, Some, Result, Ok, Err, refl, sym, ap, subst, ◌∙◌, arith, append_assoc, All, IsErrAnd, MatchResult, append-nil, IsPermutation, HasCauseOf, Rose, Image, History, reads, block_at, WritesOnly, writes_length, Key, Item, Made, pointer_to, MapsSlots, HasTree, HasWhole, tree_nodes, packed_leaves, tree_levels, MeetsNodes, level_pointers, lengths_of, IsWholeTree, IsInSlots, nodes_in, walk_events, tree_items, Form, of_source, IsFailure, IsSourceFailure, IsWriteAnswer, LieApart, SameWhere, WriteAnswer, TreeStandsBy, pointer_of_root, MapRange, Root}
use Rattle.btr_tree.specs.Slots.{SlotLists}
use Rattle.btr_tree.proofs.outside.Phases.{reads_outside}
use Rattle.btr_tree.specs.refusals.declared.answer.VolAnswer.{VolAnswer}
use Rattle.btr_tree.specs.refusals.declared.answer.VolAnswer.TheVariants as source
use Rattle.btr_tree_writer.specs.declared.answer.WriteAnswer.TheVariants as answer

fault_back : {T : Type 0} (r : Result T WriteAnswer) (a : VolAnswer) → IsErrAnd r (λ e. e ≡ of_source a) → r ≡ Err answer.Fault → a ≡ source.Fault
fault_back r source.Fault told is = refl
fault_back (Ok x) (source.Refused why) told is = absurd (cc is)
fault_back (Err e) (source.Refused why) told is = absurd (cc (told, is))
fault_back (Ok x) source.Memory told is = absurd (cc is)
fault_back (Err e) source.Memory told is = absurd (cc (told, is))

fault_on : {T : Type 0} (r : Result T WriteAnswer) (a : VolAnswer) → IsErrAnd r (λ e. e ≡ of_source a) → a ≡ source.Fault → r ≡ Err answer.Fault
fault_on (Ok x) a told is = absurd told
fault_on (Err e) a told is = ap (λ (x : WriteAnswer). Err x) (told ∙ ap of_source is)

-- the source answered, after so many faults as at the start
pub source_cause : {T U : Type 0} (r : Result T WriteAnswer) (a : VolAnswer) (start before now : ℕ) → before ≡ start → IsErrAnd r (λ e. e ≡ of_source a)
    → HasCauseOf {T = U} source.Fault before now (Err a) → HasCauseOf answer.Fault start now r
source_cause {T} {U} r a start before now same told cause = record {
  later = subst (λ (n : ℕ). n ≤ now) same cause.later;
  failed = λ is. subst (λ (n : ℕ). Rose n now) same (cause.failed (ap (λ (x : VolAnswer). Err x) (fault_back r a told is)));
  kept = λ isnt. cause.kept (λ is. isnt (fault_on r a told (cc is))) ∙ same;
}

pub source_fails : {T : Type 0} (r : Result T WriteAnswer) (a : VolAnswer) (P : T → Type 0) → IsErrAnd r (λ e. e ≡ of_source a) → IsSourceFailure a → MatchResult r P IsFailure
source_fails (Ok x) a P told fails = absurd told
source_fails (Err e) a P told fails = ⊎_elim (λ is. inl (told ∙ ap of_source is)) (λ is. inr (told ∙ ap of_source is)) fails

pub answer_fails : {T : Type 0} (r : Result T WriteAnswer) (a : WriteAnswer) (P : T → Type 0) → IsErrAnd r (λ e. e ≡ a) → IsWriteAnswer a → ¬ (a ≡ answer.Misfit) → MatchResult r P IsFailure
answer_fails (Ok x) a P told may isnt = absurd told
answer_fails (Err e) (answer.Refused why) P told may isnt = absurd may
answer_fails (Err e) answer.Misfit P told may isnt = absurd (isnt refl)
answer_fails (Err e) answer.Fault P told may isnt = inl told
answer_fails (Err e) answer.Memory P told may isnt = inr told

pub same_where : (needs : ℕ → Type 0) (size : ℕ) (slots : List ℕ) (old new : History) (image other : Image) → image ≡ reads old → other ≡ reads new → WritesOnly (λ b _. IsInSlots size slots b) old new
    → LieApart needs size slots → SameWhere needs image other
same_where needs size slots old new image other is is' only apart = record {
  as_many = ap length is' ∙ (writes_length (λ b _. IsInSlots size slots b) old new only ∙ sym (ap length is));
  blocks = λ b needed. ap (λ (i : Image). block_at i b) is' ∙ (reads_outside (IsInSlots size slots) old new only b (apart b needed) ∙ sym (ap (λ (i : Image). block_at i b) is));
}

pub only_of : (f form : Form) (s slots : List ℕ) (old new : History) → f ≡ form → s ≡ slots → WritesOnly (λ b _. IsInSlots f.nodesize s b) old new → WritesOnly (λ b _. IsInSlots form.nodesize slots b) old new
only_of f form s slots old new is is' only =
    subst (λ (x : Form). WritesOnly (λ b _. IsInSlots x.nodesize slots b) old new) is
    (subst (λ (x : List ℕ). WritesOnly (λ b _. IsInSlots f.nodesize x b) old new) is' only)

pub range_of : (f form : Form) (s slots : List ℕ) (m n : ℕ) → f ≡ form → s ≡ slots → m ≡ n → All (λ a. a + form.nodesize ≤ 4096 * n) slots → All (λ a. a + f.nodesize ≤ 4096 * m) s
range_of f form s slots m n is is' is'' all =
    subst (λ (x : Form). All (λ a. a + x.nodesize ≤ 4096 * m) s) (sym is)
    (subst (λ (x : List ℕ). All (λ a. a + form.nodesize ≤ 4096 * m) x) (sym is')
    (subst (λ (x : ℕ). All (λ a. a + form.nodesize ≤ 4096 * x) slots) (sym is'') all))

pub falls : (all old new total : ℕ) → old < new → new ≡ total → total ≤ all → all - new < all - old
falls all old new total less is within = omega (arith, less, is, within)

-- the item that came is the next of all
pub next_of : (items before rest all : List Item) (item : Item) (key : Key) (body : List ℕ) → items ++ before ≡ all → before ≡ item ∷ rest → key ≡ item.0 → body ≡ item.1
    → items ++ (key, body) ∷ rest ≡ all
next_of items before rest all item key body is came same-key same-body =
    let pair : (key, body) ≡ item = ap (λ (k : Key). (k, body)) same-key ∙ ap (λ (b : List ℕ). (item.0, b)) same-body in
    ap (λ (i : Item). items ++ i ∷ rest) pair ∙ (sym (ap (λ (is : List Item). items ++ is) came) ∙ is)

pub pushed_of : (items rest all : List Item) (item : Item) → items ++ item ∷ rest ≡ all → (items ++ item ∷ []) ++ rest ≡ all
pushed_of items rest all item is = append_assoc items (item ∷ []) rest ∙ is

pub last_of : (items before all : List Item) → items ++ before ≡ all → before ≡ [] → items ≡ all
last_of items before all is none = sym (append-nil items) ∙ (sym (ap (λ (is : List Item). items ++ is) none) ∙ is)

-- the map gives the slots of what was made
pub maps_of : (ranges : List MapRange) (m : Made) (form : Form) (slots : SlotLists) → m.form ≡ form → m.slots ≡ slots.addresses → m.offsets ≡ slots.offsets
    → MapsSlots ranges form.nodesize slots.addresses slots.offsets → MapsSlots ranges m.form.nodesize m.slots m.offsets
maps_of ranges m form slots form-is slots-are offsets-are maps =
    subst (λ (f : Form). MapsSlots ranges f.nodesize m.slots m.offsets) (sym form-is)
    (subst (λ (s : List ℕ). MapsSlots ranges form.nodesize s m.offsets) (sym slots-are)
    (subst (λ (o : List ℕ). MapsSlots ranges form.nodesize slots.addresses o) (sym offsets-are) maps))

-- each node is exactly the bytes of its draft
pub whole_by : (image : Image) (ranges : List MapRange) (m : Made) (form : Form) (generation owner : ℕ) (root : Root) → m.form ≡ form → m.owner ≡ owner → m.generation ≡ generation
    → HasWhole image ranges m root.address root.level → IsWholeTree image ranges form owner m.chunk_tree (pointer_of_root generation root)
whole_by image ranges m form generation owner root form-is owner-is generation-is whole =
    subst (λ (f : Form). IsWholeTree image ranges f owner m.chunk_tree (pointer_of_root generation root)) form-is
    (subst (λ (o : ℕ). IsWholeTree image ranges m.form o m.chunk_tree (pointer_of_root generation root)) owner-is
    (subst (λ (n : ℕ). IsWholeTree image ranges m.form m.owner m.chunk_tree (pointer_to n root.level root.address)) generation-is whole))

-- what the builder says of the tree that it finished
pub stands_by : (image : Image) (ranges : List MapRange) (m : Made) (form : Form) (generation owner : ℕ) (slots : List ℕ) (pushed items : List Item) (root : Root)
    → m.form ≡ form → m.owner ≡ owner → m.generation ≡ generation → m.slots ≡ slots → pushed ≡ items
    → HasTree image ranges m root.address root.level pushed → MeetsNodes image ranges m root.address root.level pushed
    → HasWhole image ranges m root.address root.level
    → root.nodes ≡ tree_nodes m.form.nodesize (lengths_of items) → root.nodes ≤ length m.slots → TreeStandsBy image ranges form generation owner slots items root
stands_by image ranges m form generation owner slots pushed items root form-is owner-is generation-is slots-are pushed-are tree meets whole count few = record {
  items_are =
      subst (λ (f : Form). tree_items image ranges f (pointer_to generation root.level root.address) owner ≡ Some items) form-is
      (subst (λ (o : ℕ). tree_items image ranges m.form (pointer_to generation root.level root.address) o ≡ Some items) owner-is
      (subst (λ (n : ℕ). tree_items image ranges m.form (pointer_to n root.level root.address) m.owner ≡ Some items) generation-is
      (subst (λ (is : List Item). tree_items image ranges m.form (pointer_to m.generation root.level root.address) m.owner ≡ Some is) pushed-are tree)));
  nodes_are =
      subst (λ (f : Form). IsPermutation (nodes_in (walk_events image ranges f (pointer_to generation root.level root.address) owner)) (level_pointers generation 0 0 slots (tree_levels f.nodesize (length (packed_leaves f.nodesize (lengths_of items)))))) form-is
      (subst (λ (o : ℕ). IsPermutation (nodes_in (walk_events image ranges m.form (pointer_to generation root.level root.address) o)) (level_pointers generation 0 0 slots (tree_levels m.form.nodesize (length (packed_leaves m.form.nodesize (lengths_of items)))))) owner-is
      (subst (λ (n : ℕ). IsPermutation (nodes_in (walk_events image ranges m.form (pointer_to n root.level root.address) m.owner)) (level_pointers n 0 0 slots (tree_levels m.form.nodesize (length (packed_leaves m.form.nodesize (lengths_of items)))))) generation-is
      (subst (λ (s : List ℕ). IsPermutation (nodes_in (walk_events image ranges m.form (pointer_to m.generation root.level root.address) m.owner)) (level_pointers m.generation 0 0 s (tree_levels m.form.nodesize (length (packed_leaves m.form.nodesize (lengths_of items)))))) slots-are
      (subst (λ (is : List Item). IsPermutation (nodes_in (walk_events image ranges m.form (pointer_to m.generation root.level root.address) m.owner)) (level_pointers m.generation 0 0 m.slots (tree_levels m.form.nodesize (length (packed_leaves m.form.nodesize (lengths_of is)))))) pushed-are meets))));
  count = subst (λ (f : Form). root.nodes ≡ tree_nodes f.nodesize (lengths_of items)) form-is count;
  few = subst (λ (s : List ℕ). root.nodes ≤ length s) slots-are few;
  whole = (m.chunk_tree, whole_by image ranges m form generation owner root form-is owner-is generation-is whole);
}

-- a part answered, after so many faults as at the start
pub answer_cause : {T U : Type 0} (r : Result T WriteAnswer) (a : WriteAnswer) (start before now : ℕ) → before ≡ start → IsErrAnd r (λ e. e ≡ a)
    → HasCauseOf {T = U} answer.Fault before now (Err a) → HasCauseOf answer.Fault start now r
answer_cause {T} {U} (Ok x) a start before now same told cause = absurd told
answer_cause {T} {U} (Err e) a start before now same told cause = record {
  later = subst (λ (n : ℕ). n ≤ now) same cause.later;
  failed = λ is. subst (λ (n : ℕ). Rose n now) same (cause.failed (cc (told, is)));
  kept = λ isnt. cause.kept (λ is. isnt (cc (told, is))) ∙ same;
}

pub ok_cause : {T : Type 0} (x : T) (start now : ℕ) → now ≡ start → HasCauseOf {T = T} {E = WriteAnswer} answer.Fault start now (Ok x)
ok_cause x start now same = record {
  later = omega (arith, same);
  failed = λ is. absurd (cc is);
  kept = λ isnt. same;
}

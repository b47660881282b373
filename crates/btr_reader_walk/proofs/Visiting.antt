-- Steps of a walk over nodes.
use Rattle.btr_reader_walk.proofs.Imports.{◌≡◌, ℕ, zero, suc, true, List, [], ◌∷◌, ◌++◌, length, reverse, Option, Contains, refl, sym, ◌∙◌, ap, subst, arith, append-nil, flat_map, Image, BtrAnswer, Refused, Fault, Memory, BadBtrfs, BtrRule, Unmapped, Key, head_in, children_in, MapRange, NodeEntry, NodePointer, NodeWalker, Owners, Tree, is_mapped, node_at, content_damages, may_be_bare, unless_damaged, child_entries, child_entry, damages_at, entry_at, nodes_from, nodes_under, owner_asked, wanted, stacked, GoesBelow, Opens, Refuses, ahead, IsReadFault}
use Rattle.btr_reader_walk.proofs.Stacks.{stack_push, stack_children}
use Rattle.btr_reader_walk.proofs.Walking.{mapped_node, unmapped_node, rule_at}

-- what the bytes in the buffer break is what the node breaks
pub seen_damages : (image : Image) (ranges : List MapRange) (tree : Tree) (owners : Owners) (p : NodePointer) (bytes : List ℕ) → is_mapped ranges tree.form.nodesize p.address ≡ true
    → bytes ≡ node_at image ranges tree.form.nodesize p.address
    → content_damages (wanted tree owners p bytes) (may_be_bare tree.root) bytes ≡ damages_at image ranges tree owners p
seen_damages image ranges tree owners p bytes mapped is =
    ap (λ (b : List ℕ). content_damages (wanted tree owners p b) (may_be_bare tree.root) b) is
    ∙ mapped_node image ranges tree.form (owner_asked owners tree.owner (head_in (node_at image ranges tree.form.nodesize p.address)).owner) (may_be_bare tree.root) p mapped

-- the nodes from the next one on, and those behind it
pub node_taken : (w : NodeWalker) (image : Image) (ranges : List MapRange) (e : NodeEntry) (left : List NodeEntry) → w.pending.items ≡ left ++ e ∷ []
    → ahead image ranges w ≡ nodes_from image ranges w.tree w.owners e ++ stacked (nodes_from image ranges w.tree w.owners) left
node_taken w image ranges e left stack =
    ap (stacked (nodes_from image ranges w.tree w.owners)) stack ∙ stack_push (nodes_from image ranges w.tree w.owners) left e

pub none_taken : (w : NodeWalker) (image : Image) (ranges : List MapRange) → w.pending.items ≡ [] → ahead image ranges w ≡ []
none_taken w image ranges stack = ap (stacked (nodes_from image ranges w.tree w.owners)) stack

pub no_entries : (es : List NodeEntry) → length es ≡ 0 → es ≡ []
no_entries [] none = refl
no_entries (e ∷ es) none = absurd (omega (arith, none))

-- a node that breaks no rule, and its children on the stack
opened_at : (image : Image) (ranges : List MapRange) (tree : Tree) (owners : Owners) (l : ℕ) (key : Option Key) (a g : ℕ) (bytes : List ℕ) (es : List NodeEntry)
    → damages_at image ranges tree owners (entry_at l key a g).pointer ≡ [] → bytes ≡ node_at image ranges tree.form.nodesize a
    → nodes_under image ranges tree owners l key a g ++ stacked (nodes_from image ranges tree owners) es
    ≡ entry_at l key a g ∷ stacked (nodes_from image ranges tree owners) (es ++ reverse (child_entries l bytes))
unfolding nodes_under
opened_at image ranges tree owners zero key a g bytes es none is =
    ap (λ (z : List NodeEntry). entry_at zero key a g ∷ stacked (nodes_from image ranges tree owners) z) (sym (append-nil es))
opened_at image ranges tree owners (suc l) key a g bytes es none is =
    let f : NodeEntry → List NodeEntry = nodes_from image ranges tree owners in
    let e : NodeEntry = entry_at (suc l) key a g in
    let lower : List ℕ → List NodeEntry = λ b. flat_map (λ c. f (child_entry l c)) (children_in b) in
    ap (λ (d : List BtrRule). e ∷ (unless_damaged d (lower (node_at image ranges tree.form.nodesize a)) ++ stacked f es)) none
    ∙ (ap (λ (b : List ℕ). e ∷ (lower b ++ stacked f es)) (sym is)
    ∙ ap (λ (z : List NodeEntry). e ∷ z) (sym (stack_children f es l (children_in bytes))))

none_opened : (d : List BtrRule) (rule : BtrRule) (es : List NodeEntry) → Contains d rule → unless_damaged d es ≡ []
none_opened [] rule es (i, lt, is) = absurd (omega (arith, lt))
none_opened (r ∷ rules) rule es bad = refl

-- a node that breaks a rule
alone_at : (image : Image) (ranges : List MapRange) (tree : Tree) (owners : Owners) (l : ℕ) (key : Option Key) (a g : ℕ) (rule : BtrRule)
    → Contains (damages_at image ranges tree owners (entry_at l key a g).pointer) rule
    → nodes_under image ranges tree owners l key a g ≡ entry_at l key a g ∷ []
unfolding nodes_under
alone_at image ranges tree owners zero key a g rule bad = refl
alone_at image ranges tree owners (suc l) key a g rule bad =
    ap (λ (z : List NodeEntry). entry_at (suc l) key a g ∷ z) (none_opened (damages_at image ranges tree owners (entry_at (suc l) key a g).pointer) rule _ bad)

-- what is ahead, by its parts
ahead_is : (w v : NodeWalker) (image : Image) (ranges : List MapRange) (es : List NodeEntry) → v.tree ≡ w.tree → v.owners ≡ w.owners → v.pending.items ≡ es
    → stacked (nodes_from image ranges w.tree w.owners) es ≡ ahead image ranges v
ahead_is w v image ranges es tree owners stack = rw (tree, owners, stack) refl

pub node_opens : (w v : NodeWalker) (image : Image) (ranges : List MapRange) (e : NodeEntry) (bytes : List ℕ) → v.tree ≡ w.tree → v.owners ≡ w.owners → v.bytes.items ≡ bytes
    → bytes ≡ node_at image ranges w.tree.form.nodesize e.pointer.address → is_mapped ranges w.tree.form.nodesize e.pointer.address ≡ true
    → content_damages (wanted w.tree w.owners e.pointer bytes) (may_be_bare w.tree.root) bytes ≡ []
    → v.pending.items ≡ w.pending.items ++ reverse (child_entries e.pointer.level bytes)
    → Opens e w v image ranges
node_opens w v image ranges e bytes tree owners same is mapped none pushed =
    let sound = sym (seen_damages image ranges w.tree w.owners e.pointer bytes mapped is) ∙ none in
    record {
      sound = sound;
      bytes = same ∙ is;
      below =
          opened_at image ranges w.tree w.owners e.pointer.level e.key e.pointer.address e.pointer.generation bytes w.pending.items sound is
          ∙ ap (λ (z : List NodeEntry). e ∷ z) (ahead_is w v image ranges _ tree owners pushed);
    }

-- nothing is below a node that breaks a rule
none_below : (w v : NodeWalker) (image : Image) (ranges : List MapRange) (e : NodeEntry) (rule : BtrRule) → v.tree ≡ w.tree → v.owners ≡ w.owners → v.pending.items ≡ w.pending.items
    → Contains (damages_at image ranges w.tree w.owners e.pointer) rule → GoesBelow e w v image ranges
none_below w v image ranges e rule tree owners stack bad =
    ap (λ (z : List NodeEntry). z ++ ahead image ranges w) (alone_at image ranges w.tree w.owners e.pointer.level e.key e.pointer.address e.pointer.generation rule bad)
    ∙ ap (λ (z : List NodeEntry). e ∷ z) (ahead_is w v image ranges w.pending.items tree owners stack)

pub node_breaks : (w v : NodeWalker) (image : Image) (ranges : List MapRange) (e : NodeEntry) (rule : BtrRule) (bytes : List ℕ) → v.tree ≡ w.tree → v.owners ≡ w.owners → v.pending.items ≡ w.pending.items
    → bytes ≡ node_at image ranges w.tree.form.nodesize e.pointer.address → is_mapped ranges w.tree.form.nodesize e.pointer.address ≡ true
    → Contains (content_damages (wanted w.tree w.owners e.pointer bytes) (may_be_bare w.tree.root) bytes) rule
    → Refuses e w v image ranges (Refused (BadBtrfs e.pointer.address rule))
node_breaks w v image ranges e rule bytes tree owners stack is mapped bad =
    let here = subst (λ (rules : List BtrRule). Contains rules rule) (seen_damages image ranges w.tree w.owners e.pointer bytes mapped is) bad in
    (rule_at e.pointer.address (damages_at image ranges w.tree w.owners e.pointer) rule here, none_below w v image ranges e rule tree owners stack here)

-- a node that does not lie in the map, or a call that failed
pub node_unread : (w : NodeWalker) (image : Image) (ranges : List MapRange) (e : NodeEntry) (size : ℕ) (answer : BtrAnswer) → size ≡ w.tree.form.nodesize
    → IsReadFault ranges size e.pointer.address answer → Refuses e w w image ranges answer
node_unread w image ranges e size (Refused r) same (is, off) =
    let here : Contains (damages_at image ranges w.tree w.owners e.pointer) Unmapped =
    unmapped_node image ranges w.tree.form _ (may_be_bare w.tree.root) e.pointer (ap (λ (n : ℕ). is_mapped ranges n e.pointer.address) (sym same) ∙ off) in
    rw is (rule_at e.pointer.address (damages_at image ranges w.tree w.owners e.pointer) Unmapped here, none_below w w image ranges e Unmapped refl refl refl here)
node_unread w image ranges e size Fault same h = tt
node_unread w image ranges e size Memory same h = absurd h

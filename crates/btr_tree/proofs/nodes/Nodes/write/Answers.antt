use Rattle.btr_tree.proofs.Imports.{◌≡◌, ℕ, ◌+◌, ◌-◌, ◌/◌, ◌<◌, List, [], ◌++◌, length, take, get_or, sym, ◌∙◌, ap, subst, arith, length-append, get_or_from_slice_get, block_at, reads, WritesOnly, writes_then, writes_weaker, identity, node_at, Made, AreSlots, pieces_of, slot, taken, IsInNode, IsInSlots, HoldBytes}
use Rattle.std.proofs.Math.Seq.{get_or-append_right}
use Rattle.btr_node.proofs.outside.Phases.{reads_outside}
use Rattle.btr_tree.proofs.OnDisk.{stand_more, in_first, node_part, part_long, part_is}
use Rattle.btr_tree.proofs.PiecesOf.{length-pieces_of}
use Rattle.btr_tree.proofs.nodes.Nodes.write.Goals as goal

pub returns-in_err-write_node-clause-only : goal.returns-in_err-write_node-clause-only
returns-in_err-write_node-clause-only g c = λ tells.
    let n : ℕ = c.self.inside.form.nodesize in
    let k : ℕ = c.loop-k.k in
    let all : ℕ = c.self.inside.written + length (pieces_of n c.self.inside.held c.self.inside.bytes.items) in
    let long : length (node_part n k c.deref.result.now) ≡ n = part_long n k c.self.inside.held c.deref.result.now (ap length c.deref.ensures.value ∙ c.self.invariant.whole) c.loop-k-test.true in
    let one : WritesOnly (λ b _. IsInSlots n (take all c.self.inside.slots.offsets) b) (g.D.Disk.history c.loop-k.disk) (g.D.Disk.history c.write_node.new.disk) =
    writes_weaker (λ b _. IsInNode (length (node_part n k c.deref.result.now)) c.offset.result b) (λ b _. IsInSlots n (take all c.self.inside.slots.offsets) b)
    (λ b _ h. in_first n all c.self.inside.slots.offsets (c.self.inside.written + k) c.offset.result (length (node_part n k c.deref.result.now)) b (omega (arith, c.loop-k-test.true, length-pieces_of n c.self.inside.held c.self.inside.bytes.items)) c.offset.ensures long h) _ _ (c.write_node.ensures.only tells) in
    writes_then (λ b _. IsInSlots c.args.self.now.form.nodesize (take (taken c.args.self.now) c.args.self.now.offsets) b) _ _ _ (c.loop-k.invariant.only tells)
    (subst (λ (m : Made). WritesOnly (λ b _. IsInSlots m.form.nodesize (take (taken m) m.offsets) b) (g.D.Disk.history c.loop-k.disk) (g.D.Disk.history c.write_node.new.disk)) c.self.view_is one)

pub loop-k-preserved : goal.loop-k-preserved
loop-k-preserved g c =
    let n : ℕ = c.self.inside.form.nodesize in
    let k : ℕ = c.loop-k.k in
    let w : ℕ = c.self.inside.written in
    let part : List ℕ = node_part n k c.deref.result.now in
    let nodes : List (List ℕ) = pieces_of n c.self.inside.held c.self.inside.bytes.items in
    let all : ℕ = w + length nodes in
    let long : length part ≡ n = part_long n k c.self.inside.held c.deref.result.now (ap length c.deref.ensures.value ∙ c.self.invariant.whole) c.loop-k-test.true in
    let before = c.loop-k.invariant in
    record {
      open_ = c.write_node.ensures.open ∙ before.open_;
      size = c.write_node.ensures.size ∙ before.size;
      borrow = c.write_node.ensures.borrow ∙ before.borrow;
      same = c.in_ok-write_node.ensures.cause.kept ∙ before.same;
      only = λ tells.
          let one : WritesOnly (λ b _. IsInSlots n (take all c.self.inside.slots.offsets) b) (g.D.Disk.history c.loop-k.disk) (g.D.Disk.history c.write_node.new.disk) =
          writes_weaker (λ b _. IsInNode (length part) c.offset.result b) (λ b _. IsInSlots n (take all c.self.inside.slots.offsets) b)
          (λ b _ h. in_first n all c.self.inside.slots.offsets (w + k) c.offset.result (length part) b (omega (arith, c.loop-k-test.true, length-pieces_of n c.self.inside.held c.self.inside.bytes.items)) c.offset.ensures long h) _ _ (c.write_node.ensures.only tells) in
          writes_then (λ b _. IsInSlots c.args.self.now.form.nodesize (take (taken c.args.self.now) c.args.self.now.offsets) b) _ _ _ (before.only tells)
          (subst (λ (m : Made). WritesOnly (λ b _. IsInSlots m.form.nodesize (take (taken m) m.offsets) b) (g.D.Disk.history c.loop-k.disk) (g.D.Disk.history c.write_node.new.disk)) c.self.view_is one);
      written = λ tells front count stand.
          let right : AreSlots n c.self.inside.slots.offsets = subst (λ (m : Made). AreSlots m.form.nodesize m.offsets) (sym c.self.view_is) c.requires.slots in
          let so_far : (i : ℕ) → i < w + k → node_at (reads (g.D.Disk.history c.loop-k.disk)) identity n (slot c.self.inside.slots.offsets i) ≡ get_or (front ++ nodes) i [] =
          subst (λ (m : Made). (i : ℕ) → i < m.written + k → node_at (reads (g.D.Disk.history c.loop-k.disk)) identity m.form.nodesize (slot m.offsets i) ≡ get_or (front ++ m.nodes) i []) (sym c.self.view_is) (before.written tells front count stand) in
          let count_in : length front ≡ w = count ∙ sym (ap (λ (m : Made). m.written) c.self.view_is) in
          let at : slot c.self.inside.slots.offsets (w + k) ≡ c.offset.result = get_or_from_slice_get c.self.inside.slots.offsets (w + k) c.offset.result 0 c.offset.ensures in
          let others : (b : ℕ) → (IsInNode n (slot c.self.inside.slots.offsets (w + k)) b → ⊥) → block_at (reads (g.D.Disk.history c.write_node.new.disk)) b ≡ block_at (reads (g.D.Disk.history c.loop-k.disk)) b = λ b outside.
          reads_outside (IsInNode (length part) c.offset.result) _ _ (c.write_node.ensures.only tells) b
          (λ h. outside (subst (λ (a : ℕ). IsInNode n a b) (sym at) (subst (λ (s : ℕ). IsInNode s c.offset.result b) long h))) in
          let hold : HoldBytes (reads (g.D.Disk.history c.write_node.new.disk)) (slot c.self.inside.slots.offsets (w + k) / 4096) (n / 4096) part =
          subst (λ (a : ℕ). HoldBytes (reads (g.D.Disk.history c.write_node.new.disk)) (a / 4096) (n / 4096) part) (sym at)
          (subst (λ (s : ℕ). HoldBytes (reads (g.D.Disk.history c.write_node.new.disk)) (c.offset.result / 4096) (s / 4096) part) long (c.in_ok-write_node.ensures.written tells)) in
          let here : get_or (front ++ nodes) (w + k) [] ≡ part =
          behind front nodes w k count_in ∙ (part_is n k c.self.inside.held c.self.inside.bytes.items c.loop-k-test.true ∙ ap (node_part n k) (sym c.deref.ensures.value)) in
          let next : (i : ℕ) → i < w + k + 1 → node_at (reads (g.D.Disk.history c.write_node.new.disk)) identity n (slot c.self.inside.slots.offsets i) ≡ get_or (front ++ nodes) i [] =
          stand_more n (w + k) c.self.inside.slots.offsets (front ++ nodes) (reads (g.D.Disk.history c.loop-k.disk)) (reads (g.D.Disk.history c.write_node.new.disk)) part c.self.invariant.size right
          (omega (arith, c.loop-k-test.true, c.self.invariant.few)) long here so_far others hold in
          subst (λ (m : Made). (i : ℕ) → i < m.written + (k + 1) → node_at (reads (g.D.Disk.history c.write_node.new.disk)) identity m.form.nodesize (slot m.offsets i) ≡ get_or (front ++ m.nodes) i []) c.self.view_is
          (λ i h. next i (omega (arith, h)));
    }
  where
    behind : (front nodes : List (List ℕ)) (w k : ℕ) → length front ≡ w → get_or (front ++ nodes) (w + k) [] ≡ get_or nodes k []
    behind front nodes w k count =
        get_or-append_right front nodes (w + k) [] (omega (arith, count)) ∙ ap (λ (j : ℕ). get_or nodes j []) (let e : w + k - length front ≡ k = omega (arith, count) in e)

pub returns-clause-written : goal.returns-clause-written
returns-clause-written g c = λ tells front count stand i h.
    let held : length c.args.self.now.nodes ≡ c.self.inside.held = sym (ap (λ (m : Made). length m.nodes) c.self.view_is) ∙ length-pieces_of c.self.inside.form.nodesize c.self.inside.held c.self.inside.bytes.items in
    c.loop-k.invariant.written tells front count stand i (omega (arith, h, held, count, length-append front c.args.self.now.nodes, c.loop-k-test.false))

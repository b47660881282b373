use Rattle.extent_pieces.proofs.Imports.{◌≡◌, ◌≤◌, length, length-append, ◌+◌, ◌∙◌, ◌++◌, ◌∷◌, [], true, not, List, arith, ap, sym, subst, ℕ, Option, is_reserved, Piece}
use Rattle.extent_pieces.proofs.Copying.{Copies, copies_start, copies_one, copies_none, copies_all, piece_at}
use Rattle.extent_pieces.proofs.Dividing.{stops}
use Rattle.extent_pieces.proofs.Ending.{end_of}
use Rattle.extent_pieces.proofs.copies.add_copies.Goals as goal
use Rattle.extent_pieces.proofs.copies.add_copies.Goals.{then-is_used+in_ok-push, else-is_used}

grown : (old items : List Piece) (p : Piece) → length old ≤ length items → length old ≤ length (items ++ p ∷ [])
grown old items p less = omega (arith, less, length-append items (p ∷ []))

pub loop-b-init : goal.loop-b-init
loop-b-init c =
    let n = c.len-blocks.result in
    let facts = end_of (λ k. not (is_reserved k n)) 0 n c.next_reserved-b.result c.next_reserved-b.ensures (omega arith) in
    record {
      inside = omega (arith, facts.high, c.len-blocks.ensures);
      reserved = λ h. subst (λ (m : ℕ). is_reserved c.next_reserved-b.result m ≡ true) c.len-blocks.ensures (stops (is_reserved c.next_reserved-b.result n) (facts.stop (omega (arith, h, c.len-blocks.ensures))));
      copied = λ owner tells. copies_start c.args.map.now owner c.args.items.now.items n c.next_reserved-b.result c.len-blocks.ensures facts;
      grows = omega arith;
    }

pub loop-b-smaller : goal.loop-b-smaller
loop-b-smaller c =
    let n = c.len-blocks.result in
    let facts = end_of (λ k. not (is_reserved k n)) (c.loop-b.b + 1) n c.next_reserved-b-in-loop-b.result c.next_reserved-b-in-loop-b.ensures (omega (arith, c.loop-b-test.true)) in
    omega (arith, facts.low, facts.high, c.loop-b-test.true, c.len-blocks.ensures)

pub loop-b-preserved : goal.loop-b-preserved
loop-b-preserved c =
    let n = c.len-blocks.result in
    let b = c.loop-b.b in
    let used = c.args.map.now in
    let facts = end_of (λ k. not (is_reserved k n)) (b + 1) n c.next_reserved-b-in-loop-b.result c.next_reserved-b-in-loop-b.ensures (omega (arith, c.loop-b-test.true)) in
    let here : is_reserved b n ≡ true = subst (λ (m : ℕ). is_reserved b m ≡ true) (sym c.len-blocks.ensures) (c.loop-b.invariant.reserved (omega (arith, c.loop-b-test.true, c.len-blocks.ensures))) in
    record {
      inside = omega (arith, facts.high, c.len-blocks.ensures);
      reserved = λ h. subst (λ (m : ℕ). is_reserved c.next_reserved-b-in-loop-b.result m ≡ true) c.len-blocks.ensures (stops (is_reserved c.next_reserved-b-in-loop-b.result n) (facts.stop (omega (arith, h, c.len-blocks.ensures))));
      copied = λ owner tells.
          elim c.if-is_used.branch [
            | then-is_used+in_ok-push w ↦
                subst (λ (xs : List Piece). Copies used owner c.args.items.now.items xs c.next_reserved-b-in-loop-b.result)
                (sym (ap (λ v. v.items) w.items-is ∙ (w.in_ok-push.ensures.items ∙ ap (λ (o : Option (ℕ × ℕ)). c.loop-b.items.items ++ piece_at b o ∷ []) (w.owner_of.ensures owner tells))))
                (copies_one used owner c.args.items.now.items c.loop-b.items.items n b c.next_reserved-b-in-loop-b.result c.len-blocks.ensures (c.loop-b.invariant.copied owner tells) (sym c.is_used.ensures ∙ w.if-is_used.true) here facts)
            | else-is_used w ↦
                subst (λ (xs : List Piece). Copies used owner c.args.items.now.items xs c.next_reserved-b-in-loop-b.result)
                (sym (ap (λ v. v.items) w.items-is))
                (copies_none used owner c.args.items.now.items c.loop-b.items.items n b c.next_reserved-b-in-loop-b.result c.len-blocks.ensures (c.loop-b.invariant.copied owner tells) (sym c.is_used.ensures ∙ w.if-is_used.false) facts)
          ];
      grows =
          elim c.if-is_used.branch [
            | then-is_used+in_ok-push w ↦
                subst (λ (xs : List Piece). length c.args.items.now.items ≤ length xs)
                (sym (ap (λ v. v.items) w.items-is ∙ w.in_ok-push.ensures.items))
                (grown c.args.items.now.items c.loop-b.items.items _ c.loop-b.invariant.grows)
            | else-is_used w ↦
                subst (λ (xs : List Piece). length c.args.items.now.items ≤ length xs) (sym (ap (λ v. v.items) w.items-is)) c.loop-b.invariant.grows
          ];
    }

pub returns-clause-copied : goal.returns-clause-copied
returns-clause-copied c = λ owner tells.
    copies_all c.args.map.now owner c.args.items.now.items c.loop-b.items.items c.loop-b.b (c.loop-b.invariant.copied owner tells) (omega (arith, c.loop-b-test.false, c.len-blocks.ensures, c.loop-b.invariant.inside))

use Rattle.extent_pieces.proofs.Imports.{◌≡◌, ◌++◌, ◌+◌, ◌-◌, ◌≤◌, ◌∷◌, [], ◌∙◌, List, ℕ, ap, sym, arith, append_assoc, Tail, tails_from}
use Rattle.extent_pieces.proofs.Tailing.{longer_tails}
use Rattle.extent_pieces.proofs.parts.FileParts.add_tails.Goals as goal

-- one tail more
tail_more : (inode at k : ℕ) (all old new : List Tail) → at ≤ k → old ≡ all ++ tails_from inode at (k - at) → new ≡ old ++ record { inode = inode; at = k } ∷ [] → new ≡ all ++ tails_from inode at (k + 1 - at)
tail_more inode at k all old new low before after =
    let tail : Tail = record { inode = inode; at = k } in
    let count : k - at + 1 ≡ k + 1 - at = omega arith in
    let longer : tails_from inode at (k - at + 1) ≡ tails_from inode at (k - at) ++ tail ∷ [] = longer_tails inode at (k - at) k (omega arith) in
    after
    ∙ (ap (λ (xs : List Tail). xs ++ tail ∷ []) before
    ∙ (append_assoc all (tails_from inode at (k - at)) (tail ∷ [])
    ∙ ap (λ (xs : List Tail). all ++ xs) (sym longer ∙ ap (λ (n : ℕ). tails_from inode at n) count)))

pub loop-k-preserved : goal.loop-k-preserved
loop-k-preserved c = record {
  low = omega (arith, c.loop-k.invariant.low);
  owned = c.loop-k.invariant.owned;
  tails = tail_more c.args.inode c.args.at c.loop-k.k c.args.self.now.tails.items c.loop-k.self.tails.items c.push.new.self.items c.loop-k.invariant.low c.loop-k.invariant.tails c.in_ok-push.ensures.items;
  inlines = c.loop-k.invariant.inlines;
  bytes = c.loop-k.invariant.bytes;
}

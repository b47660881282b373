use Rattle.extent_pieces.proofs.Imports.{◌≡◌, List, length, length-append, map, ap, sym, subst, arith, Piece, keys, OwnedRun, owner, files_of, TellOwners, Owners, tail_piece}
use Rattle.extent_pieces.proofs.Making.{found_of, tells}
use Rattle.extent_pieces.proofs.find.divide.Goals as goal

pub returns-clause-found : goal.returns-clause-found
returns-clause-found c = λ inline image accepted opened are.
    let volume = c.args.volume.now in
    let parts = c.args.parts.now in
    let by : Owners = owner (files_of image (keys volume.named)) in
    let tell : TellOwners parts.owned.items by = tells inline image volume accepted opened parts are in
    let long : c.len-kept.result ≡ length c.add_kept.new.items.items = omega (arith, c.len-kept.ensures) in
    found_of inline image volume accepted opened parts are (record { items = c.add_tails.new.items; kept = c.len-kept.result; counts = c.in_ok-counts.counts })
    c.in_ok-items.items.items c.add_kept.new.items.items c.add_copies.new.items.items c.deref-5.result.now c.bitmap-2.result.now c.bitmap-3.result.now c.deref-4.result.now
    c.in_ok-items.ensures.items c.bitmap-2.ensures (c.in_ok-add_kept.ensures by (subst (λ (rs : List OwnedRun). TellOwners rs by) (sym c.deref-2.ensures.value) tell))
    c.bitmap-3.ensures (c.in_ok-add_copies.ensures.copied by (subst (λ (rs : List OwnedRun). TellOwners rs by) (sym c.deref-3.ensures.value) tell))
    c.deref-4.ensures.value c.in_ok-add_tails.ensures long c.deref-5.ensures.value c.in_ok-counts.ensures

pub returns-clause-counted : goal.returns-clause-counted
returns-clause-counted c =
    record {
      blocks = c.in_ok-counts.ensures.blocks;
      kept = omega (arith, c.len-kept.ensures, c.in_ok-add_copies.ensures.grows, ap (λ (ps : List Piece). length ps) c.in_ok-add_tails.ensures, length-append c.add_copies.new.items.items (map tail_piece c.deref-4.result.now));
      others = omega (arith, c.in_ok-counts.ensures.copies, c.in_ok-counts.ensures.tails, ap (λ (ps : List Piece). length ps) c.deref-5.ensures.value);
    }

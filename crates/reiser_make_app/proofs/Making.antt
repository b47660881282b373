-- What a disk holds behind a make and a sync.
use Rattle.reiser_make_app.proofs.Imports.{◌≡◌, ◌^◌, ◌≤◌, length, sym, subst, History, reads, after, synced, IsSettled, Ordered, needed_by, HasSample, IsMade}
use Rattle.reiser_make_laws.specs.Laws.{FitsSample}
use Rattle.reiser_make_laws.specs.Rows.{IsAsDescribed}
use Rattle.reiser_make_laws.proofs.Rowed.{are_as_described}

synced_settled : (h : History) → IsSettled (after synced h)
synced_settled h = λ b bytes waits. waits

pub made_whole : (o : Ordered) (old mid new : History) → o.number ≤ 4000 → o.blocks ≤ 2 ^ 29 → needed_by o ≤ o.blocks → o.blocks ≤ length (reads old) → HasSample o (reads old) (reads mid) → new ≡ after synced mid
    → IsMade o old new
made_whole o old mid new few most enough inside has settled =
    let fits : FitsSample o.number o.old o.blocks (reads old) = record { number_low = few; needed_low = enough; blocks_low = most; inside = inside } in
    let is : IsAsDescribed o.number (reads mid) = subst (IsAsDescribed o.number) (sym has) (are_as_described o.number o.old o.blocks (reads old) fits) in
    subst (IsMade o old) (sym settled) (record { written = has; settled = synced_settled mid; accepted = is.accepted; rows = is.rows })

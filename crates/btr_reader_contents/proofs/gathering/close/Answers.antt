use Rattle.btr_reader_contents.proofs.Imports.{◌≡◌, ℕ, nat_eq, Some, OnOk, if◌then◌else◌, subst, get, Content}
use Rattle.btr_reader_contents.proofs.gathering.close.Goals as goal

pub returns : goal.returns
returns c = λ plan image ranges given held.
    subst (λ (x : Content). OnOk c.keep.result ((ino : ℕ) → get nat_eq c.keep.new.done ino ≡ (if nat_eq c.args.hand.ino ino then Some x else get nat_eq c.args.done.now ino)))
    (c.in_ok-content.ensures plan image ranges given held) c.keep.ensures

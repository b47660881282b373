use Rattle.outside_mem.proofs.Imports.{ℕ, List, is_some, refl, sym, ◌∙◌, ap, nat_cmp, is_at, lookup, Block, Synced, State, calls_of, readable_len, bytes_or, bytes_at, undone_at, has_key}
use Rattle.outside_mem.proofs.Images.{sync_holds, history_more, length_readable}
use Rattle.outside_mem.proofs.States.{state_after_sync}
use Rattle.outside_mem.proofs.disk.MemDiskDisk.sync.Goals as goal

pub invariant_of-self-in-Ok : goal.invariant_of-self-in-Ok
invariant_of-self-in-Ok c =
    sync_holds c.self.inside.count (undone_at c.self.inside.first c.self.inside.present) (undone_at c.self.inside.first c.self.inside.present) (λ q. refl)
    c.self.inside.calls.items c.push.new.self.items (bytes_at c.self.inside.present) (bytes_at c.self.inside.present) (undone_at c.self.inside.unsynced c.self.inside.present) (undone_at c.clear.new.self c.self.inside.present)
    (has_key c.self.inside.unsynced) (has_key c.clear.new.self) c.self.invariant c.in-Ok.ensures.items (λ q. refl) (λ q. ap (λ (es : List (ℕ × Block)). bytes_or (bytes_at c.self.inside.present q) (lookup (is_at (nat_cmp q)) es)) c.clear.ensures.empty)
    (λ q. ap (λ (es : List (ℕ × Block)). is_some (lookup (is_at (nat_cmp q)) es)) c.clear.ensures.empty)

pub returns-in-Ok-clause-size : goal.returns-in-Ok-clause-size
returns-in-Ok-clause-size c =
    length_readable c.self.inside.count (undone_at c.self.inside.first c.self.inside.present) (calls_of c.push.new.self.items) c.self.inside.opened
    ∙ sym (length_readable c.self.inside.count (undone_at c.self.inside.first c.self.inside.present) (calls_of c.self.inside.calls.items) c.self.inside.opened)
    ∙ ap readable_len c.self.view_is

pub returns-in-Ok-clause-effect : goal.returns-in-Ok-clause-effect
returns-in-Ok-clause-effect c = λ tells.
    history_more c.self.inside.count (undone_at c.self.inside.first c.self.inside.present) (undone_at c.self.inside.first c.self.inside.present) (λ q. refl)
    c.self.inside.calls.items c.push.new.self.items Synced c.in-Ok.ensures.items c.args.self.now.history (ap (λ (s : State). s.history) c.self.view_is)

pub returns-in-Ok-clause-ok : goal.returns-in-Ok-clause-ok
returns-in-Ok-clause-ok c =
    state_after_sync _ c.args.self.now c.self.view_is _ _
    (history_more c.self.inside.count (undone_at c.self.inside.first c.self.inside.present) (undone_at c.self.inside.first c.self.inside.present) (λ q. refl)
    c.self.inside.calls.items c.push.new.self.items Synced c.in-Ok.ensures.items c.args.self.now.history (ap (λ (s : State). s.history) c.self.view_is))
    c.next_fails.ensures.counted

use Rattle.outside_mem.proofs.Imports.{ap, State, bytes_at, undone_at, has_key}
use Rattle.outside_mem.proofs.Images.{reset_holds, history_reset, nothing_holds}
use Rattle.outside_mem.proofs.States.{state_with_block}
use Rattle.outside_mem.proofs.disk.MemDisk.set_block.Goals as goal

pub invariant_of-self : goal.invariant_of-self
invariant_of-self c =
    nothing_holds c.self.inside.count (undone_at c.self.inside.first c.self.inside.present) (undone_at c.reset.new.first c.reset.new.present) c.in_err-reset.ensures.started_err
    c.self.inside.calls.items c.reset.new.calls.items (bytes_at c.self.inside.present) (bytes_at c.reset.new.present)
    (undone_at c.self.inside.unsynced c.self.inside.present) (undone_at c.reset.new.unsynced c.reset.new.present)
    (has_key c.self.inside.unsynced) (has_key c.reset.new.unsynced) c.self.invariant
    c.in_err-reset.ensures.not_dropped c.in_err-reset.ensures.err c.in_err-reset.ensures.synced_err c.in_err-reset.ensures.kept_err

pub invariant_of-self-2 : goal.invariant_of-self-2
invariant_of-self-2 c =
    reset_holds c.self.inside.count c.args.n (undone_at c.self.inside.first c.self.inside.present) (undone_at c.reset.new.first c.reset.new.present) c.args.to.now.bytes
    c.in_ok-reset.ensures.started c.in_ok-reset.ensures.started_others c.self.inside.calls.items c.reset.new.calls.items c.in_ok-reset.ensures.dropped
    (bytes_at c.self.inside.present) (bytes_at c.reset.new.present)
    (undone_at c.self.inside.unsynced c.self.inside.present) (undone_at c.reset.new.unsynced c.reset.new.present)
    (has_key c.self.inside.unsynced) (has_key c.reset.new.unsynced) c.self.invariant c.in_ok-reset.ensures.whole
    c.in_ok-reset.ensures.here c.in_ok-reset.ensures.others c.in_ok-reset.ensures.synced c.in_ok-reset.ensures.synced_others c.in_ok-reset.ensures.not_kept c.in_ok-reset.ensures.kept_others

pub returns-clause-ok : goal.returns-clause-ok
returns-clause-ok c =
    state_with_block _ c.args.self.now c.self.view_is _ c.args.n c.args.to.now.bytes
    (history_reset c.self.inside.count c.args.n (undone_at c.self.inside.first c.self.inside.present) (undone_at c.reset.new.first c.reset.new.present) c.args.to.now.bytes
    c.in_ok-reset.ensures.started c.in_ok-reset.ensures.started_others c.self.inside.calls.items c.reset.new.calls.items c.in_ok-reset.ensures.dropped
    c.args.self.now.history (ap (λ (s : State). s.history) c.self.view_is))

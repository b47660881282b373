use Rattle.outside_mem.proofs.Imports.{◌<◌, inl, inr, sym, ◌∙◌, ap, subst, Wrote, State, calls_of, fails_next, readable_len, bytes_at, undone_at, has_key}
use Rattle.outside_mem.proofs.Images.{write_holds, nothing_holds, history_more, history_stays, length_readable, count_open}
use Rattle.outside_mem.proofs.States.{state_after_write, state_after_refusal}
use Rattle.outside_mem.proofs.disk.MemDiskDisk.write.Goals as goal

pub invariant_of-self-in-Ok : goal.invariant_of-self-in-Ok
invariant_of-self-in-Ok c =
    write_holds c.self.inside.count (undone_at c.self.inside.first c.self.inside.present) (undone_at c.put_recorded.new.first c.put_recorded.new.present) c.put_recorded.ensures.started
    c.self.inside.calls.items c.put_recorded.new.calls.items (bytes_at c.self.inside.present) (bytes_at c.put_recorded.new.present)
    (undone_at c.self.inside.unsynced c.self.inside.present) (undone_at c.put_recorded.new.unsynced c.put_recorded.new.present)
    (has_key c.self.inside.unsynced) (has_key c.put_recorded.new.unsynced) c.self.invariant
    c.args.n c.args.from.now c.put_recorded.ensures.whole c.in-Ok.ensures.recorded c.in-Ok.ensures.here c.in-Ok.ensures.others c.put_recorded.ensures.synced
    (count_open c.self.inside.count (undone_at c.self.inside.first c.self.inside.present) (calls_of c.self.inside.calls.items) c.self.inside.opened c.args.n
    (subst (λ (s : State). c.args.n < readable_len s) (sym c.self.view_is) c.requires.in_range))
    c.in-Ok.ensures.kept c.in-Ok.ensures.kept_others

pub invariant_of-self-in-Err : goal.invariant_of-self-in-Err
invariant_of-self-in-Err c =
    nothing_holds c.self.inside.count (undone_at c.self.inside.first c.self.inside.present) (undone_at c.put_recorded.new.first c.put_recorded.new.present) c.put_recorded.ensures.started
    c.self.inside.calls.items c.put_recorded.new.calls.items (bytes_at c.self.inside.present) (bytes_at c.put_recorded.new.present)
    (undone_at c.self.inside.unsynced c.self.inside.present) (undone_at c.put_recorded.new.unsynced c.put_recorded.new.present)
    (has_key c.self.inside.unsynced) (has_key c.put_recorded.new.unsynced) c.self.invariant
    c.in-Err.ensures.not_recorded c.in-Err.ensures.err c.put_recorded.ensures.synced c.in-Err.ensures.kept_err

pub returns-in-Ok-clause-size : goal.returns-in-Ok-clause-size
returns-in-Ok-clause-size c =
    length_readable c.self.inside.count (undone_at c.put_recorded.new.first c.put_recorded.new.present) (calls_of c.put_recorded.new.calls.items) c.self.inside.opened
    ∙ sym (length_readable c.self.inside.count (undone_at c.self.inside.first c.self.inside.present) (calls_of c.self.inside.calls.items) c.self.inside.opened)
    ∙ ap readable_len c.self.view_is

pub returns-in-Ok-clause-effect : goal.returns-in-Ok-clause-effect
returns-in-Ok-clause-effect c = λ tells.
    history_more c.self.inside.count (undone_at c.self.inside.first c.self.inside.present) (undone_at c.put_recorded.new.first c.put_recorded.new.present) c.put_recorded.ensures.started
    c.self.inside.calls.items c.put_recorded.new.calls.items (Wrote c.args.n c.args.from.now) c.in-Ok.ensures.recorded c.args.self.now.history (ap (λ (s : State). s.history) c.self.view_is)

pub returns-in-Err-clause-effect : goal.returns-in-Err-clause-effect
returns-in-Err-clause-effect c = λ tells.
    inl (history_stays c.self.inside.count (undone_at c.self.inside.first c.self.inside.present) (undone_at c.put_recorded.new.first c.put_recorded.new.present) c.put_recorded.ensures.started
    c.self.inside.calls.items c.put_recorded.new.calls.items c.in-Err.ensures.not_recorded c.args.self.now.history (ap (λ (s : State). s.history) c.self.view_is))

pub returns-in-Ok-clause-ok : goal.returns-in-Ok-clause-ok
returns-in-Ok-clause-ok c =
    state_after_write _ c.args.self.now c.self.view_is _ c.args.n c.args.from.now.bytes c.next_fails.new.self _ _
    (history_more c.self.inside.count (undone_at c.self.inside.first c.self.inside.present) (undone_at c.put_recorded.new.first c.put_recorded.new.present) c.put_recorded.ensures.started
    c.self.inside.calls.items c.put_recorded.new.calls.items (Wrote c.args.n c.args.from.now) c.in-Ok.ensures.recorded c.args.self.now.history (ap (λ (s : State). s.history) c.self.view_is))
    c.next_fails.ensures.counted c.pass_write.ensures c.saturating_add-self-inside-in-Ok.ensures

pub returns-in-Err-clause-fails : goal.returns-in-Err-clause-fails
returns-in-Err-clause-fails c =
    inr (
      sym (ap (λ (s : State). fails_next s.failures) c.self.view_is) ∙ sym c.next_fails.ensures.fails ∙ c.if-next_fails.false,
      state_after_refusal _ c.args.self.now c.self.view_is _ c.next_fails.new.self _ _
          (history_stays c.self.inside.count (undone_at c.self.inside.first c.self.inside.present) (undone_at c.put_recorded.new.first c.put_recorded.new.present) c.put_recorded.ensures.started
          c.self.inside.calls.items c.put_recorded.new.calls.items c.in-Err.ensures.not_recorded c.args.self.now.history (ap (λ (s : State). s.history) c.self.view_is))
          c.next_fails.ensures.counted c.saturating_add-self-inside-in-Err.ensures c.saturating_add-self-inside-in-Err-2.ensures,
    )

use Rattle.convert_core.proofs.Imports.{◌≡◌, ◌∙◌, length, inl, inr, sym, ap, subst, true≢false, rules, MatchResult-weaker, History, Image, WritesOnly, reads, handed_on, IsFree}
use Rattle.convert_core.proofs.Ending.{failed_so, fails, keeps_cause}
use Rattle.convert_core.proofs.Putting.{convertible}
use Rattle.convert_core.proofs.volume.write_volume.Goals as goal

pub returns-in_err-prepared-clause-written : goal.returns-in_err-prepared-clause-written
returns-in_err-prepared-clause-written g c = λ tells image is.
    let there = ap g.D.BlockSource.blocks c.new-cached.ensures.same ∙ (g.met.D.Disk.open_blocks c.args.disk.now _ tells c.requires.open ∙ is) in
    let refused = c.in_err-prepared.ensures.prepared tells image there in
    handed_on c.from_residual-in_err-prepared.result _ _ _ c.from_residual-in_err-prepared.ensures.1 refused

pub returns-then-not-is_whole-clause-open : goal.returns-then-not-is_whole-clause-open
returns-then-not-is_whole-clause-open g c =
    let held : c.disk-then-not-is_whole-1.given.0 ≡ c.prepare.new.src.disk.now = search rules in
    rw held (g.met.D.Disk.kept_opened _ _ c.in_ok-prepared.ensures.kept.0 ∙ ap g.D.Disk.opened c.new-cached.ensures.same)

pub returns-then-not-is_whole-clause-size : goal.returns-then-not-is_whole-clause-size
returns-then-not-is_whole-clause-size g c =
    let held : c.disk-then-not-is_whole-1.given.0 ≡ c.prepare.new.src.disk.now = search rules in
    rw held (g.met.D.BlockSource.kept_size _ _ c.in_ok-prepared.ensures.kept.0 ∙ ap g.D.BlockSource.size c.new-cached.ensures.same)

pub returns-then-not-is_whole-clause-only : goal.returns-then-not-is_whole-clause-only
returns-then-not-is_whole-clause-only g c =
    let held : c.disk-then-not-is_whole-1.given.0 ≡ c.prepare.new.src.disk.now = search rules in
    λ tells image is. inl (rw held (g.met.D.Disk.kept_history _ _ tells c.in_ok-prepared.ensures.kept.0 ∙ ap g.D.Disk.history c.new-cached.ensures.same))

pub returns-then-not-is_whole-clause-written : goal.returns-then-not-is_whole-clause-written
returns-then-not-is_whole-clause-written g c =
    λ tells image is.
    let told = g.met.D.Disk.open_blocks c.args.disk.now _ tells c.requires.open ∙ is in
    let prepared = c.in_ok-prepared.ensures.prepared tells image (ap g.D.BlockSource.blocks c.new-cached.ensures.same ∙ told) in
    let size = g.met.D.BlockSource.kept_size _ _ c.in_ok-prepared.ensures.kept.0 ∙ ap g.D.BlockSource.size c.new-cached.ensures.same in
    let long = g.met.D.BlockSource.size_is c.args.disk.now tells ∙ ap (λ (i : Image). length i) told in
    absurd (true≢false (sym (c.if-not-is_whole.ensures.told image c.args.options.now c.args.ids.now c.requires.size (sym (c.len.ensures ∙ (size ∙ long))) prepared)))

pub returns-then-not-is_whole-clause-refused : goal.returns-then-not-is_whole-clause-refused
returns-then-not-is_whole-clause-refused g c =
    let held : c.disk-then-not-is_whole-1.given.0 ≡ c.prepare.new.src.disk.now = search rules in
    λ tells other another. rw held (g.met.D.Disk.kept_history _ _ tells c.in_ok-prepared.ensures.kept.0 ∙ ap g.D.Disk.history c.new-cached.ensures.same)

pub returns-then-not-is_whole-clause-cause : goal.returns-then-not-is_whole-clause-cause
returns-then-not-is_whole-clause-cause g c =
    let held : c.disk-then-not-is_whole-1.given.0 ≡ c.prepare.new.src.disk.now = search rules in
    let same = ap g.D.BlockSource.faults c.new-cached.ensures.same in
    rw (held, ← same) (keeps_cause _ _ _ _ (λ is. search rules) c.in_ok-prepared.ensures.cause)

pub write_prepared-requires-clause-open : goal.write_prepared-requires-clause-open
write_prepared-requires-clause-open g c =
    g.met.D.Disk.kept_opened _ _ c.in_ok-prepared.ensures.kept.0 ∙ (ap g.D.Disk.opened c.new-cached.ensures.same ∙ c.requires.open)

pub returns-clause-open : goal.returns-clause-open
returns-clause-open g c =
    let held : c.disk-2-1.given.0 ≡ c.write_prepared.new.disk.disk.now = search rules in
    rw held (c.write_prepared.ensures.open ∙ (g.met.D.Disk.kept_opened _ _ c.in_ok-prepared.ensures.kept.0 ∙ ap g.D.Disk.opened c.new-cached.ensures.same))

pub returns-clause-size : goal.returns-clause-size
returns-clause-size g c =
    let held : c.disk-2-1.given.0 ≡ c.write_prepared.new.disk.disk.now = search rules in
    rw held (c.write_prepared.ensures.size ∙ (g.met.D.BlockSource.kept_size _ _ c.in_ok-prepared.ensures.kept.0 ∙ ap g.D.BlockSource.size c.new-cached.ensures.same))

pub returns-clause-room : goal.returns-clause-room
returns-clause-room g c =
    let size = g.met.D.BlockSource.kept_size _ _ c.in_ok-prepared.ensures.kept.0 ∙ ap g.D.BlockSource.size c.new-cached.ensures.same in
    rw (← size) c.write_prepared.ensures.room

pub returns-clause-only : goal.returns-clause-only
returns-clause-only g c =
    let held : c.disk-2-1.given.0 ≡ c.write_prepared.new.disk.disk.now = search rules in
    λ tells image is.
    let told = g.met.D.Disk.open_blocks c.args.disk.now _ tells c.requires.open ∙ is in
    let prepared = c.in_ok-prepared.ensures.prepared tells image (ap g.D.BlockSource.blocks c.new-cached.ensures.same ∙ told) in
    let same = g.met.D.Disk.kept_history _ _ tells c.in_ok-prepared.ensures.kept.0 ∙ ap g.D.Disk.history c.new-cached.ensures.same in
    let p = c.in_ok-prepared.prepared in
    let wrote = c.write_prepared.ensures.only tells image (ap reads same ∙ is) c.args.ids.now prepared in
    inr (convertible p.volume image c.args.options.now p.plan p.pieces.items.items prepared.has_pieces, rw held (subst (λ (h : History). WritesOnly (λ b _. IsFree image b) h (g.D.Disk.history c.write_prepared.new.disk.disk.now)) same wrote))

pub returns-clause-written : goal.returns-clause-written
returns-clause-written g c =
    let held : c.disk-2-1.given.0 ≡ c.write_prepared.new.disk.disk.now = search rules in
    λ tells image is.
    let told = g.met.D.Disk.open_blocks c.args.disk.now _ tells c.requires.open ∙ is in
    let prepared = c.in_ok-prepared.ensures.prepared tells image (ap g.D.BlockSource.blocks c.new-cached.ensures.same ∙ told) in
    let same = g.met.D.Disk.kept_history _ _ tells c.in_ok-prepared.ensures.kept.0 ∙ ap g.D.Disk.history c.new-cached.ensures.same in
    let put = c.write_prepared.ensures.written tells image (ap reads same ∙ is) c.args.ids.now prepared in
    rw held (MatchResult-weaker c.write_prepared.result put (λ w down. down) (λ e failed. fails image c.args.options.now e failed))

pub returns-clause-settled : goal.returns-clause-settled
returns-clause-settled g c =
    let held : c.disk-2-1.given.0 ≡ c.write_prepared.new.disk.disk.now = search rules in
    λ tells. rw held (c.write_prepared.ensures.settled tells)

pub returns-clause-refused : goal.returns-clause-refused
returns-clause-refused g c =
    λ tells.
    let image : Image = reads (g.D.Disk.history c.args.disk.now) in
    let told = g.met.D.Disk.open_blocks c.args.disk.now _ tells c.requires.open in
    let prepared = c.in_ok-prepared.ensures.prepared tells image (ap g.D.BlockSource.blocks c.new-cached.ensures.same ∙ told) in
    let same = g.met.D.Disk.kept_history _ _ tells c.in_ok-prepared.ensures.kept.0 ∙ ap g.D.Disk.history c.new-cached.ensures.same in
    failed_so c.write_prepared.result _ _ (c.write_prepared.ensures.written tells image (ap reads same) c.args.ids.now prepared)

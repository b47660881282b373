use Rattle.convert_core.proofs.Imports.{◌≡◌, ◌≢◌, ◌∙◌, inl, refl, sym, ap, subst, both_ways, err_from_is_err_and, Btrfs, format_in, History, reads, left_unwritten, RefusesConvert}
use Rattle.convert_core.proofs.Crashing.{MayWrite, behind_for, converted, early_crash, keeps_behind, may_keep, may_places, switch_crash, switch_only, switch_outside}
use Rattle.convert_core.proofs.Ending.{refuses}
use Rattle.convert_core.proofs.in_place.convert_settled.Goals as goal

pub returns-in_err-found-clause-crash : goal.returns-in_err-found-clause-crash
returns-in_err-found-clause-crash g c = λ tells settled image left.
    inl (left_unwritten _ _ settled (g.met.D.Disk.kept_history _ _ tells c.find_format.ensures.kept) image left)

pub returns-then-is_btrfs-clause-crash : goal.returns-then-is_btrfs-clause-crash
returns-then-is_btrfs-clause-crash g c = λ tells settled image left.
    inl (left_unwritten _ _ settled (g.met.D.Disk.kept_history _ _ tells c.find_format.ensures.kept) image left)

pub returns-then-is_btrfs-clause-converted : goal.returns-then-is_btrfs-clause-converted
returns-then-is_btrfs-clause-converted g c = λ tells image is.
    let blocks = g.met.D.Disk.open_blocks c.args.disk.now _ tells c.requires.«open» in
    sym (c.in_ok-found.ensures.found tells image (blocks ∙ is)).format ∙ c.is_btrfs.ensures.0 c.if-is_btrfs.true

pub returns-in_err-written-clause-crash : goal.returns-in_err-written-clause-crash
returns-in_err-written-clause-crash g c = λ tells settled.
    let same : g.D.Disk.history c.find_format.new.src ≡ g.D.Disk.history c.args.disk.now = g.met.D.Disk.kept_history _ _ tells c.find_format.ensures.kept in
    let blocks = g.met.D.Disk.open_blocks c.args.disk.now _ tells c.requires.«open» in
    let may = subst (λ (h : History). MayWrite c.args.options.now h (g.D.Disk.history c.write_volume.new.disk)) same (c.write_volume.ensures.only tells _ refl) in
    let reiser : format_in (reads (g.D.Disk.history c.args.disk.now)) ≢ Btrfs = λ format. both_ways _ c.if-is_btrfs.false (c.is_btrfs.ensures.1 ((c.in_ok-found.ensures.found tells _ blocks).format ∙ format)) in
    early_crash c.args.options.now c.args.ids.now c.args.now _ _ settled reiser may

pub returns-in_err-written-clause-converted : goal.returns-in_err-written-clause-converted
returns-in_err-written-clause-converted g c = λ tells image is.
    let same : g.D.Disk.history c.find_format.new.src ≡ g.D.Disk.history c.args.disk.now = g.met.D.Disk.kept_history _ _ tells c.find_format.ensures.kept in
    let blocks = g.met.D.Disk.open_blocks c.args.disk.now _ tells c.requires.«open» in
    let reiser : format_in image ≢ Btrfs = λ format. both_ways _ c.if-is_btrfs.false (c.is_btrfs.ensures.1 ((c.in_ok-found.ensures.found tells image (blocks ∙ is)).format ∙ format)) in
    let err = err_from_is_err_and c.from_residual-in_err-written.result c.from_residual-in_err-written.ensures.1 in
    rw err.1
    (subst (RefusesConvert c.args.options.now image) (sym err.2) (refuses c.args.options.now image _ reiser (c.in_err-written.ensures.written tells image (ap reads same ∙ is))))

pub returns-clause-crash : goal.returns-clause-crash
returns-clause-crash g c = λ tells settled.
    let same : g.D.Disk.history c.find_format.new.src ≡ g.D.Disk.history c.args.disk.now = g.met.D.Disk.kept_history _ _ tells c.find_format.ensures.kept in
    let blocks = g.met.D.Disk.open_blocks c.args.disk.now _ tells c.requires.«open» in
    let may = subst (λ (h : History). MayWrite c.args.options.now h (g.D.Disk.history c.write_volume.new.disk)) same (c.write_volume.ensures.only tells _ refl) in
    let reiser : format_in (reads (g.D.Disk.history c.args.disk.now)) ≢ Btrfs = λ format. both_ways _ c.if-is_btrfs.false (c.is_btrfs.ensures.1 ((c.in_ok-found.ensures.found tells _ blocks).format ∙ format)) in
    switch_crash c.args.options.now c.args.ids.now c.args.now _ _ settled reiser may _ _ c.requires.size (c.in_ok-written.ensures.written tells _ (ap reads same)) (c.in_ok-written.ensures.settled tells) c.in_ok-written.ensures.room.0
    (c.switch_to.ensures.only tells)
    (c.switch_to.ensures.crash tells (c.in_ok-written.ensures.settled tells))

pub returns-in_err-switch_to-clause-crash : goal.returns-in_err-switch_to-clause-crash
returns-in_err-switch_to-clause-crash g c = λ tells settled.
    let same : g.D.Disk.history c.find_format.new.src ≡ g.D.Disk.history c.args.disk.now = g.met.D.Disk.kept_history _ _ tells c.find_format.ensures.kept in
    let blocks = g.met.D.Disk.open_blocks c.args.disk.now _ tells c.requires.«open» in
    let may = subst (λ (h : History). MayWrite c.args.options.now h (g.D.Disk.history c.write_volume.new.disk)) same (c.write_volume.ensures.only tells _ refl) in
    let reiser : format_in (reads (g.D.Disk.history c.args.disk.now)) ≢ Btrfs = λ format. both_ways _ c.if-is_btrfs.false (c.is_btrfs.ensures.1 ((c.in_ok-found.ensures.found tells _ blocks).format ∙ format)) in
    switch_crash c.args.options.now c.args.ids.now c.args.now _ _ settled reiser may _ _ c.requires.size (c.in_ok-written.ensures.written tells _ (ap reads same)) (c.in_ok-written.ensures.settled tells) c.in_ok-written.ensures.room.0
    (c.switch_to.ensures.only tells)
    (c.switch_to.ensures.crash tells (c.in_ok-written.ensures.settled tells))

pub returns-clause-converted : goal.returns-clause-converted
returns-clause-converted g c = λ tells image is.
    let same : g.D.Disk.history c.find_format.new.src ≡ g.D.Disk.history c.args.disk.now = g.met.D.Disk.kept_history _ _ tells c.find_format.ensures.kept in
    let may = subst (λ (h : History). MayWrite c.args.options.now h (g.D.Disk.history c.write_volume.new.disk)) same (c.write_volume.ensures.only tells _ refl) in
    let behind =
    keeps_behind c.args.options.now c.args.ids.now c.args.now _ _ may _ (c.in_ok-written.ensures.written tells _ (ap reads same)) c.in_ok-written.ensures.room.0 _
    (switch_outside _ _ _ _ (c.switch_to.ensures.only tells)) in
    let down = c.in_ok-written.ensures.written tells image (ap reads same ∙ is) in
    (converted c.args.options.now c.args.ids.now c.args.now image _ _ down c.requires.size _ (c.in_ok-switch_to.ensures.written tells) (behind_for image _ _ is behind) (c.in_ok-switch_to.ensures.copies tells), down.summary)

pub returns-in_err-found-clause-memory : goal.returns-in_err-found-clause-memory
returns-in_err-found-clause-memory g c = λ tells.
    let err = err_from_is_err_and c.from_residual.result c.from_residual.ensures.1 in
    rw err.1
    (λ memory. may_keep c.args.options.now _ _ (inl (g.met.D.Disk.kept_history _ _ tells c.find_format.ensures.kept)))

pub returns-in_err-written-clause-memory : goal.returns-in_err-written-clause-memory
returns-in_err-written-clause-memory g c = λ tells.
    let same : g.D.Disk.history c.find_format.new.src ≡ g.D.Disk.history c.args.disk.now = g.met.D.Disk.kept_history _ _ tells c.find_format.ensures.kept in
    let may = subst (λ (h : History). MayWrite c.args.options.now h (g.D.Disk.history c.write_volume.new.disk)) same (c.write_volume.ensures.only tells _ refl) in
    let err = err_from_is_err_and c.from_residual-in_err-written.result c.from_residual-in_err-written.ensures.1 in
    rw err.1
    (λ memory. may_keep c.args.options.now _ _ may)

pub returns-in_err-found-clause-only : goal.returns-in_err-found-clause-only
returns-in_err-found-clause-only g c = λ tells. may_places c.args.options.now _ _ (inl (g.met.D.Disk.kept_history _ _ tells c.find_format.ensures.kept))

pub returns-then-is_btrfs-clause-only : goal.returns-then-is_btrfs-clause-only
returns-then-is_btrfs-clause-only g c = λ tells. may_places c.args.options.now _ _ (inl (g.met.D.Disk.kept_history _ _ tells c.find_format.ensures.kept))

pub returns-in_err-written-clause-only : goal.returns-in_err-written-clause-only
returns-in_err-written-clause-only g c = λ tells.
    let same : g.D.Disk.history c.find_format.new.src ≡ g.D.Disk.history c.args.disk.now = g.met.D.Disk.kept_history _ _ tells c.find_format.ensures.kept in
    let may = subst (λ (h : History). MayWrite c.args.options.now h (g.D.Disk.history c.write_volume.new.disk)) same (c.write_volume.ensures.only tells _ refl) in
    may_places c.args.options.now _ _ may

pub returns-clause-only : goal.returns-clause-only
returns-clause-only g c = λ tells.
    let same : g.D.Disk.history c.find_format.new.src ≡ g.D.Disk.history c.args.disk.now = g.met.D.Disk.kept_history _ _ tells c.find_format.ensures.kept in
    let may = subst (λ (h : History). MayWrite c.args.options.now h (g.D.Disk.history c.write_volume.new.disk)) same (c.write_volume.ensures.only tells _ refl) in
    switch_only c.args.options.now c.args.ids.now c.args.now _ _ _ may _ (c.in_ok-written.ensures.written tells _ (ap reads same)) (c.switch_to.ensures.only tells)

pub returns-in_err-switch_to-clause-only : goal.returns-in_err-switch_to-clause-only
returns-in_err-switch_to-clause-only g c = λ tells.
    let same : g.D.Disk.history c.find_format.new.src ≡ g.D.Disk.history c.args.disk.now = g.met.D.Disk.kept_history _ _ tells c.find_format.ensures.kept in
    let may = subst (λ (h : History). MayWrite c.args.options.now h (g.D.Disk.history c.write_volume.new.disk)) same (c.write_volume.ensures.only tells _ refl) in
    switch_only c.args.options.now c.args.ids.now c.args.now _ _ _ may _ (c.in_ok-written.ensures.written tells _ (ap reads same)) (c.switch_to.ensures.only tells)

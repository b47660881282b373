use Rattle.super_turn.proofs.Imports.{◌≡◌, true≢false, length, sym, ◌∙◌, subst, arith, History, IsSettled, reads, then_writes}
use Rattle.super_turn.specs.Found.{IsFoundBefore}
use Rattle.super_turn.proofs.Finding.{back_crash, back_written, unwritten_back, unwritten_crash}
use Rattle.super_turn.proofs.Stepping.{same_writes}
use Rattle.super_turn.proofs.back.put_back.Goals as goal

-- ---- where block 16 was not read
pub returns-in_err-found-clause-crash : goal.returns-in_err-found-clause-crash
returns-in_err-found-clause-crash g c = λ tells settled image left.
    unwritten_crash _ _ settled (g.met.D.Disk.kept_history _ _ tells c.find_before.ensures.kept) image left

pub returns-in_err-found-clause-writes : goal.returns-in_err-found-clause-writes
returns-in_err-found-clause-writes g c =
    same_writes (g.met.D.Disk.kept_opened _ _ c.find_before.ensures.kept) (g.met.D.BlockSource.kept_size _ _ c.find_before.ensures.kept) (g.met.D.Disk.kept_borrow _ _ c.find_before.ensures.kept)
    (λ tells. g.met.D.Disk.kept_history _ _ tells c.find_before.ensures.kept)

pub returns-in_err-found-clause-unwritten : goal.returns-in_err-found-clause-unwritten
returns-in_err-found-clause-unwritten g c = λ tells none. g.met.D.Disk.kept_history _ _ tells c.find_before.ensures.kept

-- ---- where nothing is to be put back
pub returns-in-None-clause-crash : goal.returns-in-None-clause-crash
returns-in-None-clause-crash g c = λ tells settled image left.
    unwritten_crash _ _ settled (g.met.D.Disk.kept_history _ _ tells c.find_before.ensures.kept) image left

pub returns-in-None-clause-writes : goal.returns-in-None-clause-writes
returns-in-None-clause-writes g c =
    same_writes (g.met.D.Disk.kept_opened _ _ c.find_before.ensures.kept) (g.met.D.BlockSource.kept_size _ _ c.find_before.ensures.kept) (g.met.D.Disk.kept_borrow _ _ c.find_before.ensures.kept)
    (λ tells. g.met.D.Disk.kept_history _ _ tells c.find_before.ensures.kept)

pub returns-in-None-clause-written : goal.returns-in-None-clause-written
returns-in-None-clause-written g c = λ tells.
    let blocks = g.met.D.Disk.open_blocks c.args.disk.now _ tells c.requires.«open» in
    unwritten_back _ _ (g.met.D.Disk.kept_history _ _ tells c.find_before.ensures.kept)
    (subst (IsFoundBefore (reads (g.D.Disk.history c.args.disk.now))) c.in-None.is (c.in_ok-found.ensures.found tells _ blocks))

pub returns-in-None-clause-unwritten : goal.returns-in-None-clause-unwritten
returns-in-None-clause-unwritten g c = λ tells none. g.met.D.Disk.kept_history _ _ tells c.find_before.ensures.kept

pub returns-in-None-clause-settled : goal.returns-in-None-clause-settled
returns-in-None-clause-settled g c = λ tells settled. subst IsSettled (sym (g.met.D.Disk.kept_history _ _ tells c.find_before.ensures.kept)) settled

-- ---- where it is
pub returns-in-Some-clause-crash : goal.returns-in-Some-clause-crash
returns-in-Some-clause-crash g c = λ tells settled image left.
    let blocks = g.met.D.Disk.open_blocks c.args.disk.now _ tells c.requires.«open» in
    let found = subst (IsFoundBefore (reads (g.D.Disk.history c.args.disk.now))) c.in-Some.is (c.in_ok-found.ensures.found tells _ blocks) in
    back_crash (g.D.Disk.history c.args.disk.now) (g.D.Disk.history c.find_before.new.src) (g.D.Disk.history c.turn_two.new.disk) (g.met.D.Disk.kept_history _ _ tells c.find_before.ensures.kept)
    c.in-Some.found.block.bytes c.in-Some.found.before.bytes found.1 found.2 found.0 c.with_first-first.result.bytes c.with_first-first.ensures.whole c.with_first-first.ensures.joined settled (c.turn_two.ensures.crash tells) image left

pub returns-in-Some-clause-writes : goal.returns-in-Some-clause-writes
returns-in-Some-clause-writes g c =
    then_writes
    (same_writes (g.met.D.Disk.kept_opened _ _ c.find_before.ensures.kept) (g.met.D.BlockSource.kept_size _ _ c.find_before.ensures.kept) (g.met.D.Disk.kept_borrow _ _ c.find_before.ensures.kept)
    (λ tells. g.met.D.Disk.kept_history _ _ tells c.find_before.ensures.kept))
    c.turn_two.ensures.writes

pub returns-in-Some-clause-written : goal.returns-in-Some-clause-written
returns-in-Some-clause-written g c = λ tells.
    let blocks = g.met.D.Disk.open_blocks c.args.disk.now _ tells c.requires.«open» in
    let found = subst (IsFoundBefore (reads (g.D.Disk.history c.args.disk.now))) c.in-Some.is (c.in_ok-found.ensures.found tells _ blocks) in
    back_written (g.D.Disk.history c.args.disk.now) (g.D.Disk.history c.find_before.new.src) (g.D.Disk.history c.turn_two.new.disk) (g.met.D.Disk.kept_history _ _ tells c.find_before.ensures.kept)
    c.in-Some.found.block.bytes c.in-Some.found.before.bytes found.1 found.2 found.0 c.turn_two.result (c.turn_two.ensures.written tells)

pub returns-in-Some-clause-unwritten : goal.returns-in-Some-clause-unwritten
returns-in-Some-clause-unwritten g c = λ tells none.
    let blocks = g.met.D.Disk.open_blocks c.args.disk.now _ tells c.requires.«open» in
    let found = subst (IsFoundBefore (reads (g.D.Disk.history c.args.disk.now))) c.in-Some.is (c.in_ok-found.ensures.found tells _ blocks) in
    absurd (true≢false (sym found.0 ∙ none))

pub returns-in-Some-clause-settled : goal.returns-in-Some-clause-settled
returns-in-Some-clause-settled g c = λ tells settled. c.turn_two.ensures.settled tells

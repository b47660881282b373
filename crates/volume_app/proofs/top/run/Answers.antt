use Rattle.volume_app.proofs.Imports.{◌≡◌, ◌⊎◌, ℕ, map, string_bytes, subst, reads, command, meaning}
use Rattle.volume_app.proofs.Outcomes.{done_by, done_or_memory, reported_by}
use Rattle.volume_app.proofs.Promise.{keeps_promise}
use Rattle.volume_app.proofs.top.run.Goals as goal

pub returns-clause-unchanged : goal.returns-clause-unchanged
returns-clause-unchanged g c = λ tells keeps.
    c.perform-ending.ensures.performs.unchanged tells (subst (λ (n : ℕ). (meaning c.args.ids c.args.now (command (map string_bytes c.args.words.now))).keeps (reads (g.D.Disk.history c.args.disk.now)) n) c.status.ensures keeps)

pub returns-clause-lacking : goal.returns-clause-lacking
returns-clause-lacking g c = λ tells is.
    c.perform-ending.ensures.performs.lacking tells (subst (λ (n : ℕ). n ≡ 6) c.status.ensures is)

pub returns-clause-starved : goal.returns-clause-starved
returns-clause-starved g c = λ tells is.
    c.perform-ending.ensures.performs.starved tells (subst (λ (n : ℕ). n ≡ 4) c.status.ensures is)

pub returns-clause-changed : goal.returns-clause-changed
returns-clause-changed g c = λ tells is.
    c.perform-ending.ensures.performs.changed tells (done_by c.perform-ending.result (subst (λ (n : ℕ). (n ≡ 0) ⊎ (n ≡ 5)) c.status.ensures is))

pub returns-clause-crash : goal.returns-clause-crash
returns-clause-crash g c = c.perform-ending.ensures.performs.crash

pub returns-clause-order : goal.returns-clause-order
returns-clause-order g c = c.perform-ending.ensures.performs.order

pub returns-clause-settled : goal.returns-clause-settled
returns-clause-settled g c = λ tells writes is.
    c.perform-ending.ensures.performs.settled tells writes (done_by c.perform-ending.result (subst (λ (n : ℕ). (n ≡ 0) ⊎ (n ≡ 5)) c.status.ensures is))

pub returns-clause-ends : goal.returns-clause-ends
returns-clause-ends g c = record {
  ending = c.perform-ending.result;
  answers = c.status.ensures;
  known = c.perform-ending.ensures.performs.known;
  right = c.perform-ending.ensures.performs.right;
  printed = c.perform-ending.ensures.performs.printed;
  reported = λ tells. reported_by _ _ _ _ _ c.write_line.result (c.write_line.ensures.taken tells) c.write_line.ensures.cause;
}

pub returns-clause-complete : goal.returns-clause-complete
returns-clause-complete g c = λ tells done same low out_same out_low.
    rw c.status.ensures
    (done_or_memory c.args.ids c.args.now _ (reads (g.D.Disk.history c.args.disk.now)) c.perform-ending.result _ _ _ _ done (c.perform-ending.ensures.performs.right (λ asks. tells)) c.perform-ending.ensures.performs.faults same low out_same out_low)

pub returns-clause-headline : goal.returns-clause-headline
returns-clause-headline g c = λ tells blocks.
    rw c.status.ensures
    (keeps_promise c.args.ids c.args.now (command (map string_bytes c.args.words.now)) _ _ _ _ _ _ _ _ _ _ c.perform-ending.result tells blocks c.perform-ending.ensures.performs)

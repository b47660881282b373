use Rattle.btr_check_files.proofs.Imports.{◌++◌, ◌==◌, List, map, refl, sym, ap, ◌∙◌, subst, arith, eq-eqb, dir_entry_value, NamedEntry, entry_by, AreNames, hashed_of, named, NeverSame}
use Rattle.btr_check_files.proofs.Noting.{all_first, none_first, not_noted, noted_one}
use Rattle.btr_check_files.proofs.name_pass.note_entries.Goals as goal

pub loop-i-init : goal.loop-i-init
loop-i-init c = record {
  entries = refl;
  told = refl;
  noted = λ names met before. none_first (entry_by c.args.dir) met c.args.entries.now (hashed_of c.args.table.now) before;
}

pub loop-i-preserved : goal.loop-i-preserved
loop-i-preserved c =
    let inv = c.loop-i.invariant in
    record {
      entries = c.note_hashed.ensures.entries ∙ inv.entries;
      told = c.note_hashed.ensures.told ∙ inv.told;
      noted = λ names met before.
          noted_one (entry_by c.args.dir) met c.args.entries.now c.loop-i.i (dir_entry_value c.get.result) (omega arith) c.get.ensures
          (named c.loop-i.table.entries) (hashed_of c.note_hashed.new.self) c.note_hashed.result
          (c.note_hashed.ensures.noted (subst AreNames (sym inv.entries) names) _ (inv.noted names met before)) c.if-not-note_hashed.false;
    }

pub returns-then-not-note_hashed-clause-noted : goal.returns-then-not-note_hashed-clause-noted
returns-then-not-note_hashed-clause-noted c = λ names met before.
    let inv = c.loop-i.invariant in
    subst (λ (z : List NamedEntry). NeverSame (λ (e : NamedEntry). e.dir == c.args.dir) z (met ++ map (entry_by c.args.dir) c.args.entries.now)) (ap named inv.entries)
    (not_noted (entry_by c.args.dir) met c.args.entries.now c.loop-i.i (dir_entry_value c.get.result) (omega arith) c.get.ensures
    (named c.loop-i.table.entries) (hashed_of c.note_hashed.new.self) c.note_hashed.result
    (c.note_hashed.ensures.noted (subst AreNames (sym inv.entries) names) _ (inv.noted names met before)) c.if-not-note_hashed.true
    (λ (e : NamedEntry). e.dir == c.args.dir) (eq-eqb c.args.dir c.args.dir refl))

pub returns-clause-noted : goal.returns-clause-noted
returns-clause-noted c = λ names met before.
    all_first (entry_by c.args.dir) met c.args.entries.now (hashed_of c.loop-i.table) c.loop-i.i (omega arith) (c.loop-i.invariant.noted names met before)

use Rattle.btr_check_files.proofs.Imports.{◌++◌, ◌==◌, List, map, refl, sym, ap, ◌∙◌, subst, arith, eq-eqb, inode_ref_value, BackName, AreNames, given, told_of, NeverSame, ref_name}
use Rattle.btr_check_files.proofs.Noting.{all_first, none_first, not_noted, noted_one}
use Rattle.btr_check_files.proofs.name_pass.note_refs.Goals as goal

pub loop-i-init : goal.loop-i-init
loop-i-init c = record {
  entries = refl;
  hashed = refl;
  noted = λ names met before. none_first (ref_name c.args.inode c.args.dir) met c.args.names.now (told_of c.args.table.now) before;
}

pub loop-i-preserved : goal.loop-i-preserved
loop-i-preserved c =
    let inv = c.loop-i.invariant in
    record {
      entries = c.note_told.ensures.entries ∙ inv.entries;
      hashed = c.note_told.ensures.hashed ∙ inv.hashed;
      noted = λ names met before.
          noted_one (ref_name c.args.inode c.args.dir) met c.args.names.now c.loop-i.i (inode_ref_value c.get-name.result) (omega arith) c.get-name.ensures
          (given c.loop-i.table.entries) (told_of c.note_told.new.self) c.note_told.result
          (c.note_told.ensures.noted (subst AreNames (sym inv.entries) names) _ (inv.noted names met before)) c.if-not-note_told.false;
    }

pub returns-then-not-note_told-clause-noted : goal.returns-then-not-note_told-clause-noted
returns-then-not-note_told-clause-noted c = λ names met before.
    let inv = c.loop-i.invariant in
    subst (λ (z : List BackName). NeverSame (λ (n : BackName). n.inode == c.args.inode) z (met ++ map (ref_name c.args.inode c.args.dir) c.args.names.now)) (ap given inv.entries)
    (not_noted (ref_name c.args.inode c.args.dir) met c.args.names.now c.loop-i.i (inode_ref_value c.get-name.result) (omega arith) c.get-name.ensures
    (given c.loop-i.table.entries) (told_of c.note_told.new.self) c.note_told.result
    (c.note_told.ensures.noted (subst AreNames (sym inv.entries) names) _ (inv.noted names met before)) c.if-not-note_told.true
    (λ (n : BackName). n.inode == c.args.inode) (eq-eqb c.args.inode c.args.inode refl))

pub returns-clause-noted : goal.returns-clause-noted
returns-clause-noted c = λ names met before.
    all_first (ref_name c.args.inode c.args.dir) met c.args.names.now (told_of c.loop-i.table) c.loop-i.i (omega arith) (c.loop-i.invariant.noted names met before)

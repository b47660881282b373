-- All looks together.
use Rattle.btr_reader_names.proofs.Imports.{◌≡◌, ℕ, Bool, true, List, Contains, AllPairs, ap, ◌∙◌, list_any, list_any_at, BtrAnswer, Refused, Fault, Memory, BtrRefusal, TreeItem, NodeId, same_node, same_node-true, same_node-self, DirIndex, NameTable, AreGood, BlamesOne, by_root, by_inode, by_form, by_entry, DifferInName, BlamesTwice, LeadApart, BlamesAgain, RefusesNames, IsNoFault, BreaksNames, KeepsNames, AreNamed, is_open, HasNotedNames}
use Rattle.indexmap.proofs.CallerLemmas.{Contains-list_any}
use Rattle.btr_reader_names.proofs.Keeping.{keeps}
use Rattle.btr_reader_names.proofs.Refusing.{item_refused, root_refused, form_refused, entry_refused, twice_refused, again_refused}

key_of : (keys : List NodeId) (node : NodeId) → list_any (same_node node) keys ≡ true → Contains keys node
key_of keys node is = Contains-list_any same_node same_node-true keys node is

key_in : (keys : List NodeId) (node : NodeId) → Contains keys node → list_any (same_node node) keys ≡ true
key_in keys node (k, within, at) = list_any_at (same_node node) keys k node within (ap (same_node node) at ∙ same_node-self node)

module _ (t : NameTable) (items : List TreeItem) (noted : HasNotedNames t items) (roots : ℕ → Bool) (root_at : ℕ) (keys : List NodeId) (named : AreNamed items (λ node. list_any (same_node node) keys)) where
  abbrev has : NodeId → Bool
  has node = list_any (same_node node) keys

  pub one_refused : (r : BtrRefusal) → BlamesOne t has roots keys root_at r → BreaksNames roots items root_at r
  one_refused r (by_root blamed) = root_refused t items noted roots root_at r blamed
  one_refused r (by_inode node among blamed) =
      item_refused t items noted roots root_at r node.number blamed.0 (named.sound node (key_in keys node among)).1 blamed.1 blamed.2 blamed.3
  one_refused r (by_form off among blamed) = form_refused t items noted roots root_at r has named off among blamed
  one_refused r (by_entry n among blamed) = entry_refused t items noted roots root_at r has named n among blamed

  pub refused_twice : (e : BtrAnswer) → BlamesTwice (is_open t has) t.namings.items e → RefusesNames roots items root_at e
  refused_twice (Refused r) b = twice_refused t items noted roots root_at r has named b.0 b.1.0 b.1.1 b.1.2 b.1.3 b.1.4 b.1.5
  refused_twice Fault b = b
  refused_twice Memory b = tt

  pub refused_again : (e : BtrAnswer) → BlamesAgain t has t.namings.items e → RefusesNames roots items root_at e
  refused_again (Refused r) b = again_refused t items noted roots root_at r has named b.0 b.1.0 b.1.1 b.1.2 b.1.3 b.1.4 b.1.5
  refused_again Fault b = b
  refused_again Memory b = tt

  pub all_kept : AreGood t has roots keys → AllPairs (DifferInName (is_open t has)) t.namings.items → AllPairs (LeadApart t has) t.namings.items → KeepsNames roots items root_at
  all_kept good once apart =
      keeps t items noted roots root_at has named good.root_directory (λ node is. good.inodes node (key_of keys node is)) good.forms good.entries once apart

-- what is found twice is no fault
pub twice_no_fault : (opened : ℕ → Bool) (ns : List DirIndex) (e : BtrAnswer) → BlamesTwice opened ns e → IsNoFault e
twice_no_fault opened ns (Refused r) h = tt
twice_no_fault opened ns Fault h = h
twice_no_fault opened ns Memory h = tt

pub again_no_fault : (t : NameTable) (named : NodeId → Bool) (ns : List DirIndex) (e : BtrAnswer) → BlamesAgain t named ns e → IsNoFault e
again_no_fault t named ns (Refused r) h = tt
again_no_fault t named ns Fault h = h
again_no_fault t named ns Memory h = tt

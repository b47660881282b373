-- `Writes` of the parts of a function.
use Rattle.outside.proofs.Imports.{◌≡◌, ℕ, List, Result, refl, ◌∙◌, IsTrue, WritesBlock, WritesOnly, Syncs}
use Rattle.outside.specs.Writes.{View, Writes}
use Rattle.outside.proofs.Crash.{writes_none, writes_then, writes_weaker, write_only, sync_only}

module _ {D : Type 0} {d : View D} where
  -- one part, and then another
  pub then_writes : {P : ℕ → List ℕ → Type 0} {a b c : D} → Writes d P a b → Writes d P b c → Writes d P a c
  then_writes {P} {a} {b} {c} first second = record {
    opened = second.opened ∙ first.opened;
    size = second.size ∙ first.size;
    borrow = second.borrow ∙ first.borrow;
    only = λ tells. writes_then P (d.history a) (d.history b) (d.history c) (first.only tells) (second.only tells);
  }

  -- a part whose writes have a stronger property
  pub weaker_writes : {P Q : ℕ → List ℕ → Type 0} {a b : D} → ((n : ℕ) (bytes : List ℕ) → P n bytes → Q n bytes) → Writes d P a b → Writes d Q a b
  weaker_writes {P} {Q} {a} {b} turn part = record {
    opened = part.opened;
    size = part.size;
    borrow = part.borrow;
    only = λ tells. writes_weaker P Q turn (d.history a) (d.history b) (part.only tells);
  }

  -- one write that has P, by the clauses of `write`
  pub one_write : {P : ℕ → List ℕ → Type 0} {a b : D} (n : ℕ) (bytes : List ℕ) {T E : Type 0} (result : Result T E) → P n bytes
      → d.opened b ≡ d.opened a → d.size b ≡ d.size a → d.borrow b ≡ d.borrow a → (IsTrue d.tells → WritesBlock (d.history a) n bytes result (d.history b)) → Writes d P a b
  one_write {P} {a} {b} n bytes result has opened size borrow effect = record {
    opened = opened;
    size = size;
    borrow = borrow;
    only = λ tells. write_only P (d.history a) (d.history b) n bytes result has (effect tells);
  }

  -- one sync, by the clauses of `sync`
  pub one_sync : {P : ℕ → List ℕ → Type 0} {a b : D} {T E : Type 0} (result : Result T E)
      → d.opened b ≡ d.opened a → d.size b ≡ d.size a → d.borrow b ≡ d.borrow a → (IsTrue d.tells → Syncs (d.history a) result (d.history b)) → Writes d P a b
  one_sync {P} {a} {b} result opened size borrow effect = record {
    opened = opened;
    size = size;
    borrow = borrow;
    only = λ tells. sync_only P (d.history a) (d.history b) result (effect tells);
  }

-- How a walk over the items of a tree stands, and how it ends.
use Rattle.std.specs.Prelude.{◌≡◌, ◌⊎◌, ◌++◌, ℕ, List, [], None, Option}
use Rattle.btr_check_rules.specs.btr_reader.refusals.declared.refusal.BtrRefusal.{BtrRefusal}
use Rattle.btr_check_rules.specs.btr_reader.btr_keys.declared.key.Key.{Key}
use Rattle.btr_check_rules.specs.btr_reader.btr_reader_walk.Events.{TreeItem}
use Rattle.btr_check_rules.specs.btr_reader.btr_reader_walk.Tree.{order_damages}
use Rattle.btr_check_rules.specs.btr_reader.btr_reader_walk.Walks.{last_after}
use Rattle.btr_check_walk.specs.Parts.{BreaksTrees, TellsPart}
use Rattle.command_answers.specs.declared.answer.Answer.{Answer}

-- the keys ascend
abbrev pub InOrder : List TreeItem → Type 0
InOrder items = order_damages None items ≡ []

-- a visitor was given some first items of these, whose keys ascend, and tells this part and address
abbrev pub IsRefused : (List TreeItem → ℕ → ℕ → Type 0) → List TreeItem → ℕ → ℕ → Type 0
IsRefused refuses items part address = (first : List TreeItem) × (later : List TreeItem) × (items ≡ first ++ later) × InOrder first × refuses first part address

-- A walk over these items, in whose tree these things are wrong, ended with an answer: part 1 fails where one of them
-- is, or the visitor refused an item, or a call failed, or there was no memory.
abbrev pub EndsWalk : List BtrRefusal → (List TreeItem → ℕ → ℕ → Type 0) → List TreeItem → Answer → Type 0
EndsWalk refusals refuses items answer = TellsPart (λ part address. BreaksTrees refusals part address ⊎ IsRefused refuses items part address) answer

-- A visitor holds these items, the last of which has this key, and their keys ascend.
pub record Stands (holds : List TreeItem → Type 0) (last : Option Key) (items : List TreeItem) : Type 0 where
  pub held : holds items
  pub last_is : last ≡ last_after None items
  pub order : InOrder items

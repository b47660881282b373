-- Which node was not made, by the answer of the tree.
use Rattle.btr_tree.proofs.Imports.{◌≡◌, Result, Ok, Err, refl}
use Rattle.std.specs.Result.{IsErrAnd}
use Rattle.btr_tree.specs.Answers.{tree_answer}
use Rattle.btr_tree.specs.declared.answer.NodeAnswer.{NodeAnswer}
use Rattle.btr_tree.specs.declared.answer.NodeAnswer.TheVariants.{OutOfSlots as NoSlot, Memory as NoMemory}
use Rattle.btr_tree.specs.declared.answer.TreeAnswer.{TreeAnswer}
use Rattle.btr_tree.specs.declared.answer.TreeAnswer.TheVariants.{OutOfSlots}

pub answer_back : {T : Type 0} (r : Result T TreeAnswer) (a : NodeAnswer) → IsErrAnd r (λ e. e ≡ tree_answer a) → r ≡ Err OutOfSlots → a ≡ NoSlot
answer_back r NoSlot told is = refl
answer_back (Ok x) NoMemory told is = absurd (cc is)
answer_back (Err e) NoMemory told is = absurd (cc (told, is))

pub same_back : {T : Type 0} (r : Result T TreeAnswer) (a : TreeAnswer) → IsErrAnd r (λ e. e ≡ a) → r ≡ Err OutOfSlots → a ≡ OutOfSlots
same_back (Ok x) a told is = absurd (cc is)
same_back (Err e) a told is = cc (told, is)

-- Which leaf a refusal names.
use Rattle.reiser_volume_contents.proofs.Imports.{◌≡◌, ℕ, List, Result, Ok, Err, IfErr, subst, sym, VolAnswer, Refused, Fault, Memory, ObjectKey, ReiserItem, NamesBlock, NamesLeaf, NamesOwnLeaf, IsFrom, Starts}

-- a refusal of a leaf from a place on
pub names_leaf : (first : ℕ) (leaves : List ℕ) (block : ℕ) (e : VolAnswer) → IsFrom first leaves block → NamesBlock block e → NamesLeaf first leaves e
names_leaf first leaves block (Refused r) from named = (block, from, named)
names_leaf first leaves block Fault from named = tt
names_leaf first leaves block Memory from named = tt

-- from where the object begins on
pub names_own : {T : Type 0} (key : ObjectKey) (items : List ReiserItem) (leaves : List ℕ) (first : ℕ) (result : Result T VolAnswer) → Starts key items leaves first
    → IfErr result (NamesLeaf first leaves) → IfErr result (NamesOwnLeaf key items leaves)
names_own key items leaves first (Ok x) starts names = tt
names_own key items leaves first (Err (Refused r)) starts names = (first, starts, names)
names_own key items leaves first (Err Fault) starts names = tt
names_own key items leaves first (Err Memory) starts names = tt

-- want of memory names none
pub memory_names : {T : Type 0} (key : ObjectKey) (items : List ReiserItem) (leaves : List ℕ) (result : Result T VolAnswer) → IfErr result (λ e. e ≡ Memory)
    → IfErr result (NamesOwnLeaf key items leaves)
memory_names key items leaves (Ok x) is = tt
memory_names key items leaves (Err e) is = subst (NamesOwnLeaf key items leaves) (sym is) tt

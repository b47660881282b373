-- What follows from an option is the same where it is the same of the value.
use Rattle.btr_reader.proofs.Imports.{◌≡◌, ℕ, List, Option, Some, None, refl, option_and_then, BtrRefusal, after_pointer, after_root, if_there, pointer_in, pointer_of, TreeItem, NodePointer}

pub and_then_same : {A B : Type 0} (f g : A → Option B) (x : Option A) → ((a : A) → x ≡ Some a → f a ≡ g a) → option_and_then f x ≡ option_and_then g x
and_then_same f g None same = refl
and_then_same f g (Some a) same = same a refl

pub if_there_same : (f g : ℕ → List BtrRefusal) (x : Option ℕ) → ((n : ℕ) → x ≡ Some n → f n ≡ g n) → if_there f x ≡ if_there g x
if_there_same f g None same = refl
if_there_same f g (Some n) same = same n refl

after_pointer_same : (f g : NodePointer → List BtrRefusal) (leaf : ℕ) (x : Option NodePointer) → ((p : NodePointer) → x ≡ Some p → f p ≡ g p) → after_pointer f leaf x ≡ after_pointer g leaf x
after_pointer_same f g leaf None same = refl
after_pointer_same f g leaf (Some p) same = same p refl

pub after_root_same : (f g : NodePointer → List BtrRefusal) (root : Option TreeItem) → ((p : NodePointer) → pointer_in root ≡ Some p → f p ≡ g p) → after_root f root ≡ after_root g root
after_root_same f g None same = refl
after_root_same f g (Some i) same = after_pointer_same f g i.leaf (pointer_of i.body) same

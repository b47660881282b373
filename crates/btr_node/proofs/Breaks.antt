-- The rules as facts and as tests.
use Rattle.btr_node.proofs.Imports.{◌≡◌, ℕ, Bool, true, false, List, [], Contains, refl, ap, arith, Decides, Decides-and, Decides-eqb, Decides-like, SumKind, HasHead, has_head, head_in, HasSum, has_sum, has_leaf_head, damages_of, Expect, Head}
use Rattle.std.proofs.lemmas.Slice.Eq.{bytes_eq-Decides}
use Rattle.refusals.specs.declared.rule.BtrRule.TheVariants.{NodeCsum, NodeHead, NodeLayout, KeyOrder}

pub sum_decides : (sums : SumKind) (bytes : List ℕ) → Decides (has_sum sums bytes) (HasSum sums bytes)
sum_decides sums bytes = bytes_eq-Decides _ _

pub head_decides : (want : Expect) (bytes : List ℕ) → Decides (has_head want bytes) (HasHead want bytes)
head_decides want bytes =
    let head : Head = head_in bytes in
    Decides-like (has_head want bytes)
    (λ p. λ i. record { address = p.0 i; fsid = p.1.0 i; owner = p.1.1.0 i; level = p.1.1.1.0 i; generation = p.1.1.1.1 i; sums = want.sums })
    (λ h. (ap (λ e. e.address) h, (ap (λ e. e.fsid) h, (ap (λ e. e.owner) h, (ap (λ e. e.level) h, ap (λ e. e.generation) h)))))
    (Decides-and _ _ (Decides-eqb head.address want.address)
    (Decides-and _ _ (bytes_eq-Decides head.fsid want.fsid)
    (Decides-and _ _ (Decides-eqb head.owner want.owner)
    (Decides-and _ _ (Decides-eqb head.level want.level) (Decides-eqb head.generation want.generation)))))

-- what the first broken rule leaves
pub breaks_sum : (sum head layout order : Bool) → sum ≡ false → Contains (damages_of sum head layout order) NodeCsum
breaks_sum sum head layout order s = rw s (0, omega arith, refl)

pub breaks_head : (sum head layout order : Bool) → sum ≡ true → head ≡ false → Contains (damages_of sum head layout order) NodeHead
breaks_head sum head layout order s h = rw (s, h) (0, omega arith, refl)

pub breaks_layout : (sum head layout order : Bool) → sum ≡ true → head ≡ true → layout ≡ false → Contains (damages_of sum head layout order) NodeLayout
breaks_layout sum head layout order s h l = rw (s, h, l) (0, omega arith, refl)

pub breaks_order : (sum head layout order : Bool) → sum ≡ true → head ≡ true → layout ≡ true → order ≡ false → Contains (damages_of sum head layout order) KeyOrder
breaks_order sum head layout order s h l o = rw (s, h, l, o) (0, omega arith, refl)

pub breaks_none : (sum head layout order : Bool) → sum ≡ true → head ≡ true → layout ≡ true → order ≡ true → damages_of sum head layout order ≡ []
breaks_none sum head layout order s h l o = rw (s, h, l, o) refl

pub leaf_head_decides : (want : Expect) (bytes : List ℕ) → Decides (has_leaf_head want bytes) ((want.level ≡ 0) × HasHead want bytes)
leaf_head_decides want bytes = Decides-and _ _ (Decides-eqb want.level 0) (head_decides want bytes)

-- where no rule is broken, each test passed
pub none_broken : (sum head layout order : Bool) → damages_of sum head layout order ≡ [] → (sum ≡ true) × (head ≡ true) × (layout ≡ true) × (order ≡ true)
none_broken true true true true h = (refl, refl, refl, refl)
none_broken true true true false h = (cc)
none_broken true true false order h = (cc)
none_broken true false layout order h = (cc)
none_broken false head layout order h = (cc)

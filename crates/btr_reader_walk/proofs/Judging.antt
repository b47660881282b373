-- What is said of a node that was read into the buffer.
use Rattle.btr_reader_walk.proofs.Imports.{◌≡◌, ℕ, zero, suc, ◌+◌, ◌*◌, ◌≤◌, ◌<◌, Bool, true, List, [], ◌++◌, length, reverse, Result, Ok, Err, OnOk, OnErr, Contains, sym, ◌∙◌, ap, arith, append-nil, BtrRule, children_in, Expect, NodeEntry, child_entries, content_damages, is_stack, stack_weight, weight}
use Rattle.std.specs.Prelude.{MatchResult}
use Rattle.btr_reader_walk.proofs.Stacks.{stack_with_children, weight_children, children_lighter}

pub any_ok : {T P : Type 0} (r : Result T BtrRule) → P → OnOk r P
any_ok (Ok x) p = p
any_ok (Err e) p = tt

pub any_err : {T P : Type 0} (r : Result T BtrRule) → P → OnErr r P
any_err (Ok x) p = tt
any_err (Err e) p = p

pub ok_with : {T P Q : Type 0} (r : Result T BtrRule) → OnOk r P → (P → Q) → OnOk r Q
ok_with (Ok x) p f = f p
ok_with (Err e) p f = tt

pub ok_both : {T P Q R : Type 0} (r : Result T BtrRule) → OnOk r P → OnOk r Q → (P → Q → R) → OnOk r R
ok_both (Ok x) p q f = f p q
ok_both (Err e) p q f = tt

-- what is said of equal bytes is the same
pub judged : {T : Type 0} (r : Result T BtrRule) (wants want : Expect) (bares bare : Bool) (seen bytes : List ℕ) → wants ≡ want → bares ≡ bare → seen ≡ bytes
    → MatchResult r (λ _. content_damages wants bares seen ≡ []) (λ rule. Contains (content_damages wants bares seen) rule)
    → MatchResult r (λ _. content_damages want bare bytes ≡ []) (λ rule. Contains (content_damages want bare bytes) rule)
judged r wants want bares bare seen bytes w b s h = rw (sym w, sym b, sym s) h

pub pushes_as : (level same : ℕ) (seen bytes : List ℕ) (old new : List NodeEntry) → level ≡ same → seen ≡ bytes → new ≡ old ++ reverse (child_entries level seen) → new ≡ old ++ reverse (child_entries same bytes)
pushes_as level same seen bytes old new l s is =
    is ∙ (ap (λ (n : ℕ). old ++ reverse (child_entries n seen)) l ∙ ap (λ (b : List ℕ). old ++ reverse (child_entries same b)) s)

-- a leaf has no children
pub leaf_pushes : (level : ℕ) (bytes : List ℕ) (old : List NodeEntry) → level ≡ 0 → old ≡ old ++ reverse (child_entries level bytes)
leaf_pushes zero bytes old leaf = sym (append-nil old)
leaf_pushes (suc level) bytes old leaf = absurd (omega arith)

-- a node weighs something
pub some_weight : (n level : ℕ) → 0 < weight n level
some_weight n zero = omega arith
some_weight n (suc level) = omega arith

-- the stack stays in its bounds, whether the children were put on or not
pub stack_after : {T : Type 0} (limit fan level : ℕ) (old new : List NodeEntry) (bytes : List ℕ) (result : Result T BtrRule) → is_stack limit fan 0 old ≡ true → length old + level * fan ≤ limit
    → OnOk result (new ≡ old ++ reverse (child_entries level bytes)) → OnOk result (1 ≤ level → length (children_in bytes) ≤ fan) → OnErr result (new ≡ old) → is_stack limit fan 0 new ≡ true
stack_after limit fan level old new bytes (Err e) stack room pushed few unchanged = ap (is_stack limit fan 0) unchanged ∙ stack
stack_after limit fan zero old new bytes (Ok x) stack room pushed few unchanged = ap (is_stack limit fan 0) (pushed ∙ append-nil old) ∙ stack
stack_after limit fan (suc level) old new bytes (Ok x) stack room pushed few unchanged =
    ap (is_stack limit fan 0) pushed ∙ stack_with_children limit fan level old (children_in bytes) stack room (few (omega arith))

-- the children weigh less than the node
pub inner_lighter : (n level : ℕ) (old new : List NodeEntry) (bytes : List ℕ) → new ≡ old ++ reverse (child_entries level bytes) → (1 ≤ level → length (children_in bytes) ≤ n)
    → stack_weight n new < weight n level + stack_weight n old
inner_lighter n zero old new bytes pushed few = omega (arith, ap (stack_weight n) (pushed ∙ append-nil old))
inner_lighter n (suc level) old new bytes pushed few =
    omega (arith, ap (stack_weight n) pushed, weight_children n old level (children_in bytes), children_lighter n (length (children_in bytes)) level (few (omega arith)))

-- The items of an object that is held are those of a file.
use Rattle.reiser_volume_contents.proofs.Imports.{◌≡◌, ◌≤◌, ◌<◌, ◌-◌, ℕ, zero, ◌==◌, nat_lt, Bool, true, false, not, ◌&&◌, ◌||◌, List, [], ◌∷◌, ◌++◌, length, filter, Option, Some, IfSome, Result, Ok, Err, IfOk, IfErr, if◌then◌else◌, refl, sym, ◌∙◌, ap, subst, append_assoc, true≢false, ⊎_elim, arith, list_any, list_all, false≢true, nat_tests, Image, VolAnswer, Refused, Fault, Memory, ItemHead, ItemKind, BlockPointer, ReiserTree, ReiserItem, is_no_hole, is_indirect, blocks_named, FitsKind, FitsHead, tree_events, reached_in, items_of_tree, Each, Pairs, each_from_all, all_from_each, each_map, each_both, pairs_from_all_pairs, all_pairs_from_pairs, sound_exactly, AlignedByKind, IsAligned, MayFollow, target_bytes, file_bytes, tail_block, direct_content, is_inside, are_inside, ObjectKey, Objects, items_of, object_key_of, same_key, IsFault, IsFaultOrMemory, HoldsObject, AreFileItems, object_items, IsKeyBelow}
use Rattle.std.specs.Result.{MatchResult}
use Rattle.reiser_volume_objects.specs.vol_block.Volume.{zeros}
use Rattle.fs_rows.specs.declared.row.Kind.TheVariants.{Symlink}
use Rattle.reiser_volume_objects.specs.reiser_node.declared.head.ItemKind.TheVariants.{Stat, Indirect, Direct, Directory}
use Rattle.reiser_volume_objects.specs.reiser_items.Pointers.{pointers}
use Rattle.reiser_volume_objects.specs.reiser_walk.Bodies.{is_save_link}
use Rattle.reiser_volume_files.specs.Laws.{IsItemOf, IsNoIndirect, AreInOrder, AreItemsApart}
use Rattle.reiser_volume_files.proofs.Deciding.{apart_follow}
use Rattle.fs_rows.proofs.Functions.{zero_block}
use Rattle.reiser_volume_files.proofs.Ordered.{keys_order}
use Rattle.reiser_volume_files.proofs.Sorts.{target_is}
use Rattle.reiser_volume_objects.specs.Items.{fits_kind}
use Rattle.reiser_volume_objects.specs.Kinds.{may_have}
use Rattle.reiser_volume_objects.proofs.Tables.{same_key-true, and_right}
use Rattle.reiser_volume_contents.proofs.Inside.{NamesBelow, named_inside}
use Rattle.reiser_volume_contents.proofs.Same.{each_right}

-- what holds of all items holds of those that are kept, and they pass the test
module _ {X : Type 0} (p : X → Bool) where
  each_kept : (P : X → Type 0) (xs : List X) → Each P xs → Each P (filter p xs)
  each_kept P [] h = tt
  each_kept P (x ∷ xs) h = by (p x) (each_kept P xs h.1)
    where
      by : (t : Bool) → Each P (filter p xs) → Each P (if t then x ∷ filter p xs else filter p xs)
      by true k = (h.0, k)
      by false k = k

  pairs_kept : (R : X → X → Type 0) (xs : List X) → Pairs R xs → Pairs R (filter p xs)
  pairs_kept R [] h = tt
  pairs_kept R (x ∷ xs) h = by (p x) (each_kept (R x) xs h.0) (pairs_kept R xs h.1)
    where
      by : (t : Bool) → Each (R x) (filter p xs) → Pairs R (filter p xs) → Pairs R (if t then x ∷ filter p xs else filter p xs)
      by true e k = (e, k)
      by false e k = k

  kept_pass : (xs : List X) → Each (λ x. p x ≡ true) (filter p xs)
  kept_pass [] = tt
  kept_pass (x ∷ xs) = by (p x) refl (kept_pass xs)
    where
      by : (t : Bool) → p x ≡ t → Each (λ y. p y ≡ true) (filter p xs) → Each (λ y. p y ≡ true) (if t then x ∷ filter p xs else filter p xs)
      by true e k = (e, k)
      by false e k = k

  none_any : (xs : List X) → list_any p xs ≡ false → Each (λ x. p x ≡ false) xs
  none_any [] h = tt
  none_any (x ∷ xs) h = by (p x) refl h (none_any xs)
    where
      by : (t : Bool) → p x ≡ t → (t || list_any p xs) ≡ false → (list_any p xs ≡ false → Each (λ y. p y ≡ false) xs) → Each (λ y. p y ≡ false) (x ∷ xs)
      by true e h more = absurd cc
      by false e h more = (e, more h)

  each_tested : (xs : List X) → Each (λ x. p x ≡ true) xs → list_all p xs ≡ true
  each_tested [] h = refl
  each_tested (x ∷ xs) h = ap (λ (t : Bool). t && list_all p xs) h.0 ∙ each_tested xs h.1

-- pointers that name blocks below n lie inside
inside_all : (n : ℕ) (bs : List ℕ) → Each (λ (b : ℕ). b < n) (filter is_no_hole bs) → Each (λ b. is_inside b n ≡ true) bs
inside_all n [] h = tt
inside_all n (b ∷ bs) h = by (b == 0) refl h (inside_all n bs)
  where
    by : (t : Bool) → (b == 0) ≡ t → Each (λ (c : ℕ). c < n) (if not t then b ∷ filter is_no_hole bs else filter is_no_hole bs)
        → (Each (λ (c : ℕ). c < n) (filter is_no_hole bs) → Each (λ c. is_inside c n ≡ true) bs) → Each (λ c. is_inside c n ≡ true) (b ∷ bs)
    by true e h more = (ap (λ (t : Bool). t || nat_lt b n) e, more h)
    by false e h more = let low : nat_lt b n ≡ true = grind (arith, nat_tests, h.0) in (ap (λ (t : Bool). t || nat_lt b n) e ∙ low, more h.1)

inside_by : (n : ℕ) (kind : ItemKind) (save : Bool) (body : List ℕ) → save ≡ false → Each (λ (b : ℕ). b < n) (if is_indirect kind && not save then filter is_no_hole (pointers body) else []) → are_inside kind body n ≡ true
inside_by n Stat save body own h = refl
inside_by n Indirect save body own h =
    each_tested (λ b. is_inside b n) (pointers body)
    (inside_all n (pointers body) (subst (λ (t : Bool). Each (λ (b : ℕ). b < n) (if not t then filter is_no_hole (pointers body) else [])) own h))
inside_by n Direct save body own h = refl
inside_by n Directory save body own h = refl

pub aligned_by : (kind : ItemKind) (head : ItemHead) (body : List ℕ) → FitsKind kind head body → AlignedByKind kind head.offset
aligned_by Stat head body h = tt
aligned_by Indirect head body h = h.0
aligned_by Direct head body h = tt
aligned_by Directory head body h = tt

-- each block that is named is one of more blocks
names_more : (n m : ℕ) → n ≤ m → (i : ReiserItem) → NamesBelow n i → NamesBelow m i
names_more n m more i h = each_map (λ (b : ℕ). b < n) (λ (b : ℕ). b < m) (blocks_named i.head i.body) (λ b low. omega (arith, low, more)) h

pub file_items : (objects : Objects) (key : ObjectKey) (tree : ReiserTree) (image : Image) (used : List Bool) (m : ℕ) → length image ≤ m → HoldsObject objects key tree image used → AreFileItems m (object_items tree image used key)
file_items objects key tree image used m room holds =
    let n = length used in
    let items : List ReiserItem = items_of_tree tree image n in
    let own : List ReiserItem = items_of key items in
    let k = (sound_exactly tree image used).0 holds.sound in
    let test : ReiserItem → Bool = λ i. same_key (object_key_of i.head) key in
    let no_save : Each (λ (i : ReiserItem). is_save_link i.head ≡ false) items = none_any (λ (i : ReiserItem). is_save_link i.head) items holds.no_save_link in
    let fits : Each (λ (i : ReiserItem). FitsHead i.head i.body) items = each_from_all (λ (i : ReiserItem). FitsHead i.head i.body) items k.bodies in
    let named : Each (NamesBelow n) items = named_inside (λ (b : ℕ). b < n) image n (tree.height - 1) 16 tree.root (each_from_all (λ (p : BlockPointer). p.block < n) (reached_in (tree_events tree image n)) k.inside) in
    let aligned : Each IsAligned items =
    each_both (λ (i : ReiserItem). is_save_link i.head ≡ false) (λ (i : ReiserItem). FitsHead i.head i.body) IsAligned items
    (λ i none fit. ⊎_elim (λ save. absurd (true≢false (sym save ∙ none))) (λ f. aligned_by i.head.kind i.head i.body f.0) fit) no_save fits in
    let inside : Each (λ (i : ReiserItem). are_inside i.head.kind i.body m ≡ true) items =
    each_both (λ (i : ReiserItem). is_save_link i.head ≡ false) (NamesBelow n) (λ (i : ReiserItem). are_inside i.head.kind i.body m ≡ true) items
    (λ i none below. inside_by m i.head.kind (is_save_link i.head) i.body none (names_more n m (omega (arith, room, holds.within)) i below)) no_save named in
    let of_key : Each (IsItemOf key.dir key.object) own =
    each_map (λ (i : ReiserItem). same_key (object_key_of i.head) key ≡ true) (IsItemOf key.dir key.object) own
    (λ i is. let same : object_key_of i.head ≡ key = same_key-true (object_key_of i.head) key is in record { dir_is = ap (λ (o : ObjectKey). o.dir) same; object_is = ap (λ (o : ObjectKey). o.object) same }) (kept_pass test items) in
    record {
      order = keys_order key.dir key.object own (all_from_each (IsItemOf key.dir key.object) own of_key)
          (all_pairs_from_pairs IsKeyBelow own (pairs_kept test IsKeyBelow items (pairs_from_all_pairs IsKeyBelow items k.ascending)));
      apart = holds.apart;
      aligned = all_from_each IsAligned own (each_kept test IsAligned items aligned);
      inside = all_from_each (λ (i : ReiserItem). are_inside i.head.kind i.body m ≡ true) own (each_kept test (λ (i : ReiserItem). are_inside i.head.kind i.body m ≡ true) items inside);
    }

-- what the next item of a file keeps
module _ (n : ℕ) (all given : List ReiserItem) (i : ReiserItem) (later : List ReiserItem) (are : AreFileItems n all) (split : (given ++ i ∷ []) ++ later ≡ all) where
  parts : given ++ (i ∷ later) ≡ all
  parts = sym (append_assoc given (i ∷ []) later) ∙ split

  pub next_follows : MayFollow given i
  next_follows =
      let aligned : Each IsAligned (i ∷ later) = each_right IsAligned given (i ∷ later) (subst (λ (xs : List ReiserItem). Each IsAligned xs) (sym parts) (each_from_all IsAligned all are.aligned)) in
      let order = subst (λ (xs : List ReiserItem). AreInOrder xs) (sym parts) are.order in
      let apart = subst (λ (xs : List ReiserItem). AreItemsApart xs) (sym parts) are.apart in
      record { aligned = aligned.0; follows = apart_follow given i later order apart }

  pub next_inside : are_inside i.head.kind i.body n ≡ true
  next_inside =
      (each_right (λ (x : ReiserItem). are_inside x.head.kind x.body n ≡ true) given (i ∷ later)
      (subst (λ (xs : List ReiserItem). Each (λ (x : ReiserItem). are_inside x.head.kind x.body n ≡ true) xs) (sym parts) (each_from_all (λ (x : ReiserItem). are_inside x.head.kind x.body n ≡ true) all are.inside))).0

-- the parts of the item that stands
pub stands_head : (o : Option ReiserItem) (i : ReiserItem) (head : ItemHead) → o ≡ Some i → IfSome o (λ x. head ≡ x.head) → i.head ≡ head
stands_head o i head is h = let same : head ≡ i.head = rw is at h in sym same

pub stands_body : (o : Option ReiserItem) (i : ReiserItem) (body : List ℕ) → o ≡ Some i → IfSome o (λ x. body ≡ x.body) → i.body ≡ body
stands_body o i body is h = let same : body ≡ i.body = rw is at h in sym same

-- a symlink has no item of pointers
no_pointers : (xs : List ReiserItem) → list_all (λ (i : ReiserItem). may_have Symlink i.head.kind) xs ≡ true → Each IsNoIndirect xs
no_pointers [] h = tt
no_pointers (x ∷ xs) h = (λ is. absurd (false≢true (subst (λ (k : ItemKind). (may_have Symlink k && list_all (λ (i : ReiserItem). may_have Symlink i.head.kind) xs) ≡ true) is h)), no_pointers xs (and_right (may_have Symlink x.head.kind) _ h))

-- the target of a symlink, or no memory
pub link_answer : (image : Image) (items : List ReiserItem) (size : ℕ) (result : Result (List ℕ) VolAnswer) → size ≤ 4096 → fits_kind Symlink items ≡ true
    → IfOk result (λ name. name ≡ target_bytes items size) → IfErr result (λ e. e ≡ Memory) → MatchResult result (λ name. name ≡ file_bytes image items size) IsFaultOrMemory
link_answer image items size (Ok name) small fits is memory = is ∙ target_is image items size small (all_from_each IsNoIndirect items (no_pointers items fits))
link_answer image items size (Err e) small fits is memory = subst IsFaultOrMemory (sym memory) tt

pub fault_of : (e : VolAnswer) → IsFault e → IsFaultOrMemory e
fault_of (Refused r) h = absurd h
fault_of Fault h = tt
fault_of Memory h = absurd h

-- no direct items hold nothing
nothing_held : (t : Bool) → (if t then zero else zero) ≡ zero
nothing_held true = refl
nothing_held false = refl

pub empty_tail : (size k : ℕ) → tail_block [] size k ≡ zeros
empty_tail size k = sym (zero_block (direct_content [] size) k (λ n from to. nothing_held (nat_lt n size)))

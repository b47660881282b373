-- A builder goes on, and nodes are written on the way.
use Rattle.btr_tree.proofs.Imports.{◌≡◌, ℕ, zero, suc, ◌+◌, ◌<◌, ◌≤◌, Option, Some, None, Bool, List, [], ◌∷◌, ◌++◌, length, map, take, get_or, IsTrue, refl, sym, ◌∙◌, ap, subst, arith, length-append, flat_map, MatchOption, length-map, length-take, length_push, Image, Item, items_in, Child, identity, node_at, Form, Made, StandAt, Goes, HasBack, IsLater, slot, with_written, nodes_on, Building, Standing, Stands, Holds, IsReady, IsPushed, HasPut, IsIdle, IsInHand, pushed, pushed_on, told_nodes, all_made, leaves_of, StandsBySlots}
use Rattle.btr_tree.proofs.OnDisk.{nodes_same}

pub goes_then : (tells : Bool) (first second third : Image) (old mid new : Made) (R S T : Made → Made → Type 0) → ((m n o : Made) → R m n → S n o → T m o)
    → Goes tells first second old mid R → Goes tells second third mid new S → Goes tells first third old new T
goes_then tells first second third old mid new R S T join before after = λ front count.
    let h : HasBack tells first second old mid R front = before front count in
    let r : HasBack tells second third mid new S h.back = after h.back h.count in
    record { back = r.back; count = r.count; stands = λ t stand. r.stands t (h.stands t stand); now = join (with_written old front) (with_written mid h.back) (with_written new r.back) h.now r.now }

-- the nodes that a disk has at the first slots stand there
on_stand : (image : Image) (size i n : ℕ) (slots : List ℕ) → i < length (nodes_on image size slots n) → node_at image identity size (slot slots i) ≡ get_or (nodes_on image size slots n) i []
on_stand image size i zero slots h = absurd (omega arith)
on_stand image size i (suc n) [] h = absurd (omega arith)
on_stand image size zero (suc n) (a ∷ slots) h = refl
on_stand image size (suc i) (suc n) (a ∷ slots) h = on_stand image size i n slots (omega arith)

pub told_stand : (image : Image) (size : ℕ) (slots : List ℕ) (n : ℕ) → StandAt image size slots (nodes_on image size slots n)
told_stand image size slots n = λ i h. on_stand image size i n slots h

pub told_count : (image : Image) (size : ℕ) (slots : List ℕ) (n : ℕ) → n ≤ length slots → length (nodes_on image size slots n) ≡ n
told_count image size slots n few = length-map (take n slots) (λ a. node_at image identity size a) ∙ omega (arith, few, length-take n slots)

-- and those that stand there are they
pub told_is : (image : Image) (size : ℕ) (slots : List ℕ) (nodes : List (List ℕ)) → length nodes ≤ length slots → StandAt image size slots nodes → nodes_on image size slots (length nodes) ≡ nodes
told_is image size [] [] few stand = refl
told_is image size (a ∷ slots) [] few stand = refl
told_is image size [] (n ∷ nodes) few stand = absurd (omega arith)
told_is image size (a ∷ slots) (n ∷ nodes) few stand =
    ap (λ x. x ∷ nodes_on image size slots (length nodes)) (stand 0 (omega arith)) ∙ ap (λ xs. n ∷ xs) (told_is image size slots nodes (omega arith) (λ i h. stand (suc i) (omega arith)))

-- The builder holds these items, and the nodes that were written stand on a disk.
pub record HasFront (b : Building) (image : Image) (items : List Item) : Type 0 where
  pub holds : Holds b items
  pub stand : StandAt image b.made.form.nodesize b.made.offsets holds.front

pub front_told : (b : Building) (image : Image) → IsReady b → Stands b image → HasFront b image (pushed_on b image)
front_told b image ready stands = record {
  holds = record {
    front = told_nodes b image;
    count = told_count image b.made.form.nodesize b.made.offsets b.made.written few;
    standing = stands;
    pushed_is = refl;
  };
  stand = told_stand image b.made.form.nodesize b.made.offsets b.made.written;
}
  where
    few : b.made.written ≤ length b.made.offsets
    few = omega (arith, ready.1.count, ready.1.standing.few, length-append ready.1.front b.made.nodes)

pub told_same : (b : Building) (image : Image) (items : List Item) → (f : HasFront b image items) → told_nodes b image ≡ f.holds.front
told_same b image items f =
    let few : length f.holds.front ≤ length b.made.offsets = omega (arith, f.holds.standing.few, f.holds.standing.as_many, length-append f.holds.front b.made.nodes) in
    ap (nodes_on image b.made.form.nodesize b.made.offsets) (sym f.holds.count) ∙ told_is image b.made.form.nodesize b.made.offsets f.holds.front few f.stand

pub told_front : (b : Building) (image : Image) (items : List Item) → HasFront b image items → Stands b image × (pushed_on b image ≡ items)
told_front b image items f =
    let same : told_nodes b image ≡ f.holds.front = told_same b image items f in
    (subst (λ ns. Standing (all_made b ns)) (sym same) f.holds.standing, ap (λ ns. pushed (all_made b ns)) same ∙ f.holds.pushed_is)

-- room was made
pub room_holds : (tells : Bool) (first second : Image) (b : Building) (mid : Made) (room : Goes tells first second b.made mid (λ m n. n ≡ m)) (items : List Item) → Holds b items → Holds (record b { made = mid }) items
room_holds tells first second b mid room items h =
    let r : HasBack tells first second b.made mid (λ m n. n ≡ m) h.front = room h.front h.count in
    record {
      front = r.back;
      count = r.count;
      standing = subst (λ (m : Made). Standing (record b { made = m })) (sym r.now) h.standing;
      pushed_is = ap (λ (m : Made). pushed (record b { made = m })) r.now ∙ h.pushed_is;
    }

pub room_short : (old mid : Made) (items : List Item) → IsLater old mid → length mid.slots < leaves_of mid.form.nodesize items → length old.slots < leaves_of old.form.nodesize items
room_short old mid items later short = omega (arith, short, ap (λ ss. length {A = ℕ} ss) later.slots, ap (λ (f : Form). leaves_of f.nodesize items) later.form)

-- Where an item was pushed, the leaves are no more than the slots.
pub holds_fit : (b : Building) (items : List Item) (item : Item) → Holds b (items ++ item ∷ []) → leaves_of b.made.form.nodesize (items ++ item ∷ []) ≤ length b.made.slots
holds_fit b items item h = by_hand b.hand h.standing.hand
  where
    count : leaves_of b.made.form.nodesize (items ++ item ∷ []) ≡ length (all_made b h.front).made.nodes + 1
    count =
        ap (leaves_of b.made.form.nodesize) (sym h.pushed_is)
        ∙ (ap length h.standing.packing ∙ omega (arith, length_push (map items_in (all_made b h.front).made.nodes) (all_made b h.front).made.draft.items, length-map (all_made b h.front).made.nodes items_in))

    some : pushed (all_made b h.front) ≡ [] → ⊥
    some none = omega (arith, ap (λ is. length {A = Item} is) (sym h.pushed_is ∙ none), length_push items item)

    by_hand : (hand : Option Child) → MatchOption hand (IsIdle (all_made b h.front)) (IsInHand (all_made b h.front)) → leaves_of b.made.form.nodesize (items ++ item ∷ []) ≤ length b.made.slots
    by_hand None idle = absurd (some (ap (λ ns. flat_map items_in ns ++ (all_made b h.front).made.draft.items) idle.no_nodes ∙ idle.no_items))
    by_hand (Some child) hand = omega (arith, count, hand.slot_left)

pub later_fit : (old new : Made) (items : List Item) → IsLater old new → leaves_of new.form.nodesize items ≤ length new.slots → leaves_of old.form.nodesize items ≤ length old.slots
later_fit old new items later fits = omega (arith, fits, ap (λ ss. length {A = ℕ} ss) later.slots, ap (λ (f : Form). leaves_of f.nodesize items) later.form)

-- an item was put after room was made
module _ (tells : Bool) (first second : Image) (b new : Building) (mid : Made) (item : Item) (room : Goes tells first second b.made mid (λ m n. n ≡ m)) (put : HasPut (record b { made = mid }) new item) where
  put_now : (items : List Item) → (h : Holds b items) → Standing (record b { made = with_written mid (room h.front h.count).back })
  put_now items h = subst (λ (m : Made). Standing (record b { made = m })) (sym (room h.front h.count).now) h.standing

  put_there : (items : List Item) → (h : Holds b items) → IsPushed (record b { made = with_written mid (room h.front h.count).back }) (all_made new (room h.front h.count).back) item
  put_there items h = put.put (room h.front h.count).back (room h.front h.count).count (put_now items h)

  pub put_holds : (items : List Item) → Holds b items → Holds new (items ++ item ∷ [])
  put_holds items h =
      let r : HasBack tells first second b.made mid (λ m n. n ≡ m) h.front = room h.front h.count in
      record {
        front = r.back;
        count = r.count ∙ sym put.same_written;
        standing = (put_there items h).standing;
        pushed_is =
            (put_there items h).pushed_is
            ∙ ap (λ is. is ++ item ∷ []) (ap (λ (m : Made). pushed (record b { made = m })) r.now ∙ h.pushed_is);
      }

  pub put_front : IsTrue tells → IsLater mid new.made → (items : List Item) → HasFront b first items → HasFront new second (items ++ item ∷ [])
  unfolding put_holds
  put_front told later items f = record {
    holds = put_holds items f.holds;
    stand =
        subst (λ n. StandAt second n new.made.offsets (room f.holds.front f.holds.count).back) (sym (ap (λ x. x.nodesize) later.form))
        (subst (λ ss. StandAt second mid.form.nodesize ss (room f.holds.front f.holds.count).back) (sym later.offsets) ((room f.holds.front f.holds.count).stands told f.stand));
  }

pub stands_by_slots : StandsBySlots
stands_by_slots = λ b image other same stands.
    let is : told_nodes b other ≡ told_nodes b image = nodes_same image other b.made.form.nodesize b.made.written b.made.offsets stands.nodesize stands.slots.aligned stands.slots.small same in
    (subst (λ ns. Standing (all_made b ns)) (sym is) stands, ap (λ ns. pushed (all_made b ns)) is)

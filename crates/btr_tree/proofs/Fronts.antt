-- The nodes that were written, and those that are held.
use Rattle.btr_tree.proofs.Imports.{◌≡◌, ℕ, ◌+◌, ◌<◌, ◌≤◌, Bool, List, [], ◌++◌, length, take, IsTrue, refl, sym, ◌∙◌, ap, subst, arith, length-append, append-nil, length-take, get_or-take, Image, History, WritesOnly, writes_then, writes_weaker, Made, StandAt, Goes, IsLater, taken, flushed, IsInSlots}

-- the nodes that were held were written
pub goes_flushed : (tells : Bool) (before after : Image) (old new : Made) → new ≡ flushed old
    → (IsTrue tells → (front : List (List ℕ)) → length front ≡ old.written → StandAt before old.form.nodesize old.offsets front → StandAt after old.form.nodesize old.offsets (front ++ old.nodes))
    → Goes tells before after old new (λ x y. y ≡ x)
goes_flushed tells before after old new is written =
    subst (λ (m : Made). Goes tells before after old m (λ x y. y ≡ x)) (sym is)
    (λ front count. record {
      back = front ++ old.nodes;
      count = length-append front old.nodes ∙ ap (λ n. n + length old.nodes) count;
      stands = λ t stand. written t front count stand;
      now = ap (λ ns. let m : Made = record old { written = 0; nodes = ns } in m) (append-nil (front ++ old.nodes));
    })

pub flushed_taken : (old new : Made) → new ≡ flushed old → taken new ≡ taken old
flushed_taken old new is = ap taken is ∙ (let e : taken old + length {A = List ℕ} [] ≡ taken old = omega arith in e)

pub later_then : (old mid new : Made) → IsLater old mid → IsLater mid new → IsLater old new
later_then old mid new first second = record {
  form = second.form ∙ first.form;
  slots = second.slots ∙ first.slots;
  offsets = second.offsets ∙ first.offsets;
  grown = omega (arith, first.grown, second.grown);
}

pub later_none : (m : Made) → IsLater m m
later_none m = record { form = refl; slots = refl; offsets = refl; grown = omega arith }

-- a block of the first slots is one of more of them
pub in_more : (size n m : ℕ) (slots : List ℕ) (b : ℕ) → n ≤ m → IsInSlots size (take n slots) b → IsInSlots size (take m slots) b
in_more size n m slots b low found =
    let k : ℕ = found.0 in
    let x : ℕ = found.1 in
    let inside : k < length (take n slots) = found.2 in
    let early : k < n = omega (arith, inside, length-take n slots) in (
      k,
      x,
      omega (arith, inside, early, low, length-take n slots, length-take m slots),
      get_or-take m slots k x (omega (arith, early, low)) ∙ (sym (get_or-take n slots k x early) ∙ found.3),
      found.4,
    )

-- the blocks that were written are those of slots that are taken now
abbrev pub TakenOnly : Made → Made → History → History → Type 0
TakenOnly old new before after = WritesOnly (λ b _. IsInSlots old.form.nodesize (take (taken new) old.offsets) b) before after

pub taken_then : (old mid new : Made) (first second third : History) → IsLater old mid → IsLater mid new → TakenOnly old mid first second → TakenOnly mid new second third → TakenOnly old new first third
taken_then old mid new first second third one two before after =
    writes_then (λ b _. IsInSlots old.form.nodesize (take (taken new) old.offsets) b) first second third
    (writes_weaker (λ b _. IsInSlots old.form.nodesize (take (taken mid) old.offsets) b) (λ b _. IsInSlots old.form.nodesize (take (taken new) old.offsets) b)
    (λ b _ h. in_more old.form.nodesize (taken mid) (taken new) old.offsets b two.grown h) first second before)
    (subst (λ (n : ℕ). WritesOnly (λ b _. IsInSlots n (take (taken new) old.offsets) b) second third) (ap (λ f. f.nodesize) one.form)
    (subst (λ ss. WritesOnly (λ b _. IsInSlots mid.form.nodesize (take (taken new) ss) b) second third) one.offsets after))

-- more slots were taken since, and nothing was written
pub taken_more : (old mid new : Made) (first second : History) → IsLater mid new → TakenOnly old mid first second → TakenOnly old new first second
taken_more old mid new first second two before =
    writes_weaker (λ b _. IsInSlots old.form.nodesize (take (taken mid) old.offsets) b) (λ b _. IsInSlots old.form.nodesize (take (taken new) old.offsets) b)
    (λ b _ h. in_more old.form.nodesize (taken mid) (taken new) old.offsets b two.grown h) first second before

-- no block was written before
pub taken_from : (old mid new : Made) (first second : History) → IsLater old mid → TakenOnly mid new first second → TakenOnly old new first second
taken_from old mid new first second one after =
    subst (λ (n : ℕ). WritesOnly (λ b _. IsInSlots n (take (taken new) old.offsets) b) first second) (ap (λ f. f.nodesize) one.form)
    (subst (λ ss. WritesOnly (λ b _. IsInSlots mid.form.nodesize (take (taken new) ss) b) first second) one.offsets after)

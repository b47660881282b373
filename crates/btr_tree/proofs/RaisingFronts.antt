-- A level of a tree, where nodes are written on the way.
use Rattle.btr_tree.proofs.Imports.{◌≡◌, ℕ, zero, suc, ◌+◌, ◌-◌, ◌<◌, ◌≤◌, min, Bool, List, [], ◌∷◌, ◌++◌, length, take, drop, None, refl, sym, ◌∙◌, ap, subst, arith, append_assoc, length-append, div_ceil, slice_get, Image, IsNodeSize, Child, ChildrenGiveItems, Made, AreSlots, StandAt, Goes, HasBack, IsParentAt, IsParent, taken, with_written, fan_out, IsRaised}
use Rattle.btr_tree.proofs.RaisingLoop.{IsRaising, raising_begins, raising_goes_on, raising_ends, raising_short}

-- some nodes, so many
abbrev pub blanks : ℕ → List (List ℕ)
blanks zero = []
blanks (suc n) = [] ∷ blanks n

pub length-blanks : (n : ℕ) → length (blanks n) ≡ n
length-blanks zero = refl
length-blanks (suc n) = ap suc (length-blanks n)

pub whole_count : (m : Made) (front : List (List ℕ)) → length front ≡ m.written → taken m ≡ length (with_written m front).nodes
whole_count m front count = sym (length-append front m.nodes ∙ ap (λ n. n + length m.nodes) count)

pub parent_whole : (old new : Made) (level : ℕ) (part : List Child) (child : Child) (front : List (List ℕ)) → length front ≡ old.written → IsParentAt (taken old) old level part child new
    → IsParent (with_written old front) level part child (with_written new front)
parent_whole old new level part child front count p = record {
  address = p.address;
  bytes = p.bytes;
  draft = p.draft;
  next = ap (slice_get old.slots) (sym (whole_count old front count)) ∙ p.next;
  is =
      ap (λ (m : Made). with_written m front) p.is
      ∙ ap (λ ns. let m : Made = record old { written = 0; nodes = ns; draft = p.draft } in m) (sym (append_assoc front old.nodes (p.bytes ∷ [])));
  inner = p.inner;
  links = p.links;
  exact = p.exact;
  child_is = p.child_is;
}

pub raise_begins : (tells : Bool) (image : Image) (old : Made) (children parents : List Child) (level : ℕ) → 0 < fan_out old.form.nodesize → taken old ≤ length old.slots → parents ≡ []
    → Goes tells image image old old (λ m n. IsRaising m children level n parents 0)
raise_begins tells image old children parents level wide few none = λ front count. record {
  back = front;
  count = count;
  stands = λ t stand. stand;
  now = subst (λ ps. IsRaising (with_written old front) children level (with_written old front) ps 0) (sym none)
      (raising_begins (with_written old front) children level wide (omega (arith, few, whole_count old front count)));
}

pub raise_goes_on : (law : ChildrenGiveItems) (tells : Bool) (first second third : Image) (old now mid new : Made) (children parents more part : List Child) (level start end : ℕ) (child : Child)
    → Goes tells first second old now (λ m n. IsRaising m children level n parents start) → Goes tells second third now mid (λ m n. n ≡ m) → start < length children
    → end ≡ min (length children) (start + fan_out old.form.nodesize) → 1 ≤ end - start → part ≡ take (end - start) (drop start children) → length part ≡ end - start
    → IsParentAt (taken mid) mid level part child new → more ≡ parents ++ child ∷ []
    → Goes tells first third old new (λ m n. IsRaising m children level n more end)
raise_goes_on law tells first second third old now mid new children parents more part level start end child so_far room lt end_is some part_is long parent is = λ front count.
    let h : HasBack tells first second old now (λ m n. IsRaising m children level n parents start) front = so_far front count in
    let r : HasBack tells second third now mid (λ m n. n ≡ m) h.back = room h.back h.count in
    let here : IsRaising (with_written old front) children level (with_written mid r.back) parents start = subst (λ (m : Made). IsRaising (with_written old front) children level m parents start) (sym r.now) h.now in
    record {
      back = r.back;
      count = r.count ∙ sym (ap (λ (m : Made). m.written) parent.is);
      stands = λ t stand.
          subst (λ (m : Made). StandAt third m.form.nodesize m.offsets r.back) (sym parent.is) (r.stands t (h.stands t stand));
      now = subst (λ ps. IsRaising (with_written old front) children level (with_written new r.back) ps end) (sym is)
          (raising_goes_on law (with_written old front) (with_written mid r.back) (with_written new r.back) children parents part level start end child here lt end_is some part_is long
          (parent_whole mid new level part child r.back r.count parent));
    }

pub raise_ends : (tells : Bool) (first second : Image) (old now : Made) (children parents : List Child) (level start : ℕ) → 0 < fan_out old.form.nodesize
    → Goes tells first second old now (λ m n. IsRaising m children level n parents start) → length children ≤ start
    → Goes tells first second old now (λ m n. IsRaised m children level n parents)
raise_ends tells first second old now children parents level start wide so_far end = λ front count.
    let h : HasBack tells first second old now (λ m n. IsRaising m children level n parents start) front = so_far front count in
    record {
      back = h.back;
      count = h.count;
      stands = h.stands;
      now = raising_ends (with_written old front) (with_written now h.back) children parents level start wide h.now end;
    }

pub raise_short : (tells : Bool) (first second third : Image) (old now mid : Made) (children parents : List Child) (level start : ℕ) → 0 < fan_out old.form.nodesize
    → Goes tells first second old now (λ m n. IsRaising m children level n parents start) → Goes tells second third now mid (λ m n. n ≡ m) → start < length children
    → slice_get mid.slots (taken mid) ≡ None → length old.slots < taken old + div_ceil (length children) (fan_out old.form.nodesize)
raise_short tells first second third old now mid children parents level start wide so_far room lt none =
    let front : List (List ℕ) = blanks old.written in
    let count : length front ≡ old.written = length-blanks old.written in
    let h : HasBack tells first second old now (λ m n. IsRaising m children level n parents start) front = so_far front count in
    let r : HasBack tells second third now mid (λ m n. n ≡ m) h.back = room h.back h.count in
    let here : IsRaising (with_written old front) children level (with_written mid r.back) parents start = subst (λ (m : Made). IsRaising (with_written old front) children level m parents start) (sym r.now) h.now in
    let short = raising_short (with_written old front) (with_written mid r.back) children parents level start wide here lt (ap (slice_get mid.slots) (sym (whole_count mid r.back r.count)) ∙ none) in
    omega (arith, short, whole_count old front count)

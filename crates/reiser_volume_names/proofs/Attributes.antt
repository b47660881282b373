-- The private directory: what makes it hold an attribute, and that it holds none.
use Rattle.reiser_volume_names.proofs.Imports.{◌≡◌, ℕ, zero, suc, Bool, true, false, not, ◌||◌, List, [], ◌∷◌, ◌++◌, length, filter, Some, None, Contains, inl, inr, ⊎_elim, refl, sym, ap, subst, ◌∙◌, true≢false, length-append, if◌then◌else◌, arith, Contains-append_left, Contains-append_right, Contains-push, Contains-push_cases, VolAnswer, Refused, Fault, Memory, HasAttributes, ReiserItem, ObjectKey, Naming, same_key, namings, is_followed, Keys, same_key-true, same_key-self, in_filter, from_filter, listing, HasReadableEntries, HoldsNoAttribute, HasNoAttributes, IsBelow, IsOnly, IsExtra, AreTargets, BlamesTargets, BlamesBelow, BlamesPrivate}

-- nothing is kept where nothing passes
none_kept : {X : Type 0} (p : X → Bool) (xs : List X) → ((x : X) → Contains xs x → p x ≡ false) → filter p xs ≡ []
none_kept p [] none = refl
none_kept p (x ∷ xs) none =
    ap (λ (b : Bool). if b then x ∷ filter p xs else filter p xs) (none x (0, omega arith, refl)) ∙ none_kept p xs (λ y among. none y (Contains-append_right (x ∷ []) xs y among))

-- an entry of a directory is in its listing
listed : (items : List ReiserItem) (m : Naming) → Contains (namings items) m → Contains (listing items m.dir) m
listed items m among = in_filter (λ (n : Naming). same_key n.dir m.dir) (namings items) m among (same_key-self m.dir)

in_listing : (items : List ReiserItem) (dir : ObjectKey) (n : Naming) → Contains (listing items dir) n → Contains (namings items) n × (n.dir ≡ dir)
in_listing items dir n among = let f = from_filter (λ (n : Naming). same_key n.dir dir) (namings items) n among in (f.0, same_key-true n.dir dir f.1)

nothing_in : {X : Type 0} (xs : List X) (x : X) → xs ≡ [] → Contains xs x → ⊥
nothing_in xs x empty among = absurd (omega (arith, among.1, ap length empty))

-- directories without entries hold no attribute
pub empty_inside : (items : List ReiserItem) (dir : ObjectKey) (has : Keys) → HasReadableEntries items dir → AreTargets items (listing items dir) has → ((n : Naming) → Contains (namings items) n → has n.dir ≡ false) → HoldsNoAttribute items dir
empty_inside items dir has readable targets none = record {
  readable = readable;
  each = λ n among. record {
    readable = targets.readable n among;
    empty = none_kept (λ (m : Naming). same_key m.dir n.target) (namings items) (λ m there. by m n there (same_key m.dir n.target) refl (targets.in_set n among));
  };
}
  where
    by : (m n : Naming) → Contains (namings items) m → (b : Bool) → same_key m.dir n.target ≡ b → has n.target ≡ true → b ≡ false
    by m n there true own target = absurd (true≢false (sym target ∙ (ap has (sym (same_key-true m.dir n.target own)) ∙ none m there)))
    by m n there false other target = refl

-- what it has is no readable directory
pub bad_targets : (items : List ReiserItem) (dir : ObjectKey) (e : VolAnswer) → BlamesTargets items (listing items dir) e → BlamesBelow items (HoldsNoAttribute items dir) dir e
bad_targets items dir (Refused refusal) b =
    let l = in_listing items dir b.0 b.1 in
    (b.0.target, (1, λ h. b.2 (h.each b.0 b.1).readable, (b.0, l.0, refl, l.1), b.3))
bad_targets items dir Fault b = b
bad_targets items dir Memory b = tt

-- or has an entry
pub not_empty : (items : List ReiserItem) (dir : ObjectKey) (has : Keys) (e : VolAnswer) (m : Naming) → AreTargets items (listing items dir) has → Contains (namings items) m → has m.dir ≡ true → e ≡ Refused (HasAttributes m.target.dir m.target.object) → BlamesBelow items (HoldsNoAttribute items dir) dir e
not_empty items dir has e m targets there inside is =
    let n = targets.from m.dir inside in
    let l = in_listing items dir n.0 n.1 in
    subst (BlamesBelow items (HoldsNoAttribute items dir) dir) (sym is) (
      m.target,
      (
        2,
        λ h. nothing_in (listing items n.0.target) m (h.each n.0 n.1).empty (subst (λ (k : ObjectKey). Contains (listing items k) m) (sym n.2) (listed items m there)),
        (m, there, refl, (n.0, l.0, n.2, l.1)),
        refl,
      ),
    )

-- a directory with only that entry
pub only_holds : (items : List ReiserItem) (dir inner : ObjectKey) → HasReadableEntries items dir → IsOnly (listing items dir) (Some inner) → HoldsNoAttribute items inner → HasNoAttributes items dir
only_holds items dir inner readable o holds = record {
  readable = readable;
  one = let size = ap length o.1 in omega (arith, size);
  name = λ n among. sym (ap (λ (x : Naming). x.name) (same n among)) ∙ o.2;
  inner = λ n among. subst (HoldsNoAttribute items) (sym o.3 ∙ ap (λ (x : Naming). x.target) (same n among)) holds;
}
  where
    same : (n : Naming) → Contains (listing items dir) n → o.0 ≡ n
    same n among = ⊎_elim (λ none. absurd (omega (arith, none.1))) (λ e. e) (Contains-push_cases [] o.0 n (subst (λ (l : List Naming). Contains l n) o.1 among))

pub nothing_holds : (items : List ReiserItem) (dir : ObjectKey) → HasReadableEntries items dir → IsOnly (listing items dir) None → HasNoAttributes items dir
nothing_holds items dir readable none = record {
  readable = readable;
  one = let size = ap length none in omega (arith, size);
  name = λ n among. absurd (nothing_in (listing items dir) n none among);
  inner = λ n among. absurd (nothing_in (listing items dir) n none among);
}

-- an entry that may not be there
pub extra_entry : (items : List ReiserItem) (dir key : ObjectKey) (e : VolAnswer) → IsExtra (listing items dir) key → e ≡ Refused (HasAttributes key.dir key.object) → BlamesBelow items (HasNoAttributes items dir) dir e
extra_entry items dir key e x is =
    let l = in_listing items dir x.0 x.1 in
    subst (BlamesBelow items (HasNoAttributes items dir) dir) (sym is)
    (key, (1, λ h. ⊎_elim {C = ⊥} (λ other. other (h.name x.0 x.1)) (λ two. absurd (omega (arith, two, h.one))) x.3, (x.0, l.0, x.2, l.1), refl))

-- what is below an entry is below the directory
below_more : (items : List ReiserItem) (dir : ObjectKey) (n : Naming) (steps : ℕ) (key : ObjectKey) → Contains (namings items) n → n.dir ≡ dir → IsBelow items steps n.target key → IsBelow items (suc steps) dir key
below_more items dir n zero key among from b = (n, among, sym b, from)
below_more items dir n (suc steps) key among from b = (b.0, b.1, b.2, below_more items dir n steps b.0.dir among from b.3)

pub inner_blamed : (items : List ReiserItem) (dir inner : ObjectKey) (e : VolAnswer) → IsOnly (listing items dir) (Some inner) → BlamesBelow items (HoldsNoAttribute items inner) inner e → BlamesBelow items (HasNoAttributes items dir) dir e
inner_blamed items dir inner (Refused refusal) o b =
    let among : Contains (listing items dir) o.0 = subst (λ (l : List Naming). Contains l o.0) (sym o.1) (0, omega arith, refl) in
    let l = in_listing items dir o.0 among in
    (b.0, (suc b.1.0, λ h. b.1.1 (subst (HoldsNoAttribute items) o.3 (h.inner o.0 among)), below_more items dir o.0 b.1.0 b.0 l.0 l.1 (subst (λ (k : ObjectKey). IsBelow items b.1.0 k b.0) (sym o.3) b.1.2), b.1.3))
inner_blamed items dir inner Fault o b = b
inner_blamed items dir inner Memory o b = tt

-- what names too much in some first entries does so in all
pub extra_of_part : (part more all : List Naming) (key : ObjectKey) → all ≡ part ++ more → IsExtra part key → IsExtra all key
extra_of_part part more all key is x =
    subst (λ (l : List Naming). IsExtra l key) (sym is) (x.0, Contains-append_left part more x.0 x.1, x.2, ⊎_elim (λ other. inl other) (λ two. inr (omega (arith, two, length-append part more))) x.3)

pub targets_of_part : (items : List ReiserItem) (part more all : List Naming) (e : VolAnswer) → all ≡ part ++ more → BlamesTargets items part e → BlamesTargets items all e
targets_of_part items part more all (Refused refusal) is b = subst (λ (l : List Naming). BlamesTargets items l (Refused refusal)) (sym is) (b.0, Contains-append_left part more b.0 b.1, b.2, b.3)
targets_of_part items part more all Fault is b = b
targets_of_part items part more all Memory is b = tt

-- one more target
pub targets_more : (items : List ReiserItem) (ns : List Naming) (n : Naming) (old new : Keys) → AreTargets items ns old → HasReadableEntries items n.target → ((q : ObjectKey) → new q ≡ (same_key n.target q || old q)) → AreTargets items (ns ++ n ∷ []) new
targets_more items ns n old new t readable grows = record {
  in_set = λ m among. ⊎_elim (λ before. grows m.target ∙ (ap (λ (b : Bool). same_key n.target m.target || b) (t.in_set m before) ∙ or_true (same_key n.target m.target)))
      (λ this. grows m.target ∙ ap (λ (b : Bool). b || old m.target) (ap (λ (x : Naming). same_key n.target x.target) (sym this) ∙ same_key-self n.target)) (Contains-push_cases ns n m among);
  readable = λ m among. ⊎_elim (λ before. t.readable m before) (λ this. subst (λ (x : Naming). HasReadableEntries items x.target) this readable) (Contains-push_cases ns n m among);
  from = λ key has. by key (same_key n.target key) refl (sym (grows key) ∙ has);
}
  where
    or_true : (b : Bool) → (b || true) ≡ true
    or_true true = refl
    or_true false = refl

    by : (key : ObjectKey) (b : Bool) → same_key n.target key ≡ b → (same_key n.target key || old key) ≡ true → (m : Naming) × Contains (ns ++ n ∷ []) m × (m.target ≡ key)
    by key true own has = (n, Contains-push ns n, same_key-true n.target key own)
    by key false other has =
        let f = t.from key (sym (ap (λ (b : Bool). b || old key) other) ∙ has) in (f.0, Contains-append_left ns (n ∷ []) f.0 f.1, f.2)

pub unnot : (b : Bool) → not b ≡ false → b ≡ true
unnot true h = refl
unnot false h = absurd (true≢false h)

-- the same for the namings that were noted
module _ (items : List ReiserItem) (dir : ObjectKey) (ns : List Naming) (is : ns ≡ namings items) where
  same_listing : filter (λ n. same_key n.dir dir) ns ≡ listing items dir
  same_listing = ap (filter (λ n. same_key n.dir dir)) is

  pub inner_ok : (has : Keys) → HasReadableEntries items dir → AreTargets items (filter (λ n. same_key n.dir dir) ns) has → ((n : Naming) → Contains ns n → has n.dir ≡ false) → HoldsNoAttribute items dir
  inner_ok has readable targets none = empty_inside items dir has readable (subst (λ (l : List Naming). AreTargets items l has) same_listing targets) (λ n among. none n (subst (λ (l : List Naming). Contains l n) (sym is) among))

  pub inner_targets : (e : VolAnswer) → BlamesTargets items (filter (λ n. same_key n.dir dir) ns) e → BlamesBelow items (HoldsNoAttribute items dir) dir e
  inner_targets e b = bad_targets items dir e (subst (λ (l : List Naming). BlamesTargets items l e) same_listing b)

  pub inner_entry : (has : Keys) (e : VolAnswer) → AreTargets items (filter (λ n. same_key n.dir dir) ns) has
      → (m : Naming) × Contains ns m × (has m.dir ≡ true) × (e ≡ Refused (HasAttributes m.target.dir m.target.object)) → BlamesBelow items (HoldsNoAttribute items dir) dir e
  inner_entry has e targets m = not_empty items dir has e m.0 (subst (λ (l : List Naming). AreTargets items l has) same_listing targets) (subst (λ (l : List Naming). Contains l m.0) is m.1) m.2 m.3

  pub none_ok : HasReadableEntries items dir → IsOnly (filter (λ n. same_key n.dir dir) ns) None → HasNoAttributes items dir
  none_ok readable none = nothing_holds items dir readable (subst (λ (l : List Naming). IsOnly l None) same_listing none)

  pub one_ok : (inner : ObjectKey) → HasReadableEntries items dir → IsOnly (filter (λ n. same_key n.dir dir) ns) (Some inner) → HoldsNoAttribute items inner → HasNoAttributes items dir
  one_ok inner readable o holds = only_holds items dir inner readable (subst (λ (l : List Naming). IsOnly l (Some inner)) same_listing o) holds

  pub one_blamed : (inner : ObjectKey) (e : VolAnswer) → IsOnly (filter (λ n. same_key n.dir dir) ns) (Some inner) → BlamesBelow items (HoldsNoAttribute items inner) inner e → BlamesBelow items (HasNoAttributes items dir) dir e
  one_blamed inner e o b = inner_blamed items dir inner e (subst (λ (l : List Naming). IsOnly l (Some inner)) same_listing o) b

  pub extra_blamed : (key : ObjectKey) (e : VolAnswer) → IsExtra (filter (λ n. same_key n.dir dir) ns) key → e ≡ Refused (HasAttributes key.dir key.object) → BlamesBelow items (HasNoAttributes items dir) dir e
  extra_blamed key e x said = extra_entry items dir key e (subst (λ (l : List Naming). IsExtra l key) same_listing x) said

pub private_blamed : (items : List ReiserItem) (ns : List Naming) (n : Naming) (e : VolAnswer) → Contains ns n → (is_followed n ≡ false) × BlamesBelow items (HasNoAttributes items n.target) n.target e → BlamesPrivate items ns e
private_blamed items ns n (Refused refusal) among b = (n, among, b.0, b.1)
private_blamed items ns n Fault among b = b.1
private_blamed items ns n Memory among b = tt

-- The names and the directories that were seen, with one more entry.
use Rattle.btr_reader_names.proofs.Imports.{◌≡◌, ℕ, ◌==◌, Bool, true, false, not, ◌&&◌, ◌||◌, nat_eq, List, [], ◌∷◌, ◌++◌, get_or, refl, sym, ap, ◌∙◌, true≢false, arith, list_any, eqb-true, and_parts, nat_tests, list_any-append, list_any_at, Any-from_list_any, IndexSet, contains, BtrAnswer, Refused, Fault, Memory, BadBtrfs, NameForm, DirTwice, NodeId, same_name-true, DirIndex, NameTable, same_name, names_as, DifferInName, HasSeen, BlamesTwice, leads_down, leads_into, LeadApart, HasDirectories, BlamesAgain}
use Rattle.std.specs.Cmp.Lexicographic.{pointwise}
use Rattle.std.proofs.lemmas.List.Quantifiers.{all_pairs_push}
use Rattle.btr_reader_names.specs.declared.seen.NameIn.{NameIn}
use Rattle.btr_reader_names.proofs.Members.{in_more}

eq-self : (n : ℕ) → (n == n) ≡ true
eq-self n = grind (arith, nat_tests)

pointwise_self : (xs : List ℕ) → pointwise nat_eq xs xs ≡ true
pointwise_self [] = refl
pointwise_self (x ∷ xs) = ap (λ (b : Bool). b && pointwise nat_eq xs xs) (eq-self x) ∙ pointwise_self xs

or_swap : (a b : Bool) → (a || b) ≡ (b || (a || false))
or_swap true true = refl
or_swap true false = refl
or_swap false true = refl
or_swap false false = refl

or_nothing : (a b : Bool) → b ≡ false → a ≡ (a || (b || false))
or_nothing true b is = refl
or_nothing false b is = sym (ap (λ (c : Bool). c || false) is)

true_and : (a b : Bool) → a ≡ true → (a && b) ≡ b
true_and true b is = refl
true_and false b is = absurd (true≢false (sym is))

pub was_absent : (new had : Bool) → new ≡ not had → new ≡ true → had ≡ false
was_absent new true is h = absurd (true≢false (sym h ∙ is))
was_absent new false is h = refl

pub was_there : (new had : Bool) → new ≡ not had → new ≡ false → had ≡ true
was_there new true is h = refl
was_there new false is h = absurd (true≢false (sym is ∙ h))

-- an entry is of this name in this directory
names_it : (opened : ℕ → Bool) (q : NameIn) (n : DirIndex) → opened n.dir ≡ true → n.dir ≡ q.dir → n.name ≡ q.name.items → names_as opened q n ≡ true
names_it opened q n is dir name =
    true_and (opened n.dir) ((n.dir == q.dir) && pointwise nat_eq n.name q.name.items) is
    ∙ (ap (λ (k : ℕ). (k == q.dir) && pointwise nat_eq n.name q.name.items) dir
    ∙ (ap (λ (b : Bool). b && pointwise nat_eq n.name q.name.items) (eq-self q.dir) ∙ (ap (λ (l : List ℕ). pointwise nat_eq l q.name.items) name ∙ pointwise_self q.name.items)))

module _ {S : Type 0} (opened : ℕ → Bool) (old new : IndexSet NameIn S) (seen : List DirIndex) (n : DirIndex) (has : HasSeen opened old seen) where
  -- an entry of a directory that is not named
  pub closed_more : opened n.dir ≡ false → HasSeen opened old (seen ++ n ∷ [])
  closed_more closed = record {
    each = λ q.
        has.each q
        ∙ (or_nothing (list_any (names_as opened q) seen) (names_as opened q n) (ap (λ (b : Bool). b && ((n.dir == q.dir) && pointwise nat_eq n.name q.name.items)) closed)
        ∙ sym (list_any-append (names_as opened q) seen (n ∷ [])));
    once = all_pairs_push (DifferInName opened) seen n has.once (λ k d within is. absurd (true≢false (sym is ∙ closed)));
  }

  module _ (name : NameIn) (is : opened n.dir ≡ true) (dir_is : name.dir ≡ n.dir) (name_is : name.name.items ≡ n.name) where
    -- one that is new
    pub seen_more : ((q : NameIn) → contains same_name new q ≡ (same_name name q || contains same_name old q)) → contains same_name old name ≡ false → HasSeen opened new (seen ++ n ∷ [])
    seen_more grows absent = record {
      each = λ q.
          grows q
          ∙ (ap (λ (b : Bool). same_name name q || b) (has.each q)
          ∙ (ap (λ (b : Bool). b || list_any (names_as opened q) seen) (same q) ∙ (or_swap (names_as opened q n) (list_any (names_as opened q) seen) ∙ sym (list_any-append (names_as opened q) seen (n ∷ [])))));
      once = all_pairs_push (DifferInName opened) seen n has.once (λ k d within _ same_dir same_bytes.
          let open_m : opened (get_or seen k d).dir ≡ true = ap opened same_dir ∙ is in
          true≢false (sym (list_any_at (names_as opened name) seen k d within (names_it opened name (get_or seen k d) open_m (same_dir ∙ sym dir_is) (same_bytes ∙ sym name_is))) ∙ (sym (has.each name) ∙ absent)));
    }
      where
        same : (q : NameIn) → same_name name q ≡ names_as opened q n
        same q =
            ap (λ (k : ℕ). (k == q.dir) && pointwise nat_eq name.name.items q.name.items) dir_is
            ∙ (ap (λ (l : List ℕ). (n.dir == q.dir) && pointwise nat_eq l q.name.items) name_is ∙ sym (true_and (opened n.dir) ((n.dir == q.dir) && pointwise nat_eq n.name q.name.items) is))

    -- one that was seen
    pub seen_twice : contains same_name old name ≡ true → BlamesTwice opened (seen ++ n ∷ []) (Refused (BadBtrfs n.leaf NameForm))
    seen_twice there =
        let a = Any-from_list_any (names_as opened name) seen (sym (has.each name) ∙ there) in
        let m : DirIndex = a.1 in
        let parts = and_parts (opened m.dir) ((m.dir == name.dir) && pointwise nat_eq m.name name.name.items) a.4 in
        let more = and_parts (m.dir == name.dir) (pointwise nat_eq m.name name.name.items) parts.1 in
        let dir : m.dir ≡ n.dir = eqb-true m.dir name.dir more.0 ∙ dir_is in
        let bytes : m.name ≡ n.name = same_name-true m.name name.name.items more.1 ∙ name_is in
        (m, (n, record { before = seen; after = []; split = refl; earlier = (a.0, a.2, a.3) }, is, dir, bytes, refl))

pub twice_of_part : (opened : ℕ → Bool) (part more all : List DirIndex) (e : BtrAnswer) → all ≡ part ++ more → BlamesTwice opened part e → BlamesTwice opened all e
twice_of_part opened part more all (Refused refusal) is b = (b.0, (b.1.0, in_more part more all b.0 b.1.0 is b.1.1, b.1.2, b.1.3, b.1.4, b.1.5))
twice_of_part opened part more all Fault is b = b
twice_of_part opened part more all Memory is b = tt

pub none_seen : {S : Type 0} (opened : ℕ → Bool) (names : IndexSet NameIn S) → names.keys ≡ [] → HasSeen opened names []
none_seen opened names empty = record { each = λ q. ap (λ (ks : List NameIn). list_any (same_name q) ks) empty; once = λ i j d before within. absurd (omega (arith, within)) }

module _ {S : Type 0} (t : NameTable) (named : NodeId → Bool) (old new : IndexSet ℕ S) (seen : List DirIndex) (n : DirIndex) (has : HasDirectories t named old seen) where
  -- an entry that leads to no directory
  pub other_more : leads_down t named n ≡ false → HasDirectories t named old (seen ++ n ∷ [])
  other_more other = record {
    each = λ ino.
        has.each ino
        ∙ (or_nothing (list_any (leads_into t named ino) seen) (leads_into t named ino n) (ap (λ (b : Bool). b && (n.location.objectid == ino)) other)
        ∙ sym (list_any-append (leads_into t named ino) seen (n ∷ [])));
    once = all_pairs_push (LeadApart t named) seen n has.once (λ k d within _ leads. absurd (true≢false (sym leads ∙ other)));
  }

  module _ (leads : leads_down t named n ≡ true) where
    pub directory_more : ((ino : ℕ) → contains nat_eq new ino ≡ (nat_eq n.location.objectid ino || contains nat_eq old ino)) → contains nat_eq old n.location.objectid ≡ false → HasDirectories t named new (seen ++ n ∷ [])
    directory_more grows absent = record {
      each = λ ino.
          grows ino
          ∙ (ap (λ (b : Bool). nat_eq n.location.objectid ino || b) (has.each ino)
          ∙ (ap (λ (b : Bool). b || list_any (leads_into t named ino) seen) (sym (true_and (leads_down t named n) (n.location.objectid == ino) leads))
          ∙ (or_swap (leads_into t named ino n) (list_any (leads_into t named ino) seen) ∙ sym (list_any-append (leads_into t named ino) seen (n ∷ [])))));
      once = all_pairs_push (LeadApart t named) seen n has.once (λ k d within down _ same.
          true≢false (sym (list_any_at (leads_into t named n.location.objectid) seen k d within (passes (get_or seen k d) down same)) ∙ (sym (has.each n.location.objectid) ∙ absent)));
    }
      where
        passes : (m : DirIndex) → leads_down t named m ≡ true → m.location.objectid ≡ n.location.objectid → leads_into t named n.location.objectid m ≡ true
        passes m down same =
            true_and (leads_down t named m) (m.location.objectid == n.location.objectid) down ∙ (ap (λ (k : ℕ). k == n.location.objectid) same ∙ eq-self n.location.objectid)

    pub directory_again : contains nat_eq old n.location.objectid ≡ true → BlamesAgain t named (seen ++ n ∷ []) (Refused (BadBtrfs n.leaf DirTwice))
    directory_again there =
        let a = Any-from_list_any (leads_into t named n.location.objectid) seen (sym (has.each n.location.objectid) ∙ there) in
        let m : DirIndex = a.1 in
        let parts = and_parts (leads_down t named m) (m.location.objectid == n.location.objectid) a.4 in
        (m, (n, record { before = seen; after = []; split = refl; earlier = (a.0, a.2, a.3) }, parts.0, leads, eqb-true m.location.objectid n.location.objectid parts.1, refl))

pub again_of_part : (t : NameTable) (named : NodeId → Bool) (part more all : List DirIndex) (e : BtrAnswer) → all ≡ part ++ more → BlamesAgain t named part e → BlamesAgain t named all e
again_of_part t named part more all (Refused refusal) is b = (b.0, (b.1.0, in_more part more all b.0 b.1.0 is b.1.1, b.1.2, b.1.3, b.1.4, b.1.5))
again_of_part t named part more all Fault is b = b
again_of_part t named part more all Memory is b = tt

pub no_directories : {S : Type 0} (t : NameTable) (named : NodeId → Bool) (dirs : IndexSet ℕ S) → dirs.keys ≡ [] → HasDirectories t named dirs []
no_directories t named dirs empty = record { each = λ ino. ap (λ (ks : List ℕ). list_any (nat_eq ino) ks) empty; once = λ i j d before within. absurd (omega (arith, within)) }

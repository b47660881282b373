-- The counts of names, with one more link.
use Rattle.reiser_volume_names.proofs.Imports.{◌≡◌, ℕ, ◌+◌, ◌^◌, ◌<◌, ◌≤◌, Bool, true, false, not, cond, ◌&&◌, List, [], ◌∷◌, ◌++◌, unwrap_or, Option, Some, None, is_some, refl, sym, ap, subst, ◌∙◌, true≢false, if◌then◌else◌, arith, lookup, Contains-push, Contains-append_left, sum_by_push, sum_by-append, IndexMap, VolAnswer, Refused, Fault, Memory, Damaged, SizeRange, ReiserItem, ObjectKey, Naming, ObjectStat, is_directory_at, stat_of_object, same_key, same_key-true, same_key-self, names_of, is_counted, CountsNames, BlamesCount, tally, capped}

-- the names with one more
names_push : (links : List Naming) (n : Naming) (key : ObjectKey) → names_of (links ++ n ∷ []) key ≡ names_of links key + cond (same_key n.target key) 1 0
names_push links n key = sum_by_push (λ (m : Naming). cond (same_key m.target key) 1 0) links n

names_of_part : (links more : List Naming) (key : ObjectKey) → names_of links key ≤ names_of (links ++ more) key
names_of_part links more key = rw (sum_by-append (λ (m : Naming). cond (same_key m.target key) 1 0) links more) (omega arith)

one_fits : (t count : ℕ) → count ≡ capped (t + 1) → count < 2 ^ 32 → t + 1 ≡ count
one_fits t count is fit = omega arith

one_over : (t count : ℕ) → count ≡ capped (t + 1) → 2 ^ 32 ≤ count → 2 ^ 32 ≤ t + 1
one_over t count is large = omega arith

module _ {S : Type 0} (items : List ReiserItem) (old : IndexMap ObjectKey ℕ S) (links : List Naming) (n : Naming) (has : CountsNames items old links) where
  stays : (key : ObjectKey) → same_key n.target key ≡ false → names_of (links ++ n ∷ []) key ≡ names_of links key
  stays key other = let push = names_push links n key in let none : ◌≡◌ {A = ℕ} (cond (same_key n.target key) 1 0) 0 = ap (λ (b : Bool). cond b 1 0) other in omega (arith, push, none)

  -- a name that is not counted
  pub uncounted : is_counted items n.target ≡ false → CountsNames items old (links ++ n ∷ [])
  uncounted not_it = record {
    each = λ key counted. has.each key counted ∙ sym (stays key (apart key counted));
    few = λ key counted. let same = stays key (apart key counted) in omega (arith, same, has.few key counted);
  }
    where
      apart : (key : ObjectKey) → is_counted items key ≡ true → same_key n.target key ≡ false
      apart key counted = by (same_key n.target key) refl
        where
          by : (b : Bool) → same_key n.target key ≡ b → b ≡ false
          by true own = absurd (true≢false (sym counted ∙ (ap (is_counted items) (sym (same_key-true n.target key own)) ∙ not_it)))
          by false other = refl

  module _ (new : IndexMap ObjectKey ℕ S) (count : ℕ) (counted : is_counted items n.target ≡ true) (count_is : count ≡ capped (tally same_key old n.target + 1)) where
    own : (key : ObjectKey) → same_key n.target key ≡ true → names_of (links ++ n ∷ []) key ≡ tally same_key old n.target + 1
    own key is =
        let push = names_push links n key in
        let one : ◌≡◌ {A = ℕ} (cond (same_key n.target key) 1 0) 1 = ap (λ (b : Bool). cond b 1 0) is in
        let was : tally same_key old n.target ≡ names_of links key = has.each n.target counted ∙ ap (names_of links) (same_key-true n.target key is) in
        omega (arith, push, one, was)

    -- one more that fits
    pub counted_more : ((q : ObjectKey) → tally same_key new q ≡ (if same_key n.target q then capped (tally same_key old n.target + 1) else tally same_key old q)) → count < 2 ^ 32 → CountsNames items new (links ++ n ∷ [])
    counted_more grows fit = record { each = λ key k. each key k (same_key n.target key) refl; few = λ key k. few key k (same_key n.target key) refl }
      where
        each : (key : ObjectKey) → is_counted items key ≡ true → (b : Bool) → same_key n.target key ≡ b → tally same_key new key ≡ names_of (links ++ n ∷ []) key
        each key k true is =
            grows key ∙ (ap (λ (b : Bool). if b then capped (tally same_key old n.target + 1) else tally same_key old key) is ∙ (sym count_is ∙ (sym (one_fits (tally same_key old n.target) count count_is fit) ∙ sym (own key is))))
        each key k false is = grows key ∙ (ap (λ (b : Bool). if b then capped (tally same_key old n.target + 1) else tally same_key old key) is ∙ (has.each key k ∙ sym (stays key is)))

        few : (key : ObjectKey) → is_counted items key ≡ true → (b : Bool) → same_key n.target key ≡ b → names_of (links ++ n ∷ []) key < 2 ^ 32
        few key k true is = let o = own key is in let f = one_fits (tally same_key old n.target) count count_is fit in omega (arith, o, f, fit)
        few key k false is = let s = stays key is in omega (arith, s, has.few key k)

    -- one too many
    pub counted_over : (stat : ObjectStat) → stat_of_object items n.target ≡ Some stat → is_directory_at items n.target ≡ false → 2 ^ 32 ≤ count → BlamesCount items (links ++ n ∷ []) (Refused (Damaged stat.leaf SizeRange))
    counted_over stat there other large =
        let o = own n.target (same_key-self n.target) in
        let f = one_over (tally same_key old n.target) count count_is large in
        (n, Contains-push links n, (stat, there, other, omega (arith, o, f), refl))

pub count_of_part : (items : List ReiserItem) (part more all : List Naming) (e : VolAnswer) → all ≡ part ++ more → BlamesCount items part e → BlamesCount items all e
count_of_part items part more all (Refused refusal) is b =
    subst (λ (l : List Naming). BlamesCount items l (Refused refusal)) (sym is) (b.0, Contains-append_left part more b.0 b.1, (b.2.0, b.2.1, b.2.2, omega (arith, b.2.3, names_of_part part more b.0.target), b.2.4))
count_of_part items part more all Fault is b = b
count_of_part items part more all Memory is b = tt

-- what is counted
pub counts_it : (items : List ReiserItem) (key : ObjectKey) (stat : ObjectStat) → stat_of_object items key ≡ Some stat → is_directory_at items key ≡ false → is_counted items key ≡ true
counts_it items key stat there other = ap (λ (b : Bool). is_some (stat_of_object items key) && not b) other ∙ ap (λ (o : Option ObjectStat). is_some o && true) there

pub not_counted : (items : List ReiserItem) (key : ObjectKey) → is_directory_at items key ≡ true → is_counted items key ≡ false
not_counted items key directory = ap (λ (b : Bool). is_some (stat_of_object items key) && not b) directory ∙ by (is_some (stat_of_object items key))
  where
    by : (b : Bool) → (b && false) ≡ false
    by true = refl
    by false = refl

-- How the set of named objects grows, and that in the end it is whole.
use Rattle.reiser_volume_objects.proofs.Imports.{◌≡◌, ℕ, zero, suc, ◌+◌, ◌<◌, ◌≤◌, ◌==◌, Bool, true, false, ◌||◌, List, [], ◌∷◌, length, filter, take, get_or, Option, Some, None, is_some, Result, Ok, Err, Contains, ◌⊎◌, inl, inr, ⊎_elim, refl, sym, ap, subst, ◌∙◌, true≢false, if◌then◌else◌, arith, Contains-get_or, Contains-push_cases, Contains-append_cases, Contains-append_right, take_more, take_all, VolAnswer, Refused, Damaged, ObjectForm, Directory, File, Symlink, Character, Block, Fifo, Socket, NodeId, in_filter, from_filter, ReiserItem, ObjectKey, Naming, ObjectStat, same_key, root, kind_of_code, is_directory_mode, stat_of_object, is_followed, namings, followed, IsNamed, IsReachedBy, IsDirectory, other_root, no_stat, Refuses, Keys, IsSeen, AreSeen, TellsReached, Closes, FollowsEntry, Objects, HasNoted}
use Rattle.std.specs.Result.{MatchResult}
use Rattle.reiser_volume_objects.proofs.Tables.{same_key-true}

-- the head of a list is an element
pub head_is : {X : Type 0} (y : X) (ys : List X) (x : X) → y ≡ x → Contains (y ∷ ys) x
head_is y ys x e = (0, omega arith, e)

-- an entry that counts names an object without stat data
pub unstated : (items : List ReiserItem) (n : Naming) (e : VolAnswer) → Contains (namings items) n → is_followed n ≡ true → IsNamed items n.dir → is_some (stat_of_object items n.target) ≡ false → e ≡ Refused (Damaged n.leaf ObjectForm) → (root_block : ℕ) → Refuses root_block items e
unstated items n e among counts named none is root_block =
    subst (Refuses root_block items) (sym is) (no_stat n (in_filter is_followed (namings items) n among counts) named (nothing (stat_of_object items n.target) none) refl)
  where
    nothing : (s : Option ObjectStat) → is_some s ≡ false → s ≡ None
    nothing None h = refl
    nothing (Some s) h = cc

or_cases : (a b : Bool) → (a || b) ≡ true → (a ≡ true) ⊎ (b ≡ true)
or_cases true b h = inl refl
or_cases false b h = inr h

-- what an entry of a named directory names is seen, if it counts
pub seen_more : (items : List ReiserItem) (n : Naming) (old new : Keys) → Contains (namings items) n → is_followed n ≡ true → IsNamed items n.dir → is_some (stat_of_object items n.target) ≡ true
    → AreSeen items old → ((q : ObjectKey) → new q ≡ (same_key n.target q || old q)) → AreSeen items new
seen_more items n old new among counts dir stated seen grows key has =
    ⊎_elim (λ own. subst (IsSeen items) (same_key-true n.target key own) here) (λ before. seen key before) (or_cases (same_key n.target key) (old key) (sym (grows key) ∙ has))
  where
    here : IsSeen items n.target
    here = record { named = (suc dir.0, (n, in_filter is_followed (namings items) n among counts, refl, dir.1)); has_stat = stated }

-- no other code is that of a directory
not_directory : (a b c d e f : Bool) → (if a then Some File else (if b then Some Symlink else (if c then Some Character else (if d then Some Block else (if e then Some Fifo else (if f then Some Socket else None)))))) ≡ Some Directory → ⊥
not_directory true b c d e f h = cc
not_directory false true c d e f h = cc
not_directory false false true d e f h = cc
not_directory false false false true e f h = cc
not_directory false false false false true f h = cc
not_directory false false false false false true h = cc
not_directory false false false false false false h = cc

-- the code of a directory
pub code_of_directory : (code : ℕ) (b : Bool) → (code == 4) ≡ b → kind_of_code code ≡ Some Directory → b ≡ true
code_of_directory code true is kind = refl
code_of_directory code false is kind =
    absurd (not_directory (code == 8) (code == 10) (code == 2) (code == 6) (code == 1) (code == 12)
    (sym (ap (λ (b : Bool). if b then Some Directory else (if code == 8 then Some File else (if code == 10 then Some Symlink else (if code == 2 then Some Character else (if code == 6 then Some Block else (if code == 1 then Some Fifo else (if code == 12 then Some Socket else None))))))) is) ∙ kind))

-- a root that is no directory
pub other_root_refused : (items : List ReiserItem) (root_block : ℕ) (stat : ObjectStat) (e : VolAnswer) → stat_of_object items root ≡ Some stat → is_directory_mode stat.fields.mode ≡ false → e ≡ Refused (Damaged stat.leaf ObjectForm) → Refuses root_block items e
other_root_refused items root_block stat e has other is =
    subst (Refuses root_block items) (sym is) (other_root stat has (λ kind. true≢false (sym (code_of_directory _ _ refl kind) ∙ other)) refl)

-- a set that holds the root and what the entries of named directories name holds each named object
pub reach_is_whole : (items : List ReiserItem) (reached : NodeId → Bool) (has : Keys) → TellsReached items reached → has root ≡ true → ((n : Naming) → Contains (namings items) n → Closes reached has n) → (key : ObjectKey) → IsNamed items key → has key ≡ true
reach_is_whole items reached has tells root_in closed key named = by named.0 named.1
  where
    by : (steps : ℕ) → IsReachedBy (followed items) steps key → has key ≡ true
    by zero is = ap has is ∙ root_in
    by (suc steps) r = let f = from_filter is_followed (namings items) r.0 r.1 in sym (ap has r.2) ∙ closed r.0 f.0 f.1 (tells.whole r.0.dir (steps, r.3))

-- one more entry was followed
pub closes_more : (all : List Naming) (i : ℕ) (n : Naming) (reached : NodeId → Bool) (old new : Keys) → get_or all i n ≡ n → i < length all
    → ((m : Naming) → Contains (take i all) m → Closes reached old m) → FollowsEntry n reached old new → (m : Naming) → Contains (take (i + 1) all) m → Closes reached new m
closes_more all i n reached old new at within closed f m among =
    ⊎_elim (λ earlier counts dir. f.keeps m.target (closed m earlier counts dir)) (λ this. subst (Closes reached new) (sym at ∙ this) f.closed)
    (Contains-push_cases (take i all) (get_or all i n) m (subst (λ (l : List Naming). Contains l m) (take_more all i n within) among))

-- an element is among the first, where those are all
pub taken_all : (ns : List Naming) (k : ℕ) (n : Naming) → length ns ≤ k → Contains ns n → Contains (take k ns) n
taken_all ns k n all among = subst (λ (l : List Naming). Contains l n) (sym (take_all k ns all)) among

-- a refusal that holds whatever the root's block is, holds with this one
pub any_root : {T : Type 0} (P : T → Type 0) (items : List ReiserItem) (root_block : ℕ) (r : Result T VolAnswer) → MatchResult r P (λ e. (b : ℕ) → Refuses b items e) → MatchResult r P (Refuses root_block items)
any_root P items root_block (Ok t) h = h
any_root P items root_block (Err e) h = h root_block

-- the naming at an index is one of the items that were noted
pub indexed_naming : (t : Objects) (items : List ReiserItem) (i : ℕ) (n : Naming) → HasNoted t items → i < length t.namings.items → n ≡ get_or t.namings.items i n → Contains (namings items) n
indexed_naming t items i n noted within at =
    subst (λ (ns : List Naming). Contains ns n) noted.namings (subst (Contains t.namings.items) (sym at) (Contains-get_or t.namings.items i n within))

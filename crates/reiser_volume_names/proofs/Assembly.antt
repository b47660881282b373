-- The looks at names together: all the rules are kept, or one is named that fails.
use Rattle.reiser_volume_names.proofs.Imports.{◌≡◌, ℕ, suc, ◌/◌, ◌^◌, ◌<◌, ◌≤◌, ◌==◌, Bool, true, false, not, ◌&&◌, ◌||◌, List, [], filter, get_or, Some, None, is_some, Contains, AllPairs, refl, sym, ap, subst, ◌∙◌, true≢false, if◌then◌else◌, eqb-true, list_any_at, Any-from_list_any, AllPairs-from_IsDistinct, IndexSet, contains, IsUnique, VolAnswer, Refused, Fault, Memory, VolumeRefusal, ReiserItem, ObjectKey, Naming, stat_of_object, is_directory_at, same_key, object_key_of, items_of, namings, is_followed, IsNamed, Keys, IsReach, IsDirectory, has_entries, directory_tested, directory_passes, in_filter, from_filter, same_key-true, same_key-self, NamesAnother, BlamesAgain, names_of, is_counted, BlamesCount, BlamesCrowd, BlamesExtended, AreLinks, AreNamedKeys, AreNames, BreaksNameRules, IsNamesRefusal, crowd_of, extended, extended_crowd_of, off_form, bad_name, attributes, long_name, long_target, twice, directory_twice, root_named, taken, too_many, crowd, extended_crowd, DifferInName, BlamesTwice, is_link, link_list, IsGoodName, BlamesName, HasForms, BlamesObject, is_symlink_mode, HasNoAttributes, BlamesPrivate, RefusesNames, IsNamesAnswer}
use Rattle.reiser_volume_objects.specs.fs_rows.declared.row.Kind.TheVariants.{Directory, File, Symlink, Character, Block, Fifo, Socket}
use Rattle.reiser_volume_objects.specs.reiser_items.Entries.{are_entries}
use Rattle.reiser_volume_objects.specs.Kinds.{kind_of_code}
use Rattle.reiser_volume_names.specs.Passes as pass
use Rattle.reiser_volume_names.proofs.Uniqueness.{same_decides, links_found}

-- a symlink, as a test and as a fact
not_symlink : (a b d e f g : Bool) → (if a then Some Directory else (if b then Some File else (if d then Some Character else (if e then Some Block else (if f then Some Fifo else (if g then Some Socket else None)))))) ≡ Some Symlink → ⊥
not_symlink true b d e f g h = cc
not_symlink false true d e f g h = cc
not_symlink false false true e f g h = cc
not_symlink false false false true f g h = cc
not_symlink false false false false true g h = cc
not_symlink false false false false false true h = cc
not_symlink false false false false false false h = cc

symlink_tested : (code : ℕ) → kind_of_code code ≡ Some Symlink → (code == 10) ≡ true
symlink_tested code kind = by (code == 10) refl
  where
    other : (a b d e f g : Bool) → (if a then Some Directory else (if b then Some File else (if false then Some Symlink else (if d then Some Character else (if e then Some Block else (if f then Some Fifo else (if g then Some Socket else None))))))) ≡ Some Symlink → ⊥
    other a b d e f g h = not_symlink a b d e f g h

    by : (t : Bool) → (code == 10) ≡ t → t ≡ true
    by true is = refl
    by false is =
        absurd (other (code == 4) (code == 8) (code == 2) (code == 6) (code == 1) (code == 12)
        (sym (ap (λ (t : Bool). if code == 4 then Some Directory else (if code == 8 then Some File else (if t then Some Symlink else (if code == 2 then Some Character else (if code == 6 then Some Block else (if code == 1 then Some Fifo else (if code == 12 then Some Socket else None))))))) is) ∙ kind))

symlink_passes : (code : ℕ) → (code == 10) ≡ true → kind_of_code code ≡ Some Symlink
symlink_passes code is = ap kind_of_code (eqb-true code 10 is)

formed : (h e : Bool) → (not h || e) ≡ true → h ≡ true → e ≡ true
formed true e form is = form
formed false e form is = absurd (true≢false (sym is))

unformed : (h e : Bool) → (not h || e) ≡ false → (h ≡ true) × (e ≡ false)
unformed true e form = (refl, form)
unformed false e form = absurd (true≢false form)

and_both : (a b : Bool) → (a && b) ≡ true → (a ≡ true) × (b ≡ true)
and_both true b h = (refl, h)
and_both false b h = absurd (true≢false (sym h))

module _ {S : Type 0} (items : List ReiserItem) (ns : List Naming) (named : IndexSet ObjectKey S) (ns_is : ns ≡ namings items) (reach : IsReach items (contains same_key named)) (unique : IsUnique same_key named) where
  abbrev has : Keys
  has = contains same_key named

  abbrev visible : List Naming
  visible = filter (λ n. has n.dir) ns

  abbrev links : List Naming
  links = link_list has ns

  linked : AreLinks items visible links
  linked = links_found items ns has ns_is (λ key. (λ h. (reach.seen key h).named, reach.whole key))

  keyed : AreNamedKeys items named.keys
  keyed = record {
    once = AllPairs-from_IsDistinct same_decides named.keys unique;
    exact = λ key. (
      λ among. (reach.seen key (list_any_among key among)).named,
      λ is. let a = Any-from_list_any (same_key key) named.keys (reach.whole key is) in subst (Contains named.keys) (sym (same_key-true key a.1 a.4)) (a.0, a.2, a.3),
    );
  }
    where
      list_any_among : (key : ObjectKey) → Contains named.keys key → has key ≡ true
      list_any_among key among = list_any_at (same_key key) named.keys among.0 key among.1 (ap (same_key key) among.2 ∙ same_key-self key)

  broken : (r : VolumeRefusal) → BreaksNameRules items visible links named.keys r → IsNamesRefusal items r
  broken r b = record { visible = visible; links = links; are_links = linked; keys = named.keys; are_keys = keyed; breaks = b }

  -- a link is an entry that counts, in a named directory
  link_in : (n : Naming) → Contains links n → Contains ns n × (is_followed n ≡ true) × (has n.dir ≡ true)
  link_in n among = let f = from_filter (is_link has) ns n among in let b = and_both (is_followed n) (has n.dir) f.1 in (f.0, b.0, b.1)

  in_link : (n : Naming) → Contains ns n → is_followed n ≡ true → has n.dir ≡ true → Contains links n
  in_link n among counts dir = in_filter (is_link has) ns n among (ap (λ (b : Bool). b && has n.dir) counts ∙ dir)

  in_visible : (n : Naming) → Contains ns n → has n.dir ≡ true → Contains visible n
  in_visible n among dir = in_filter (λ m. has m.dir) ns n among dir

  -- what a link names is named
  link_named : (n : Naming) → Contains links n → IsNamed items n.target
  link_named n among =
      let l = link_in n among in
      let d = (reach.seen n.dir l.2).named in
      (suc d.0, (n, in_filter is_followed (namings items) n (subst (λ (m : List Naming). Contains m n) ns_is l.0) l.1, refl, d.1))

  item_named : (key : ObjectKey) (i : ReiserItem) → Contains (items_of key items) i → Contains items i × (object_key_of i.head ≡ key)
  item_named key i among = let f = from_filter (λ x. same_key (object_key_of x.head) key) items i among in (f.0, same_key-true (object_key_of i.head) key f.1)

  pub blamed_object : (key : ObjectKey) (r : VolumeRefusal) → has key ≡ true → BlamesObject items key r → IsNamesRefusal items r
  blamed_object key r in_set (pass.off_form i among bad is) =
      let m = item_named key i among in
      let u = unformed (has_entries i.head.kind) (are_entries i.head.count i.body) bad in
      broken r (off_form i m.0 u.0 (subst (IsNamed items) (sym m.1) (reach.seen key in_set).named) u.1 is)
  blamed_object key r in_set (pass.long_target stat there t) =
      broken r (long_target key stat (reach.seen key in_set).named there (symlink_passes (stat.fields.mode / 4096) t.symlink) t.long t.is)

  pub blamed_name : (n : Naming) (r : VolumeRefusal) → Contains ns n → BlamesName has n r → IsNamesRefusal items r
  blamed_name n r among (pass.bad dir bad is) = broken r (bad_name n (in_visible n among dir) bad is)
  blamed_name n r among (pass.link dir counts (pass.long size is)) = broken r (long_name n (in_link n among counts dir) size is)
  blamed_name n r among (pass.link dir counts (pass.to_root to is)) = broken r (root_named n (in_link n among counts dir) to is)
  blamed_name n r among (pass.link dir counts (pass.taken at name is)) = broken r (taken n (in_link n among counts dir) at name is)

  pub blamed_private : (e : VolAnswer) → BlamesPrivate items ns e → RefusesNames items e
  blamed_private (Refused r) b = broken r (attributes b.0 b.3.1.0 b.3.0 (subst (λ (m : List Naming). Contains m b.0) ns_is b.1) b.2 b.3.1.1 b.3.1.2 b.3.1.3)
  blamed_private Fault b = b
  blamed_private Memory b = tt

  pub blamed_twice : (e : VolAnswer) → BlamesTwice visible e → RefusesNames items e
  blamed_twice (Refused r) b = broken r (twice b.0 b.1.0 b.1.1 b.1.2 b.1.3 b.1.4)
  blamed_twice Fault b = b
  blamed_twice Memory b = tt

  pub blamed_again : (e : VolAnswer) → BlamesAgain items links e → RefusesNames items e
  blamed_again (Refused r) b = broken r (directory_twice b.0 b.1.0 b.1.1 (directory_tested items b.1.0.target b.1.2) b.1.3 b.1.4)
  blamed_again Fault b = b
  blamed_again Memory b = tt

  pub blamed_count : (e : VolAnswer) → BlamesCount items links e → RefusesNames items e
  blamed_count (Refused r) b = broken r (too_many b.0.target b.2.0 (link_named b.0 b.1) b.2.1 (λ d. true≢false (sym (directory_passes items b.0.target d) ∙ b.2.2)) b.2.3 b.2.4)
  blamed_count Fault b = b
  blamed_count Memory b = tt

  pub blamed_crowd : (e : VolAnswer) → BlamesCrowd links e → RefusesNames items e
  blamed_crowd (Refused r) b = broken r (crowd b.0 b.1.0 b.1.1 b.1.2)
  blamed_crowd Fault b = b
  blamed_crowd Memory b = tt

  pub blamed_extended : (e : VolAnswer) → BlamesExtended named.keys (extended [] links) e → RefusesNames items e
  blamed_extended (Refused r) b = broken r (extended_crowd b.0 b.1.0 b.1.1 b.1.2)
  blamed_extended Fault b = b
  blamed_extended Memory b = tt

  -- an object with stat data that is no directory is counted
  counted : (key : ObjectKey) → IsNamed items key → ¬ IsDirectory items key → is_counted items key ≡ true
  counted key is other = by (is_directory_at items key) refl
    where
      by : (b : Bool) → is_directory_at items key ≡ b → is_counted items key ≡ true
      by true directory = absurd (other (directory_tested items key directory))
      by false not_one = ap (λ (b : Bool). is_some (stat_of_object items key) && not b) not_one ∙ ap (λ (b : Bool). b && true) (reach.seen key (reach.whole key is)).has_stat

  pub all_kept : ((key : ObjectKey) → has key ≡ true → HasForms items key) → ((n : Naming) → Contains ns n → IsGoodName has n) → ((n : Naming) → Contains ns n → is_followed n ≡ false → HasNoAttributes items n.target)
      → AllPairs DifferInName visible → AllPairs (NamesAnother items) links → ((key : ObjectKey) → is_counted items key ≡ true → names_of links key < 2 ^ 32)
      → ((dir : ObjectKey) (hash : ℕ) → crowd_of links dir hash ≤ 3900) → ((object : ObjectKey) (hash : ℕ) → extended_crowd_of links named.keys object hash ≤ 3900) → AreNames items
  all_kept forms good private once again counts crowds extendeds = record {
    visible = visible;
    links = links;
    are_links = linked;
    keys = named.keys;
    are_keys = keyed;
    keeps = record {
      forms = λ i among entries is.
          formed (has_entries i.head.kind) (are_entries i.head.count i.body) ((forms (object_key_of i.head) (reach.whole (object_key_of i.head) is)).forms i (in_filter (λ x. same_key (object_key_of x.head) (object_key_of i.head)) items i among (same_key-self (object_key_of i.head)))) entries;
      names = λ n among. let f = from_filter (λ m. has m.dir) ns n among in (good n f.0).name f.1;
      private = λ n among other. private n (subst (λ (m : List Naming). Contains m n) (sym ns_is) among) other;
      short = λ n among. let l = link_in n among in ((good n l.0).link l.2 l.1).short;
      targets = λ key stat is there kind. (forms key (reach.whole key is)).target stat there (symlink_tested (stat.fields.mode / 4096) kind);
      once = once;
      directories_once = λ i j d before within directory. again i j d before within (directory_passes items (get_or links j d).target directory);
      root_once = λ n among. let l = link_in n among in ((good n l.0).link l.2 l.1).below;
      not_taken = λ n among. let l = link_in n among in ((good n l.0).link l.2 l.1).free;
      counts = λ key is other. counts key (counted key is other);
      crowds = crowds;
      extended_crowds = extendeds;
    };
  }

-- what an unconditional blame answers
pub name_answer : (h : Keys) (n : Naming) (r : VolumeRefusal) → BlamesName h n r → IsNamesAnswer (Refused r)
name_answer h n r (pass.bad dir bad is) = subst (λ (x : VolumeRefusal). IsNamesAnswer (Refused x)) (sym is) tt
name_answer h n r (pass.link dir counts (pass.long size is)) = subst (λ (x : VolumeRefusal). IsNamesAnswer (Refused x)) (sym is) tt
name_answer h n r (pass.link dir counts (pass.to_root to is)) = subst (λ (x : VolumeRefusal). IsNamesAnswer (Refused x)) (sym is) tt
name_answer h n r (pass.link dir counts (pass.taken at name is)) = subst (λ (x : VolumeRefusal). IsNamesAnswer (Refused x)) (sym is) tt

pub twice_answer : (ns : List Naming) (e : VolAnswer) → BlamesTwice ns e → IsNamesAnswer e
twice_answer ns (Refused r) b = subst (λ (x : VolumeRefusal). IsNamesAnswer (Refused x)) (sym b.1.4) tt
twice_answer ns Fault b = b
twice_answer ns Memory b = tt

pub crowd_answer : (ns : List Naming) (e : VolAnswer) → BlamesCrowd ns e → IsNamesAnswer e
crowd_answer ns (Refused r) b = subst (λ (x : VolumeRefusal). IsNamesAnswer (Refused x)) (sym b.1.2) tt
crowd_answer ns Fault b = b
crowd_answer ns Memory b = tt

pub extended_answer : (keys : List ObjectKey) (ns : List Naming) (e : VolAnswer) → BlamesExtended keys ns e → IsNamesAnswer e
extended_answer keys ns (Refused r) b = subst (λ (x : VolumeRefusal). IsNamesAnswer (Refused x)) (sym b.1.2) tt
extended_answer keys ns Fault b = b
extended_answer keys ns Memory b = tt

-- The links of a volume as the entries of its directories.
use Rattle.convert_trees_laws.proofs.Imports.{◌≡◌, List, [], ◌∷◌, ◌++◌, map, Contains, refl, sym, ap, subst, ◌∙◌, from_filter, from_map, in_filter, in_map, ObjectKey, Naming, same_key, same_key-true, same_key-self, IndexedLink, indexed_links, entries_behind, names_in}
use Rattle.convert_trees_laws.proofs.Lists.{Apart, apart_kept, apart_unmap}

abbrev pub link_of : IndexedLink → Naming
link_of e = e.link

behind_links : (before ls : List Naming) → map link_of (entries_behind before ls) ≡ ls
behind_links before [] = refl
behind_links before (n ∷ ls) = ap (λ (l : List Naming). n ∷ l) (behind_links (before ++ n ∷ []) ls)

-- an entry of a directory is a link in it
pub record IsLink (links : List Naming) (dir : ObjectKey) (n : Naming) : Type 0 where
  pub among : Contains links n
  pub dir_is : n.dir ≡ dir

pub is_link : (links : List Naming) (dir : ObjectKey) (e : IndexedLink) → Contains (names_in links dir) e → IsLink links dir e.link
is_link links dir e h =
    let kept = from_filter (λ (f : IndexedLink). same_key f.link.dir dir) (indexed_links links) e h in
    record { among = subst (λ (l : List Naming). Contains l e.link) (behind_links [] links) (in_map link_of (indexed_links links) e kept.0); dir_is = same_key-true e.link.dir dir kept.1 }

-- and a link in it one of its entries
pub link_is : (links : List Naming) (n : Naming) → Contains links n → (e : IndexedLink) × Contains (names_in links n.dir) e × (e.link ≡ n)
link_is links n h =
    let found = from_map link_of (indexed_links links) n (subst (λ (l : List Naming). Contains l n) (sym (behind_links [] links)) h) in
    (found.0, in_filter (λ (f : IndexedLink). same_key f.link.dir n.dir) (indexed_links links) found.0 found.1 (ap (λ (m : Naming). same_key m.dir n.dir) found.2 ∙ same_key-self n.dir), found.2)

-- what holds of each two links holds of each two entries of a directory
pub entries_apart : (R : Naming → Naming → Type 0) (links : List Naming) (dir : ObjectKey) → Apart R links → Apart (λ (e f : IndexedLink). R e.link f.link) (names_in links dir)
entries_apart R links dir apart =
    apart_kept (λ (e f : IndexedLink). R e.link f.link) (λ (e : IndexedLink). same_key e.link.dir dir) (indexed_links links)
    (apart_unmap R link_of (indexed_links links) (subst (Apart R) (sym (behind_links [] links)) apart))

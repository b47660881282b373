-- Items that are noted one after the other.
use Rattle.btr_check_fields.proofs.Imports.{◌≡◌, ℕ, ◌==◌, Bool, true, false, List, [], ◌∷◌, ◌++◌, cond, map, Option, Some, None, if◌then◌else◌, refl, sym, ap, ap₂, subst, ◌∙◌, Contains, option_map, eqb-true, append-nil, map-append, All-contains, Contains-append_left, Contains-append_right, filter-append, filter_passes, BLOCK_GROUP_ITEM, DEV_EXTENT, Key, Item, block_group_of, dev_extent_of, BlockGroup, DevExtent, ChunkAt, AreExtentsOf, object_of, of_kind, HoldsRead, extents_in, groups_in, offset_of, AreReadOf, extent_at, group_at, ExtentAt, GroupAt}
use Rattle.btr_check_rules.specs.btr_reader.btr_reader_walk.Events.{TreeItem}
use Rattle.btr_check_rules.specs.btr_reader.btr_reader_walk.Tree.{bare_item}
use Rattle.btr_check_fields.proofs.ExtentRules.{off_grammar}
use Rattle.btr_check_fields.proofs.Listing.{at_head}

abbrev one_of : ℕ → Item → List Item
one_of kind i = cond (i.0.kind == kind) (i ∷ []) []

-- the items of a kind with one more
more_of : (kind : ℕ) (items : List TreeItem) (i : TreeItem) → of_kind kind (map bare_item (items ++ i ∷ [])) ≡ of_kind kind (map bare_item items) ++ one_of kind (bare_item i)
more_of kind items i =
    ap (of_kind kind) (map-append bare_item items (i ∷ [])) ∙ filter-append (λ (j : Item). j.0.kind == kind) (map bare_item items) (bare_item i ∷ [])

-- an item of another kind
pub passed_over : {A : Type 0} (at : Item → ℕ) (read : Item → Option A) (kind : ℕ) (items : List TreeItem) (i : TreeItem) (found : List A) (wrong : Option ℕ) → (i.key.kind == kind) ≡ false
    → HoldsRead at read (of_kind kind (map bare_item items)) found wrong → HoldsRead at read (of_kind kind (map bare_item (items ++ i ∷ []))) found wrong
passed_over at read kind items i found wrong other holds =
    subst (λ (l : List Item). HoldsRead at read l found wrong)
    (sym (more_of kind items i ∙ (ap (λ (b : Bool). of_kind kind (map bare_item items) ++ cond b (bare_item i ∷ []) []) other ∙ append-nil (of_kind kind (map bare_item items))))) holds

one_more : {A : Type 0} (at : Item → ℕ) (read : Item → Option A) (kind : ℕ) (items : List TreeItem) (i : TreeItem) (found : List A) (wrong : Option ℕ) → (i.key.kind == kind) ≡ true
    → HoldsRead at read (of_kind kind (map bare_item items) ++ bare_item i ∷ []) found wrong → HoldsRead at read (of_kind kind (map bare_item (items ++ i ∷ []))) found wrong
one_more at read kind items i found wrong own holds =
    subst (λ (l : List Item). HoldsRead at read l found wrong) (sym (more_of kind items i ∙ ap (λ (b : Bool). of_kind kind (map bare_item items) ++ cond b (bare_item i ∷ []) []) own)) holds

read_more : {A : Type 0} (at : Item → ℕ) (read : Item → Option A) (items : List Item) (i : Item) (found : List A) (x : A) (wrong : Option ℕ) → read i ≡ Some x → HoldsRead at read items found wrong
    → HoldsRead at read (items ++ i ∷ []) (found ++ x ∷ []) wrong
read_more at read items i found x None is are =
    map-append read items (i ∷ []) ∙ (ap₂ (λ (a b : List (Option _)). a ++ b) are (ap (λ (o : Option _). o ∷ []) is) ∙ sym (map-append Some found (x ∷ [])))
read_more at read items i found x (Some a) is (j, h, here, none) = (j, Contains-append_left items (i ∷ []) j h, here, none)

-- an item that was read
pub taken : {A : Type 0} (at : Item → ℕ) (read : Item → Option A) (kind : ℕ) (items : List TreeItem) (i : TreeItem) (found : List A) (x : A) (wrong : Option ℕ) → (i.key.kind == kind) ≡ true → read (bare_item i) ≡ Some x
    → HoldsRead at read (of_kind kind (map bare_item items)) found wrong → HoldsRead at read (of_kind kind (map bare_item (items ++ i ∷ []))) (found ++ x ∷ []) wrong
taken at read kind items i found x wrong own is holds =
    one_more at read kind items i (found ++ x ∷ []) wrong own (read_more at read (of_kind kind (map bare_item items)) (bare_item i) found x wrong is holds)

-- an item that is off its grammar
pub refused : {A : Type 0} (at : Item → ℕ) (read : Item → Option A) (kind : ℕ) (items : List TreeItem) (i : TreeItem) (found : List A) → (i.key.kind == kind) ≡ true → read (bare_item i) ≡ None
    → HoldsRead at read (of_kind kind (map bare_item (items ++ i ∷ []))) found (Some (at (bare_item i)))
refused at read kind items i found own is =
    one_more at read kind items i found (Some (at (bare_item i))) own (bare_item i, Contains-append_right (of_kind kind (map bare_item items)) (bare_item i ∷ []) (bare_item i) (at_head (bare_item i) []), refl, is)

-- ---- device extents

same_kind : (kind : ℕ) (k key : Key) → k ≡ key → (key.kind == kind) ≡ true → (k.kind == kind) ≡ true
same_kind kind k key same is = ap (λ (x : Key). x.kind == kind) same ∙ is

abbrev extent_by : Key → Option DevExtent → Option ExtentAt
extent_by key body = option_map (λ extent. record { devid = key.objectid; offset = key.offset; extent = extent }) body

extent_is : (i : TreeItem) (key : Key) (body : List ℕ) (read : Option DevExtent) → i.key ≡ key → i.body ≡ body → (key.kind == DEV_EXTENT) ≡ true → read ≡ dev_extent_of body → extent_at (bare_item i) ≡ extent_by key read
extent_is i key body read named told kind is =
    ap (λ (b : Bool). if b then extent_by i.key (dev_extent_of i.body) else None) (same_kind DEV_EXTENT i.key key named kind)
    ∙ (ap (λ (k : Key). extent_by k (dev_extent_of i.body)) named ∙ (ap (λ (b : List ℕ). extent_by key (dev_extent_of b)) told ∙ ap (extent_by key) (sym is)))

pub extent_passed : (items : List TreeItem) (i : TreeItem) (key : Key) (found : List ExtentAt) (wrong : Option ℕ) → i.key ≡ key → (key.kind == DEV_EXTENT) ≡ false
    → HoldsRead offset_of extent_at (extents_in items) found wrong → HoldsRead offset_of extent_at (extents_in (items ++ i ∷ [])) found wrong
extent_passed items i key found wrong named other holds = passed_over offset_of extent_at DEV_EXTENT items i found wrong (ap (λ (k : Key). k.kind == DEV_EXTENT) named ∙ other) holds

pub extent_taken : (items : List TreeItem) (i : TreeItem) (key : Key) (body : List ℕ) (found more : List ExtentAt) (extent : DevExtent) (wrong : Option ℕ) → i.key ≡ key → i.body ≡ body → (key.kind == DEV_EXTENT) ≡ true
    → Some extent ≡ dev_extent_of body → more ≡ found ++ record { devid = key.objectid; offset = key.offset; extent = extent } ∷ []
    → HoldsRead offset_of extent_at (extents_in items) found wrong → HoldsRead offset_of extent_at (extents_in (items ++ i ∷ [])) more wrong
extent_taken items i key body found more extent wrong named told kind is pushed holds =
    subst (λ (l : List ExtentAt). HoldsRead offset_of extent_at (extents_in (items ++ i ∷ [])) l wrong) (sym pushed)
    (taken offset_of extent_at DEV_EXTENT items i found (record { devid = key.objectid; offset = key.offset; extent = extent }) wrong (same_kind DEV_EXTENT i.key key named kind) (extent_is i key body (Some extent) named told kind is) holds)

pub extent_refused : (items : List TreeItem) (i : TreeItem) (key : Key) (body : List ℕ) (found : List ExtentAt) → i.key ≡ key → i.body ≡ body → (key.kind == DEV_EXTENT) ≡ true → None ≡ dev_extent_of body
    → HoldsRead offset_of extent_at (extents_in (items ++ i ∷ [])) found (Some key.offset)
extent_refused items i key body found named told kind is =
    subst (λ (a : ℕ). HoldsRead offset_of extent_at (extents_in (items ++ i ∷ [])) found (Some a)) (ap (λ (k : Key). k.offset) named)
    (refused offset_of extent_at DEV_EXTENT items i found (same_kind DEV_EXTENT i.key key named kind) (extent_is i key body None named told kind is))

-- ---- block groups

abbrev group_by : Key → Option BlockGroup → Option GroupAt
group_by key body = option_map (λ group. record { start = key.objectid; length = key.offset; group = group }) body

group_is : (i : TreeItem) (key : Key) (body : List ℕ) (read : Option BlockGroup) → i.key ≡ key → i.body ≡ body → (key.kind == BLOCK_GROUP_ITEM) ≡ true → read ≡ block_group_of body → group_at (bare_item i) ≡ group_by key read
group_is i key body read named told kind is =
    ap (λ (b : Bool). if b then group_by i.key (block_group_of i.body) else None) (same_kind BLOCK_GROUP_ITEM i.key key named kind)
    ∙ (ap (λ (k : Key). group_by k (block_group_of i.body)) named ∙ (ap (λ (b : List ℕ). group_by key (block_group_of b)) told ∙ ap (group_by key) (sym is)))

pub group_passed : (items : List TreeItem) (i : TreeItem) (key : Key) (found : List GroupAt) (wrong : Option ℕ) → i.key ≡ key → (key.kind == BLOCK_GROUP_ITEM) ≡ false
    → HoldsRead object_of group_at (groups_in items) found wrong → HoldsRead object_of group_at (groups_in (items ++ i ∷ [])) found wrong
group_passed items i key found wrong named other holds = passed_over object_of group_at BLOCK_GROUP_ITEM items i found wrong (ap (λ (k : Key). k.kind == BLOCK_GROUP_ITEM) named ∙ other) holds

pub group_taken : (items : List TreeItem) (i : TreeItem) (key : Key) (body : List ℕ) (found more : List GroupAt) (group : BlockGroup) (wrong : Option ℕ) → i.key ≡ key → i.body ≡ body → (key.kind == BLOCK_GROUP_ITEM) ≡ true
    → Some group ≡ block_group_of body → more ≡ found ++ record { start = key.objectid; length = key.offset; group = group } ∷ []
    → HoldsRead object_of group_at (groups_in items) found wrong → HoldsRead object_of group_at (groups_in (items ++ i ∷ [])) more wrong
group_taken items i key body found more group wrong named told kind is pushed holds =
    subst (λ (l : List GroupAt). HoldsRead object_of group_at (groups_in (items ++ i ∷ [])) l wrong) (sym pushed)
    (taken object_of group_at BLOCK_GROUP_ITEM items i found (record { start = key.objectid; length = key.offset; group = group }) wrong (same_kind BLOCK_GROUP_ITEM i.key key named kind) (group_is i key body (Some group) named told kind is) holds)

pub group_refused : (items : List TreeItem) (i : TreeItem) (key : Key) (body : List ℕ) (found : List GroupAt) → i.key ≡ key → i.body ≡ body → (key.kind == BLOCK_GROUP_ITEM) ≡ true → None ≡ block_group_of body
    → HoldsRead object_of group_at (groups_in (items ++ i ∷ [])) found (Some key.objectid)
group_refused items i key body found named told kind is =
    subst (λ (a : ℕ). HoldsRead object_of group_at (groups_in (items ++ i ∷ [])) found (Some a)) (ap (λ (k : Key). k.objectid) named)
    (refused object_of group_at BLOCK_GROUP_ITEM items i found (same_kind BLOCK_GROUP_ITEM i.key key named kind) (group_is i key body None named told kind is))

-- ---- what was noted, judged

extent_kind : (items : List TreeItem) (i : Item) → Contains (extents_in items) i → i.0.kind ≡ DEV_EXTENT
extent_kind items i h = eqb-true i.0.kind DEV_EXTENT (All-contains (λ (j : Item). (j.0.kind == DEV_EXTENT) ≡ true) (extents_in items) i (filter_passes (λ (j : Item). j.0.kind == DEV_EXTENT) (map bare_item items)) h)

judged : (chunks : List ChunkAt) (items : List TreeItem) (found : List ExtentAt) (a : ℕ) → HoldsRead offset_of extent_at (extents_in items) found (Some a) → ¬ AreExtentsOf chunks (extents_in items) a
judged chunks items found a (i, h, at, none) = off_grammar chunks (extents_in items) a (extent_kind items) i h at none

pub judged_wrong : (chunks : List ChunkAt) (items : List TreeItem) (found : List ExtentAt) (wrong : Option ℕ) (a : ℕ) → wrong ≡ Some a → HoldsRead offset_of extent_at (extents_in items) found wrong → ¬ AreExtentsOf chunks (extents_in items) a
judged_wrong chunks items found wrong a is holds = judged chunks items found a (subst (HoldsRead offset_of extent_at (extents_in items) found) is holds)

pub judged_right : (items : List TreeItem) (found list : List ExtentAt) (wrong : Option ℕ) → wrong ≡ None → list ≡ found → HoldsRead offset_of extent_at (extents_in items) found wrong → AreReadOf extent_at (extents_in items) list
judged_right items found list wrong is same holds = subst (AreReadOf extent_at (extents_in items)) (sym same) (subst (HoldsRead offset_of extent_at (extents_in items) found) is holds)

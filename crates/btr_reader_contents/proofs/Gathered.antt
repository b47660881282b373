-- What is gathered, with one more item.
use Rattle.btr_reader_contents.proofs.Imports.{◌≡◌, inl, inr, ℕ, ◌≤◌, ◌<◌, ◌==◌, nat_eq, Bool, true, false, ◌&&◌, if◌then◌else◌, is_some, List, [], ◌∷◌, ◌++◌, length, replicate, map, Contains, Option, Some, None, refl, sym, ◌∙◌, ap, subst, arith, range_with_len, eqb-true, nat_tests, Contains-append_left, filter-append, Image, BtrRefusal, mark_of_bytes, Key, MapRange, Tree, TreeItem, Blames, found, wrong, is_extent_of, extents_of, extents_refusals, file_byte, bytes_of_inode, MarksExtents, Content, Hand, Wanted, content_of, content_in, TellsContent, HasContents, RefusesExtents, RefusesContents, item_wanted, HoldsHand, AllBefore, HandAt, HasGathered}
use Rattle.btr_reader_walk.specs.refusals.declared.answer.BtrAnswer.TheVariants.{Refused, Fault, Memory}
use Rattle.std.proofs.lemmas.List.FromFn.{length-map-range_with_len}
use Rattle.btr_reader_walk.specs.btrfs_format.declared.key.TheConstants.{EXTENT_DATA}
use Rattle.btr_reader_walk.specs.refusals.declared.answer.BtrAnswer.{BtrAnswer}
use Rattle.btr_reader_contents.proofs.ExtentLists.{extents_of-one, extents_of-other, extents_refusals-append}

-- a content by its parts
abbrev made : ℕ → List ℕ → List ℕ → Content
made length mark target = record { length = length; mark = mark; target = target }

pub content_made : (link : Bool) (bytes : List ℕ) (n : ℕ) (mark target : List ℕ) → n ≡ length bytes → mark ≡ (if link then replicate 32 0 else mark_of_bytes bytes) → target ≡ (if link then bytes else [])
    → made n mark target ≡ content_of link bytes
content_made link bytes n mark target is_length is_mark is_target =
    ap (λ (z : ℕ). made z mark target) is_length ∙ (ap (λ (z : List ℕ). made (length bytes) z target) is_mark ∙ ap (λ (z : List ℕ). made (length bytes) (if link then replicate 32 0 else mark_of_bytes bytes) z) is_target)

pub bytes_length : (image : Image) (ranges : List MapRange) (items : List TreeItem) (ino size : ℕ) → size ≡ length (bytes_of_inode image ranges items ino size)
bytes_length image ranges items ino size = sym (length-map-range_with_len (file_byte image ranges (extents_of items ino)) 0 size)

-- what is wrong with the extent in hand
pub hand_refuses : (plan : ℕ → Option Wanted) (ranges : List MapRange) (given : List TreeItem) (i : TreeItem) (ino : ℕ) (w : Wanted) (e : BtrAnswer) → plan ino ≡ Some w → is_extent_of ino i ≡ true
    → Blames (extents_refusals ranges 0 0 (extents_of given ino ++ i ∷ [])) e → RefusesExtents plan ranges (given ++ i ∷ []) e
hand_refuses plan ranges given i ino w (Refused r) planned own bad = record {
  ino = ino;
  wanted = w;
  planned = planned;
  among = subst (λ (z : List TreeItem). Contains (extents_refusals ranges 0 0 z) r) (sym (extents_of-one given i ino own)) bad;
}
hand_refuses plan ranges given i ino w Fault planned own bad = tt
hand_refuses plan ranges given i ino w Memory planned own bad = tt

-- what is wrong with the first items is wrong with all
pub refuses_all : (plan : ℕ → Option Wanted) (image : Image) (ranges : List MapRange) (tree : Tree) (given later : List TreeItem) (e : BtrAnswer) → found image ranges tree ≡ given ++ later
    → RefusesExtents plan ranges given e → RefusesContents plan image ranges tree e
refuses_all plan image ranges tree given later (Refused r) parts bad =
    inr (record {
      ino = bad.ino;
      wanted = bad.wanted;
      planned = bad.planned;
      among =
          subst (λ (z : List BtrRefusal). Contains z r)
          (sym (ap (λ (z : List TreeItem). extents_refusals ranges 0 0 (extents_of z bad.ino)) parts
          ∙ (ap (extents_refusals ranges 0 0) (filter-append (is_extent_of bad.ino) given later) ∙ extents_refusals-append ranges 0 0 (extents_of given bad.ino) (extents_of later bad.ino))))
          (Contains-append_left (extents_refusals ranges 0 0 (extents_of given bad.ino)) _ r bad.among);
    })
refuses_all plan image ranges tree given later Fault parts bad = tt
refuses_all plan image ranges tree given later Memory parts bad = tt

pub refuses_tree : (plan : ℕ → Option Wanted) (image : Image) (ranges : List MapRange) (tree : Tree) (e : BtrAnswer) → Blames (wrong image ranges tree) e → RefusesContents plan image ranges tree e
refuses_tree plan image ranges tree (Refused r) bad = inl bad
refuses_tree plan image ranges tree Fault bad = tt
refuses_tree plan image ranges tree Memory bad = tt

-- what is told depends on the extents alone
tells_same : (image : Image) (ranges : List MapRange) (xs ys : List TreeItem) (ino : ℕ) (w : Wanted) (o : Option Content) → extents_of ys ino ≡ extents_of xs ino → TellsContent image ranges xs ino w o → TellsContent image ranges ys ino w o
tells_same image ranges xs ys ino w None same h = same ∙ h
tells_same image ranges xs ys ino w (Some c) same h = record {
  is = h.is ∙ sym (ap (λ (z : List TreeItem). content_of w.link (map (file_byte image ranges z) (range_with_len 0 w.size))) same);
  sound = ap (extents_refusals ranges 0 0) same ∙ h.sound;
}

some_same : {A : Type 0} (o : Option A) (x y : A) → o ≡ Some x → o ≡ Some y → x ≡ y
some_same o x y a b = inside (sym a ∙ b)
  where
    inside : Some x ≡ Some y → x ≡ y
    inside e = cc e

none_some : {A : Type 0} (o : Option A) (x : A) → None ≡ o → o ≡ Some x → ⊥
none_some o x none is = no_some (none ∙ is)
  where
    no_some : None ≡ Some x → ⊥
    no_some e = cc e

pub no_number : (n : ℕ) (i : TreeItem) → (i.key.objectid == n) ≡ false → is_extent_of n i ≡ false
no_number n i is = ap (λ (t : Bool). t && (i.key.kind == EXTENT_DATA)) is

-- the extents of a wanted inode, with an item that is of none
pub passed : (plan : ℕ → Option Wanted) (given : List TreeItem) (i : TreeItem) (n : ℕ) (w : Wanted) → None ≡ item_wanted plan i.key → plan n ≡ Some w → extents_of (given ++ i ∷ []) n ≡ extents_of given n
passed plan given i n w none planned = extents_of-other given i n (by (i.key.kind == EXTENT_DATA) (i.key.objectid == n) refl refl)
  where
    by : (k t : Bool) → (i.key.kind == EXTENT_DATA) ≡ k → (i.key.objectid == n) ≡ t → is_extent_of n i ≡ false
    by k false kind number = no_number n i number
    by false true kind number = ap (λ (t : Bool). t && (i.key.kind == EXTENT_DATA)) number ∙ kind
    by true true kind number =
        absurd (none_some (plan n) w (none ∙ (ap (λ (t : Bool). if t then plan i.key.objectid else None) kind ∙ ap plan (eqb-true i.key.objectid n number))) planned)

module _ (plan : ℕ → Option Wanted) (image : Image) (ranges : List MapRange) where
  pub pass_over : (given : List TreeItem) (i : TreeItem) (top : ℕ) (told : ℕ → Option Content) (hand : Option Hand) → None ≡ item_wanted plan i.key → top ≤ i.key.objectid → HasGathered plan image ranges given top told hand
      → HasGathered plan image ranges (given ++ i ∷ []) i.key.objectid told hand
  pass_over given i top told hand none le has = record {
    others = λ n w planned other. tells_same image ranges given (given ++ i ∷ []) n w (told n) (passed plan given i n w none planned) (has.others n w planned other);
    at = at hand has.at;
  }
    where
      at : (o : Option Hand) → HandAt plan image ranges given top told o → HandAt plan image ranges (given ++ i ∷ []) i.key.objectid told o
      at None before = before
      at (Some h) (held, before, upto) = (
        record {
          planned = held.planned;
          size = held.size;
          marks = subst (λ (z : List TreeItem). MarksExtents h.marker image ranges z) (sym (passed plan given i h.ino h.wanted none held.planned)) held.marks;
        },
        before,
        omega (arith, upto, le),
      )

  -- an inode that is not before `ino` is not finished
  untold : (told : ℕ → Option Content) (bound n : ℕ) (o : Option Content) → AllBefore bound told → told n ≡ o → bound ≤ n → None ≡ o
  untold told bound n None before is le = refl
  untold told bound n (Some c) before is le =
      let lt : n < bound = before n (ap is_some is) in
      absurd (omega (arith, lt, le))

  no_extents : (given : List TreeItem) (told : ℕ → Option Content) (bound n : ℕ) (w : Wanted) → AllBefore bound told → bound ≤ n → TellsContent image ranges given n w (told n) → extents_of given n ≡ []
  no_extents given told bound n w before le tells = subst (TellsContent image ranges given n w) (sym (untold told bound n (told n) before refl le)) tells

  -- the first file in hand
  pub first_hand : (given : List TreeItem) (top ino : ℕ) (w : Wanted) (told : ℕ → Option Content) (h : Hand) → plan ino ≡ Some w → HasGathered plan image ranges given top told None → h.ino ≡ ino
      → (extents_of given ino ≡ [] → HoldsHand plan image ranges given h) → HasGathered plan image ranges given ino told (Some h)
  first_hand given top ino w told h planned has number holds =
      let none : extents_of given ino ≡ [] = no_extents given told 0 ino w has.at (omega arith) (has.others ino w planned refl) in
      record {
        others = λ n v is other. has.others n v is refl;
        at = (holds none, λ done is. absurd (low done (has.at done is)), omega (arith, number));
      }
    where
      low : (n : ℕ) → n < 0 → ⊥
      low n lt = omega (arith, lt)

  -- another inode's content was finished
  abbrev Finishes : List TreeItem → Hand → (ℕ → Option Content) → (ℕ → Option Content) → Type 0
  Finishes given h told now = (n : ℕ) → now n ≡ (if nat_eq h.ino n then Some (content_in image ranges given h.ino h.wanted) else told n)

  tells_finished : (given : List TreeItem) (h : Hand) (told now : ℕ → Option Content) (n : ℕ) (w : Wanted) (t : Bool) → (h.ino == n) ≡ t → HoldsHand plan image ranges given h → Finishes given h told now → plan n ≡ Some w
      → (t ≡ false → TellsContent image ranges given n w (told n)) → TellsContent image ranges given n w (now n)
  tells_finished given h told now n w true is held finishes planned other =
      let number : h.ino ≡ n = eqb-true h.ino n is in
      let same : h.wanted ≡ w = some_same (plan n) h.wanted w (sym (ap plan number) ∙ held.planned) planned in
      subst (TellsContent image ranges given n w) (sym (finishes n ∙ ap (λ (t : Bool). if t then Some (content_in image ranges given h.ino h.wanted) else told n) is))
      (record {
        is = ap (λ (k : ℕ). content_in image ranges given k h.wanted) number ∙ ap (λ (v : Wanted). content_in image ranges given n v) same;
        sound = subst (λ (k : ℕ). extents_refusals ranges 0 0 (extents_of given k) ≡ []) number held.marks.reaches.sound;
      })
  tells_finished given h told now n w false is held finishes planned other =
      subst (TellsContent image ranges given n w) (sym (finishes n ∙ ap (λ (t : Bool). if t then Some (content_in image ranges given h.ino h.wanted) else told n) is)) (other refl)

  before_next : (given : List TreeItem) (h : Hand) (told now : ℕ → Option Content) (ino n : ℕ) (t : Bool) → (h.ino == n) ≡ t → Finishes given h told now → AllBefore h.ino told → h.ino < ino → is_some (now n) ≡ true → n < ino
  before_next given h told now ino n true is finishes before lt some =
      let number : h.ino ≡ n = eqb-true h.ino n is in
      omega (arith, number, lt)
  before_next given h told now ino n false is finishes before lt some =
      let earlier : n < h.ino = before n (ap is_some (sym (finishes n ∙ ap (λ (t : Bool). if t then Some (content_in image ranges given h.ino h.wanted) else told n) is)) ∙ some) in
      omega (arith, earlier, lt)

  pub next_hand : (given : List TreeItem) (top ino : ℕ) (w : Wanted) (told now : ℕ → Option Content) (h k : Hand) → plan ino ≡ Some w → top ≤ ino → (h.ino == ino) ≡ false → HasGathered plan image ranges given top told (Some h)
      → Finishes given h told now → k.ino ≡ ino → (extents_of given ino ≡ [] → HoldsHand plan image ranges given k) → HasGathered plan image ranges given ino now (Some k)
  next_hand given top ino w told now h k planned le apart has finishes number holds =
      let held = has.at.0 in
      let before = has.at.1 in
      let upto : h.ino ≤ top = has.at.2 in
      let lt : h.ino < ino = grind (arith, nat_tests, apart, upto, le) in
      let at_most : h.ino ≤ ino = omega (arith, lt) in
      let none : extents_of given ino ≡ [] = no_extents given told h.ino ino w before at_most (has.others ino w planned apart) in
      record {
        others = λ n v is other. tells_finished given h told now n v (h.ino == n) refl held finishes is (has.others n v is);
        at = (holds none, λ n some. subst (λ (m : ℕ). n < m) (sym number) (before_next given h told now ino n (h.ino == n) refl finishes before lt some), omega (arith, number));
      }

  -- the file in hand was given one more extent
  pub hand_added : (given : List TreeItem) (i : TreeItem) (told : ℕ → Option Content) (h k : Hand) → HasGathered plan image ranges given i.key.objectid told (Some h) → h.ino ≡ i.key.objectid → k.ino ≡ h.ino
      → HoldsHand plan image ranges (given ++ i ∷ []) k → HasGathered plan image ranges (given ++ i ∷ []) i.key.objectid told (Some k)
  hand_added given i told h k has number same held = record {
    others =
        λ n w planned other.
        let apart : (h.ino == n) ≡ false = ap (λ (m : ℕ). m == n) (sym same) ∙ other in
        tells_same image ranges given (given ++ i ∷ []) n w (told n) (extents_of-other given i n (no_number n i (ap (λ (m : ℕ). m == n) (sym number) ∙ apart))) (has.others n w planned apart);
    at = (held, subst (λ (m : ℕ). AllBefore m told) (sym same) has.at.1, omega (arith, same, number));
  }

  -- all is finished
  pub last_finished : (given : List TreeItem) (top : ℕ) (told now : ℕ → Option Content) (h : Hand) → HasGathered plan image ranges given top told (Some h) → Finishes given h told now → HasContents plan image ranges given now
  last_finished given top told now h has finishes n w planned = tells_finished given h told now n w (h.ino == n) refl has.at.0 finishes planned (has.others n w planned)

-- what an item that is wanted is
pub wanted_extent : (plan : ℕ → Option Wanted) (key : Key) (w : Wanted) → Some w ≡ item_wanted plan key → (plan key.objectid ≡ Some w) × ((key.kind == EXTENT_DATA) ≡ true)
wanted_extent plan key w is = by (key.kind == EXTENT_DATA) refl
  where
    no : Some w ≡ None → ⊥
    no e = cc e

    by : (t : Bool) → (key.kind == EXTENT_DATA) ≡ t → (plan key.objectid ≡ Some w) × ((key.kind == EXTENT_DATA) ≡ true)
    by true kind = (sym (is ∙ ap (λ (t : Bool). if t then plan key.objectid else None) kind), kind)
    by false kind = absurd (no (is ∙ ap (λ (t : Bool). if t then plan key.objectid else None) kind))

pub own_extent : (i : TreeItem) (ino : ℕ) → ino ≡ i.key.objectid → (i.key.kind == EXTENT_DATA) ≡ true → is_extent_of ino i ≡ true
own_extent i ino number kind = subst (λ (n : ℕ). is_extent_of n i ≡ true) (sym number) (ap (λ (t : Bool). t && (i.key.kind == EXTENT_DATA)) (self i.key.objectid) ∙ kind)
  where
    self : (n : ℕ) → (n == n) ≡ true
    self n = grind (arith, nat_tests)

-- What is wrong with the extents of what is kept, and with those of named files and symlinks.
use Rattle.btr_reader.proofs.Imports.{◌≡◌, ◌⊎◌, inl, inr, ⊎_elim, ℕ, ◌≤◌, nat_le, Bool, true, false, if◌then◌else◌, List, [], Contains, Option, Some, None, refl, sym, ◌∙◌, ap, subst, arith, cases_lt, nat_tests, option_and_then, Image, BtrRefusal, Inode, MapRange, TreeItem, extents_of, extents_refusals, Kind, File, Symlink, NodeId, inode_on, kind_of_mode, HasKind, IsNamedInode, KeepsNames, inode_node, AreNamed, Content, Wanted, wanted_by, wanted_inode, wanted_at, TellsContent, HasContents, BreaksExtents}
use Rattle.btr_reader_contents.specs.Contents as kept
use Rattle.btr_reader.proofs.Known.{not_long}

no_some : {A : Type 0} (x : A) → None ≡ Some x → ⊥
no_some x e = cc e

wanted_kind : (size : ℕ) (k : Kind) (w : Wanted) → wanted_by size k ≡ Some w → (k ≡ File) ⊎ (k ≡ Symlink)
wanted_kind size File w is = inl refl
wanted_kind size Symlink w is = inr refl
wanted_kind size _ w is = absurd (no_some w is)

-- what is wanted is a named file or symlink
kind_in : (items : List TreeItem) (ino : ℕ) (own : Inode) (w : Wanted) (k : Option Kind) → inode_on items ino ≡ Some own → kind_of_mode own.mode ≡ k → option_and_then (wanted_by own.size) k ≡ Some w
    → HasKind items ino File ⊎ HasKind items ino Symlink
kind_in items ino own w None on kind is = absurd (no_some w is)
kind_in items ino own w (Some k) on kind is = by (wanted_kind own.size k w is)
  where
    by : (k ≡ File) ⊎ (k ≡ Symlink) → HasKind items ino File ⊎ HasKind items ino Symlink
    by (inl file) = inl (own, on, kind ∙ ap (λ (x : Kind). Some x) file)
    by (inr link) = inr (own, on, kind ∙ ap (λ (x : Kind). Some x) link)

inode_in : (items : List TreeItem) (ino : ℕ) (w : Wanted) (o : Option Inode) → inode_on items ino ≡ o → option_and_then wanted_inode o ≡ Some w → HasKind items ino File ⊎ HasKind items ino Symlink
inode_in items ino w None on is = absurd (no_some w is)
inode_in items ino w (Some own) on is = kind_in items ino own w (kind_of_mode own.mode) on refl is

pub breaks_named : (has : NodeId → Bool) (ranges : List MapRange) (items : List TreeItem) (r : BtrRefusal) → AreNamed items has → kept.BreaksWantedExtents (wanted_at has items) ranges items r → BreaksExtents ranges items r
breaks_named has ranges items r named b = by (has (inode_node b.ino)) refl
  where
    by : (t : Bool) → has (inode_node b.ino) ≡ t → BreaksExtents ranges items r
    by true is = record {
      ino = b.ino;
      named = (named.sound (inode_node b.ino) is).1;
      kind = inode_in items b.ino b.wanted (inode_on items b.ino) refl (sym (ap (λ (t : Bool). if t then option_and_then wanted_inode (inode_on items b.ino) else None) is) ∙ b.planned);
      among = b.among;
    }
    by false is = absurd (no_some b.wanted (sym (ap (λ (t : Bool). if t then option_and_then wanted_inode (inode_on items b.ino) else None) is) ∙ b.planned))

-- nothing is wrong with the extents of an inode that is told
told_sound : (image : Image) (ranges : List MapRange) (items : List TreeItem) (ino : ℕ) (w : Wanted) (o : Option Content) → TellsContent image ranges items ino w o → extents_refusals ranges 0 0 (extents_of items ino) ≡ []
told_sound image ranges items ino w None h = ap (extents_refusals ranges 0 0) h
told_sound image ranges items ino w (Some c) h = h.sound

pub none_among : (refusals : List BtrRefusal) (r : BtrRefusal) → refusals ≡ [] → Contains refusals r → ⊥
none_among refusals r none among = let h = subst (λ (l : List BtrRefusal). Contains l r) none among in absurd (omega (arith, h.1))

module _ (has_root : ℕ → Bool) (items : List TreeItem) (root_at : ℕ) (keeps : KeepsNames has_root items root_at) (has : NodeId → Bool) (named : AreNamed items has) where
  wanted_of : (ino : ℕ) (own : Inode) (w : Option Wanted) → IsNamedInode items ino → inode_on items ino ≡ Some own → wanted_inode own ≡ w → wanted_at has items ino ≡ w
  wanted_of ino own w is on wants =
      ap (λ (b : Bool). if b then option_and_then wanted_inode (inode_on items ino) else None) (named.whole ino is) ∙ (ap (option_and_then wanted_inode) on ∙ wants)

  file_wanted : (own : Inode) → kind_of_mode own.mode ≡ Some File → wanted_inode own ≡ Some (record { link = false; size = own.size })
  file_wanted own kind = ap (option_and_then (wanted_by own.size)) kind

  short : (ino : ℕ) (own : Inode) → IsNamedInode items ino → inode_on items ino ≡ Some own → kind_of_mode own.mode ≡ Some Symlink → nat_le own.size 4095 ≡ true
  short ino own is on kind =
      let low : own.size ≤ 4095 = ⊎_elim (λ long. absurd (not_long has_root items root_at keeps ino own is on kind long)) (λ low. low) (cases_lt 4095 own.size) in
      grind (arith, nat_tests, low)

  link_wanted : (ino : ℕ) (own : Inode) → IsNamedInode items ino → inode_on items ino ≡ Some own → kind_of_mode own.mode ≡ Some Symlink → wanted_inode own ≡ Some (record { link = true; size = own.size })
  link_wanted ino own is on kind =
      let link : Wanted = record { link = true; size = own.size } in
      ap (option_and_then (wanted_by own.size)) kind ∙ ap (λ (b : Bool). if b then Some link else None) (short ino own is on kind)

  module _ (image : Image) (ranges : List MapRange) (told : ℕ → Option Content) (contents : HasContents (wanted_at has items) image ranges items told) where
    sound_by : (ino : ℕ) → IsNamedInode items ino → HasKind items ino File ⊎ HasKind items ino Symlink → extents_refusals ranges 0 0 (extents_of items ino) ≡ []
    sound_by ino is (inl (own, on, kind)) =
        let w : Wanted = record { link = false; size = own.size } in
        told_sound image ranges items ino w (told ino) (contents ino w (wanted_of ino own (Some w) is on (file_wanted own kind)))
    sound_by ino is (inr (own, on, kind)) =
        let w : Wanted = record { link = true; size = own.size } in
        told_sound image ranges items ino w (told ino) (contents ino w (wanted_of ino own (Some w) is on (link_wanted ino own is on kind)))

    pub extents_sound : (r : BtrRefusal) → BreaksExtents ranges items r → ⊥
    extents_sound r b = none_among (extents_refusals ranges 0 0 (extents_of items b.ino)) r (sound_by b.ino b.named b.kind) b.among

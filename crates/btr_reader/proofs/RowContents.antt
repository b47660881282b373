-- What the row of an inode has of its bytes.
use Rattle.btr_reader.proofs.Imports.{◌≡◌, ℕ, ◌≤◌, nat_le, Bool, true, false, List, [], replicate, Option, Some, None, IfOk, Result, Ok, Err, if◌then◌else◌, refl, sym, ap, ◌∙◌, arith, option_and_then, nat_tests, Image, Inode, MapRange, TreeItem, bytes_of_inode, kind_of_mode, Content, Wanted, wanted_by, wanted_inode, content_of, content_in, Kind, Directory, File, Symlink, Character, Block, Fifo, Socket, Subvolume, bytes_at}
use Rattle.fs_paths.specs.fs_rows.Content.{IsContent}

no_some : {X : Type 0} (x : X) → None ≡ Some x → ⊥
no_some x is = cc is

same_some : {X : Type 0} (x y : X) → Some x ≡ Some y → x ≡ y
same_some x y is = cc is

wanted_is : (own : Inode) (kind : Kind) (o : Option Wanted) → kind_of_mode own.mode ≡ Some kind → wanted_inode own ≡ o → wanted_by own.size kind ≡ o
wanted_is own kind o known is = sym (ap (option_and_then (wanted_by own.size)) known) ∙ is

module _ (image : Image) (ranges : List MapRange) (items : List TreeItem) (ino : ℕ) (own : Inode) where
  abbrev bytes : List ℕ
  bytes = bytes_of_inode image ranges items ino own.size

  abbrev Has : Kind → ℕ → List ℕ → List ℕ → Type 0
  Has kind size mark target = IsContent kind (bytes_at image ranges items ino own kind) size mark target

  same_content : (w v : Wanted) (c : Content) → w ≡ v → c ≡ content_in image ranges items ino v → c ≡ content_in image ranges items ino w
  same_content w v c same is = is ∙ ap (content_in image ranges items ino) (sym same)

  of_file : (c : Content) → c ≡ content_of false bytes → Has File c.length c.mark c.target
  of_file c is = record { is_length = ap (λ (x : Content). x.length) is; is_mark = ap (λ (x : Content). x.mark) is; is_target = ap (λ (x : Content). x.target) is }

  of_link : (c : Content) → c ≡ content_of true bytes → Has Symlink c.length c.mark c.target
  of_link c is = record { is_length = ap (λ (x : Content). x.length) is; is_mark = ap (λ (x : Content). x.mark) is; is_target = ap (λ (x : Content). x.target) is }

  link_kept : (b : Bool) (w : Wanted) (c : Content) → (if b then Some (record { link = true; size = own.size }) else None) ≡ Some w → c ≡ content_in image ranges items ino w → Has Symlink c.length c.mark c.target
  link_kept true w c wanted is = of_link c (same_content (record { link = true; size = own.size }) w c (same_some _ w wanted) is)
  link_kept false w c wanted is = absurd (no_some w wanted)

  kept_by : (kind : Kind) (w : Wanted) (c : Content) → wanted_by own.size kind ≡ Some w → c ≡ content_in image ranges items ino w → Has kind c.length c.mark c.target
  kept_by File w c wanted is = of_file c (same_content (record { link = false; size = own.size }) w c (same_some _ w wanted) is)
  kept_by Symlink w c wanted is = link_kept (nat_le own.size 4095) w c wanted is
  kept_by Directory w c wanted is = absurd (no_some w wanted)
  kept_by Character w c wanted is = absurd (no_some w wanted)
  kept_by Block w c wanted is = absurd (no_some w wanted)
  kept_by Fifo w c wanted is = absurd (no_some w wanted)
  kept_by Socket w c wanted is = absurd (no_some w wanted)
  kept_by Subvolume w c wanted is = absurd (no_some w wanted)

  -- a file and a symlink have what is kept of them
  pub content_kept : {E : Type 0} (kind : Kind) (w : Wanted) (r : Result Content E) → kind_of_mode own.mode ≡ Some kind → wanted_inode own ≡ Some w → IfOk r (λ c. c ≡ content_in image ranges items ino w) → IfOk r (λ c. Has kind c.length c.mark c.target)
  content_kept kind w (Ok c) known wanted is = kept_by kind w c (wanted_is own kind (Some w) known wanted) is
  content_kept kind w (Err e) known wanted is = is

-- What a named object adds to what is gathered of files.
use Rattle.extent_pieces.proofs.Imports.{◌≡◌, ◌⊎◌, ℕ, ◌+◌, ◌^◌, ◌<◌, Bool, false, List, [], ◌∷◌, ◌++◌, take, Option, Some, sym, ◌∙◌, ap, subst, ⊎_elim, All, Contains, slice_get, unwrap_or, take_more, slice_get_within, get_or_from_slice_get, keys, get, Image, Kind, Directory, File, Symlink, Character, Block, Fifo, Socket, Subvolume, ReiserItem, FileRun, file_runs, ObjectKey, ObjectStat, items_of, same_key, is_file, is_symlink, kind_of_mode, ino_of_key, Volume, kind_by, no_stat, stat_at, IsOpened, IsAccepted, volume_items, FileParts, file_at, Gains, Gathers, adds_file, adds_inline}
use Rattle.extent_pieces.proofs.Gathering.{gathers_file, gathers_link, gathers_other}
use Rattle.extent_pieces.proofs.Once.{size_short}
use Rattle.extent_pieces.proofs.Telling.{runs_low}

-- an object of another kind is neither a file nor a symlink
pub other_kind : (kind : Kind) → (kind ≡ Directory) ⊎ ((kind ≡ Character) ⊎ ((kind ≡ Block) ⊎ ((kind ≡ Fifo) ⊎ ((kind ≡ Socket) ⊎ (kind ≡ Subvolume))))) → (is_file kind ≡ false) × (is_symlink kind ≡ false)
other_kind kind is =
    ⊎_elim (λ (e : kind ≡ Directory). (ap is_file e, ap is_symlink e)) (λ r1.
    ⊎_elim (λ (e : kind ≡ Character). (ap is_file e, ap is_symlink e)) (λ r2.
    ⊎_elim (λ (e : kind ≡ Block). (ap is_file e, ap is_symlink e)) (λ r3.
    ⊎_elim (λ (e : kind ≡ Fifo). (ap is_file e, ap is_symlink e)) (λ r4.
    ⊎_elim (λ (e : kind ≡ Socket). (ap is_file e, ap is_symlink e)) (λ (e : kind ≡ Subvolume). (ap is_file e, ap is_symlink e)) r4) r3) r2) r1) is

module _ (image : Image) (volume : Volume) (opened : IsOpened volume image) (i : ℕ) (key : ObjectKey) (at : slice_get (keys volume.named) i ≡ Some key) where
  abbrev items : List ReiserItem
  items = volume_items image

  abbrev all : List ObjectKey
  all = keys volume.named

  among : Contains all key
  among = (i, slice_get_within all i key at, get_or_from_slice_get all i key key at)

  pub stat_is : (stat : ObjectStat) → get same_key volume.named key ≡ Some stat → stat_at items key ≡ stat
  stat_is stat is = ap (λ (o : Option ObjectStat). unwrap_or o no_stat) (sym (opened.stats key among) ∙ is)

  pub kind_is : (stat : ObjectStat) (kind : Kind) → get same_key volume.named key ≡ Some stat → kind ≡ unwrap_or (kind_of_mode stat.fields.mode) File → kind ≡ kind_by (stat_at items key)
  kind_is stat kind is by = by ∙ ap kind_by (sym (stat_is stat is))

  pub size_is : (stat : ObjectStat) → get same_key volume.named key ≡ Some stat → stat.fields.size ≡ (stat_at items key).fields.size
  size_is stat is = ap (λ (s : ObjectStat). s.fields.size) (sym (stat_is stat is))

  taken : take i all ++ key ∷ [] ≡ take (i + 1) all
  taken =
      sym (take_more all i key (slice_get_within all i key at) ∙ ap (λ (k : ObjectKey). take i all ++ k ∷ []) (get_or_from_slice_get all i key key at))

  module _ (inline : Bool) (old new : FileParts) (before : Gathers inline items all (take i all) old) where
    -- one that is no file and no symlink adds nothing
    pub other_adds : (kind : Kind) → kind ≡ kind_by (stat_at items key) → is_file kind ≡ false → is_symlink kind ≡ false → Gathers inline items all (take (i + 1) all) old
    other_adds kind is no_file no_link =
        subst (λ (some : List ObjectKey). Gathers inline items all some old) taken
        (gathers_other inline items all (take i all) key old before (sym (ap is_file is) ∙ no_file) (sym (ap is_symlink is) ∙ no_link))

    pub link_adds : (size : ℕ) → Symlink ≡ kind_by (stat_at items key) → size ≡ (stat_at items key).fields.size → Gains (adds_inline size) old new → Gathers inline items all (take (i + 1) all) new
    link_adds size is same gains =
        subst (λ (some : List ObjectKey). Gathers inline items all some new) taken
        (gathers_link inline items all (take i all) key size old new before (sym (ap is_file is)) (sym (ap is_symlink is)) same gains)

    pub file_adds : (accepted : IsAccepted image) (inode size : ℕ) (map : List FileRun) → File ≡ kind_by (stat_at items key) → size ≡ (stat_at items key).fields.size → inode ≡ ino_of_key all key
        → map ≡ file_runs (items_of key items) (stat_at items key).fields.size → (All (λ r. r.at + r.count < 2 ^ 64) map → Gains (adds_file inline inode map size) old new)
        → Gathers inline items all (take (i + 1) all) new
    file_adds accepted inode size map is same number runs gains =
        let low : All (λ r. r.at + r.count < 2 ^ 64) map =
        subst (λ (rs : List FileRun). All (λ r. r.at + r.count < 2 ^ 64) rs) (sym runs)
        (runs_low (file_at items all key) (size_short image accepted all opened.are_keys key among (sym (ap is_file is)))) in
        subst (λ (some : List ObjectKey). Gathers inline items all some new) taken
        (gathers_file inline items all (take i all) key old new before (sym (ap is_file is)) (sym (ap is_symlink is))
        (subst (λ (n : ℕ). Gains (adds_file inline n (file_runs (items_of key items) (stat_at items key).fields.size) (stat_at items key).fields.size) old new) number
        (subst (λ (rs : List FileRun). Gains (adds_file inline inode rs (stat_at items key).fields.size) old new) runs
        (subst (λ (n : ℕ). Gains (adds_file inline inode map n) old new) same (gains low)))))

-- Keys and bodies of the items decide the rows, with what the files' blocks hold.
use Rattle.reiser_volume.proofs.Imports.{◌≡◌, ℕ, ◌==◌, Bool, true, false, ◌&&◌, not, List, [], if◌then◌else◌, refl, sym, ap, subst, ◌∙◌, Image, WholeRow, Kind, attrs_cleared_bit, ReiserItem, file_bytes, named_decide, ObjectKey, Naming, ObjectStat, stat_of_object, root, items_of, has_bytes, kind_of_mode, is_symlink, IsNamed, AreLinks, SameFileBlocks, ItemsDecideRows, flag, HasStat, IsRow, AreReiserRows}
use Rattle.std.specs.Prelude.{Some}
use Rattle.std.specs.Int.{bit_at}
use Rattle.reiser_volume.proofs.Leading.{leads_named}
use Rattle.reiser_volume.proofs.Unplaced.{rows_to, rows_from}

-- the files of named objects have the same bytes in both
abbrev SameBytes : Image → Image → List ReiserItem → Type 0
SameBytes image other items =
    (key : ObjectKey) (stat : ObjectStat) (kind : Kind) → IsNamed items key → stat_of_object items key ≡ Some stat → kind_of_mode stat.fields.mode ≡ Some kind → has_bytes kind ≡ true
    → file_bytes other (items_of key items) stat.fields.size ≡ file_bytes image (items_of key items) stat.fields.size

bytes_from_blocks : (image other : Image) (items : List ReiserItem) → SameFileBlocks image other items → SameBytes image other items
bytes_from_blocks image other items same key stat kind named stated known has =
    named_decide image other (items_of key items) stat.fields.size (λ k low some. same key stat kind k named stated known has low some)

flag_same : (flags others : ℕ) (stat : ObjectStat) (b : ℕ) → bit_at others attrs_cleared_bit ≡ bit_at flags attrs_cleared_bit → flag flags stat b ≡ flag others stat b
flag_same flags others stat b same = ap (λ (n : ℕ). (n == 1) && (not stat.old_form && (bit_at stat.fields.attrs b == 1))) (sym same)

module _ (image other : Image) (flags others : ℕ) (items : List ReiserItem) (same : bit_at others attrs_cleared_bit ≡ bit_at flags attrs_cleared_bit) (bytes : SameBytes image other items) where
  fields_seen : (stat : ObjectStat) (row : WholeRow) → HasStat flags stat row → HasStat others stat row
  fields_seen stat row f = record {
    kind = f.kind;
    mode = f.mode;
    uid = f.uid;
    gid = f.gid;
    atime = f.atime;
    mtime = f.mtime;
    ctime = f.ctime;
    sync = f.sync ∙ flag_same flags others stat 3 same;
    immutable = f.immutable ∙ ap (λ (b : Bool). not (is_symlink row.kind) && b) (flag_same flags others stat 4 same);
    append = f.append ∙ ap (λ (b : Bool). not (is_symlink row.kind) && b) (flag_same flags others stat 5 same);
    nodump = f.nodump ∙ flag_same flags others stat 6 same;
    noatime = f.noatime ∙ flag_same flags others stat 7 same;
    major = f.major;
    minor = f.minor;
  }

  row_seen : (visible links : List Naming) (rows : List WholeRow) (key : ObjectKey) (row : WholeRow) → AreLinks items visible links → IsRow image flags items links rows key row → IsRow other others items links rows key row
  row_seen visible links rows key row are r = record {
    leads = r.leads;
    stat = r.stat;
    has_stat = r.has_stat;
    fields = fields_seen r.stat row r.fields;
    least = r.least;
    names = r.names;
    bytes = r.bytes ∙ by (has_bytes row.kind) refl;
  }
    where
      by : (b : Bool) → has_bytes row.kind ≡ b → (if b then file_bytes image (items_of key items) r.stat.fields.size else []) ≡ (if b then file_bytes other (items_of key items) r.stat.fields.size else [])
      by true has = sym (bytes key r.stat row.kind (leads_named items visible links are root key row.path (0, refl) r.leads) r.has_stat r.fields.kind has)
      by false has = refl

  rows_seen : (rows : List WholeRow) → AreReiserRows image flags items rows → AreReiserRows other others items rows
  rows_seen rows h = record {
    visible = h.visible;
    links = h.links;
    are_links = h.are_links;
    ascends = h.ascends;
    each = λ row among. let e = h.each row among in (e.0, row_seen h.visible h.links rows e.0 row h.are_links e.1);
    whole = h.whole;
  }

pub items_decide_rows : ItemsDecideRows
items_decide_rows image other flags others items moved reads rows =
    let bytes : SameBytes image other items = bytes_from_blocks image other items reads.blocks in (
      λ h. rows_from other others moved rows (subst (λ (xs : List ReiserItem). AreReiserRows other others xs rows) (sym reads.same) (rows_to other others items rows (rows_seen image other flags others items reads.flagged bytes rows h))),
      λ h. rows_seen other image others flags items (sym reads.flagged) (λ key stat kind named stated known has. sym (bytes key stat kind named stated known has)) rows
          (rows_from other others items rows (subst (λ (xs : List ReiserItem). AreReiserRows other others xs rows) reads.same (rows_to other others moved rows h))),
    )

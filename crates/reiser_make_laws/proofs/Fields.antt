-- A row of a sample has what the stat data of its object says.
use Rattle.reiser_make_laws.proofs.Imports.{◌≡◌, ℕ, ◌%◌, ◌^◌, ◌<◌, ◌==◌, Bool, true, false, cond, not, ◌&&◌, List, refl, sym, ap, Some, bit_at, w64, and_right, NameList, Kind, StatData, attributes, user_of, group_of, seconds, plain_row, ObjectStat, kind_of_mode, HasStat, time_of, flag, major_of, minor_of}
use Rattle.std.proofs.lemmas.Int.{to_z_pos}
use Rattle.std.proofs.lemmas.Nat.Bits.{bit_at-zero}
use Rattle.reiser_make.specs.declared.sample_item.Owner.{Owner}
use Rattle.reiser_volume.specs.fs_rows.Kinds.{is_symlink, is_device}
use Rattle.reiser_make_laws.proofs.Attributes.{read_back}

seconds_are : (t : ℕ) → t < 2 ^ 63 → seconds t ≡ time_of t
seconds_are t low = ap (λ z. record { sec = z; nsec = 0 }) (to_z_pos w64 t low)

-- no attribute is set
none_set : (old : Bool) (b : ℕ) → (not old && (bit_at (cond old 0 0) b == 1)) ≡ false
none_set true b = refl
none_set false b = ap (λ n. n == 1) (bit_at-zero b)

abbrev pub stat_by : ℕ → Bool → StatData → ObjectStat
stat_by leaf old fields = record { leaf = leaf; old_form = old; fields = fields }

no_flag : (flags leaf : ℕ) (old : Bool) (mode nlink size : ℕ) (owner : Owner) (time blocks first b : ℕ) → flag flags (stat_by leaf old (read_back old (attributes mode nlink size owner time blocks first))) b ≡ false
no_flag flags leaf old mode nlink size owner time blocks first b = and_right (bit_at flags 0 == 1) (not old && (bit_at (cond old 0 0) b == 1)) (none_set old b)

pub has_stat : (flags leaf : ℕ) (old : Bool) (mode nlink size : ℕ) (owner : Owner) (time blocks first : ℕ) (path : NameList) (kind : Kind) (least : NameList) (names : ℕ) (bytes : List ℕ)
    → kind_of_mode mode ≡ Some kind → is_device kind ≡ false → time < 2 ^ 63
    → HasStat flags (stat_by leaf old (read_back old (attributes mode nlink size owner time blocks first))) (plain_row path kind (mode % 4096) (user_of owner) (group_of owner) time least names bytes)
has_stat flags leaf old mode nlink size owner time blocks first path kind least names bytes known device low =
    let none = no_flag flags leaf old mode nlink size owner time blocks first in
    let stat : ObjectStat = stat_by leaf old (read_back old (attributes mode nlink size owner time blocks first)) in
    record {
      kind = known;
      mode = refl;
      uid = refl;
      gid = refl;
      atime = seconds_are time low;
      mtime = seconds_are time low;
      ctime = seconds_are time low;
      sync = sym (none 3);
      immutable = sym (and_right (not (is_symlink kind)) (flag flags stat 4) (none 4));
      append = sym (and_right (not (is_symlink kind)) (flag flags stat 5) (none 5));
      nodump = sym (none 6);
      noatime = sym (none 7);
      major = sym (ap (λ b. cond b (major_of stat.fields.rdev) 0) device);
      minor = sym (ap (λ b. cond b (minor_of stat.fields.rdev) 0) device);
    }

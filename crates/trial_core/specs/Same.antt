-- The parts of two rows that are the same.
use Rattle.std.specs.Prelude.{◌≡◌}
use Rattle.reiser_volume.specs.fs_rows.declared.row.Row.{Row}

abbrev pub SamePlace : Row → Row → Type 0
SamePlace row other = (other.path ≡ row.path) × (other.least ≡ row.least) × (other.names ≡ row.names)

abbrev pub SameOwner : Row → Row → Type 0
SameOwner row other = (other.kind ≡ row.kind) × (other.mode ≡ row.mode) × (other.uid ≡ row.uid) × (other.gid ≡ row.gid)

abbrev pub SameTimes : Row → Row → Type 0
SameTimes row other = (other.atime ≡ row.atime) × (other.mtime ≡ row.mtime) × (other.ctime ≡ row.ctime)

abbrev pub SameFlags : Row → Row → Type 0
SameFlags row other =
    (other.sync ≡ row.sync) × (other.immutable ≡ row.immutable) × (other.append ≡ row.append) × (other.nodump ≡ row.nodump) × (other.noatime ≡ row.noatime)

abbrev pub SameContent : Row → Row → Type 0
SameContent row other =
    (other.major ≡ row.major) × (other.minor ≡ row.minor) × (other.length ≡ row.length) × (other.mark ≡ row.mark) × (other.target ≡ row.target)

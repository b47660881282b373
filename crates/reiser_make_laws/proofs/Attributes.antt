-- Stat data that was written reads back.
use Rattle.reiser_make_laws.proofs.Imports.{◌≡◌, ℕ, ◌^◌, ◌<◌, Bool, true, false, cond, List, drop, arith, Some, little_number-reads_back, field, stat_of, StatData, stat_bytes}

-- What a reader has of it: version 0 keeps no attributes, and has one field for the device and for the units; version 1
-- does not keep where direct bytes begin.
abbrev pub read_back : Bool → StatData → StatData
read_back old s =
    record {
      mode = s.mode;
      attrs = cond old 0 s.attrs;
      nlink = s.nlink;
      size = s.size;
      uid = s.uid;
      gid = s.gid;
      atime = s.atime;
      mtime = s.mtime;
      ctime = s.ctime;
      blocks = s.blocks;
      rdev = cond old s.blocks s.rdev;
      first_direct_byte = cond old s.first_direct_byte 0;
    }

-- the fields have room in both versions
pub record HasStatRoom (s : StatData) : Type 0 where
  pub mode : s.mode < 256 ^ 2
  pub attrs : s.attrs < 256 ^ 2
  pub nlink : s.nlink < 256 ^ 2
  pub size : s.size < 256 ^ 4
  pub uid : s.uid < 256 ^ 2
  pub gid : s.gid < 256 ^ 2
  pub atime : s.atime < 256 ^ 4
  pub mtime : s.mtime < 256 ^ 4
  pub ctime : s.ctime < 256 ^ 4
  pub blocks : s.blocks < 256 ^ 4
  pub rdev : s.rdev < 256 ^ 4
  pub first_direct_byte : s.first_direct_byte < 256 ^ 4

module _ (s : StatData) (room : HasStatRoom s) where
  abbrev old_body : List ℕ
  old_body = stat_bytes true s

  old_back : stat_of true old_body ≡ Some (read_back true s)
  old_back =
      let mode : field 2 old_body 0 ≡ s.mode = little_number-reads_back 2 s.mode (drop 2 old_body) room.mode in
      let nlink : field 2 old_body 2 ≡ s.nlink = little_number-reads_back 2 s.nlink (drop 4 old_body) room.nlink in
      let uid : field 2 old_body 4 ≡ s.uid = little_number-reads_back 2 s.uid (drop 6 old_body) room.uid in
      let gid : field 2 old_body 6 ≡ s.gid = little_number-reads_back 2 s.gid (drop 8 old_body) room.gid in
      let size : field 4 old_body 8 ≡ s.size = little_number-reads_back 4 s.size (drop 12 old_body) room.size in
      let atime : field 4 old_body 12 ≡ s.atime = little_number-reads_back 4 s.atime (drop 16 old_body) room.atime in
      let mtime : field 4 old_body 16 ≡ s.mtime = little_number-reads_back 4 s.mtime (drop 20 old_body) room.mtime in
      let ctime : field 4 old_body 20 ≡ s.ctime = little_number-reads_back 4 s.ctime (drop 24 old_body) room.ctime in
      let blocks : field 4 old_body 24 ≡ s.blocks = little_number-reads_back 4 s.blocks (drop 28 old_body) room.blocks in
      let direct : field 4 old_body 28 ≡ s.first_direct_byte = little_number-reads_back 4 s.first_direct_byte (drop 32 old_body) room.first_direct_byte in
      λ j. Some (record { mode = mode j; attrs = 0; nlink = nlink j; size = size j; uid = uid j; gid = gid j; atime = atime j; mtime = mtime j; ctime = ctime j; blocks = blocks j; rdev = blocks j; first_direct_byte = direct j })

  abbrev new_body : List ℕ
  new_body = stat_bytes false s

  new_back : stat_of false new_body ≡ Some (read_back false s)
  new_back =
      let mode : field 2 new_body 0 ≡ s.mode = little_number-reads_back 2 s.mode (drop 2 new_body) room.mode in
      let attrs : field 2 new_body 2 ≡ s.attrs = little_number-reads_back 2 s.attrs (drop 4 new_body) room.attrs in
      let nlink : field 4 new_body 4 ≡ s.nlink = little_number-reads_back 4 s.nlink (drop 8 new_body) (omega (arith, room.nlink)) in
      let size : field 8 new_body 8 ≡ s.size = little_number-reads_back 8 s.size (drop 16 new_body) (omega (arith, room.size)) in
      let uid : field 4 new_body 16 ≡ s.uid = little_number-reads_back 4 s.uid (drop 20 new_body) (omega (arith, room.uid)) in
      let gid : field 4 new_body 20 ≡ s.gid = little_number-reads_back 4 s.gid (drop 24 new_body) (omega (arith, room.gid)) in
      let atime : field 4 new_body 24 ≡ s.atime = little_number-reads_back 4 s.atime (drop 28 new_body) room.atime in
      let mtime : field 4 new_body 28 ≡ s.mtime = little_number-reads_back 4 s.mtime (drop 32 new_body) room.mtime in
      let ctime : field 4 new_body 32 ≡ s.ctime = little_number-reads_back 4 s.ctime (drop 36 new_body) room.ctime in
      let blocks : field 4 new_body 36 ≡ s.blocks = little_number-reads_back 4 s.blocks (drop 40 new_body) room.blocks in
      let rdev : field 4 new_body 40 ≡ s.rdev = little_number-reads_back 4 s.rdev (drop 44 new_body) room.rdev in
      λ j. Some (record { mode = mode j; attrs = attrs j; nlink = nlink j; size = size j; uid = uid j; gid = gid j; atime = atime j; mtime = mtime j; ctime = ctime j; blocks = blocks j; rdev = rdev j; first_direct_byte = 0 })

  either_back : (old : Bool) → stat_of old (stat_bytes old s) ≡ Some (read_back old s)
  either_back true = old_back
  either_back false = new_back

pub stat_back : (old : Bool) (s : StatData) → HasStatRoom s → stat_of old (stat_bytes old s) ≡ Some (read_back old s)
stat_back old s room = either_back s room old

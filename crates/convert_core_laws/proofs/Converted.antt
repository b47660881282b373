-- The bytes of files on a converted volume.
use Rattle.convert_core_laws.proofs.Imports.{◌≡◌, List, [], subst, arith, Contains, BtrRefusal, ConvertedFilesAreRead, MapsPieces, ChunksMapPieces, BytesAreRead, ExtentsKeepRules}

none_in : (refusals : List BtrRefusal) (r : BtrRefusal) → refusals ≡ [] → Contains refusals r → ⊥
none_in refusals r is h = let none : Contains [] r = subst (λ (l : List BtrRefusal). Contains l r) is h in absurd (omega (arith, none.1))

pub files_read : BytesAreRead → ExtentsKeepRules → ChunksMapPieces → ConvertedFilesAreRead
files_read bytes rules chunks image other m r nodes ranges items making stands are read =
    let maps : MapsPieces m.pieces ranges = chunks image m ranges making are in
    record {
      bytes = λ key named kind. bytes m.volume image other m.options m.plan m.pieces ranges items key making.has_pieces stands.pieces maps read named kind;
      extents = λ ino. rules m.volume image m.options m.plan m.pieces ranges items ino making.has_pieces maps read;
      unbroken = λ refusal broken. none_in _ refusal (rules m.volume image m.options m.plan m.pieces ranges items broken.ino making.has_pieces maps read) broken.among;
    }

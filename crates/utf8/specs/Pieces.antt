-- What the code's pieces mean in the definitions' terms.
use Rattle.std.specs.Prelude.{ℕ, ◌<◌, ◌≡◌, List, ◌++◌, length, Option, MatchOption}
use denote.Ref.{Bor}
use Rattle.lsm_format.specs.Utf8 as Utf8
use Rattle.lsm_format.specs.Utf8.{sequence, subpart, lossy}
use Rattle.utf8.specs.declared.Piece.{Piece}
use Rattle.utf8.specs.declared.Piece.TheVariants.{Sequence, Subpart}
use Rattle.utf8.specs.declared.Texts.{Texts}

abbrev pub piece_of : Piece → Utf8.Piece
piece_of (Sequence n) = sequence n
piece_of (Subpart n) = subpart n

-- The text of the first piece comes off the front, and fewer bytes are left; or there is none, and no byte is left.
abbrev pub texts_steps : Texts → Option (Bor (List ℕ)) → Texts → Type 0
texts_steps s r t =
    MatchOption r ((length s.rest.now ≡ 0) × (length t.rest.now ≡ 0))
    (λ text. (lossy s.rest.now ≡ text.now ++ lossy t.rest.now) × (length t.rest.now < length s.rest.now))

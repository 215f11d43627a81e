-- Laws of the whole printout: of a file that is too long, and of any other by what opening answers; and that it has room. Assumes
-- nothing.
use Rattle.std.proofs.Common.{◌≡◌, ℕ, ◌≤◌, ◌<◌, List, [], ◌∷◌, ◌++◌, refl, length}
use borrow.Author.Tests.{le-leb, lt-leb}
use Rattle.lsm_format.specs.Answer.{Result, accepted, refused}
use Rattle.lsm_format.specs.Open as Rule
use Rattle.lsm_format.specs.Open.{open_file}
use Rattle.lsm_format.specs.Printout.{text, accepted_lines, channels_of, refused_line, lines, most, too_long_line, printout}
use Rattle.lsm_reader.specs.Opening.{Told, told_of}
use Rattle.printout_room.proofs.Room.{printout_room}
use Rattle.lsm_printout.proofs.Puts.{put_whole}

-- the lines of what opening tells
unfoldable pub told_lines : List ℕ → Result Told → List (List ℕ)
told_lines f (accepted t) = accepted_lines t.description (channels_of f t.description)
told_lines f (refused row) = refused_line row ∷ []

pub told_accepted : (f : List ℕ) (t : Told) → told_lines f (accepted t) ≡ accepted_lines t.description (channels_of f t.description)
unfolding told_lines
told_accepted f t = refl

pub told_refused : (f row : List ℕ) → told_lines f (refused row) ≡ refused_line row ∷ []
unfolding told_lines
told_refused f row = refl

told_lines_lem : (f : List ℕ) (r : Result Rule.Opened) → told_lines f (told_of r) ≡ lines f r
unfolding told_lines
told_lines_lem f (accepted o) = refl
told_lines_lem f (refused row) = refl

pub printout_long : (f : List ℕ) → most < length f → printout f ≡ too_long_line ++ 10 ∷ []
unfolding printout text
printout_long f h = rw (lt-leb (length f) most h) refl

pub printout_told : (f : List ℕ) → length f ≤ most → printout f ≡ text (told_lines f (told_of (open_file f 4096)))
unfolding printout
printout_told f h = rw (le-leb (length f) most h, told_lines_lem f (open_file f 4096)) refl

pub ruleset listed = (printout_long, printout_told, told_accepted, told_refused)

-- every printout has room
pub ruleset room = (put_whole, printout_room)

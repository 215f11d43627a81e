-- What the C functions return and leave in the caller's memory.
use Rattle.std.specs.Prelude.{ℕ, ◌≡◌, List, length, get_or}
use Rattle.lsm_format.specs.Answer.{Result, accepted, refused, bind}
use Rattle.lsm_format.specs.Open.{open_file, open_memory}
use Rattle.lsm_format.specs.Channels.{Channel, lookup, lookup_memory}
use Rattle.lsm_channel_colors.specs.Code.{Seen, seen}
use Rattle.lsm_format.specs.Picture.{Samples, plane, region, into, buffer_by}
use Rattle.lsm_format.specs.Rectangle.{Rect, Coordinate}
use Rattle.lsm_region.specs.Code.{shape_of}
use Rattle.lsm_reader.specs.Opening.{told_of}
use Rattle.lsm_words.specs.Description.{described_by}
use Rattle.lsm_words.specs.Answers.{open_words, channel_words, picture_words}

-- the returned number: 0, or the first of a refusal's row
abbrev pub number_of : {A : Type 0} → Result A → ℕ
number_of (accepted a) = 0
number_of (refused row) = get_or row 0 0

-- ---- opening

pub record OpenedBy (f lent table answer : List ℕ) (r : ℕ) : Type 0 where
  pub returned : r ≡ number_of (open_file f (length lent))
  pub answered : answer ≡ open_words (told_of (open_file f (length lent)))
  pub memory : table ≡ open_memory f lent

-- ---- a channel

-- The lookup in a file with the description that these words are; no description is refused before anything else.
unfoldable pub lookup_by : List ℕ → List ℕ → ℕ → ℕ → Result Channel
lookup_by w f channel room = bind (described_by w) (λ d. lookup d.order f d.channel_block d.dims.c channel room)

unfoldable pub lookup_memory_by : List ℕ → List ℕ → ℕ → List ℕ → List ℕ
lookup_memory_by w f channel lent =
    elim (described_by w) [
      | accepted d ↦ lookup_memory d.order f d.channel_block d.dims.c channel lent
      | refused row ↦ lent
    ]

-- a lookup's answer, and what the name buffer holds afterwards
pub record Answered (f w : List ℕ) (channel : ℕ) (lent name : List ℕ) (answer : Result Seen) : Type 0 where
  pub answered : answer ≡ seen (lookup_by w f channel (length lent))
  pub memory : name ≡ lookup_memory_by w f channel lent

pub record LookedUp (f w : List ℕ) (channel : ℕ) (lent name answer : List ℕ) (r : ℕ) : Type 0 where
  pub returned : r ≡ number_of (lookup_by w f channel (length lent))
  pub answered : answer ≡ channel_words (seen (lookup_by w f channel (length lent)))
  pub memory : name ≡ lookup_memory_by w f channel lent

-- ---- pictures

-- The picture, or a rectangle of it, with the description that these words are; no description is refused before anything else.
unfoldable pub plane_by : List ℕ → List ℕ → List ℕ → Coordinate → Result Samples
plane_by words table f co = bind (described_by words) (λ d. plane d table f co)

unfoldable pub region_by : List ℕ → List ℕ → List ℕ → Coordinate → Rect → Result Samples
region_by words table f co r = bind (described_by words) (λ d. region d table f co r)

pub record PicturedBy (s : Result Samples) (lent out answer : List ℕ) (r : ℕ) : Type 0 where
  pub returned : r ≡ number_of (into s (length lent))
  pub answered : answer ≡ picture_words (shape_of (into s (length lent)))
  pub memory : out ≡ buffer_by s lent

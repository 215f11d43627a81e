-- Laws of the rows that the C functions write. Assumes nothing.
use Prim.Native.Nat.{ℕ}
use mathlib.Core.Path.{◌≡◌, refl, ap, ◌∙◌}
use mathlib.Core.List.{List, [], ◌∷◌}
use lib.ListN.{length, get_or}
use Rattle.lsm_format.specs.Answer.{Result, accepted, refused}
use Rattle.lsm_format.specs.Open as Rule
use Rattle.lsm_format.specs.Channels.{Channel}
use Rattle.lsm_channel_colors.specs.Code.{Seen, seen}
use Rattle.lsm_format.specs.Picture.{Samples, into}
use Rattle.lsm_region.specs.Code.{shape_of, Pictured}
use Rattle.lsm_reader.specs.Opening.{told_of, opened_of, OpenedAs}
use Rattle.lsm_reader.specs.declared.open.Opened.{Opened}
use Rattle.lsm_format.specs.declared.error.Refusal.{Refusal}
use Rattle.lsm_format.specs.Code.{answer_by}
use Rattle.std.specs.Prelude.{Result as Answer}
use Rattle.lsm_words.specs.Answers.{open_length, channel_length, picture_length, padded, open_words, channel_words, picture_words}
use Rattle.lsm_c.specs.Calls.{number_of, OpenedBy, lookup_by, Answered, LookedUp, PicturedBy}

-- a refusal's first word is its number
row_number : (k : ℕ) (row : List ℕ) → get_or (padded k row) 0 0 ≡ get_or row 0 0
row_number k [] = refl
row_number k (x ∷ row) = refl

-- ---- opening

open_number : (x : Result Rule.Opened) → get_or (open_words (told_of x)) 0 0 ≡ number_of x
open_number (accepted o) = refl
open_number (refused row) = row_number open_length row

pub opened_by : {f lent table words answer : List ℕ} {a : Answer Opened Refusal} {r : ℕ} → OpenedAs f lent table a → words ≡ open_words (answer_by opened_of a)
    → answer ≡ words → r ≡ get_or words 0 0 → OpenedBy f lent table answer r
opened_by {f} {lent} h e same first =
    let is = e ∙ ap open_words h.answered in
    record {
      returned = first ∙ ap (λ (l : List ℕ). get_or l 0 0) is ∙ open_number (Rule.open_file f (length lent));
      answered = same ∙ is;
      memory = h.memory;
    }

-- ---- a channel

channel_number : (x : Result Channel) → get_or (channel_words (seen x)) 0 0 ≡ number_of x
channel_number (accepted c) = refl
channel_number (refused row) = row_number channel_length row

module _ (f w : List ℕ) (channel : ℕ) (lent : List ℕ) where
  pub looked_up : {name words answer : List ℕ} {a : Result Seen} {r : ℕ} → Answered f w channel lent name a → words ≡ channel_words a
      → answer ≡ words → r ≡ get_or words 0 0 → LookedUp f w channel lent name answer r
  looked_up h e same first =
      let is = e ∙ ap channel_words h.answered in
      record {
        returned = first ∙ ap (λ (l : List ℕ). get_or l 0 0) is ∙ channel_number (lookup_by w f channel (length lent));
        answered = same ∙ is;
        memory = h.memory;
      }

-- ---- pictures

picture_number : (x : Result Samples) → get_or (picture_words (shape_of x)) 0 0 ≡ number_of x
picture_number (accepted a) = refl
picture_number (refused row) = row_number picture_length row

pub pictured_by : {s : Result Samples} {lent out words answer : List ℕ} {a : Result (ℕ × ℕ × ℕ)} {r : ℕ} → Pictured s lent out a → words ≡ picture_words a
    → answer ≡ words → r ≡ get_or words 0 0 → PicturedBy s lent out answer r
pictured_by {s} {lent} h e same first =
    let is = e ∙ ap picture_words h.answered in
    record {
      returned = first ∙ ap (λ (l : List ℕ). get_or l 0 0) is ∙ picture_number (into s (length lent));
      answered = same ∙ is;
      memory = h.memory;
    }

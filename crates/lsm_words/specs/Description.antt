-- A description as words: 0 byte order; 1 kind; 2 to 6 T C Z Y X; 7 scenes; 8 pages of a time point; 9 strips of a channel, where channels are
-- interleaved those of a page; 10 whether a pixel size is stated; 11, 12 X and Y as f32 bits; 13 what became of the Z step; 14 its f32 bits; 15
-- whether there is a channel block; 16 its place; 17 the layout's T; 18 whether the channels are interleaved. A word more stands at the end.
use Rattle.std.specs.Prelude.{ℕ, Bool, true, false, List, [], ◌∷◌, ◌++◌, get_or, Option, None, Some}
use Rattle.lsm_format.specs.Answer.{Result, accepted, bind}
use Rattle.lsm_format.specs.Numbers.{Order, little, big}
use Rattle.lsm_format.specs.Sizes.{Kind, u8, u16, i16, f32}
use Rattle.lsm_format.specs.Open.{Description}
use Rattle.lsm_words.specs.Calibration.{size_words, chosen, size_by}

-- How many words a description has.
abbrev pub description_length : ℕ
description_length = 19

-- ---- on the way out: what is absent is 0

abbrev pub order_word : Order → ℕ
order_word little = 0
order_word big = 1

abbrev pub kind_word : Kind → ℕ
kind_word u8 = 0
kind_word u16 = 1
kind_word i16 = 2
kind_word f32 = 3

unfoldable pub block_words : Option ℕ → List ℕ
block_words None = 0 ∷ 0 ∷ []
block_words (Some place) = 1 ∷ place ∷ []

abbrev pub interleaved_word : Bool → ℕ
interleaved_word false = 0
interleaved_word true = 1

unfoldable pub description_words : Description → List ℕ
description_words d =
    order_word d.order ∷ kind_word d.kind
    ∷ d.dims.t ∷ d.dims.c ∷ d.dims.z ∷ d.dims.y ∷ d.dims.x
    ∷ d.layout.scenes ∷ d.layout.depth ∷ d.strips_per_channel
    ∷ (size_words d.calibration ++ (block_words d.channel_block ++ d.layout.t ∷ interleaved_word d.interleaved ∷ []))

-- ---- on the way in: words that are no description are refused with 2, and words of what is absent are not looked at

unfoldable pub order_by : ℕ → Result Order
order_by n = chosen (accepted little ∷ accepted big ∷ []) n

unfoldable pub kind_by : ℕ → Result Kind
kind_by n = chosen (accepted u8 ∷ accepted u16 ∷ accepted i16 ∷ accepted f32 ∷ []) n

unfoldable pub block_by : ℕ → ℕ → Result (Option ℕ)
block_by n place = chosen (accepted None ∷ accepted (Some place) ∷ []) n

unfoldable pub interleaved_by : ℕ → Result Bool
interleaved_by n = chosen (accepted false ∷ accepted true ∷ []) n

-- The description that words are.
unfoldable pub described_by : List ℕ → Result Description
described_by w =
    bind (order_by (get_or w 0 0)) (λ order.
    bind (kind_by (get_or w 1 0)) (λ kind.
    bind (size_by (get_or w 10 0) (get_or w 11 0) (get_or w 12 0) (get_or w 13 0) (get_or w 14 0)) (λ calibration.
    bind (block_by (get_or w 15 0) (get_or w 16 0)) (λ block.
    bind (interleaved_by (get_or w 18 0)) (λ interleaved.
    accepted (record {
      order = order;
      kind = kind;
      dims = record { t = get_or w 2 0; c = get_or w 3 0; z = get_or w 4 0; y = get_or w 5 0; x = get_or w 6 0 };
      layout = record { scenes = get_or w 7 0; t = get_or w 17 0; depth = get_or w 8 0 };
      interleaved = interleaved;
      strips_per_channel = get_or w 9 0;
      calibration = calibration;
      channel_block = block;
    }))))))

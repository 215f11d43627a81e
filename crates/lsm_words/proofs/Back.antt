-- Words of a description, read back, are that description. Assumes nothing.
use Prim.Native.Nat.{ℕ, suc, ◌^◌}
use mathlib.Core.Path.{◌≡◌, refl}
use mathlib.Core.Bool.{Bool, true, false, not}
use Rattle.std.specs.Prelude.{Option, None, Some}
use mathlib.Core.List.{List, [], ◌∷◌, ◌++◌}
use lib.Dec.{T}
use lib.ListN.{get_or}
use lib.Ieee.{Float, binary32, to_bits, fits, is_nan}
use lib.Ieee.Bits.{of_bits-to_bits, to_bits-lt, nan_bits_is}
use borrow.Author.Tests.{lt-ltb}
use Rattle.lsm_format.specs.Answer.{accepted, bind}
use Rattle.lsm_format.specs.Numbers.{Order, little, big}
use Rattle.lsm_format.specs.Sizes.{Kind, u8, u16, i16, f32}
use Rattle.lsm_format.specs.Calibration.{ZStep, used, absent, placeholder, too_large, Calibration, uncalibrated, sized}
use Rattle.lsm_format.specs.Open.{Description}
use Rattle.lsm_words.specs.Calibration.{float_word, step_words, size_words, chosen, float_by, step_by, sized_by, size_by}
use Rattle.lsm_words.specs.Description.{order_word, kind_word, block_words, interleaved_word, description_words}
use Rattle.lsm_words.specs.Description.{order_by, kind_by, block_by, interleaved_by, described_by}

-- ---- floats that are f32s, and none a NaN

pub record Number (x : Float) : Type 0 where
  pub narrow : T (fits binary32 x)
  pub number : T (not (is_nan x))

abbrev pub NumberStep : ZStep → Type 0
NumberStep (used z) = Number z
NumberStep absent = Unit {0}
NumberStep (placeholder z) = Number z
NumberStep (too_large z) = Number z

abbrev pub NumberSize : Calibration → Type 0
NumberSize uncalibrated = Unit {0}
NumberSize (sized x y z) = Number x × Number y × NumberStep z

-- ---- part by part

order_back : (o : Order) → order_by (order_word o) ≡ accepted o
unfolding order_by chosen
order_back little = refl
order_back big = refl

kind_back : (k : Kind) → kind_by (kind_word k) ≡ accepted k
unfolding kind_by chosen
kind_back u8 = refl
kind_back u16 = refl
kind_back i16 = refl
kind_back f32 = refl

interleaved_back : (b : Bool) → interleaved_by (interleaved_word b) ≡ accepted b
unfolding interleaved_by chosen
interleaved_back false = refl
interleaved_back true = refl

not_nan : (t : Bool) → T (not t) → t ≡ false
not_nan true h = absurd h
not_nan false h = refl

float_back : (x : Float) → Number x → float_by (float_word x) ≡ accepted x
unfolding float_by bind
float_back x h =
    let back = of_bits-to_bits binary32 x h.narrow in
    let below = lt-ltb (to_bits binary32 x) (2 ^ 32) (to_bits-lt binary32 x h.narrow) in
    rw (below, nan_bits_is binary32 (to_bits binary32 x), back, not_nan (is_nan x) h.number)

-- The words of the pixel size with those behind them, as they stand in a description. A stated size has its own words and then the step's, so
-- the places of the words behind are known once the step is. The block's two words are followed by others in turn.
abbrev words : Calibration → List ℕ → ℕ → ℕ
words s behind i = get_or (size_words s ++ behind) i 0

size_back : (s : Calibration) (b : List ℕ) → NumberSize s →
    size_by (words s b 0) (words s b 1) (words s b 2) (words s b 3) (words s b 4) ≡ accepted s
unfolding size_by sized_by step_by chosen size_words step_words bind
size_back uncalibrated b h = refl
size_back (sized x y (used z)) b h = rw (float_back x h.0, float_back y h.1, float_back z h.2)
size_back (sized x y absent) b h = rw (float_back x h.0, float_back y h.1)
size_back (sized x y (placeholder z)) b h = rw (float_back x h.0, float_back y h.1, float_back z h.2)
size_back (sized x y (too_large z)) b h = rw (float_back x h.0, float_back y h.1, float_back z h.2)

after_size : (s : Calibration) (b : List ℕ) (i : ℕ) → words s b (suc (suc (suc (suc (suc i))))) ≡ get_or b i 0
unfolding size_words step_words
after_size uncalibrated b i = refl
after_size (sized x y (used z)) b i = refl
after_size (sized x y absent) b i = refl
after_size (sized x y (placeholder z)) b i = refl
after_size (sized x y (too_large z)) b i = refl

block_back : (b : Option ℕ) (rest : List ℕ) → block_by (get_or (block_words b ++ rest) 0 0) (get_or (block_words b ++ rest) 1 0) ≡ accepted b
unfolding block_by chosen block_words
block_back None rest = refl
block_back (Some place) rest = refl

after_block : (b : Option ℕ) (rest : List ℕ) (i : ℕ) → get_or (block_words b ++ rest) (suc (suc i)) 0 ≡ get_or rest i 0
unfolding block_words
after_block None rest i = refl
after_block (Some place) rest i = refl

-- ---- the whole

pub read_back : (d : Description) → NumberSize d.calibration → described_by (description_words d) ≡ accepted d
unfolding described_by description_words bind
read_back d h =
    let s = d.calibration in
    let rest = d.layout.t ∷ interleaved_word d.interleaved ∷ [] in
    let b = block_words d.channel_block ++ rest in
    rw (order_back d.order, kind_back d.kind, size_back s b h, after_size s b 0, after_size s b 1, after_size s b 2, after_size s b 3, block_back d.channel_block rest, after_block d.channel_block rest 0, after_block d.channel_block rest 1, interleaved_back d.interleaved)

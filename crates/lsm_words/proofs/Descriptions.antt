-- The words of a description, one by one, and how many they are. Assumes nothing.
use Prim.Native.Nat.{ℕ}
use native.Mathlib.Omega.{arith}
use mathlib.Core.Path.{◌≡◌, refl, ap, ◌∙◌}
use Rattle.std.specs.Prelude.{Option, None, Some}
use mathlib.Core.List.{List, [], ◌∷◌, ◌++◌}
use lib.ListN.{length, get_or, length-append}
use Rattle.lsm_format.specs.Calibration.{Calibration}
use Rattle.lsm_format.specs.Open.{Description}
use Rattle.lsm_words.specs.Calibration.{size_words}
use Rattle.lsm_words.proofs.Calibrations.{from, all, size_long}
use Rattle.lsm_words.specs.Description.{description_length, order_word, kind_word, block_words, interleaved_word, description_words}

block_long : (b : Option ℕ) → length (block_words b) ≡ 2
unfolding block_words
block_long None = refl
block_long (Some place) = refl

parts : (s : Calibration) (b : Option ℕ) (size block rest : List ℕ) → size ≡ size_words s → block ≡ block_words b →
    from 0 5 size ++ (from 0 2 block ++ rest) ≡ size_words s ++ (block_words b ++ rest)
parts s b size block rest p q = rw (all 5 size (ap length p ∙ size_long s), all 2 block (ap length q ∙ block_long b), p, q)

pub description_is : (d : Description) {o k w : ℕ} {size block : List ℕ} →
    o ≡ order_word d.order → k ≡ kind_word d.kind → size ≡ size_words d.calibration → block ≡ block_words d.channel_block → w ≡ interleaved_word d.interleaved →
    o ∷ k ∷ d.dims.t ∷ d.dims.c ∷ d.dims.z ∷ d.dims.y ∷ d.dims.x ∷ d.layout.scenes ∷ d.layout.depth ∷ d.strips_per_channel
    ∷ get_or size 0 0 ∷ get_or size 1 0 ∷ get_or size 2 0 ∷ get_or size 3 0 ∷ get_or size 4 0 ∷ get_or block 0 0 ∷ get_or block 1 0 ∷ d.layout.t ∷ w ∷ []
    ≡ description_words d
unfolding description_words from
description_is d {size = size} {block = block} a b s t i = rw (a, b, i, parts d.calibration d.channel_block size block (d.layout.t ∷ interleaved_word d.interleaved ∷ []) s t)

pub description_long : (d : Description) → length (description_words d) ≡ description_length
unfolding description_words
description_long d =
    let s = size_long d.calibration in
    let b = block_long d.channel_block in
    let rest = d.layout.t ∷ interleaved_word d.interleaved ∷ [] in
    let l = length-append (block_words d.channel_block) rest in
    let a = length-append (size_words d.calibration) (block_words d.channel_block ++ rest) in
    omega arith

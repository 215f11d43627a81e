-- Laws of lines: a scene's name, and lines after lines. Assumes nothing.
use Rattle.std.proofs.Common.{◌≡◌, ℕ, ◌+◌, List, [], ◌∷◌, ◌++◌, refl, ap, append_assoc, append-nil, add-one}
use borrow.Author.Tests.{eq-eqb, ne_eqb}
use Rattle.lsm_format.specs.Rectangle.{Dims}
use Rattle.lsm_format.specs.Channels.{Channel}
use Rattle.lsm_format.specs.Open.{Description}
use Rattle.lsm_format.specs.Printout.{text, each, scene_line, decimal, spaced, numbers_text, accepted_line, dims_line, kind_line, pixel_line, scenes_line, channels_line, channel_line, note_lines, head_lines, accepted_lines}
use Rattle.lsm_printout.proofs.Puts.{put_put, put_nothing, after}

-- ---- a scene's name

pub scene_one : (scenes scene : ℕ) → scenes ≡ 1 → scene_line scenes scene ≡ 105 ∷ 109 ∷ 97 ∷ 103 ∷ 101 ∷ []
unfolding scene_line
scene_one scenes scene h = rw (eq-eqb scenes 1 h)

pub scene_several : (scenes scene : ℕ) → (scenes ≡ 1 → ⊥)
    → scene_line scenes scene ≡ 105 ∷ 109 ∷ 97 ∷ 103 ∷ 101 ∷ 32 ∷ 35 ∷ [] ++ decimal (scene + 1)
unfolding scene_line
scene_several scenes scene h = rw (ne_eqb scenes 1 h)

pub ruleset scene = (scene_one, scene_several, after)

-- ---- lines after lines

pub text_append : (xs ys : List (List ℕ)) → text (xs ++ ys) ≡ text xs ++ text ys
unfolding text
text_append [] ys = refl
text_append (x ∷ xs) ys = simp (text_append xs ys, append_assoc)

-- no line yet, and one line more
pub each_none : (g : ℕ → List ℕ) → text (each 0 g) ≡ []
unfolding each text
each_none g = refl

pub each_next : (g : ℕ → List ℕ) (i : ℕ) → text (each (i + 1) g) ≡ text (each i g) ++ text (g i ∷ [])
unfolding each
each_next g i = rw (add-one i) (text_append (each i g) (g i ∷ []))

pub ruleset one_more = (each_none, each_next, put_put, put_nothing)

-- ---- lines of a word and numbers

five : (a b c d e rest : List ℕ) → a ++ b ++ c ++ d ++ e ++ rest ++ [] ≡ a ++ (b ++ (c ++ (d ++ (e ++ [])))) ++ rest
five a b c d e rest = simp (append_assoc, append-nil)

pub dims_text : (d : Dims) → text (dims_line d ∷ []) ≡ 100 ∷ 105 ∷ 109 ∷ 115 ∷ (numbers_text (d.t ∷ d.c ∷ d.z ∷ d.y ∷ d.x ∷ []) ++ 10 ∷ [])
unfolding text dims_line numbers_text
dims_text d = ap (λ (l : List ℕ). 100 ∷ 105 ∷ 109 ∷ 115 ∷ l) (five (spaced d.t) (spaced d.c) (spaced d.z) (spaced d.y) (spaced d.x) (10 ∷ []))

-- ---- the lines of a file that opens

-- each line by itself
pub head_text : (d : Description) → text (head_lines d) ≡ text (accepted_line ∷ []) ++ text (dims_line d.dims ∷ []) ++ text (kind_line d.kind ∷ []) ++ text (pixel_line d.calibration ∷ []) ++ text (scenes_line d.layout.scenes ∷ [])
unfolding text head_lines
head_text d = simp (append_assoc, append-nil)

pub accepted_text : (d : Description) (channel : ℕ → Channel) → text (accepted_lines d channel)
    ≡ text (head_lines d) ++ text (each d.layout.scenes (scene_line d.layout.scenes)) ++ text (channels_line d.dims.c ∷ []) ++ text (each d.dims.c (λ c. channel_line (channel c))) ++ text (note_lines d.calibration)
unfolding accepted_lines
accepted_text d channel = simp text_append

pub ruleset head = (head_text, dims_text, after)

pub ruleset accepted = (accepted_text, after)

-- Every printout of a file of bytes has room in 1,048,576 bytes. The weight lies in `channels_room`: a channel's line has six hex digits for
-- each byte that its name takes of the file, and names don't overlap, so that all together they take no more than the 65,536 bytes of the
-- file. The other lines are short, and as many as a table of 4,096 words has room for, 2,048 scenes at most, and as a file may have channels,
-- 65,535 (`Few`). Assumes nothing.
use Prim.Native.Nat.{ℕ, ◌+◌, ◌^◌, ◌≤◌, ◌<◌}
use native.Mathlib.Omega.{arith}
use mathlib.Core.Bool.{Bool, true, false, cond}
use mathlib.Core.Path.{◌≡◌, refl}
use mathlib.Core.List.{List, [], ◌∷◌}
use lib.Dec.{leb, eqb}
use lib.ListN.{length, get_or, length-append}
use borrow.Author.Tests.{leb-true}
use Rattle.lsm_format.specs.Answer.{Result, accepted, refused}
use Rattle.lsm_format.specs.Rectangle.{Dims}
use Rattle.lsm_format.specs.Open.{Description, Opened, open_file}
use Rattle.lsm_format.specs.Printout.{dims_line, scenes_line, scene_line, channels_line, channel_line, head_lines, accepted_lines, refused_line, channels_of, each, lines, text, most, too_long_line, printout}
use Rattle.lsm_format.proofs.Accepting.{Accepting}
use Rattle.printout_room.proofs.Lengths.{decimal_length, pixel_length, kind_length, text_append, line_length, notes_length, each_length}
use Rattle.printout_room.proofs.Names.{named}
use Rattle.printout_room.proofs.Refusals.{Short, Refusing, open_refuses}
use Rattle.printout_room.proofs.Described.{Bytes, Few, open_few}

-- ---- the lines of a file that opens

dims_length : (d : Dims) → d.t < 2 ^ 64 → d.c < 2 ^ 64 → d.z < 2 ^ 64 → d.y < 2 ^ 64 → d.x < 2 ^ 64 → length (dims_line d) ≤ 109
unfolding dims_line
dims_length d t c z y x =
    simp length-append
    (omega
    (arith, decimal_length d.t t, decimal_length d.c c, decimal_length d.z z, decimal_length d.y y, decimal_length d.x x))

scenes_length : (n : ℕ) → n < 2 ^ 64 → length (scenes_line n) ≤ 27
unfolding scenes_line
scenes_length n h = omega (arith, decimal_length n h)

-- `image`, or `image #` and a number
scene_by : (t : Bool) (x y : List ℕ) → length x ≤ 27 → length y ≤ 27 → length (cond t x y) ≤ 27
scene_by true x y h k = h
scene_by false x y h k = k

scene_length : (n i : ℕ) → i + 1 < 2 ^ 64 → length (scene_line n i) ≤ 27
unfolding scene_line
scene_length n i h = scene_by (eqb n 1) _ _ (omega arith) (omega (arith, decimal_length (i + 1) h))

channels_length : (n : ℕ) → n < 2 ^ 64 → length (channels_line n) ≤ 29
unfolding channels_line
channels_length n h = omega (arith, decimal_length n h)

module _ (f : List ℕ) (d : Description) (few : Few d) where
  -- five lines: 9, 110, 26, 33 and 28 bytes
  head_length : length (text (head_lines d)) ≤ 206
  unfolding head_lines text
  head_length =
      simp length-append
      (omega (
        arith,
        dims_length d.dims (omega arith) (omega arith) (omega arith) (omega arith) (omega arith),
        kind_length d.kind,
        pixel_length d.calibration,
        scenes_length d.layout.scenes (omega arith),
      ))

  -- 2,048 scenes of 28 bytes
  scenes_room : length (text (each d.layout.scenes (scene_line d.layout.scenes))) ≤ 57344
  scenes_room =
      let n : ℕ = d.layout.scenes in
      omega (arith, each_length n 28 0 (scene_line n) (λ i. 0) (λ i h. omega (arith, scene_length n i (omega arith))))

  -- 65,535 channels of 9 bytes, and six for each of the 65,536 that names can take of the file
  channels_room : length f ≤ most → length (text (each d.dims.c (λ c. channel_line (channels_of f d c)))) ≤ 983031
  channels_room h =
      let n = named d.order f d.channel_block in
      omega (arith, each_length d.dims.c 9 6 (λ c. channel_line (channels_of f d c)) n.bytes (λ i l. n.line i), n.all d.dims.c)

  -- 1,040,640 bytes at most
  accepted_room : length f ≤ most → length (text (accepted_lines d (channels_of f d))) ≤ 1048576
  unfolding accepted_lines
  accepted_room h =
      simp (text_append, line_length)
      (omega (arith, head_length, scenes_room, channels_length d.dims.c (omega arith), channels_room h, notes_length d.calibration))

-- ---- the whole

refused_room : (row : List ℕ) → Short row → length (text (refused_line row ∷ [])) ≤ 1048576
unfolding Short refused_line
refused_room row h = rw line_length (omega arith)

lines_room : (f : List ℕ) (r : Result Opened) → length f ≤ most → Accepting (λ (x : Opened). Few x.description) r → Refusing r →
    length (text (lines f r)) ≤ 1048576
unfolding Accepting Refusing
lines_room f (accepted x) h few row = accepted_room f x.description few h
lines_room f (refused row) h few short = refused_room row short

-- by the test whether the file is too long
room_by : (t : Bool) (f : List ℕ) → Bytes f → leb (length f) most ≡ t →
    length (cond t (text (lines f (open_file f 4096))) (text (too_long_line ∷ []))) ≤ 1048576
room_by true f bytes e =
    let h : length f ≤ most = leb-true _ _ e in
    lines_room f (open_file f 4096) h (open_few f bytes) (open_refuses f 4096 (omega arith))
room_by false f bytes e = rw line_length (omega arith)

-- Whatever bytes a file has, its printout has at most 1,048,576.
pub printout_room : (f : List ℕ) → ((i : ℕ) → get_or f i 0 < 256) → length (printout f) ≤ 1048576
unfolding printout
printout_room f bytes = room_by (leb (length f) most) f bytes refl

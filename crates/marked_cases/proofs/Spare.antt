-- What the statement about two files says of the small file G, of the time series W, of the interleaved file I and of a reduced page's bits, and that
-- it would be false with a shorter list.
use Prim.Native.Nat.{ℕ, ◌+◌}
use native.Mathlib.Omega.{arith}
use mathlib.Core.Bool.{Bool, true, false, ◌&&◌, ◌||◌}
use mathlib.Core.Path.{◌≡◌, refl, ◌∙◌}
use mathlib.Core.List.{List, [], ◌∷◌, ◌++◌}
use mathlib.Core.Logic.{inl, inr}
use lib.Dec.{leb, ltb}
use lib.ListN.{set}
use borrow.Author.Tests.{le-leb, lt-ltb}
use Rattle.lsm_format.specs.Answer.{bind}
use Rattle.lsm_format.specs.Ranges.{Ranges, flat, Inside}
use Rattle.lsm_format.specs.Words.{word}
use Rattle.lsm_format.specs.Numbers.{part_at, number_at, i32_at, signed32}
use Rattle.lsm_format.specs.Sizes.{picture_size, unlimited_size}
use Rattle.lsm_format.specs.Rectangle.{coordinate, coordinates}
use Rattle.lsm_format.specs.Scenes.{layout, scenes, pages_expected, page_of}
use Rattle.lsm_format.specs.Lent.{lend, filled}
use Rattle.lsm_format.specs.CzInfo.{cz_info, header, extents, voxels, channel_block, shots}
use Rattle.lsm_format.specs.Directory.{directory, ends, entries, entry, scalar, scalar_values, array, array_values, entry_values, value_at, values_at, value_place, type_size, integer_size}
use Rattle.lsm_format.specs.Open.{open_file, open_memory, read, tiff_header, walk, chain, join, agrees, describe_walk, agreement, layout_for, describe, open_ranges}
use Rattle.lsm_format.specs.Picture.{total, place, stored, inside, span, bytes, stored_picture, each_sample, window, channel_strips, scene_there, coordinate_there, joined_size, plane_strips, in_turn, channel_picture, samples_in, plane, plane_from}
use Rattle.lsm_format.specs.Listed.{listed, listed_for}
use Rattle.lsm_format.proofs.Apart.{no_case}
use Rattle.lsm_overwrite.specs.Blind.{Overwritten, Held, Blind, BlindFor}
use Rattle.lsm_overwrite.proofs.Blind.{blind, blind_rectangle, overwrite}
use Rattle.marked_cases.specs.Marked.{G, G-opened}
use Rattle.marked_cases.proofs.Listed.{G-open, second, opening_lists, all_lists, second_lists}
use Rattle.marked_cases.proofs.Series.{W, W-open, column, last_week_lists}
use Rattle.marked_cases.proofs.Interleaved.{I, I-open, right_column, right_column_lists}
use Rattle.marked_cases.proofs.Bits.{three_at, then_reduced, reduced_list, reduced_lists}

-- ---- on the list or not

covers : List (ℕ × ℕ) → ℕ → Bool
covers [] p = false
covers (r ∷ rs) p = (leb r.0 p && ltb p (r.0 + r.1)) || covers rs p

neither : (a b : Bool) → (a || b) ≡ false → (a ≡ false) × (b ≡ false)
neither true b t = let z : true ≡ false = t in (cc, cc)
neither false b t = (refl, t)

spare : (rs : List (ℕ × ℕ)) (p : ℕ) → covers rs p ≡ false → Inside p rs → ⊥
unfolding covers
spare [] p t i = i
spare (r ∷ rs) p t (inl i) =
    let e : (leb r.0 p && ltb p (r.0 + r.1)) ≡ false = (neither _ (covers rs p) t).0 in
    let z : true ≡ false = rw (le-leb r.0 p i.0, lt-ltb p (r.0 + r.1) i.1) at e in
    no_case cc
spare (r ∷ rs) p t (inr i) = spare rs p (neither (leb r.0 p && ltb p (r.0 + r.1)) (covers rs p) t).1 i

-- a further byte overwritten
further : (list : Ranges) (f g : List ℕ) (p v : ℕ) → Overwritten list f g → (Inside p (flat list) → ⊥) → Overwritten list f (set g p v)
further list f g p v o free =
    let step : Overwritten list g (set g p v) = overwrite list g p v free in
    record {
      same_length = step.same_length ∙ o.same_length;
      same_listed = λ q i. step.same_listed q i ∙ o.same_listed q i;
    }

-- G with its first sample overwritten
abbrev G-eight : List ℕ
G-eight = set G 116 8

-- what the statement says of G: 86 is spare, and for the rectangle at column 1 so is 116
spare_86 : Blind G (set G 86 8)
unfolding covers
spare_86 = blind G (set G 86 8) (overwrite (listed G) G 86 8 (rw all_lists (spare (G-open ++ (116, 2) ∷ []) 86 refl)))

spare_116 : BlindFor G G-eight (coordinate 0 0 0 0) second
unfolding covers
spare_116 =
    blind_rectangle G G-eight (coordinate 0 0 0 0) second
    (overwrite (listed_for G (coordinate 0 0 0 0) second) G 116 8 (rw second_lists (spare (G-open ++ (117, 1) ∷ []) 116 refl)))

-- "Overwriting spare bytes must be as harmless for a week-40 picture as for week 0": for a rectangle of W's last week the samples of the other weeks,
-- planes, channels and columns are spare. The first week's first sample; the sample beside its own.
spare_week : BlindFor W (set W 36 200) (coordinate 0 2 1 0) column
unfolding covers
spare_week =
    blind_rectangle W (set W 36 200) (coordinate 0 2 1 0) column
    (overwrite (listed_for W (coordinate 0 2 1 0) column) W 36 200 (rw last_week_lists (spare (W-open ++ (55, 1) ∷ []) 36 refl)))

spare_neighbour : BlindFor W (set W 54 200) (coordinate 0 2 1 0) column
unfolding covers
spare_neighbour =
    blind_rectangle W (set W 54 200) (coordinate 0 2 1 0) column
    (overwrite (listed_for W (coordinate 0 2 1 0) column) W 54 200 (rw last_week_lists (spare (W-open ++ (55, 1) ∷ []) 54 refl)))

-- "The pixel bytes listed for a rectangle are those of its own channel": for the second channel of I's second column the samples of the first and the
-- third are spare, in both its pixels
spare_channels : BlindFor I (set (set (set (set I 147 200) 149 200) 141 200) 143 200) (coordinate 0 0 1 0) right_column
unfolding covers
spare_channels =
    let list : Ranges = listed_for I (coordinate 0 0 1 0) right_column in
    let free : (p : ℕ) → covers (I-open ++ (148, 1) ∷ (142, 1) ∷ []) p ≡ false → Inside p (flat list) → ⊥ =
    λ p t. rw right_column_lists (spare (I-open ++ (148, 1) ∷ (142, 1) ∷ []) p t) in
    let one : Overwritten list I (set I 147 200) = overwrite list I 147 200 (free 147 refl) in
    let two : Overwritten list I (set (set I 147 200) 149 200) = further list I (set I 147 200) 149 200 one (free 149 refl) in
    let three : Overwritten list I (set (set (set I 147 200) 149 200) 141 200) = further list I _ 141 200 two (free 141 refl) in
    blind_rectangle I _ (coordinate 0 0 1 0) right_column (further list I _ 143 200 three (free 143 refl))

-- "All values read join the list of read bytes", and no others: of a reduced page's three values the second and the third are spare
abbrev reduced : List ℕ
reduced = then_reduced 8 16 8 (three_at 40)

spare_bits : Blind reduced (set (set reduced 42 200) 44 200)
unfolding covers
spare_bits =
    let free : (p : ℕ) → covers (reduced_list ++ (36, 4) ∷ []) p ≡ false → Inside p (flat (listed reduced)) → ⊥ =
    λ p t. rw reduced_lists (spare (reduced_list ++ (36, 4) ∷ []) p t) in
    let one : Overwritten (listed reduced) reduced (set reduced 42 200) = overwrite (listed reduced) reduced 42 200 (free 42 refl) in
    blind reduced _ (further (listed reduced) reduced (set reduced 42 200) 44 200 one (free 44 refl))

-- ---- with a shorter list the statement would be false

held : Held G
unfolding open_file lend read describe_walk agreement layout_for describe cz_info extents voxels channel_block shots layout scenes pages_expected word tiff_header walk chain join agrees directory ends entries entry scalar scalar_values array array_values entry_values value_at values_at value_place type_size integer_size header i32_at signed32 number_at part_at bind
held = record { lent = 0 ∷ 0 ∷ []; opened = G-opened; gave = refl }

held_eight : Held G-eight
unfolding open_file lend read describe_walk agreement layout_for describe cz_info extents voxels channel_block shots layout scenes pages_expected word tiff_header walk chain join agrees directory ends entries entry scalar scalar_values array array_values entry_values value_at values_at value_place type_size integer_size header i32_at signed32 number_at part_at bind
held_eight = record { lent = 0 ∷ 0 ∷ []; opened = G-opened; gave = refl }

-- the samples of plane tell G from G with another first sample
differ : Blind G G-eight → ⊥
unfolding held held_eight open_memory filled plane plane_from joined_size plane_strips in_turn total samples_in channel_picture each_sample stored_picture stored place span bytes window scene_there coordinate_there coordinates picture_size unlimited_size channel_strips page_of inside open_file lend read describe_walk agreement layout_for describe cz_info extents voxels channel_block shots layout scenes pages_expected word tiff_header walk chain join agrees directory ends entries entry scalar scalar_values array array_values entry_values value_at values_at value_place type_size integer_size header i32_at signed32 number_at part_at bind
differ b =
    let e : ◌≡◌ {A = List ℕ} (8 ∷ 9 ∷ []) (7 ∷ 9 ∷ []) = b.plane_leaves held held_eight (coordinate 0 0 0 0) (0 ∷ 0 ∷ []) in
    let n : ◌≡◌ {A = ℕ} 8 7 = cc in
    omega arith

-- without the strips
strips_listed : ((f g : List ℕ) → Overwritten (open_ranges f) f g → Blind f g) → ⊥
unfolding covers
strips_listed h = differ (h G G-eight (overwrite (open_ranges G) G 116 8 (rw opening_lists (spare G-open 116 refl))))

-- with a rectangle's samples alone
samples_listed : ((f g : List ℕ) → Overwritten (listed_for f (coordinate 0 0 0 0) second) f g → Blind f g) → ⊥
unfolding covers
samples_listed h =
    differ (h G G-eight (overwrite (listed_for G (coordinate 0 0 0 0) second) G 116 8 (rw second_lists (spare (G-open ++ (117, 1) ∷ []) 116 refl))))

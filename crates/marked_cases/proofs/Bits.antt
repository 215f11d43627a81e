-- Bits stated for each channel (document 02, request 3): what a small file with several values of BitsPerSample is answered, where the check stands
-- among the others, and which values are on the list. Words in quotation marks are document 02's, or document 01's. Each row is computed from the
-- definitions. Assumes nothing.
use Prim.Native.Nat.{ℕ}
use mathlib.Core.Path.{◌≡◌, refl}
use mathlib.Core.List.{List, [], ◌∷◌, ◌++◌}
use Rattle.lsm_format.specs.Answer.{Result, accepted, refused, bind}
use Rattle.lsm_format.specs.Ranges.{over, in_file, flat}
use Rattle.lsm_format.specs.Words.{word}
use Rattle.lsm_format.specs.Numbers.{part_at, number_at, i32_at, signed32}
use Rattle.lsm_format.specs.Scenes.{layout, scenes, pages_expected}
use Rattle.lsm_format.specs.Lent.{lend}
use Rattle.lsm_format.specs.CzInfo.{cz_info, header, extents, voxels, channel_block, shots, cz_ranges}
use Rattle.lsm_format.specs.Directory.{directory, ends, entries, entry, scalar, scalar_values, array, array_values, entry_values, value_at, values_at, all_equal, value_place, type_size, integer_size, equal_ranges, entry_ranges, entries_ranges, directory_ranges}
use Rattle.lsm_format.specs.Open.{open_file, read, tiff_header, walk, chain, join, agrees, describe_walk, agreement, layout_for, describe, chain_ranges, walk_ranges, open_ranges}
use Rattle.lsm_format.specs.Channels.{channels_ranges, channel_ranges}
use Rattle.lsm_format.specs.Listed.{strips_ranges, listed}
use Rattle.marked_cases.proofs.Interleaved.{in_bytes}
use Rattle.marked_cases.proofs.Series.{short}

-- ---- a file with so many channels

-- Little-endian, the directory at 52, in front of it the CZ block (X 1, Y 1), four bytes of samples at 36 and twelve for values at 40.
abbrev pub front : ℕ → ℕ → List ℕ → List ℕ
front z channels values =
    73 ∷ 73 ∷ 42 ∷ 0 ∷ 52 ∷ 0 ∷ 0 ∷ 0
    ∷ 76 ∷ 73 ∷ 0 ∷ 4 ∷ 28 ∷ 0 ∷ 0 ∷ 0
    ∷ 1 ∷ 0 ∷ 0 ∷ 0 ∷ 1 ∷ 0 ∷ 0 ∷ 0 ∷ z ∷ 0 ∷ 0 ∷ 0 ∷ channels ∷ 0 ∷ 0 ∷ 0 ∷ 1 ∷ 0 ∷ 0 ∷ 0
    ∷ 10 ∷ 20 ∷ 30 ∷ 40
    ∷ values

-- Twelve bytes with three values of 16 bits.
abbrev pub values : ℕ → ℕ → ℕ → List ℕ
values a b c = a ∷ 0 ∷ b ∷ 0 ∷ c ∷ 0 ∷ 0 ∷ 0 ∷ 0 ∷ 0 ∷ 0 ∷ 0 ∷ []

-- A directory of n entries.
abbrev pub of_entries : ℕ → List ℕ → ℕ → List ℕ
of_entries n entries next = n ∷ 0 ∷ entries ++ next ∷ 0 ∷ 0 ∷ 0 ∷ []

-- Six entries: width 1, a height, the bits, one strip, samples per pixel, and its byte count.
abbrev pub page : ℕ → List ℕ → ℕ → List ℕ
page height bits samples =
    short 0 1 1 0 ++ short 1 1 height 0 ++ bits ++ short 17 1 36 0 ++ short 21 1 samples 0 ++ short 23 1 4 0

abbrev pub cz_entry : List ℕ
cz_entry = 108 ∷ 134 ∷ 1 ∷ 0 ∷ 28 ∷ 0 ∷ 0 ∷ 0 ∷ 8 ∷ 0 ∷ 0 ∷ 0 ∷ []

-- A file of one page, whose samples per pixel are given too; it ends at 142.
abbrev pub of_page : ℕ → ℕ → List ℕ → List ℕ → List ℕ
of_page channels samples held bits = front 1 channels held ++ of_entries 7 (page 1 bits samples ++ cz_entry) 0

-- The same with one or several entries before the page's own.
abbrev pub after : ℕ → List ℕ → ℕ → List ℕ → List ℕ → List ℕ
after n first channels held bits = front 1 channels held ++ of_entries n (first ++ page 1 bits channels ++ cz_entry) 0

-- How many channels a file opens with, and how many directories were visited.
abbrev pub seen : List ℕ → Result (ℕ × ℕ)
seen f = bind (open_file f 8) (λ x. accepted (x.description.dims.c, x.visited))

-- Three values of 16 bits at a place out of line.
abbrev pub three_at : ℕ → List ℕ
three_at place = short 2 3 place 0

-- ---- the set of values

counts :
    -- "BitsPerSample 16, 8 for two channels", and the other way round
    (seen (of_page 2 2 (values 0 0 0) (short 2 2 16 8)) ≡ refused (8 ∷ []))
    × (seen (of_page 2 2 (values 0 0 0) (short 2 2 8 16)) ≡ refused (8 ∷ []))
    -- "all values equal"
    × (seen (of_page 2 2 (values 0 0 0) (short 2 2 8 8)) ≡ accepted (2, 1))
    × (seen (of_page 3 3 (values 8 8 8) (three_at 40)) ≡ accepted (3, 1))
    × (seen (of_page 3 3 (values 0 0 0) (in_bytes 2 3 8 8 8)) ≡ accepted (3, 1))
    -- "the count must be 1 or SamplesPerPixel": 3 for two channels, 2 for three; 1, whatever stands beside the first value
    × (seen (of_page 2 2 (values 8 8 8) (three_at 40)) ≡ refused (8 ∷ []))
    × (seen (of_page 3 3 (values 0 0 0) (short 2 2 8 8)) ≡ refused (8 ∷ []))
    × (seen (of_page 2 2 (values 0 0 0) (short 2 1 8 9)) ≡ accepted (2, 1))
    -- "0 taken as 1"; of one channel, two equal values are one too many
    × (seen (of_page 1 0 (values 0 0 0) (short 2 1 8 0)) ≡ accepted (1, 1))
    × (seen (of_page 1 0 (values 0 0 0) (short 2 2 8 8)) ≡ refused (8 ∷ []))
    × (seen (of_page 1 1 (values 0 0 0) (short 2 2 8 8)) ≡ refused (8 ∷ []))
    -- "A missing tag is not checked": an entry of tag 264 in its stead, so the bits are 1
    × (seen (of_page 2 2 (values 0 0 0) (short 8 2 8 16)) ≡ refused (3 ∷ []))
    -- a count of 0 is Decode, as of any scalar
    × (seen (of_page 2 2 (values 0 0 0) (short 2 0 8 8)) ≡ refused (2 ∷ []))
unfolding open_file lend read describe_walk agreement layout_for describe cz_info extents voxels channel_block shots layout scenes pages_expected word tiff_header walk chain join agrees directory ends entries entry scalar scalar_values array array_values entry_values value_at values_at all_equal value_place type_size integer_size header i32_at signed32 number_at part_at bind
counts = (refl, refl, refl, refl, refl, refl, refl, refl, refl, refl, refl, refl, refl)

-- ---- value by value

-- Three channels whose values stand at the end of the file, the third past it.
abbrev at_the_end : ℕ → List ℕ
at_the_end second = of_page 3 3 (values 0 0 0) (three_at 142) ++ 8 ∷ 0 ∷ second ∷ 0 ∷ []

in_turn :
    -- every value is compared, whichever it is
    (seen (of_page 3 3 (values 8 9 8) (three_at 40)) ≡ refused (8 ∷ []))
    × (seen (of_page 3 3 (values 8 8 9) (three_at 40)) ≡ refused (8 ∷ []))
    × (seen (of_page 3 3 (values 9 8 8) (three_at 40)) ≡ refused (8 ∷ []))
    -- "one past the file is 1"; but "each compared before the next"
    × (seen (at_the_end 8) ≡ refused (1 ∷ []))
    × (seen (at_the_end 9) ≡ refused (8 ∷ []))
    -- a wrong count reads no more: five values for three channels, the third past the file; but the first is read in its entry's turn
    × (seen (of_page 3 3 (values 0 0 0) (short 2 5 142 0) ++ 8 ∷ 0 ∷ 8 ∷ 0 ∷ []) ≡ refused (8 ∷ []))
    × (seen (of_page 3 3 (values 0 0 0) (short 2 5 142 0)) ≡ refused (1 ∷ []))
    -- a further value is compared as it is: 65,552 as LONG is not 16, though its lower half is
    × (seen (of_page 3 3 (16 ∷ 0 ∷ 0 ∷ 0 ∷ 16 ∷ 0 ∷ 1 ∷ 0 ∷ 16 ∷ 0 ∷ 0 ∷ 0 ∷ []) (2 ∷ 1 ∷ 4 ∷ 0 ∷ 3 ∷ 0 ∷ 0 ∷ 0 ∷ 40 ∷ 0 ∷ 0 ∷ 0 ∷ [])) ≡ refused (8 ∷ []))
    × (seen (of_page 3 3 (16 ∷ 0 ∷ 0 ∷ 0 ∷ 16 ∷ 0 ∷ 0 ∷ 0 ∷ 16 ∷ 0 ∷ 0 ∷ 0 ∷ []) (2 ∷ 1 ∷ 4 ∷ 0 ∷ 3 ∷ 0 ∷ 0 ∷ 0 ∷ 40 ∷ 0 ∷ 0 ∷ 0 ∷ [])) ≡ accepted (3, 1))
unfolding open_file lend read describe_walk agreement layout_for describe cz_info extents voxels channel_block shots layout scenes pages_expected word tiff_header walk chain join agrees directory ends entries entry scalar scalar_values array array_values entry_values value_at values_at all_equal value_place type_size integer_size header i32_at signed32 number_at part_at bind
in_turn = (refl, refl, refl, refl, refl, refl, refl, refl, refl)

-- ---- entries in any order, and repeated

-- the counts of a page's strips with two values, where its offsets have one
abbrev two_counts : List ℕ → ℕ → List ℕ
two_counts bits samples =
    front 1 samples (values 0 0 0)
    ++ of_entries 7 (short 0 1 1 0 ++ short 1 1 1 0 ++ bits ++ short 17 1 36 0 ++ short 21 1 samples 0 ++ short 23 2 4 4 ++ cz_entry) 0

entries_whole :
    -- the count is held to what the whole directory states: SamplesPerPixel 1, three values, SamplesPerPixel 3
    (seen (after 8 (short 21 1 1 0) 3 (values 8 8 8) (three_at 40)) ≡ accepted (3, 1))
    -- of BitsPerSample too "the last wins", with its count and its values
    × (seen (after 8 (short 2 2 8 9) 1 (values 0 0 0) (short 2 1 8 0)) ≡ accepted (1, 1))
    × (seen (after 8 (short 2 1 8 0) 2 (values 0 0 0) (short 2 2 8 9)) ≡ refused (8 ∷ []))
    -- of the others the first value is read in its turn: one past the file
    × (seen (after 8 (three_at 250) 1 (values 0 0 0) (short 2 1 8 0)) ≡ refused (1 ∷ []))
    -- "after a directory's two strip arrays are found equal in length": first 2, also where a further value is past the file
    × (seen (two_counts (short 2 2 16 8) 2) ≡ refused (2 ∷ []))
    × (seen (two_counts (three_at 142) 3 ++ 8 ∷ 0 ∷ 8 ∷ 0 ∷ []) ≡ refused (2 ∷ []))
    -- and after every entry: a width of type 13 behind the uneven bits
    × (seen (front 1 2 (values 0 0 0) ++ of_entries 8 (page 1 (short 2 2 8 9) 2 ++ cz_entry ++ 0 ∷ 1 ∷ 13 ∷ 0 ∷ 1 ∷ 0 ∷ 0 ∷ 0 ∷ 1 ∷ 0 ∷ 0 ∷ 0 ∷ []) 0) ≡ refused (2 ∷ []))
unfolding open_file lend read describe_walk agreement layout_for describe cz_info extents voxels channel_block shots layout scenes pages_expected word tiff_header walk chain join agrees directory ends entries entry scalar scalar_values array array_values entry_values value_at values_at all_equal value_place type_size integer_size header i32_at signed32 number_at part_at bind
entries_whole = (refl, refl, refl, refl, refl, refl, refl)

-- ---- a second directory

-- A file of two directories, the second at 142: the first is a page of two channels with the values 8, 8.
abbrev then_page : ℕ → ℕ → List ℕ → ℕ → List ℕ
then_page z height bits samples =
    front z 2 (values 0 0 0) ++ of_entries 7 (page 1 (short 2 2 8 8) 2 ++ cz_entry) 142 ++ of_entries 6 (page height bits samples) 0

-- NewSubfileType 1
abbrev pub reduced_entry : List ℕ
reduced_entry = 254 ∷ 0 ∷ 3 ∷ 0 ∷ 1 ∷ 0 ∷ 0 ∷ 0 ∷ 1 ∷ 0 ∷ 0 ∷ 0 ∷ []

-- The second directory is a reduced page, whose three values are given, and stand at 40.
abbrev pub then_reduced : ℕ → ℕ → ℕ → List ℕ → List ℕ
then_reduced a b c bits =
    front 1 2 (values a b c) ++ of_entries 7 (page 1 (short 2 2 8 8) 2 ++ cz_entry) 142 ++ of_entries 7 (reduced_entry ++ page 1 bits 3) 0

second_directories :
    -- "before it is held against the first page": another height, and the page's own SamplesPerPixel
    (seen (then_page 1 2 (short 2 2 8 9) 2) ≡ refused (8 ∷ []))
    × (seen (then_page 1 2 (short 2 2 8 8) 2) ≡ refused (3 ∷ []))
    × (seen (then_page 1 1 (short 2 2 8 8) 3) ≡ refused (8 ∷ []))
    × (seen (then_page 1 1 (short 2 1 8 0) 3) ≡ refused (3 ∷ []))
    -- in its directory's turn: before a second directory past the file, and before what the first page is held to at the end, as Compression 5
    × (seen (front 1 2 (values 0 0 0) ++ of_entries 7 (page 1 (short 2 2 8 9) 2 ++ cz_entry) 250) ≡ refused (8 ∷ []))
    × (seen (front 1 2 (values 0 0 0) ++ of_entries 7 (page 1 (short 2 2 8 8) 2 ++ cz_entry) 250) ≡ refused (1 ∷ []))
    × (seen (after 8 (short 3 1 5 0) 2 (values 0 0 0) (short 2 2 8 9)) ≡ refused (8 ∷ []))
    × (seen (after 8 (short 3 1 5 0) 2 (values 0 0 0) (short 2 2 8 8)) ≡ refused (3 ∷ []))
    -- even bits, and others than the first page's
    × (seen (then_page 1 1 (short 2 2 16 16) 2) ≡ refused (3 ∷ []))
    -- the count is no geometry: a page with one value and one with two agree
    × (seen (then_page 2 1 (short 2 1 8 0) 2) ≡ accepted (2, 2))
    -- "On a full page": a reduced one may state any set, also one that passes the file; its first value is read as ever
    × (seen (then_reduced 8 16 8 (three_at 40)) ≡ accepted (2, 2))
    × (seen (then_reduced 8 16 8 (short 2 2 8 16)) ≡ accepted (2, 2))
    × (seen (then_reduced 0 0 0 (three_at 232) ++ 8 ∷ 0 ∷ 9 ∷ 0 ∷ []) ≡ accepted (2, 2))
    × (seen (then_reduced 0 0 0 (three_at 232)) ≡ refused (1 ∷ []))
unfolding open_file lend read describe_walk agreement layout_for describe cz_info extents voxels channel_block shots layout scenes pages_expected word tiff_header walk chain join agrees directory ends entries entry scalar scalar_values array array_values entry_values value_at values_at all_equal value_place type_size integer_size header i32_at signed32 number_at part_at bind
second_directories = (refl, refl, refl, refl, refl, refl, refl, refl, refl, refl, refl, refl, refl, refl)

-- ---- the list

-- what opening reads of the first directory, entry by entry, but for out-of-line values
abbrev first_page : List (ℕ × ℕ) → List (ℕ × ℕ)
first_page bits = (0, 8) ∷ (52, 2) ∷ (52, 90) ∷ (62, 2) ∷ (74, 2) ∷ bits ++ (98, 2) ∷ (110, 2) ∷ (122, 2) ∷ []

-- and of a reduced page after it
abbrev pub reduced_list : List (ℕ × ℕ)
reduced_list =
    first_page ((86, 2) ∷ []) ++ (88, 2) ∷ (142, 2) ∷ (142, 90) ∷ (152, 2) ∷ (164, 2) ∷ (176, 2) ∷ (40, 2) ∷ (200, 2) ∷ (212, 2) ∷ (224, 2) ∷ (8, 8) ∷ (8, 28) ∷ []

-- "All values read join the list of read bytes"
pub bits_lists :
    -- out of line: the first by its entry, the second and the third when the directory is whole
    (flat (open_ranges (of_page 3 3 (values 8 8 8) (three_at 40))) ≡ first_page ((40, 2) ∷ []) ++ (42, 2) ∷ (44, 2) ∷ (8, 8) ∷ (8, 28) ∷ [])
    -- up to the one that differs; and none of a wrong count
    × (flat (open_ranges (of_page 3 3 (values 8 9 8) (three_at 40))) ≡ first_page ((40, 2) ∷ []) ++ (42, 2) ∷ [])
    × (flat (open_ranges (of_page 2 2 (values 8 8 8) (three_at 40))) ≡ first_page ((40, 2) ∷ []))
    -- of a reduced page the first alone
    × (flat (open_ranges (then_reduced 8 16 8 (three_at 40))) ≡ reduced_list)
unfolding open_ranges walk_ranges chain_ranges directory_ranges entries_ranges entry_ranges equal_ranges cz_ranges over in_file flat tiff_header walk chain join agrees directory ends entries entry scalar scalar_values array array_values entry_values value_at values_at all_equal value_place type_size integer_size header i32_at signed32 number_at part_at bind
bits_lists = (refl, refl, refl, refl)

-- the whole list of the file with the reduced page: its strip too
pub reduced_lists : flat (listed (then_reduced 8 16 8 (three_at 40))) ≡ reduced_list ++ (36, 4) ∷ []
unfolding listed strips_ranges read describe_walk agreement layout_for describe cz_info extents voxels channel_block shots layout scenes pages_expected word channels_ranges channel_ranges open_ranges walk_ranges chain_ranges directory_ranges entries_ranges entry_ranges equal_ranges cz_ranges over in_file flat tiff_header walk chain join agrees directory ends entries entry scalar scalar_values array array_values entry_values value_at values_at all_equal value_place type_size integer_size header i32_at signed32 number_at part_at bind
reduced_lists = refl

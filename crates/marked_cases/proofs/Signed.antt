-- Signed entry types (document 02, request 5): which values are below 0, in which turn 9 is said, and what is on the list then. Words in quotation
-- marks are document 02's, or document 01's. Each row is computed from the definitions. Assumes nothing.
use Prim.Native.Nat.{ℕ, ◌+◌, ◌*◌}
use mathlib.Core.Path.{◌≡◌, refl}
use mathlib.Core.List.{List, [], ◌∷◌, ◌++◌}
use lib.ListN.{set}
use Rattle.lsm_format.specs.Answer.{accepted, refused, bind}
use Rattle.lsm_format.specs.Ranges.{over, in_file, flat}
use Rattle.lsm_format.specs.Words.{word}
use Rattle.lsm_format.specs.Numbers.{little, big, part_at, number_at, i32_at, signed32}
use Rattle.lsm_format.specs.Scenes.{layout, scenes, pages_expected}
use Rattle.lsm_format.specs.Lent.{lend}
use Rattle.lsm_format.specs.CzInfo.{cz_info, header, extents, voxels, channel_block, shots, cz_ranges}
use Rattle.lsm_format.specs.Directory.{directory, ends, entries, entry, scalar, scalar_values, array, array_values, entry_values, value_at, values_at, all_equal, value_place, type_size, integer_size, equal_ranges, signed_ranges, entry_ranges, entries_ranges, directory_ranges}
use Rattle.lsm_format.specs.Open.{open_file, read, tiff_header, walk, chain, join, agrees, describe_walk, agreement, layout_for, describe, chain_ranges, walk_ranges, open_ranges}
use Rattle.marked_cases.specs.Marked.{G, G-opened}
use Rattle.marked_cases.proofs.Series.{short}
use Rattle.marked_cases.proofs.Bits.{front, values, of_entries, page, cz_entry, reduced_entry, after, of_page, seen, then_reduced}

-- ---- a value

by_type :
    -- "types 6, 8 and 9 are to be read as two's complement": the sign is the top bit of the type's own bytes, in either order
    (value_at 6 little (127 ∷ []) 0 ≡ accepted 127)
    × (value_at 6 little (128 ∷ []) 0 ≡ refused (9 ∷ []))
    × (value_at 6 big (255 ∷ []) 0 ≡ refused (9 ∷ []))
    × (value_at 8 little (255 ∷ 127 ∷ []) 0 ≡ accepted 32767)
    × (value_at 8 little (0 ∷ 128 ∷ []) 0 ≡ refused (9 ∷ []))
    × (value_at 8 little (255 ∷ 0 ∷ []) 0 ≡ accepted 255)
    × (value_at 8 big (0 ∷ 255 ∷ []) 0 ≡ accepted 255)
    × (value_at 8 big (255 ∷ 0 ∷ []) 0 ≡ refused (9 ∷ []))
    × (value_at 9 little (255 ∷ 255 ∷ 255 ∷ 127 ∷ []) 0 ≡ accepted 2147483647)
    × (value_at 9 little (0 ∷ 0 ∷ 0 ∷ 128 ∷ []) 0 ≡ refused (9 ∷ []))
    × (value_at 9 big (128 ∷ 0 ∷ 0 ∷ 0 ∷ []) 0 ≡ refused (9 ∷ []))
    × (value_at 9 big (0 ∷ 0 ∷ 255 ∷ 255 ∷ []) 0 ≡ accepted 65535)
    -- type 11 stays "unsigned bits", as the others are
    × (value_at 11 little (0 ∷ 0 ∷ 0 ∷ 128 ∷ []) 0 ≡ accepted 2147483648)
    × (value_at 1 little (255 ∷ []) 0 ≡ accepted 255)
    × (value_at 7 little (255 ∷ []) 0 ≡ accepted 255)
    × (value_at 3 little (255 ∷ 255 ∷ []) 0 ≡ accepted 65535)
    × (value_at 4 little (255 ∷ 255 ∷ 255 ∷ 255 ∷ []) 0 ≡ accepted 4294967295)
    -- a value past the file has no sign
    × (value_at 9 little (255 ∷ 255 ∷ 255 ∷ []) 0 ≡ refused (1 ∷ []))
unfolding value_at type_size integer_size number_at part_at bind
by_type = (refl, refl, refl, refl, refl, refl, refl, refl, refl, refl, refl, refl, refl, refl, refl, refl, refl, refl)

-- ---- scalars

-- File G with another type and other bytes in the value field of its entry i: 0 is the width, 3 the strip's offset, 4 its byte count.
abbrev pub typed : ℕ → ℕ → ℕ → ℕ → ℕ → ℕ → List ℕ
typed i type a b c d =
    set (set (set (set (set G (12 + 12 * i) type) (18 + 12 * i) a) (19 + 12 * i) b) (20 + 12 * i) c) (21 + 12 * i) d

-- An entry whose tag is 256 and so much, of a type and a count, with the bytes of its field.
abbrev pub of_type : ℕ → ℕ → ℕ → ℕ → ℕ → ℕ → ℕ → List ℕ
of_type tag type count a b c d = tag ∷ 1 ∷ type ∷ 0 ∷ count ∷ 0 ∷ 0 ∷ 0 ∷ a ∷ b ∷ c ∷ d ∷ []

-- One of type SLONG and count 1 that states -1; and of NewSubfileType.
abbrev below : ℕ → List ℕ
below tag = of_type tag 9 1 255 255 255 255

abbrev below_subfile : ℕ → List ℕ
below_subfile type = 254 ∷ 0 ∷ type ∷ 0 ∷ 1 ∷ 0 ∷ 0 ∷ 0 ∷ 255 ∷ 255 ∷ 255 ∷ 255 ∷ []

-- A page of one channel with an entry before its own.
abbrev behind : List ℕ → List ℕ
behind first = after 8 first 1 (values 0 0 0) (short 2 1 8 0)

scalars :
    -- "Zero and above read as before": width 2 as SBYTE, SSHORT and SLONG, and the strip's offset; what stands beside a value in its field is no part of it
    (open_file (typed 0 8 2 0 0 0) 2 ≡ accepted G-opened)
    × (open_file (typed 0 6 2 255 255 255) 2 ≡ accepted G-opened)
    × (open_file (typed 0 9 2 0 0 0) 2 ≡ accepted G-opened)
    × (open_file (typed 3 9 116 0 0 0) 2 ≡ accepted G-opened)
    × (open_file (typed 3 8 116 0 255 255) 2 ≡ accepted G-opened)
    -- "held -1, read as 4,294,967,295": the strip's offset, and its byte count
    × (open_file (typed 3 9 255 255 255 255) 2 ≡ refused (9 ∷ []))
    × (open_file (typed 4 9 255 255 255 255) 2 ≡ refused (9 ∷ []))
    -- a width of 255 as SSHORT is not the block's 2; as SBYTE it is -1; of type 11 with the top bit set it isn't the block's either
    × (open_file (typed 0 8 255 0 0 0) 2 ≡ refused (2 ∷ []))
    × (open_file (typed 0 6 255 0 0 0) 2 ≡ refused (9 ∷ []))
    × (open_file (typed 0 11 0 0 0 128) 2 ≡ refused (2 ∷ []))
    -- every scalar, also where "of a repeated tag the last wins" and this is not the last: width, length, bits, Compression, SamplesPerPixel,
    -- PlanarConfiguration, SampleFormat, NewSubfileType
    × (seen (behind (below 0)) ≡ refused (9 ∷ []))
    × (seen (behind (below 1)) ≡ refused (9 ∷ []))
    × (seen (behind (below 2)) ≡ refused (9 ∷ []))
    × (seen (behind (below 3)) ≡ refused (9 ∷ []))
    × (seen (behind (below 21)) ≡ refused (9 ∷ []))
    × (seen (behind (below 28)) ≡ refused (9 ∷ []))
    × (seen (behind (below 83)) ≡ refused (9 ∷ []))
    × (seen (behind (below_subfile 9)) ≡ refused (9 ∷ []))
    -- the same bits as LONG: a width that is overruled; a Compression "above 65,535"; a page that is reduced, so that there is no other
    × (seen (behind (of_type 0 4 1 255 255 255 255)) ≡ accepted (1, 1))
    × (seen (behind (of_type 3 4 1 255 255 255 255)) ≡ refused (2 ∷ []))
    × (seen (behind (below_subfile 4)) ≡ refused (2 ∷ []))
    -- a tag that isn't used; the second value of a scalar; a count of 0; a first value past the file
    × (seen (behind (below 8)) ≡ accepted (1, 1))
    × (seen (behind (of_type 0 8 2 1 0 255 255)) ≡ accepted (1, 1))
    × (seen (behind (of_type 0 9 0 255 255 255 255)) ≡ refused (2 ∷ []))
    × (seen (behind (of_type 0 9 2 250 0 0 0)) ≡ refused (1 ∷ []))
    -- a CZ entry of type SLONG: its field is no value
    × (open_file (typed 5 7 88 0 0 0) 2 ≡ accepted G-opened)
    × (seen (front 1 1 (values 0 0 0) ++ of_entries 7 (page 1 (short 2 1 8 0) 1 ++ 108 ∷ 134 ∷ 9 ∷ 0 ∷ 7 ∷ 0 ∷ 0 ∷ 0 ∷ 8 ∷ 0 ∷ 0 ∷ 0 ∷ []) 0) ≡ accepted (1, 1))
    × (seen (front 1 1 (values 0 0 0) ++ of_entries 7 (page 1 (short 2 1 8 0) 1 ++ 108 ∷ 134 ∷ 9 ∷ 0 ∷ 7 ∷ 0 ∷ 0 ∷ 0 ∷ 255 ∷ 255 ∷ 255 ∷ 255 ∷ []) 0) ≡ refused (2 ∷ []))
unfolding open_file lend read describe_walk agreement layout_for describe cz_info extents voxels channel_block shots layout scenes pages_expected word tiff_header walk chain join agrees directory ends entries entry scalar scalar_values array array_values entry_values value_at values_at all_equal value_place type_size integer_size header i32_at signed32 number_at part_at bind
scalars = (refl, refl, refl, refl, refl, refl, refl, refl, refl, refl, refl, refl, refl, refl, refl, refl, refl, refl, refl, refl, refl, refl, refl, refl, refl, refl, refl, refl)

-- ---- strip arrays

-- A page of one channel whose strip offsets and byte counts are given.
abbrev pub strips : List ℕ → List ℕ → List ℕ → List ℕ
strips held offsets counts =
    front 1 1 held ++ of_entries 7 (short 0 1 1 0 ++ short 1 1 1 0 ++ short 2 1 8 0 ++ offsets ++ short 21 1 1 0 ++ counts ++ cz_entry) 0

-- Two offsets of four bytes, of which the first stands at the end of the file and the second is past it.
abbrev pub over_the_end : ℕ → ℕ → ℕ → List ℕ
over_the_end type a d = strips (values 0 0 0) (of_type 17 type 2 142 0 0 0) (short 23 2 1 1) ++ a ∷ 0 ∷ 0 ∷ d ∷ []

-- Three SLONG offsets at 40.
abbrev pub three : ℕ → ℕ → ℕ → List ℕ
three a b c = strips (36 ∷ 0 ∷ 0 ∷ a ∷ 37 ∷ 0 ∷ 0 ∷ b ∷ 38 ∷ 0 ∷ 0 ∷ c ∷ []) (of_type 17 9 3 40 0 0 0) (of_type 23 6 3 1 1 1 0)

arrays :
    -- "an array value by value": -1 and then one past the file is 9, one of 0 and above and then one past the file is 1
    (seen (over_the_end 9 0 128) ≡ refused (9 ∷ []))
    × (seen (over_the_end 9 8 0) ≡ refused (1 ∷ []))
    -- an unsigned one is 1 either way
    × (seen (over_the_end 4 0 128) ≡ refused (1 ∷ []))
    × (seen (over_the_end 11 0 128) ≡ refused (1 ∷ []))
    -- whichever value it is
    × (seen (three 0 0 0) ≡ accepted (1, 1))
    × (seen (three 128 0 0) ≡ refused (9 ∷ []))
    × (seen (three 0 128 0) ≡ refused (9 ∷ []))
    × (seen (three 0 0 128) ≡ refused (9 ∷ []))
    × (seen (strips (values 0 0 0) (of_type 17 8 2 36 0 37 128) (of_type 23 6 2 1 1 0 0)) ≡ refused (9 ∷ []))
    × (seen (strips (values 0 0 0) (of_type 17 8 2 36 0 37 0) (of_type 23 6 2 1 255 0 0)) ≡ refused (9 ∷ []))
    × (seen (strips (values 0 0 0) (of_type 17 8 2 36 0 37 0) (of_type 23 6 2 1 1 255 255)) ≡ accepted (1, 1))
    -- the type, and the count of strips, come first: type 10; 100,001 strips; none, whose field isn't read
    × (seen (strips (values 0 0 0) (of_type 17 10 1 36 0 0 0) (below 23)) ≡ refused (2 ∷ []))
    × (seen (strips (values 0 0 0) (17 ∷ 1 ∷ 9 ∷ 0 ∷ 161 ∷ 134 ∷ 1 ∷ 0 ∷ 40 ∷ 0 ∷ 0 ∷ 0 ∷ []) (below 23)) ≡ refused (2 ∷ []))
    × (seen (strips (values 0 0 0) (of_type 17 9 0 255 255 255 255) (of_type 23 9 0 255 255 255 255)) ≡ refused (2 ∷ []))
    -- before the two arrays' lengths are compared
    × (seen (strips (values 0 0 0) (of_type 17 8 2 36 0 37 128) (short 23 1 1 0)) ≡ refused (9 ∷ []))
    × (seen (strips (values 0 0 0) (of_type 17 8 2 36 0 37 0) (short 23 1 1 0)) ≡ refused (2 ∷ []))
    -- an array that a later one overrules
    × (seen (behind (below 17)) ≡ refused (9 ∷ []))
    × (seen (behind (of_type 17 4 1 255 255 255 255)) ≡ accepted (1, 1))
unfolding open_file lend read describe_walk agreement layout_for describe cz_info extents voxels channel_block shots layout scenes pages_expected word tiff_header walk chain join agrees directory ends entries entry scalar scalar_values array array_values entry_values value_at values_at all_equal value_place type_size integer_size header i32_at signed32 number_at part_at bind
arrays = (refl, refl, refl, refl, refl, refl, refl, refl, refl, refl, refl, refl, refl, refl, refl, refl, refl, refl)

-- ---- turns

-- A second directory at 142, a reduced page with a strip offset of its own; the first is a page of two channels.
abbrev pub reduced_strip : List ℕ → List ℕ
reduced_strip offset =
    front 1 2 (values 0 0 0) ++ of_entries 7 (page 1 (short 2 1 8 0) 2 ++ cz_entry) 142
    ++ of_entries 4 (reduced_entry ++ short 0 1 1 0 ++ offset ++ short 23 1 1 0) 0

-- A first directory of two channels, and a second of another height, or that can't be read.
abbrev two_pages : List ℕ → List ℕ → List ℕ
two_pages first second =
    front 1 2 (values 0 0 0) ++ of_entries 7 (page 1 first 2 ++ cz_entry) 142 ++ second

turns :
    -- of every visited directory: a reduced page too
    (seen (reduced_strip (short 17 1 36 0)) ≡ accepted (2, 2))
    × (seen (reduced_strip (below 17)) ≡ refused (9 ∷ []))
    -- "a scalar in its entry's turn": before and after a width of type 13
    × (seen (after 9 (below 3 ++ of_type 0 13 1 1 0 0 0) 1 (values 0 0 0) (short 2 1 8 0)) ≡ refused (9 ∷ []))
    × (seen (after 9 (of_type 0 13 1 1 0 0 0 ++ below 3) 1 (values 0 0 0) (short 2 1 8 0)) ≡ refused (2 ∷ []))
    -- a directory whose next pointer passes the file is 1 first; one that leads past the file is visited after this one's entries
    × (seen (front 1 1 (values 0 0 0) ++ 7 ∷ 0 ∷ page 1 (below 2) 1 ++ cz_entry) ≡ refused (1 ∷ []))
    × (seen (front 1 1 (values 0 0 0) ++ of_entries 7 (page 1 (below 2) 1 ++ cz_entry) 250) ≡ refused (9 ∷ []))
    -- after an earlier directory's refusal, and before a later one's
    × (seen (two_pages (short 2 2 8 9) (of_entries 6 (page 1 (below 2) 2) 0)) ≡ refused (8 ∷ []))
    × (seen (two_pages (short 2 2 8 8) (of_entries 6 (page 1 (below 2) 2) 0)) ≡ refused (9 ∷ []))
    -- before it is held against the first page
    × (seen (two_pages (short 2 2 8 8) (of_entries 6 (page 2 (below 2) 2) 0)) ≡ refused (9 ∷ []))
unfolding open_file lend read describe_walk agreement layout_for describe cz_info extents voxels channel_block shots layout scenes pages_expected word tiff_header walk chain join agrees directory ends entries entry scalar scalar_values array array_values entry_values value_at values_at all_equal value_place type_size integer_size header i32_at signed32 number_at part_at bind
turns = (refl, refl, refl, refl, refl, refl, refl, refl, refl)

-- ---- bits for each channel

-- three values of 16 bits of type SSHORT at 40
abbrev three_signed : List ℕ
three_signed = of_type 2 8 3 40 0 0 0

abbrev held : ℕ → ℕ → ℕ → ℕ → List ℕ
held a b sign c = a ∷ 0 ∷ b ∷ sign ∷ c ∷ 0 ∷ 0 ∷ 0 ∷ 0 ∷ 0 ∷ 0 ∷ 0 ∷ []

further_bits :
    -- "a further bits value before it is compared": 8 and -8 as SBYTE for two channels; for one the count is wrong, and the second isn't read
    (seen (of_page 2 2 (values 0 0 0) (of_type 2 6 2 8 248 0 0)) ≡ refused (9 ∷ []))
    × (seen (of_page 1 1 (values 0 0 0) (of_type 2 6 2 8 248 0 0)) ≡ refused (8 ∷ []))
    × (seen (of_page 2 2 (values 0 0 0) (of_type 2 1 2 8 248 0 0)) ≡ refused (8 ∷ []))
    × (seen (of_page 2 2 (values 0 0 0) (of_type 2 6 2 8 8 255 255)) ≡ accepted (2, 1))
    -- value by value: the second is negative, and the third another, or past the file
    × (seen (of_page 3 3 (held 8 8 128 9) three_signed) ≡ refused (9 ∷ []))
    × (seen (of_page 3 3 (held 8 9 0 255) three_signed) ≡ refused (8 ∷ []))
    × (seen (of_page 3 3 (8 ∷ 0 ∷ 9 ∷ 0 ∷ 8 ∷ 128 ∷ 0 ∷ 0 ∷ 0 ∷ 0 ∷ 0 ∷ 0 ∷ []) three_signed) ≡ refused (8 ∷ []))
    × (seen (of_page 3 3 (values 0 0 0) (of_type 2 8 3 142 0 0 0) ++ 8 ∷ 0 ∷ 8 ∷ 128 ∷ []) ≡ refused (9 ∷ []))
    × (seen (of_page 3 3 (values 0 0 0) (of_type 2 8 3 142 0 0 0) ++ 8 ∷ 0 ∷ 8 ∷ 0 ∷ []) ≡ refused (1 ∷ []))
    -- the first in its entry's turn, the others after the strip arrays are found equal in length, and before the geometry
    × (seen (strips (values 0 0 0) (of_type 2 6 2 248 8 0 0) (short 23 2 1 1)) ≡ refused (9 ∷ []))
    × (seen (two_pages (short 2 2 8 8) (of_entries 6 (page 2 (of_type 2 6 2 8 248 0 0) 2) 0)) ≡ refused (9 ∷ []))
    × (seen (front 1 2 (values 0 0 0) ++ of_entries 7 (short 0 1 1 0 ++ short 1 1 1 0 ++ of_type 2 6 2 8 248 0 0 ++ short 17 1 36 0 ++ short 21 1 2 0 ++ short 23 2 4 4 ++ cz_entry) 0) ≡ refused (2 ∷ []))
    -- of a reduced page they aren't read
    × (seen (then_reduced 8 248 8 (of_type 2 8 3 40 0 0 0)) ≡ accepted (2, 2))
    × (seen (then_reduced 8 8 8 (of_type 2 6 3 8 248 8 0)) ≡ accepted (2, 2))
unfolding open_file lend read describe_walk agreement layout_for describe cz_info extents voxels channel_block shots layout scenes pages_expected word tiff_header walk chain join agrees directory ends entries entry scalar scalar_values array array_values entry_values value_at values_at all_equal value_place type_size integer_size header i32_at signed32 number_at part_at bind
further_bits = (refl, refl, refl, refl, refl, refl, refl, refl, refl, refl, refl, refl, refl, refl)

-- ---- the list

-- what opening reads of a directory with these strips, but for out-of-line values
abbrev list : List (ℕ × ℕ) → List (ℕ × ℕ) → List (ℕ × ℕ)
list offsets rest = (0, 8) ∷ (52, 2) ∷ (52, 90) ∷ (62, 2) ∷ (74, 2) ∷ (86, 2) ∷ offsets ++ (110, 2) ∷ rest

signed_lists :
    -- "all values of strip arrays": the signed ones one by one, which makes no other list of an accepted file (`same_bytes`)
    (flat (open_ranges (three 0 0 0)) ≡ list ((40, 4) ∷ (44, 4) ∷ (48, 4) ∷ []) ((122, 1) ∷ (123, 1) ∷ (124, 1) ∷ (8, 8) ∷ (8, 28) ∷ []))
    -- of a file that is refused, up to the value that decides
    × (flat (open_ranges (three 0 128 0)) ≡ (0, 8) ∷ (52, 2) ∷ (52, 90) ∷ (62, 2) ∷ (74, 2) ∷ (86, 2) ∷ (40, 4) ∷ (44, 4) ∷ (110, 2) ∷ (122, 1) ∷ (123, 1) ∷ (124, 1) ∷ [])
    -- of an array that passes the file, the values before its end where they are signed, and none where they aren't
    × (flat (open_ranges (over_the_end 9 8 0)) ≡ list ((142, 4) ∷ []) ((122, 4) ∷ []))
    × (flat (open_ranges (over_the_end 4 8 0)) ≡ list [] ((122, 4) ∷ []))
unfolding open_ranges walk_ranges chain_ranges directory_ranges entries_ranges entry_ranges equal_ranges signed_ranges cz_ranges over in_file flat tiff_header walk chain join agrees directory ends entries entry scalar scalar_values array array_values entry_values value_at values_at all_equal value_place type_size integer_size header i32_at signed32 number_at part_at bind
signed_lists = (refl, refl, refl, refl)

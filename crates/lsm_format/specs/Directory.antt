-- One image file directory (lsm_reader.rs, parse_ifd; TIFF 6.0, section 2, "Image File Directory").
use Rattle.std.specs.Prelude.{ℕ, zero, suc, ◌+◌, ◌-◌, ◌*◌, ◌^◌, ◌/◌, ◌%◌, Bool, true, false, not, ◌&&◌, ◌||◌, cond, List, [], ◌∷◌, leb, ltb, eqb, Option, None, Some}
use Rattle.lsm_format.specs.Answer.{Result, accepted, bind, need, given, decode, uneven_bits, negative_value}
use Rattle.lsm_format.specs.Ranges.{Ranges, nothing, both, over, in_file}
use Rattle.lsm_format.specs.Numbers.{Order, number_at, u16_at, u32_at}

-- ---- types

abbrev pub among : ℕ → List ℕ → Bool
among n [] = false
among n (m ∷ ms) = eqb n m || among n ms

-- TIFF 6.0, "Types": 1 BYTE, 2 ASCII, 6 SBYTE, 7 UNDEFINED; 3 SHORT, 8 SSHORT; 4 LONG, 9 SLONG, 11 FLOAT; 5 RATIONAL, 10 SRATIONAL,
-- 12 DOUBLE. A type outside 1 to 12 has no size.
unfoldable pub type_size : ℕ → ℕ
type_size t =
    cond (among t (1 ∷ 2 ∷ 6 ∷ 7 ∷ [])) 1
    (cond (among t (3 ∷ 8 ∷ [])) 2
    (cond (among t (4 ∷ 9 ∷ 11 ∷ [])) 4
    (cond (among t (5 ∷ 10 ∷ 12 ∷ [])) 8 0)))

-- The bytes of a type that is read as a number: "a value of a type other than 1, 3, 4, 6 to 9 or 11 [..] is Decode".
unfoldable pub integer_size : ℕ → Option ℕ
integer_size t = cond (among t (1 ∷ 3 ∷ 4 ∷ 6 ∷ 7 ∷ 8 ∷ 9 ∷ 11 ∷ [])) (Some (type_size t)) None

-- Document 02, request 5: "Types 6, 8 and 9 are to be read as two's complement". Of document 01's "Types 6, 8, 9 and 11 are read as unsigned
-- bits" type 11 is left.
abbrev pub is_signed : ℕ → Bool
is_signed t = among t (6 ∷ 8 ∷ 9 ∷ [])

-- TIFF 6.0, "Types": an SBYTE, SSHORT or SLONG is a "signed (twos-complement) integer" of 8, 16 or 32 bits: negative where its own top bit is set.
abbrev pub is_negative : ℕ → ℕ → Bool
is_negative size v = leb (2 ^ (8 * size - 1)) v

-- ---- values

-- One value of a type at a place: "9, a negative value, on opening, as soon as that value is read"; "Zero and above read as before".
unfoldable pub value_at : ℕ → Order → List ℕ → ℕ → Result ℕ
value_at type o f p =
    bind (given decode (integer_size type)) (λ size.
    bind (number_at size o f p) (λ v.
    bind (need negative_value (not (is_signed type && is_negative size v))) (λ _. accepted v)))

-- n values of a type, one after another from a place on.
unfoldable pub values_at : ℕ → ℕ → Order → List ℕ → ℕ → Result (List ℕ)
values_at zero type o f p = accepted []
values_at (suc n) type o f p = bind (value_at type o f p) (λ v. bind (values_at n type o f (p + type_size type)) (λ vs. accepted (v ∷ vs)))

-- n values of a type from a place on, all of them v: "all values equal", "in turn, each compared before the next".
unfoldable pub all_equal : ℕ → ℕ → ℕ → Order → List ℕ → ℕ → Result (Unit {0})
all_equal zero v type o f p = accepted tt
all_equal (suc n) v type o f p =
    bind (value_at type o f p) (λ w.
    bind (need uneven_bits (eqb w v)) (λ _. all_equal n v type o f (p + type_size type)))

-- The values of an entry: where the first stands, their type, and how many they are.
pub record Values : Type 0 where
  pub place : ℕ
  pub type : ℕ
  pub count : ℕ

-- TIFF 6.0, "IFD Entry", bytes 8-11: the values themselves if they fit into 4 bytes, otherwise their offset.
abbrev pub place_by : Bool → Order → List ℕ → ℕ → Result ℕ
place_by true o f place = accepted place
place_by false o f place = u32_at o f place

unfoldable pub value_place : Order → List ℕ → ℕ → ℕ → ℕ → Result ℕ
value_place o f size count place = place_by (leb (size * count) 4) o f place

-- A type outside 1 to 12 is Decode, before any out-of-line read.
unfoldable pub entry_values : Order → List ℕ → ℕ → ℕ → ℕ → Result Values
entry_values o f type count place =
    bind (need decode (not (eqb (type_size type) 0))) (λ _.
    bind (value_place o f (type_size type) count place) (λ p. accepted (record { place = p; type = type; count = count })))

-- "a scalar with count 0 [..] is Decode": no value is read out of line then.
unfoldable pub scalar_values : Order → List ℕ → ℕ → ℕ → ℕ → Result Values
scalar_values o f type count place =
    bind (entry_values o f type count place) (λ v. bind (need decode (not (eqb v.count 0))) (λ _. accepted v))

-- The first value: "of several BitsPerSample values only the first counts", until a page's directory is whole (`even_bits` in Open).
unfoldable pub scalar : Order → List ℕ → ℕ → ℕ → ℕ → Result ℕ
scalar o f type count place = bind (scalar_values o f type count place) (λ v. value_at v.type o f v.place)

-- "100,000 strips pass, 100,001 are Decode"
unfoldable pub array_values : Order → List ℕ → ℕ → ℕ → ℕ → Result Values
array_values o f type count place =
    bind (entry_values o f type count place) (λ v. bind (need decode (leb v.count 100000)) (λ _. accepted v))

-- The values of a strip array: "a strip array with count 0 is empty", whatever its type.
unfoldable pub array : Order → List ℕ → ℕ → ℕ → ℕ → Result (List ℕ)
array o f type count place = bind (array_values o f type count place) (λ v. values_at v.count v.type o f v.place)

-- ---- a directory

-- The scalars that are used.
pub data Field : Type 0 where
  new_subfile_type image_width image_length bits_per_sample compression samples_per_pixel planar_configuration sample_format : Field

-- What a directory states: the number of each scalar; of BitsPerSample, all its values by their place; the strip arrays; of the CZ entry, the
-- block's offset and its declared bytes.
pub record Directory : Type 0 where
  pub scalars : Field → ℕ
  pub bits : Option Values
  pub offsets : List ℕ
  pub counts : List ℕ
  pub cz : Option (ℕ × ℕ)

-- "Absent, width and height are 0, [..] NewSubfileType 0, and SamplesPerPixel, BitsPerSample, SampleFormat, Compression and
-- PlanarConfiguration 1."
abbrev pub defaults : Field → ℕ
defaults new_subfile_type = 0
defaults image_width = 0
defaults image_length = 0
defaults bits_per_sample = 1
defaults compression = 1
defaults samples_per_pixel = 1
defaults planar_configuration = 1
defaults sample_format = 1

-- "Absent, [..] strip arrays empty"
abbrev pub plain : Directory
plain = record { scalars = defaults; bits = None; offsets = []; counts = []; cz = None }

-- "NewSubfileType with bit 0 or 2 set marks a reduced page"
abbrev pub is_reduced : ℕ → Bool
is_reduced v = eqb (v % 2) 1 || eqb (v / 4 % 2) 1

abbrev pub reduced : Directory → Bool
reduced d = is_reduced (d.scalars new_subfile_type)

-- PlanarConfiguration counts only as being 2 or not.
abbrev pub planar : Directory → Bool
planar d = eqb (d.scalars planar_configuration) 2

-- ---- entries

-- The tags: that of a scalar, and the others.
abbrev pub tag_number : Field → ℕ
tag_number new_subfile_type = 254
tag_number image_width = 256
tag_number image_length = 257
tag_number bits_per_sample = 258
tag_number compression = 259
tag_number samples_per_pixel = 277
tag_number planar_configuration = 284
tag_number sample_format = 339

pub data Tag : Type 0 where
  field : Field → Tag
  sample_bits strip_offsets strip_byte_counts cz_lsm_info other : Tag

abbrev pub tag_of : ℕ → Tag
tag_of t =
    cond (eqb t (tag_number new_subfile_type)) (field new_subfile_type)
    (cond (eqb t (tag_number image_width)) (field image_width)
    (cond (eqb t (tag_number image_length)) (field image_length)
    (cond (eqb t (tag_number bits_per_sample)) sample_bits
    (cond (eqb t (tag_number compression)) (field compression)
    (cond (eqb t 273) strip_offsets
    (cond (eqb t (tag_number samples_per_pixel)) (field samples_per_pixel)
    (cond (eqb t 279) strip_byte_counts
    (cond (eqb t (tag_number planar_configuration)) (field planar_configuration)
    (cond (eqb t (tag_number sample_format)) (field sample_format)
    (cond (eqb t 34412) cz_lsm_info other))))))))))

-- The directory with what an entry states: "of a repeated tag the last wins".
abbrev pub put : Field → ℕ → Directory → Directory
put t v d =
    record {
      scalars = λ s. cond (eqb (tag_number s) (tag_number t)) v (d.scalars s);
      bits = d.bits;
      offsets = d.offsets;
      counts = d.counts;
      cz = d.cz;
    }

abbrev pub put_bits : Values → Directory → Directory
put_bits v d = record { scalars = d.scalars; bits = Some v; offsets = d.offsets; counts = d.counts; cz = d.cz }

abbrev pub put_offsets : List ℕ → Directory → Directory
put_offsets a d = record { scalars = d.scalars; bits = d.bits; offsets = a; counts = d.counts; cz = d.cz }

abbrev pub put_counts : List ℕ → Directory → Directory
put_counts a d = record { scalars = d.scalars; bits = d.bits; offsets = d.offsets; counts = a; cz = d.cz }

abbrev pub put_cz : ℕ → ℕ → Directory → Directory
put_cz offset declared d = record { scalars = d.scalars; bits = d.bits; offsets = d.offsets; counts = d.counts; cz = Some (offset, declared) }

-- "SamplesPerPixel, BitsPerSample, SampleFormat or Compression above 65,535, is Decode"
abbrev pub is_short : Field → Bool
is_short new_subfile_type = false
is_short image_width = false
is_short image_length = false
is_short bits_per_sample = true
is_short compression = true
is_short samples_per_pixel = true
is_short planar_configuration = false
is_short sample_format = true

abbrev pub put_field : Field → ℕ → Directory → Result Directory
put_field t v d = bind (need decode (not (is_short t) || leb v 65535)) (λ _. accepted (put t v d))

-- An entry: its tag, type and count, and the place of its value or offset.
abbrev pub entry_by : Tag → Order → List ℕ → ℕ → ℕ → ℕ → Directory → Result Directory
entry_by (field t) o f type count place d = bind (scalar o f type count place) (λ v. put_field t v d)
-- BitsPerSample is read as any scalar; its other values are read when the directory is whole, if at all.
entry_by sample_bits o f type count place d =
    bind (scalar_values o f type count place) (λ vs.
    bind (value_at vs.type o f vs.place) (λ v.
    bind (put_field bits_per_sample v d) (λ e. accepted (put_bits vs e))))
entry_by strip_offsets o f type count place d = bind (array o f type count place) (λ a. accepted (put_offsets a d))
entry_by strip_byte_counts o f type count place d = bind (array o f type count place) (λ a. accepted (put_counts a d))
-- "A CZ entry (tag 34412) of at most 4 bytes [..] is Decode", whatever its type.
entry_by cz_lsm_info o f type count place d =
    bind (need decode (ltb 4 (type_size type * count))) (λ _.
    bind (u32_at o f place) (λ offset. accepted (put_cz offset (type_size type * count) d)))
entry_by other o f type count place d = accepted d

-- TIFF 6.0, "IFD Entry": bytes 0-1 the tag, 2-3 the type, 4-7 the count, 8-11 the value or its offset.
unfoldable pub entry : Order → List ℕ → ℕ → Directory → Result Directory
entry o f e d =
    bind (u16_at o f e) (λ tag.
    bind (u16_at o f (e + 2)) (λ type.
    bind (u32_at o f (e + 4)) (λ count. entry_by (tag_of tag) o f type count (e + 8) d)))

-- The entries from the i-th on, n of them; those of a directory start at base.
unfoldable pub entries : ℕ → Order → List ℕ → ℕ → ℕ → Directory → Result Directory
entries zero o f base i d = accepted d
entries (suc n) o f base i d = bind (entry o f (base + 12 * i) d) (λ e. entries n o f base (i + 1) e)

-- A directory's ends: how many entries it has, and where the next directory stands; 0 where there is none. TIFF 6.0: "a 2-byte count of
-- the number of directory entries, followed by a sequence of 12-byte field entries, followed by a 4-byte offset of the next IFD".
unfoldable pub ends : Order → List ℕ → ℕ → Result (ℕ × ℕ)
ends o f place = bind (u16_at o f place) (λ n. bind (u32_at o f (place + 2 + 12 * n)) (λ next. accepted (n, next)))

-- A directory and where the next one stands: "per directory, the next pointer, the entries in turn". What it is held to then is `agrees` in
-- Open.
unfoldable pub directory : Order → List ℕ → ℕ → Result (Directory × ℕ)
directory o f place = bind (ends o f place) (λ e. bind (entries e.0 o f (place + 2) 0 plain) (λ d. accepted (d, e.1)))

-- ---- what is read

-- The bytes of n values of a type.
abbrev pub value_ranges : ℕ → ℕ → List ℕ → ℕ → Ranges
value_ranges n type f p = over (given decode (integer_size type)) (λ size. in_file f p (size * n))

-- The bytes of values that are read "in turn, each compared before the next": up to the first that differs from v.
unfoldable pub equal_ranges : ℕ → ℕ → ℕ → Order → List ℕ → ℕ → Ranges
equal_ranges zero v type o f p = nothing
equal_ranges (suc n) v type o f p =
    both (value_ranges 1 type f p)
    (over (value_at type o f p) (λ w.
    over (need uneven_bits (eqb w v)) (λ _. equal_ranges n v type o f (p + type_size type))))

-- "out of line, the first value of each entry of a scalar tag the reader uses"
abbrev pub scalar_ranges : Order → List ℕ → ℕ → ℕ → ℕ → Ranges
scalar_ranges o f type count place = over (scalar_values o f type count place) (λ v. value_ranges 1 v.type f v.place)

-- The bytes of values that are read "value by value": up to the first that is negative or past the file.
unfoldable pub signed_ranges : ℕ → ℕ → Order → List ℕ → ℕ → Ranges
signed_ranges zero type o f p = nothing
signed_ranges (suc n) type o f p =
    both (value_ranges 1 type f p) (over (value_at type o f p) (λ _. signed_ranges n type o f (p + type_size type)))

-- "and all values of strip arrays". Of unsigned ones that pass the file none is read: they are 1, whatever the first of them are.
abbrev pub array_ranges : Order → List ℕ → ℕ → ℕ → ℕ → Ranges
array_ranges o f type count place =
    over (array_values o f type count place) (λ v.
    cond (is_signed v.type) (signed_ranges v.count v.type o f v.place) (value_ranges v.count v.type f v.place))

abbrev pub entry_by_ranges : Tag → Order → List ℕ → ℕ → ℕ → ℕ → Ranges
entry_by_ranges (field t) o f type count place = scalar_ranges o f type count place
entry_by_ranges sample_bits o f type count place = scalar_ranges o f type count place
entry_by_ranges strip_offsets o f type count place = array_ranges o f type count place
entry_by_ranges strip_byte_counts o f type count place = array_ranges o f type count place
entry_by_ranges cz_lsm_info o f type count place = nothing
entry_by_ranges other o f type count place = nothing

unfoldable pub entry_ranges : Order → List ℕ → ℕ → Ranges
entry_ranges o f e =
    over (u16_at o f e) (λ tag.
    over (u16_at o f (e + 2)) (λ type.
    over (u32_at o f (e + 4)) (λ count. entry_by_ranges (tag_of tag) o f type count (e + 8))))

unfoldable pub entries_ranges : ℕ → Order → List ℕ → ℕ → ℕ → Ranges
entries_ranges zero o f base i = nothing
entries_ranges (suc n) o f base i = both (entry_ranges o f (base + 12 * i)) (entries_ranges n o f base (i + 1))

-- "each visited directory, from its count to the last byte of its next pointer"
unfoldable pub directory_ranges : Order → List ℕ → ℕ → Ranges
directory_ranges o f place =
    both (in_file f place 2)
    (over (u16_at o f place) (λ n. both (in_file f place (6 + 12 * n)) (entries_ranges n o f (place + 2) 0)))

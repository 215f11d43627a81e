-- Opening a file (lsm_reader.rs, read_tiff_header, parse_lsm, open; io.rs).
use Rattle.std.specs.Prelude.{ℕ, zero, suc, ◌+◌, ◌-◌, ◌/◌, ◌%◌, max, Bool, true, false, not, ◌&&◌, ◌||◌, cond, List, [], ◌∷◌, ◌++◌, leb, eqb, length, get_or, Option, None, Some}
use Rattle.std.specs.Bool.{beq}
use Rattle.lsm_format.specs.Answer.{Result, accepted, refused, bind, need, given, parse, decode, unsupported, oversized_allocation, uneven_bits}
use Rattle.lsm_format.specs.Ranges.{Ranges, nothing, both, over, in_file}
use Rattle.lsm_format.specs.Numbers.{Order, little, big, u16_at, u32_at}
use Rattle.lsm_format.specs.Sizes.{Kind, u8, u16, i16, f32}
use Rattle.lsm_format.specs.Rectangle.{Dims}
use Rattle.lsm_format.specs.Scenes.{Layout, layout, pages_expected}
use Rattle.lsm_format.specs.Lent.{lend, filled}
use Rattle.lsm_format.specs.Calibration.{Calibration}
use Rattle.lsm_format.specs.CzInfo.{CzInfo, cz_info, cz_ranges}
use Rattle.lsm_format.specs.Directory.{type_size, all_equal, Values, equal_ranges, Field, image_width, image_length, bits_per_sample, compression, samples_per_pixel, sample_format, Directory, reduced, planar, directory, directory_ranges}

-- ---- the header

-- "only the 68,719,476,736-byte file limit" of io.rs
abbrev pub file_limit : ℕ
file_limit = 68719476736

-- TIFF 6.0, "Image File Header", bytes 0-1: "II" (hex 49 49) or "MM" (4D 4D); "a wrong order mark [..] is Parse"
abbrev pub order_mark : ℕ → ℕ → Result Order
order_mark a b =
    cond (eqb a 0x49 && eqb b 0x49) (accepted little) (cond (eqb a 0x4D && eqb b 0x4D) (accepted big) (refused parse))

-- "Under 8 bytes, a wrong order mark or magic other than 42 is Parse."
unfoldable pub tiff_header : List ℕ → Result Order
tiff_header f =
    bind (need parse (leb 8 (length f))) (λ _.
    bind (order_mark (get_or f 0 0) (get_or f 1 0)) (λ o.
    bind (u16_at o f 2) (λ magic. bind (need parse (eqb magic 42)) (λ _. accepted o))))

-- ---- what a directory is held to

-- "SamplesPerPixel 0 counts as 1 channel"
abbrev pub channels : Directory → ℕ
channels p = max 1 (p.scalars samples_per_pixel)

-- The scalars of the geometry, as stored.
abbrev pub geometry : List Field
geometry = image_width ∷ image_length ∷ samples_per_pixel ∷ bits_per_sample ∷ sample_format ∷ compression ∷ []

abbrev pub same_on : List Field → Directory → Directory → Bool
same_on [] a b = true
same_on (t ∷ ts) a b = eqb (a.scalars t) (b.scalars t) && same_on ts a b

-- "agreement with the first full page (geometry 3 [..])": PlanarConfiguration only as being 2 or not.
abbrev pub same_geometry : Directory → Directory → Bool
same_geometry a b = same_on geometry a b && beq (planar a) (planar b)

-- "agreement with the first full page (geometry 3, then strip count 2)"; with no page, nothing is asked.
abbrev pub agrees_with : Option Directory → Directory → Result (Unit {0})
agrees_with None d = accepted tt
agrees_with (Some p) d =
    bind (need unsupported (same_geometry d p)) (λ _. need decode (eqb (length d.offsets) (length p.offsets)))

-- Several values of BitsPerSample: "The other values are read only when the count is SamplesPerPixel, in turn, each compared before the
-- next; one past the file is 1". The first was read in its entry's turn.
abbrev pub other_bits : Values → Order → List ℕ → Directory → Result (Unit {0})
other_bits v o f d =
    bind (need uneven_bits (eqb v.count (channels d))) (λ _.
    all_equal (v.count - 1) (d.scalars bits_per_sample) v.type o f (v.place + type_size v.type))

-- Document 02, request 3: "the count must be 1 or SamplesPerPixel (0 taken as 1), and all values equal. A missing tag is not checked."
abbrev pub even_bits : Option Values → Order → List ℕ → Directory → Result (Unit {0})
even_bits None o f d = accepted tt
even_bits (Some v) o f d = cond (eqb v.count 1) (accepted tt) (other_bits v o f d)

-- What a directory whose entries are all read is held to, a line each: "equal array lengths, agreement with the first full page"; request 3:
-- "8 [..] after a directory's two strip arrays are found equal in length and before it is held against the first page". A reduced page is
-- held to the first line alone, and the first full one agrees with nothing.
unfoldable pub agrees : Order → List ℕ → Option Directory → Directory → Result (Unit {0})
agrees o f first d =
    bind (need decode (eqb (length d.offsets) (length d.counts))) (λ _.
    bind (even_bits (cond (reduced d) None d.bits) o f d) (λ _.
    agrees_with (cond (reduced d) None first) d))

-- ---- the chain of directories

-- The two strip arrays of a full page.
pub record Page : Type 0 where
  pub offsets : List ℕ
  pub counts : List ℕ

-- What the directories visited so far tell: how many they are; the first full page; the full pages; the CZ entry.
pub record Walk : Type 0 where
  pub visited : ℕ
  pub first : Option Directory
  pub pages : List Page
  pub cz : Option (ℕ × ℕ)

abbrev pub start : Walk
start = record { visited = 0; first = None; pages = []; cz = None }

-- Of two, the earlier: "the first directory that has one wins".
abbrev pub earlier : {A : Type 0} → Option A → Option A → Option A
earlier None later = later
earlier (Some a) later = Some a

-- The full page that a directory is, and its strip arrays: a reduced page "gives no picture".
abbrev pub full_page : Directory → Option Directory
full_page d = cond (reduced d) None (Some d)

abbrev pub arrays_of : Directory → Page
arrays_of d = record { offsets = d.offsets; counts = d.counts }

abbrev pub pages_of : Directory → List Page
pages_of d = cond (reduced d) [] (arrays_of d ∷ [])

-- The walk with one directory more. A reduced page "may supply the CZ entry".
abbrev pub joined : Walk → Directory → Walk
joined w d =
    record {
      visited = w.visited + 1;
      first = earlier w.first (full_page d);
      pages = w.pages ++ pages_of d;
      cz = earlier w.cz d.cz;
    }

-- A directory that agrees joins the walk.
unfoldable pub join : Order → List ℕ → Walk → Directory → Result Walk
join o f w d = bind (agrees o f w.first d) (λ _. accepted (joined w d))

-- The chain from a place on, with at most n directories more. "The 1,000,001st visited directory is Parse; exactly 1,000,000
-- pass."
unfoldable pub chain : ℕ → Bool → Order → List ℕ → ℕ → Walk → Result Walk
chain zero true o f place w = accepted w
chain zero false o f place w = refused parse
chain (suc n) true o f place w = accepted w
chain (suc n) false o f place w =
    bind (directory o f place) (λ d. bind (join o f w d.0) (λ v. chain n (eqb d.1 0) o f d.1 v))

unfoldable pub walk : Order → List ℕ → Result Walk
walk o f = bind (u32_at o f 4) (λ place. chain 1000000 (eqb place 0) o f place start)

-- ---- the description

-- Opening settles whether the channels are interleaved; plane and region go by that, whoever hands it in.
pub record Description : Type 0 where
  pub order : Order
  pub kind : Kind
  pub dims : Dims
  pub layout : Layout
  pub interleaved : Bool
  pub strips_per_channel : ℕ
  pub calibration : Calibration
  pub channel_block : Option ℕ

-- "SampleFormat 1 with 8 bits is U8, 1 with 16 U16, 2 with 16 I16, 3 with 32 F32; any other pair is Unsupported."
abbrev pub sample_kind : ℕ → ℕ → Result Kind
sample_kind format bits =
    cond (eqb format 1 && eqb bits 8) (accepted u8)
    (cond (eqb format 1 && eqb bits 16) (accepted u16)
    (cond (eqb format 2 && eqb bits 16) (accepted i16)
    (cond (eqb format 3 && eqb bits 32) (accepted f32) (refused unsupported))))

-- TIFF 6.0, "PlanarConfiguration": 1 is "Chunky format. The component values for each pixel are stored contiguously", 2 is "Planar format. The
-- components are stored in separate "component planes"", and "If SamplesPerPixel is 1, PlanarConfiguration is irrelevant". Document 02,
-- request 2: "Accept them, like any value but 2 with several channels".
abbrev pub interleaved : Directory → Bool
interleaved p = not (leb (channels p) 1 || planar p)

-- How many component planes share out the strips of a page: one that has all channels, or one for each channel. "All strips then belong to
-- every channel."
abbrev pub component_planes : Bool → ℕ → ℕ
component_planes true channels = 1
component_planes false channels = channels

-- The component planes of a page.
abbrev pub page_planes : Directory → ℕ
page_planes p = component_planes (interleaved p) (channels p)

-- The first full page against the CZ block: "XY, channels, [..] strips per channel". Request 1: "T above 1 is no longer Unsupported, so that
-- step leaves the order of checks"; request 2, of several interleaved channels: "that check leaves the order too", and "Strips must only be
-- more than none", since one plane has any number of strips.
unfoldable pub agreement : Directory → CzInfo → Result (Unit {0})
agreement p i =
    bind (need decode (eqb i.dim_x (p.scalars image_width) && eqb i.dim_y (p.scalars image_length))) (λ _.
    bind (need decode (eqb i.dim_channels (channels p))) (λ _.
    need decode (not (eqb (length p.offsets) 0) && eqb (length p.offsets % page_planes p) 0)))

-- "T (0 counts as 1)", and so does Z.
abbrev pub time_points : CzInfo → ℕ
time_points i = max 1 i.dim_time

abbrev pub planes : CzInfo → ℕ
planes i = max 1 i.dim_z

-- "layout, page count"
unfoldable pub layout_for : CzInfo → ℕ → Result Layout
layout_for i pages =
    bind (layout i.dim_p i.dim_m (time_points i) (planes i)) (λ l.
    bind (pages_expected l) (λ expected. bind (need decode (eqb pages expected)) (λ _. accepted l)))

unfoldable pub describe : Order → Kind → Directory → ℕ → CzInfo → Result Description
describe o k p pages i =
    bind (agreement p i) (λ _.
    bind (layout_for i pages) (λ l.
    accepted (record {
      order = o;
      kind = k;
      dims = record { t = time_points i; c = channels p; z = planes i; y = p.scalars image_length; x = p.scalars image_width };
      layout = l;
      interleaved = interleaved p;
      strips_per_channel = length p.offsets / page_planes p;
      calibration = i.calibration;
      channel_block = i.channel_colors;
    })))

-- "then pages present, compression 1, sample type, CZ entry present, CZ block, XY, [..]"
unfoldable pub describe_walk : Order → List ℕ → Walk → Result Description
describe_walk o f w =
    bind (given decode w.first) (λ p.
    bind (need unsupported (eqb (p.scalars compression) 1)) (λ _.
    bind (sample_kind (p.scalars sample_format) (p.scalars bits_per_sample)) (λ k.
    bind (given decode w.cz) (λ cz.
    bind (cz_info o f cz.0 cz.1) (λ i. describe o k p (length w.pages) i)))))

-- ---- the strip table

-- "strip by strip, offset then count"
abbrev pub strip_words : List ℕ → List ℕ → List ℕ
strip_words [] counts = []
strip_words (offset ∷ offsets) [] = []
strip_words (offset ∷ offsets) (count ∷ counts) = offset ∷ count ∷ strip_words offsets counts

-- "The table takes 2 × pages × strips words of 64 bits: page by page"
abbrev pub table_words : List Page → List ℕ
table_words [] = []
table_words (p ∷ ps) = strip_words p.offsets p.counts ++ table_words ps

-- ---- open

-- What opening gives: the description, and "the count of directories visited (added)".
pub record Opened : Type 0 where
  pub description : Description
  pub visited : ℕ
  pub table : List ℕ

-- "file limit; header; [the chain; the checks]": all but the strip table's room.
unfoldable pub read : List ℕ → Result Opened
read f =
    bind (need (oversized_allocation (length f) file_limit) (leb (length f) file_limit)) (λ _.
    bind (tiff_header f) (λ o.
    bind (walk o f) (λ w.
    bind (describe_walk o f w) (λ d.
    accepted (record { description = d; visited = w.visited; table = table_words w.pages })))))

-- "strip table length last": 7 with the words needed.
unfoldable pub open_file : List ℕ → ℕ → Result Opened
open_file f room = bind (read f) (λ r. bind (lend (length r.table) room) (λ _. accepted r))

-- What the strip table holds afterwards.
abbrev pub table_by : Result Opened → List ℕ → List ℕ
table_by (accepted r) lent = filled r.table lent
table_by (refused row) lent = lent

unfoldable pub open_memory : List ℕ → List ℕ → List ℕ
open_memory f lent = table_by (read f) lent

-- ---- what is read

-- "All values read join the list of read bytes": those of a full page's BitsPerSample after the first, which its entry lists.
abbrev pub other_ranges : Values → Order → List ℕ → Directory → Ranges
other_ranges v o f d =
    over (need uneven_bits (eqb v.count (channels d))) (λ _.
    equal_ranges (v.count - 1) (d.scalars bits_per_sample) v.type o f (v.place + type_size v.type))

abbrev pub bits_ranges : Option Values → Order → List ℕ → Directory → Ranges
bits_ranges None o f d = nothing
bits_ranges (Some v) o f d = cond (eqb v.count 1) nothing (other_ranges v o f d)

abbrev pub agrees_ranges : Order → List ℕ → Directory → Ranges
agrees_ranges o f d =
    over (need decode (eqb (length d.offsets) (length d.counts))) (λ _. bits_ranges (cond (reduced d) None d.bits) o f d)

unfoldable pub chain_ranges : ℕ → Bool → Order → List ℕ → ℕ → Walk → Ranges
chain_ranges zero true o f place w = nothing
chain_ranges zero false o f place w = nothing
chain_ranges (suc n) true o f place w = nothing
chain_ranges (suc n) false o f place w =
    both (directory_ranges o f place)
    (over (directory o f place) (λ d. both (agrees_ranges o f d.0) (over (join o f w d.0) (λ v. chain_ranges n (eqb d.1 0) o f d.1 v))))

abbrev pub cz_entry_ranges : Order → List ℕ → Option (ℕ × ℕ) → Ranges
cz_entry_ranges o f None = nothing
cz_entry_ranges o f (Some cz) = cz_ranges o f cz.0 cz.1

unfoldable pub walk_ranges : Order → List ℕ → Ranges
walk_ranges o f = over (u32_at o f 4) (λ place. chain_ranges 1000000 (eqb place 0) o f place start)

-- "The 8-byte header; each visited directory [..]; in the CZ block used [..]". Strip arrays are among what their entries read.
unfoldable pub open_ranges : List ℕ → Ranges
open_ranges f =
    both (in_file f 0 8)
    (over (tiff_header f) (λ o. both (walk_ranges o f) (over (walk o f) (λ w. cz_entry_ranges o f w.cz))))

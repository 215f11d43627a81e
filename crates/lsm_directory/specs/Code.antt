-- What the directory's types mean in the definitions' terms.
use Rattle.std.specs.Prelude.{ℕ, List, [], None, option_map}
use Rattle.lsm_format.specs.Numbers.{Order}
use Rattle.lsm_format.specs.Directory as Rule
use Rattle.lsm_format.specs.Directory.{new_subfile_type, image_width, image_length, bits_per_sample, compression, samples_per_pixel, planar_configuration, sample_format, field, sample_bits, strip_offsets, strip_byte_counts, cz_lsm_info, other, put, put_bits, put_offsets, put_counts, put_cz}
use Rattle.lsm_format.specs.declared.types.CzTag.{CzTag}
use Rattle.lsm_values.specs.Code.{entry_of, values_of}
use Rattle.lsm_directory.specs.declared.Directory.{Directory}
use Rattle.lsm_directory.specs.declared.Field.{Field}
use Rattle.lsm_directory.specs.declared.Field.TheVariants.{NewSubfileType, ImageWidth, ImageLength, Compression, SamplesPerPixel, PlanarConfiguration, SampleFormat}
use Rattle.lsm_directory.specs.declared.Tag.{Tag}
use Rattle.lsm_directory.specs.declared.Tag.TheVariants.{Field as OfField, SampleBits, StripOffsets, StripByteCounts, CzLsmInfo, Other}
use Rattle.lsm_directory.specs.declared.Value.{Value}
use Rattle.lsm_directory.specs.declared.Value.TheVariants.{Scalar, Bits, Offsets, Counts, Cz, Nothing}
use Rattle.lsm_directory.specs.declared.bounds.Ends.{Ends}

abbrev pub cz_of : CzTag → ℕ × ℕ
cz_of t = (t.offset, t.declared_bytes)

abbrev pub scalars_of : Directory → Rule.Field → ℕ
scalars_of d new_subfile_type = d.new_subfile_type
scalars_of d image_width = d.width
scalars_of d image_length = d.height
scalars_of d bits_per_sample = d.bits
scalars_of d compression = d.compression
scalars_of d samples_per_pixel = d.samples
scalars_of d planar_configuration = d.planar_configuration
scalars_of d sample_format = d.sample_format

-- what its numbers state: values in the file and CZ entry apart
abbrev pub numbers_of : Directory → Rule.Directory
numbers_of d = record { scalars = scalars_of d; bits = None; offsets = []; counts = []; cz = None }

abbrev pub directory_of : Order → List ℕ → Directory → Rule.Directory
directory_of o f d =
    record {
      scalars = scalars_of d;
      bits = option_map entry_of d.bits_values;
      offsets = values_of o f d.offsets;
      counts = values_of o f d.counts;
      cz = option_map cz_of d.cz;
    }

-- ---- tags

abbrev pub field_meant : Field → Rule.Field
field_meant NewSubfileType = new_subfile_type
field_meant ImageWidth = image_width
field_meant ImageLength = image_length
field_meant Compression = compression
field_meant SamplesPerPixel = samples_per_pixel
field_meant PlanarConfiguration = planar_configuration
field_meant SampleFormat = sample_format

abbrev pub tag_meant : Tag → Rule.Tag
tag_meant (OfField t) = field (field_meant t)
tag_meant SampleBits = sample_bits
tag_meant StripOffsets = strip_offsets
tag_meant StripByteCounts = strip_byte_counts
tag_meant CzLsmInfo = cz_lsm_info
tag_meant Other = other

-- ---- entries

-- a directory with what an entry states
abbrev pub put_stated : Order → List ℕ → Value → Rule.Directory → Rule.Directory
put_stated o f (Scalar t n) d = put (field_meant t) n d
put_stated o f (Bits n v) d = put_bits (entry_of v) (put bits_per_sample n d)
put_stated o f (Offsets a) d = put_offsets (values_of o f a) d
put_stated o f (Counts a) d = put_counts (values_of o f a) d
put_stated o f (Cz t) d = put_cz t.offset t.declared_bytes d
put_stated o f Nothing d = d

-- ---- directories

abbrev pub ends_of : Ends → ℕ × ℕ
ends_of e = (e.entries, e.next)

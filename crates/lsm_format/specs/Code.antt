-- What the code's types mean in the definitions' terms. For each enum that a function answers, its document 01 number and
-- values, or its value.
use Rattle.std.specs.Prelude.{ℕ, List, Result as Answered, Ok, Err}
use Rattle.lsm_format.specs.Answer.{Result, accepted, refused, parse, decode, unsupported, oversized_allocation, scene_out_of_range, out_of_range, too_short, uneven_bits, negative_value}
use Rattle.lsm_format.specs.Numbers.{Order, little, big}
use Rattle.lsm_format.specs.Sizes.{Kind, u8, u16, i16, f32}
use Rattle.lsm_format.specs.Rectangle as Rule
use Rattle.lsm_format.specs.Rectangle.{Dims, Rect}
use Rattle.lsm_format.specs.declared.error.Refusal.{Refusal}
use Rattle.lsm_format.specs.declared.error.Refusal.TheVariants.{Parse, Decode, Unsupported, OversizedAllocation, SceneOutOfRange, OutOfRange, TooShort, UnevenBits, NegativeValue}
use Rattle.lsm_format.specs.declared.types.Endian.{Endian}
use Rattle.lsm_format.specs.declared.types.Endian.TheVariants.{Little, Big}
use Rattle.lsm_format.specs.declared.types.DType.{DType}
use Rattle.lsm_format.specs.declared.types.DType.TheVariants.{U8, U16, I16, F32}
use Rattle.lsm_format.specs.declared.types.Dims5.{Dims5}
use Rattle.lsm_format.specs.declared.types.PixelRect.{PixelRect}
use Rattle.lsm_format.specs.declared.types.Coordinate.{Coordinate}

-- document 01's table, with the rows that document 02 adds
abbrev pub row_of : Refusal → List ℕ
row_of Parse = parse
row_of Decode = decode
row_of Unsupported = unsupported
row_of (OversizedAllocation requested cap) = oversized_allocation requested cap
row_of (SceneOutOfRange scene count) = scene_out_of_range scene count
row_of (OutOfRange scene t c z) = out_of_range scene t c z
row_of (TooShort needed) = too_short needed
row_of UnevenBits = uneven_bits
row_of NegativeValue = negative_value

abbrev pub order_of : Endian → Order
order_of Little = little
order_of Big = big

abbrev pub kind_of : DType → Kind
kind_of U8 = u8
kind_of U16 = u16
kind_of I16 = i16
kind_of F32 = f32

abbrev pub dims_of : Dims5 → Dims
dims_of d = record { t = d.t; c = d.c; z = d.z; y = d.y; x = d.x }

abbrev pub rect_of : PixelRect → Rect
rect_of r = record { x = r.x; y = r.y; w = r.w; h = r.h }

abbrev pub coordinate_of : Coordinate → Rule.Coordinate
coordinate_of co = record { scene = co.scene; t = co.t; c = co.c; z = co.z }

-- What an answer of the code means: what it accepted, by its own meaning, or the refusal's row.
abbrev pub answer_by : {A B : Type 0} → (A → B) → Answered A Refusal → Result B
answer_by meant (Ok a) = accepted (meant a)
answer_by meant (Err r) = refused (row_of r)

-- The same, where what it accepted means itself.
abbrev pub answer_of : {A : Type 0} → Answered A Refusal → Result A
answer_of (Ok a) = accepted a
answer_of (Err r) = refused (row_of r)

-- Document 01's marked cases (◆), one table about the definitions: a row for each, in the paper's order, with the paper's words beside it. Where a
-- change request of document 02 gives a case another answer, its words stand there too.
use Rattle.std.specs.Prelude.{ℕ, ◌≡◌, List, [], ◌∷◌, false, pos, set, get_or, None}
use Rattle.std.specs.Float.{fin}
use Rattle.lsm_format.specs.Answer.{Result, accepted, refused, bind}
use Rattle.lsm_format.specs.Numbers.{little}
use Rattle.lsm_format.specs.Sizes.{u8}
use Rattle.lsm_format.specs.Rectangle.{Dims, coordinate}
use Rattle.lsm_format.specs.Open.{Opened, open_file}
use Rattle.lsm_format.specs.Picture.{Samples, plane, region}
use Rattle.lsm_format.specs.Utf8.{lossy}
use Rattle.lsm_format.specs.Calibration.{uncalibrated, figure}

-- ---- the small file G

-- "Little-endian, 118 bytes. Directory at 8, six entries: width 2, height 1, bits 8, strip offset 116, strip byte count 2 (these of
-- type 3, count 1), CZ entry type 1 count 28 offset 88; next pointer 0. CZ at 88: magic, size 28, X 2, Y 1, Z 1, channels 1, T 1.
-- Bytes 116 and 117 are 7 and 9; bytes not named are 0."
abbrev pub G : List ℕ
G =
    0x49 ∷ 0x49 ∷ 42 ∷ 0 ∷ 8 ∷ 0 ∷ 0 ∷ 0
    ∷ 6 ∷ 0
    ∷ 0x00 ∷ 0x01 ∷ 3 ∷ 0 ∷ 1 ∷ 0 ∷ 0 ∷ 0 ∷ 2 ∷ 0 ∷ 0 ∷ 0
    ∷ 0x01 ∷ 0x01 ∷ 3 ∷ 0 ∷ 1 ∷ 0 ∷ 0 ∷ 0 ∷ 1 ∷ 0 ∷ 0 ∷ 0
    ∷ 0x02 ∷ 0x01 ∷ 3 ∷ 0 ∷ 1 ∷ 0 ∷ 0 ∷ 0 ∷ 8 ∷ 0 ∷ 0 ∷ 0
    ∷ 0x11 ∷ 0x01 ∷ 3 ∷ 0 ∷ 1 ∷ 0 ∷ 0 ∷ 0 ∷ 116 ∷ 0 ∷ 0 ∷ 0
    ∷ 0x17 ∷ 0x01 ∷ 3 ∷ 0 ∷ 1 ∷ 0 ∷ 0 ∷ 0 ∷ 2 ∷ 0 ∷ 0 ∷ 0
    ∷ 0x6C ∷ 0x86 ∷ 1 ∷ 0 ∷ 28 ∷ 0 ∷ 0 ∷ 0 ∷ 88 ∷ 0 ∷ 0 ∷ 0
    ∷ 0 ∷ 0 ∷ 0 ∷ 0
    ∷ 0 ∷ 0
    ∷ 0x4C ∷ 0x49 ∷ 0x00 ∷ 0x04 ∷ 28 ∷ 0 ∷ 0 ∷ 0
    ∷ 2 ∷ 0 ∷ 0 ∷ 0 ∷ 1 ∷ 0 ∷ 0 ∷ 0 ∷ 1 ∷ 0 ∷ 0 ∷ 0 ∷ 1 ∷ 0 ∷ 0 ∷ 0 ∷ 1 ∷ 0 ∷ 0 ∷ 0
    ∷ 7 ∷ 9 ∷ []

-- its dimensions: T C Z Y X
abbrev pub G-dims : Dims
G-dims = record { t = 1; c = 1; z = 1; y = 1; x = 2 }

-- what opening G gives
abbrev pub G-opened : Opened
G-opened =
    record {
      description =
          record {
            order = little;
            kind = u8;
            dims = G-dims;
            layout = record { scenes = 1; t = 1; depth = 1 };
            interleaved = false;
            strips_per_channel = 1;
            calibration = uncalibrated;
            channel_block = None;
          };
      visited = 1;
      table = 116 ∷ 2 ∷ [];
    }

-- G with another number at a place: the CZ block's size at 92, its Z at 104 and T at 112, the CZ entry's count at 74, the strip's byte
-- count at 66
abbrev pub G-with : ℕ → ℕ → List ℕ
G-with place n = set G place n

-- G's answer with another strip byte count
abbrev pub G-strip : ℕ → Opened
G-strip n = record { description = G-opened.description; visited = 1; table = 116 ∷ n ∷ [] }

-- What plane and region answer, with the description and the table that opening gave.
abbrev pub G-plane : List ℕ → Result Samples
G-plane f = bind (open_file f 2) (λ x. plane x.description x.table f (coordinate 0 0 0 0))

abbrev pub G-region : List ℕ → ℕ → ℕ → ℕ → ℕ → Result Samples
G-region f x y w h = bind (open_file f 2) (λ o. region o.description o.table f (coordinate 0 0 0 0) (record { x = x; y = y; w = w; h = h }))

-- ---- the table

-- Opening has room for two words in the strip table.
pub record Marked : Type 0 where
  -- "◆1005 gives `1e3`"
  pub figure_1005 : figure (fin false 1005 (pos 0)) ≡ 49 ∷ 101 ∷ 51 ∷ []
  -- "◆1015 gives `1.02e3`"
  pub figure_1015 : figure (fin false 1015 (pos 0)) ≡ 49 ∷ 46 ∷ 48 ∷ 50 ∷ 101 ∷ 51 ∷ []
  -- "◆9995 gives `1e4`"
  pub figure_9995 : figure (fin false 9995 (pos 0)) ≡ 49 ∷ 101 ∷ 52 ∷ []
  -- "◆C3 28 gives EF BF BD 28"
  pub lossy_C3_28 : lossy (0xC3 ∷ 0x28 ∷ []) ≡ 0xEF ∷ 0xBF ∷ 0xBD ∷ 0x28 ∷ []
  -- "◆ED A0 80 gives three"
  pub lossy_ED_A0_80 : lossy (0xED ∷ 0xA0 ∷ 0x80 ∷ []) ≡ 0xEF ∷ 0xBF ∷ 0xBD ∷ 0xEF ∷ 0xBF ∷ 0xBD ∷ 0xEF ∷ 0xBF ∷ 0xBD ∷ []
  -- "◆G opens."
  pub G-opens : open_file G 2 ≡ accepted G-opened
  -- "◆Size 0 opens."
  pub size_0 : open_file (G-with 92 0) 2 ≡ accepted G-opened
  -- "◆Size 27 is 2."
  pub size_27 : open_file (G-with 92 27) 2 ≡ refused (2 ∷ [])
  -- "◆Declared 27 is 2."
  pub declared_27 : open_file (G-with 74 27) 2 ≡ refused (2 ∷ [])
  -- "◆Z 0 opens."
  pub Z-0 : open_file (G-with 104 0) 2 ≡ accepted G-opened
  -- "◆T 2 is 3." Document 02, request 1: "G with T 2 is then 2, by its page count."
  pub T-2 : open_file (G-with 112 2) 2 ≡ refused (2 ∷ [])
  -- "◆Strip byte count 3: opens,"
  pub strip_3_opens : open_file (G-with 66 3) 2 ≡ accepted (G-strip 3)
  -- "plane is 2."
  pub strip_3_plane : G-plane (G-with 66 3) ≡ refused (2 ∷ [])
  -- "◆Strip byte count 1: opens,"
  pub strip_1_opens : open_file (G-with 66 1) 2 ≡ accepted (G-strip 1)
  -- "plane is 2,"
  pub strip_1_plane : G-plane (G-with 66 1) ≡ refused (2 ∷ [])
  -- "an empty rectangle is accepted."
  pub strip_1_empty : G-region (G-with 66 1) 0 0 0 1 ≡ accepted (record { rows = 1; columns = 0; bytes = [] })
  -- "◆G's rectangle at column 1, 1 by 1, is byte 117."
  pub G-column-1 : G-region G 1 0 1 1 ≡ accepted (record { rows = 1; columns = 1; bytes = get_or G 117 0 ∷ [] })

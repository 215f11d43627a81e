-- What the block's types mean in the definitions' terms.
use Rattle.std.specs.Prelude.{ℤ}
use Rattle.lsm_format.specs.CzInfo as Rule
use Rattle.calibration.specs.Calibrated.{calibration_of}
use Rattle.lsm_cz_info.specs.declared.CzInfo.{CzInfo}
use Rattle.lsm_cz_info.specs.declared.Extents.{Extents}
use Rattle.lsm_cz_info.specs.declared.Shots.{Shots}

abbrev pub info_of : CzInfo → Rule.CzInfo
info_of i =
    record {
      dim_x = i.dim_x;
      dim_y = i.dim_y;
      dim_z = i.dim_z;
      dim_channels = i.dim_channels;
      dim_time = i.dim_time;
      dim_p = i.dim_p;
      dim_m = i.dim_m;
      channel_colors = i.channel_colors_offset;
      calibration = calibration_of i.calibration;
    }

abbrev pub stated_of : Extents → Rule.Extents
stated_of d = record { x = d.x; y = d.y; z = d.z; channels = d.channels; time = d.time }

abbrev pub shots_of : Shots → ℤ × ℤ
shots_of s = (s.p, s.m)

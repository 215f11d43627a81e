-- What the description means in the definitions' terms.
use Rattle.lsm_format.specs.Code.{order_of, kind_of, dims_of}
use Rattle.lsm_format.specs.Open as Rule
use Rattle.lsm_positions.specs.Code.{layout_of}
use Rattle.calibration.specs.Calibrated.{calibration_of}
use Rattle.lsm_description.specs.declared.Description.{Description}

abbrev pub description_of : Description → Rule.Description
description_of d =
    record {
      order = order_of d.endian;
      kind = kind_of d.dtype;
      dims = dims_of d.dims;
      layout = layout_of d.layout;
      interleaved = d.interleaved;
      strips_per_channel = d.strips_per_channel;
      calibration = calibration_of d.calibration;
      channel_block = d.channel_colors_offset;
    }

-- What the layout means in the definitions' terms.
use Rattle.lsm_format.specs.Scenes.{Layout}
use Rattle.lsm_positions.specs.declared.LsmLayout.{LsmLayout}

abbrev pub layout_of : LsmLayout → Layout
layout_of l = record { scenes = l.scenes; t = l.time_points; depth = l.pages_per_time_point }

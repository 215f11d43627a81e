-- `lsm_strips::region_from` meets its contract: the scene, then the coordinate with the rectangle, then what is asked of the strips.
-- Assumes nothing.
use mathlib.Core.Path.{sym}
use Rattle.lsm_format.specs.Code.{rect_of, coordinate_of}
use Rattle.lsm_description.specs.Code.{description_of}
use Rattle.lsm_strips.proofs.Asking.{lying, channel_there, rectangle_there}
use Rattle.lsm_strips.proofs.region_from.Goals as goal

pub invariant_of-asked : goal.invariant_of-asked
invariant_of-asked c =
    record { channel = channel_there (description_of c.args.d) (coordinate_of c.args.co) (rect_of c.args.rect) (sym c.in_ok-checked_scene.ensures) (sym c.in_ok-checked_region.ensures) }

pub region_strips-requires : goal.region_strips-requires
region_strips-requires c =
    let there = rectangle_there (description_of c.args.d) (coordinate_of c.args.co) (rect_of c.args.rect) (sym c.in_ok-checked_scene.ensures) (sym c.in_ok-checked_region.ensures) in
    lying (description_of c.args.d) (rect_of c.args.rect) tt there (sym c.if-is_empty.ensures)

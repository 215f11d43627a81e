-- `lsm_strips::Asked::window_strips` meets its contract. A row of the whole-row test fits 64 bits, and so does the part of it that ends with
-- the rectangle; where that row stands need not. Whether the strips reach to the rectangle's end is told by where its last byte would stand
-- (`window_reached`, `window_short`). Assumes nothing.
use Rattle.std.proofs.Common.{rules, sym}
use Rattle.lsm_format.specs.Code.{rect_of, coordinate_of}
use Rattle.lsm_description.specs.Code.{description_of}
use Rattle.lsm_strips.proofs.Pairs.{inside_at, total_at}
use Rattle.lsm_strips.proofs.Judging.{part_fits, row_fits, window_reached, window_short, window_outside}
use Rattle.lsm_strips.proofs.Asked.window_strips.Goals as goal
use Rattle.lsm_strips.proofs.Asked.window_strips.Goals.{else-strips_inside-via-then-strips_inside+else-is_some, else-strips_inside-via-else-strips_inside}

pub overflow_mul-top : goal.overflow_mul-top
overflow_mul-top c = part_fits _ _ _ c.requires.whole c.requires.lying _ c.size_bytes-size.ensures

pub overflow_mul-row : goal.overflow_mul-row
overflow_mul-row c = row_fits _ _ _ c.requires.whole c.requires.lying _ c.size_bytes-size.ensures

pub returns-then-is_some : goal.returns-then-is_some
returns-then-is_some c =
    window_reached (description_of c.args.self.d) c.args.self.table.now c.args.self.len (coordinate_of c.args.self.co) (rect_of c.args.rect) _ _ c.requires.planar c.requires.lying.columns (sym c.in_ok-checked_plane_bytes.ensures) (sym c.in_ok-run.ensures)
    (search (rules, inside_at)) (search (rules, total_at))

pub returns-else-strips_inside : goal.returns-else-strips_inside
returns-else-strips_inside c =
    elim c.else-strips_inside.branch [
      | else-strips_inside-via-then-strips_inside+else-is_some w ↦
          window_short (description_of c.args.self.d) c.args.self.table.now c.args.self.len (coordinate_of c.args.self.co) (rect_of c.args.rect) _ _ c.requires.planar c.requires.lying.columns (sym c.in_ok-checked_plane_bytes.ensures) (sym c.in_ok-run.ensures)
          (search (rules, inside_at)) (search (rules, total_at))
      | else-strips_inside-via-else-strips_inside w ↦
          window_outside (description_of c.args.self.d) c.args.self.table.now c.args.self.len (coordinate_of c.args.self.co) (rect_of c.args.rect) _ _ c.requires.planar c.requires.lying.columns (sym c.in_ok-checked_plane_bytes.ensures) (sym c.in_ok-run.ensures)
          (search (rules, inside_at))
    ]

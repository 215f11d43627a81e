-- The bytes before the place are written.
use Rattle.std.proofs.Common.{◌≡◌, take}
use Rattle.lsm_format.specs.Printout.{hex_bytes}
use Rattle.lsm_printout.specs.Put.{put}
use Rattle.lsm_printout.proofs.page.Page.hex.Given as goal

abbrev pub invariant-loop-b : goal.invariant-loop-b
invariant-loop-b g l = l.self ≡ put g.row.N l.initial.self (hex_bytes (take l.b-index l.bytes))

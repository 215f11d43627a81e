-- The numbers before the place are written.
use Rattle.std.proofs.Common.{◌≡◌, take}
use Rattle.lsm_format.specs.Printout.{numbers_text}
use Rattle.lsm_printout.specs.Put.{put}
use Rattle.lsm_printout.proofs.page.Page.numbers.Given as goal

abbrev pub invariant-loop-n : goal.invariant-loop-n
invariant-loop-n g l = l.self ≡ put g.row.N l.initial.self (numbers_text (take l.n-index l.numbers))

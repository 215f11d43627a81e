-- The lines of the scenes before this one are written.
use Rattle.std.proofs.Common.{◌≡◌}
use Rattle.lsm_format.specs.Printout.{text, each, scene_line}
use Rattle.lsm_printout.specs.Put.{put}
use Rattle.lsm_printout.proofs.page.Page.scenes.Given as goal

abbrev pub invariant-loop-scene : goal.invariant-loop-scene
invariant-loop-scene g l = l.self ≡ put g.row.N l.initial.self (text (each l.scene (scene_line l.scenes)))

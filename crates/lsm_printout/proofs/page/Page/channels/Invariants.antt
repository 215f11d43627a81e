-- The lines of the channels before this one are written.
use Rattle.std.proofs.Common.{◌≡◌}
use Rattle.lsm_format.specs.Printout.{text, each, channel_line, channels_of}
use Rattle.lsm_description.specs.Code.{description_of}
use Rattle.lsm_printout.specs.Put.{put}
use Rattle.lsm_printout.proofs.page.Page.channels.Given as goal

abbrev pub invariant-loop-c : goal.invariant-loop-c
invariant-loop-c g l = l.self ≡ put g.row.N l.initial.self (text (each l.c (λ k. channel_line (channels_of l.buf (description_of l.d) k))))

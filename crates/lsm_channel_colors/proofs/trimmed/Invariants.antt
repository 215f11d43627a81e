use mathlib.Core.Path.{◌≡◌}
use lib.ListN.{length}
use Rattle.lsm_format.specs.Channels.{trimmed}
use Rattle.lsm_channel_colors.proofs.trimmed.Given as goal

-- the bytes that are left trim to the same as all
abbrev pub invariant-loop-rest : goal.invariant-loop-rest
invariant-loop-rest l = trimmed l.kept ≡ trimmed l.bytes

abbrev pub decreases-loop-rest : goal.decreases-loop-rest
decreases-loop-rest l = length l.kept

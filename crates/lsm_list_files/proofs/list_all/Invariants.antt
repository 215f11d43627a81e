-- The files before what is left are listed; what is left gets shorter.
use Rattle.std.proofs.Common.{length}
use Rattle.lsm_list_files.proofs.Listing.{Listing}
use Rattle.lsm_list_files.proofs.list_all.Given as goal

abbrev pub invariant-loop-file : goal.invariant-loop-file
invariant-loop-file g l = Listing l.all l.rest (g.W.Write.contents l.initial.out) (g.W.Write.contents l.out)

abbrev pub decreases-loop-file : goal.decreases-loop-file
decreases-loop-file g l = length l.rest

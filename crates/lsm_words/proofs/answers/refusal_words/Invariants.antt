use mathlib.Core.Path.{◌≡◌}
use lib.ListN.{length, take}
use Rattle.lsm_format.specs.Code.{row_of}
use Rattle.lsm_words.specs.Answers.{padded}
use Rattle.lsm_words.proofs.answers.refusal_words.Given as goal

-- the first i words are the answer's
abbrev pub invariant-loop-i : goal.invariant-loop-i
invariant-loop-i g l = record {
  all : length l.word-items ≡ g.row.N;
  so_far : take l.i l.word-items ≡ take l.i (padded g.row.N (row_of l.fn.r));
}

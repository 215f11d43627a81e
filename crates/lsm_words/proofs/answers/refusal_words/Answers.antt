-- `lsm_words::answers::refusal_words` meets its contract: a word is the row's number at its place, or 0 past the row. Assumes nothing.
use Rattle.std.proofs.Common.{rules, ◌≡◌}
use lib.ListN.{get_or, get_or-eq_default}
use Rattle.lsm_words.proofs.Answered.{padded_word}
use Rattle.lsm_words.proofs.answers.refusal_words.Goals as goal
use Rattle.lsm_words.proofs.answers.refusal_words.Goals.{then-i-len, else-i-len}

pub loop-i-preserved : goal.loop-i-preserved
loop-i-preserved g c =
    let there : c.if-i-len.word ≡ get_or c.numbers-row.result.items c.loop-i.i 0 =
    elim c.if-i-len.branch [
      | then-i-len w ↦ search rules
      | else-i-len w ↦ search (rules, get_or-eq_default)
    ] in
    search (rules, there, padded_word)

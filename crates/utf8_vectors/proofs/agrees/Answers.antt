-- Where decoding accepts, the first bytes of the memory are the text (`told_length`).
use Rattle.std.proofs.Common.{sym, ◌∙◌}
use Rattle.std.specs.Cmp.Lexicographic.{same_text}
use Rattle.utf8.proofs.Lent.{told_length}
use Rattle.utf8_vectors.proofs.agrees.Goals as goal

pub returns : goal.returns
returns c e = sym (told_length c.decode_lossy.ensures c.in-Ok.is).2 ∙ same_text _ _ (sym e ∙ c.eq.ensures)

-- What is left of the walk. Its entries begin with nothing stated, which `Default` says of any order and file, and each states something of any
-- directory, so that the two and the directory are to be named. And the turn: a directory's entries are all read, it has agreed and joined, its
-- strips are laid, and the chain is back at the mark, or the mark may move. The pages found so far are to be named there.
use native.Mathlib.Nat.{sub-zero}
use mathlib.Core.Path.{sym, ◌∙◌}
use borrow.Author.Rules.{rules}
use Rattle.lsm_format.specs.Code.{order_of}
use Rattle.lsm_reader.proofs.Entries.{entries_pass}
use Rattle.lsm_reader.proofs.Turns.{circled, next_turn, mark_moved}
use Rattle.lsm_reader.proofs.chain.walk_chain.Goals as goal

pub entries-init : goal.entries-init
entries-init c = rw (sub-zero, c.default-d.ensures (order_of c.args.e) c.args.buf.now)

pub entries-preserved : goal.entries-preserved
entries-preserved c =
    rw (c.put_value-d.ensures (order_of c.args.e) c.args.buf.now)
    (sym (entries_pass _ _ _ _ c.entries.i _ _ c.entries-test.true (sym (c.in-Ok.ensures _))) ∙ c.entries.invariant)

pub returns-then-ends-mark : goal.returns-then-ends-mark
returns-then-ends-mark c =
    circled _ _ _ _ _ _ _ _ c.dirs.invariant c.if-place-eq0.false _ _ c.in_ok-ends.ensures.ends _ c.entries.d c.entries.invariant c.entries-test.false
    c.in_ok-agrees.ensures c.join-w.result (c.join-w.ensures.joined _ _) _ c.if-ends-mark.true

pub dirs-preserved : goal.dirs-preserved
dirs-preserved c =
    let g = c.dirs.invariant in
    next_turn _ _ _ _ _ _ _ _ g c.if-place-eq0.false _ _ c.in_ok-ends.ensures.ends _ c.entries.d c.entries.invariant c.entries-test.false
    c.in_ok-agrees.ensures c.join-w.result (c.join-w.ensures.joined _ _)
    _ _ _ (search rules) c.in_ok-ends.ensures.below c.join-w.ensures.stepped.0 c.join-w.ensures.stepped.1 (c.join-w.ensures.counted _ _ g.pages g.counted)
    (search rules) c.lay_page-used.ensures (mark_moved _ c.dirs.mark c.join-w.result.visited _ c.move_mark-mark.ensures)

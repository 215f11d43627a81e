-- The turn of a value: it is past the file or negative, it differs, or it is passed. The type whose width the array has, and whose sign, is to be named.
use native.Mathlib.Nat.{mul-one}
use mathlib.Core.Path.{sym, ◌∙◌}
use borrow.Author.Rules.{rules}
use Rattle.lsm_format.proofs.Directory.{integer_size_lem}
use Rattle.lsm_values.proofs.Laws.{value_sized, equal_stops, equal_uneven, equal_pass}
use Rattle.lsm_values.proofs.array_equal.Goals as goal

pub loop-i-init : goal.loop-i-init
loop-i-init c type s t = rw (integer_size_lem type _ s, mul-one)

pub returns-in_err-entry_value : goal.returns-in_err-entry_value
returns-in_err-entry_value c type s t =
    let read = value_sized type _ _ _ _ _ s t ∙ sym c.in_err-entry_value.ensures in
    let stops = sym (equal_stops _ _ _ _ _ _ _ c.loop-i-test.true _ s _ read) ∙ c.loop-i.invariant type s t in
    search (rules, stops)

pub returns-then-branch-v : goal.returns-then-branch-v
returns-then-branch-v c type s t =
    let read = value_sized type _ _ _ _ _ s t ∙ sym c.in_ok-entry_value.ensures in
    sym (equal_uneven _ _ _ _ _ _ _ c.loop-i-test.true _ s _ read c.if-branch-v.true) ∙ c.loop-i.invariant type s t

pub loop-i-preserved : goal.loop-i-preserved
loop-i-preserved c type s t =
    let read = value_sized type _ _ _ _ _ s t ∙ sym c.in_ok-entry_value.ensures in
    sym (equal_pass _ _ _ _ _ _ _ c.loop-i-test.true _ s _ read c.if-branch-v.false) ∙ c.loop-i.invariant type s t

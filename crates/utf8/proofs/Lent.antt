-- What the answer of a decoding into lent memory tells a caller. Assumes nothing.
use Prim.Native.Nat.{ℕ, ◌-◌, ◌^◌, ◌≤◌, ◌<◌, min}
use native.Mathlib.Omega.{arith}
use mathlib.Core.Path.{◌≡◌, refl, sym, ap, ◌∙◌}
use mathlib.Core.Bool.{Bool, true, false}
use Rattle.std.specs.Prelude.{Result as Answered, Ok, Err}
use mathlib.Core.List.{List, ◌++◌}
use borrow.Author.Tests.{leb-true, leb-false}
use lib.Dec.{leb}
use lib.ListN.{length, take, drop}
use lib.Seq.{take_at, drop_at}
use Rattle.lsm_format.specs.Answer.{accepted, refused, too_short}
use Rattle.lsm_format.specs.Lent.{lend}
use Rattle.lsm_format.proofs.Apart.{no_case}
use Rattle.lsm_format.proofs.Lent.{lend_room, lend_short, filled_room, filled_short}
use Rattle.lsm_format.specs.Utf8.{lossy}
use Rattle.lsm_format.specs.Code.{row_of, answer_of}
use Rattle.lsm_format.specs.declared.error.Refusal.{Refusal}
use Rattle.utf8.specs.Code.{Decoding}

accepted_by : (needed room n : ℕ) (t : Bool) → leb needed room ≡ t → accepted n ≡ lend needed room → (n ≡ needed) × (n ≤ room)
accepted_by needed room n true t e =
    let f : lend needed room ≡ accepted needed = lend_room needed room (leb-true needed room t) in
    let q : n ≡ needed = cc in
    (q, omega (arith, leb-true needed room t))
accepted_by needed room n false t e =
    let f : lend needed room ≡ refused (too_short (min needed (2 ^ 64 - 1))) = lend_short needed room (leb-false needed room t) in
    no_case cc

refused_by : (needed room : ℕ) (row : List ℕ) (t : Bool) → leb needed room ≡ t → refused row ≡ lend needed room
    → (room < needed) × (row ≡ too_short (min needed (2 ^ 64 - 1)))
refused_by needed room row true t e =
    let f : lend needed room ≡ accepted needed = lend_room needed room (leb-true needed room t) in
    no_case cc
refused_by needed room row false t e =
    let f : lend needed room ≡ refused (too_short (min needed (2 ^ 64 - 1))) = lend_short needed room (leb-false needed room t) in
    let q : row ≡ too_short (min needed (2 ^ 64 - 1)) = cc in
    (leb-false needed room t, q)

-- a length: the memory's first bytes are the text, and the rest is as it was
pub told_length : {s before after : List ℕ} {r : Answered ℕ Refusal} {n : ℕ} → Decoding s before after (answer_of r) → r ≡ Ok n
    → (n ≡ length (lossy s)) × (n ≤ length before) × (take n after ≡ lossy s) × (drop n after ≡ drop n before)
told_length {s} {before} {after} {r} {n} d v =
    let a : (n ≡ length (lossy s)) × (n ≤ length before) =
    accepted_by (length (lossy s)) (length before) n (leb (length (lossy s)) (length before)) refl (ap answer_of (sym v) ∙ d.answered) in
    let u : length (lossy s) ≤ length before = omega arith in
    let m : after ≡ lossy s ++ drop (length (lossy s)) before = d.memory ∙ filled_room (lossy s) before u in
    let e : length (lossy s) ≡ n = sym a.0 in
    (a.0, a.1, rw m (take_at (lossy s) _ n e), rw m (drop_at (lossy s) _ n e) ∙ ap (λ (k : ℕ). drop k before) e)

-- a refusal: the text has no room, the refusal says its length, and the memory is as it was
pub told_refusal : {s before after : List ℕ} {r : Answered ℕ Refusal} {e : Refusal} → Decoding s before after (answer_of r) → r ≡ Err e
    → (length before < length (lossy s)) × (row_of e ≡ too_short (min (length (lossy s)) (2 ^ 64 - 1))) × (after ≡ before)
told_refusal {s} {before} {after} {r} {e} d v =
    let a : (length before < length (lossy s)) × (row_of e ≡ too_short (min (length (lossy s)) (2 ^ 64 - 1))) =
    refused_by (length (lossy s)) (length before) (row_of e) (leb (length (lossy s)) (length before)) refl (ap answer_of (sym v) ∙ d.answered) in
    (a.0, a.1, d.memory ∙ filled_short (lossy s) before a.0)

-- Laws of the bytes of a list, read run by run. Assumes nothing.
use Rattle.std.proofs.Common.{◌≡◌, ℕ, zero, suc, ◌+◌, ◌-◌, ◌<◌, ◌≤◌, List, [], ◌++◌, Some, None, length, arith, refl, sym, ap, ◌∙◌, take, replicate, append_assoc, append-nil, length-append}
use Rattle.std.proofs.lemmas.Grind.{common_steps}
use Rattle.std.proofs.lemmas.List.{take-replicate, length-replicate}
use Rattle.std.specs.Prelude.{Option}
use Rattle.vectors.specs.Numbers.{then}
use Rattle.vectors.specs.Lines.{run, fitting, runs, bytes}

-- The first bytes of the longest run are a run.
pub run_front : (n byte : ℕ) → n ≤ 255 → (length (take n (replicate 255 byte)) ≡ n) × (take n (replicate 255 byte) ≡ replicate n byte)
run_front n byte h = let e = take-replicate n 255 byte h in (ap length e ∙ length-replicate n byte, e)

-- what fits is something and has room
fits : (room : ℕ) (o : Option (List ℕ × List ℕ)) (r : List ℕ × List ℕ) → fitting room o ≡ Some r → (0 < length r.0) × (length r.0 ≤ room)
fits room None r e = absurd cc
fits room (Some s) r e = grind (arith, common_steps)

-- nothing that fits, and nothing where there is no room
ends : (k room : ℕ) (text : List ℕ) → fitting room (run text) ≡ None → runs k room text ≡ ([], text)
unfolding runs
ends zero room text e = refl
ends (suc k) room text e = rw (e, runs)

full : (k room : ℕ) (text : List ℕ) → room ≡ 0 → runs k room text ≡ ([], text)
full k room text z = ends k room text (none (run text))
  where
    none : (o : Option (List ℕ × List ℕ)) → fitting room o ≡ None
    none None = refl
    none (Some r) = grind (arith, common_steps)

-- a run more
goes : (k room : ℕ) (text : List ℕ) (r : List ℕ × List ℕ) → fitting room (run text) ≡ Some r → runs (suc k) room text ≡ then r.0 (runs k (room - length r.0) r.1)
unfolding runs
goes k room text r e = rw (e, runs)

-- questions enough are as good as any other number that is enough
enough : (k j room : ℕ) (text : List ℕ) → room ≤ k → room ≤ j → runs k room text ≡ runs j room text
unfolding runs
enough zero j room text h i = sym (full j room text (omega arith))
enough (suc k) zero room text h i = full (suc k) room text (omega arith)
enough (suc k) (suc j) room text h i = go (fitting room (run text)) refl (λ r f. enough k j (room - length r.0) r.1 (omega arith) (omega arith))
  where
    go : (o : Option (List ℕ × List ℕ)) → fitting room (run text) ≡ o
        → ((r : List ℕ × List ℕ) → (0 < length r.0) × (length r.0 ≤ room) → runs k (room - length r.0) r.1 ≡ runs j (room - length r.0) r.1)
        → runs (suc k) room text ≡ runs (suc j) room text
    go None e rest = ends (suc k) room text e ∙ sym (ends (suc j) room text e)
    go (Some r) e rest = goes k room text r e ∙ ap (then r.0) (rest r (fits room (run text) r e)) ∙ sym (goes j room text r e)

bytes_end : (room : ℕ) (text : List ℕ) → fitting room (run text) ≡ None → bytes room text ≡ ([], text)
unfolding bytes
bytes_end room text e = ends room room text e

go_on : (room : ℕ) (text part after : List ℕ) → fitting room (run text) ≡ Some (part, after) → bytes room text ≡ then part (bytes (room - length part) after)
unfolding bytes
go_on zero text part after e = let f = fits zero (run text) (part, after) e in absurd (omega (arith, f))
go_on (suc room) text part after e =
    let f = fits (suc room) (run text) (part, after) e in
    goes room (suc room) text (part, after) e ∙ ap (then part) (enough room (suc room - length part) (suc room - length part) after (omega (arith, f)) (omega arith))

-- The bytes so far, where what is left begins with no run that has room.
pub bytes_all : {all : List ℕ × List ℕ} {so_far rest : List ℕ} (room asked : ℕ) → asked + length so_far ≡ room → fitting asked (run rest) ≡ None
    → all ≡ then so_far (bytes (room - length so_far) rest) → (so_far, rest) ≡ all
bytes_all {all} {so_far} {rest} room asked r e a =
    let l : room - length so_far ≡ asked = omega arith in
    sym (a ∙ ap (λ n. then so_far (bytes n rest)) l ∙ ap (then so_far) (bytes_end asked rest e) ∙ rw append-nil refl)

-- The bytes so far, one run more, and the rest.
pub bytes_more : {all : List ℕ × List ℕ} {now : List ℕ} (so_far part : List ℕ) (room asked : ℕ) (text after : List ℕ)
    → all ≡ then so_far (bytes (room - length so_far) text) → asked + length so_far ≡ room → Some (part, after) ≡ fitting asked (run text)
    → now ≡ so_far ++ part → all ≡ then now (bytes (room - length now) after)
bytes_more {all} {now} so_far part room asked text after a r e n =
    let l : room - length so_far ≡ asked = omega arith in
    let k : asked - length part ≡ room - length now = rw n (omega (arith, length-append so_far part)) in
    a ∙ ap (λ n. then so_far (bytes n text)) l ∙ ap (then so_far) (go_on asked text part after (sym e) ∙ ap (λ n. then part (bytes n after)) k) ∙ rw (n, append_assoc) refl

-- Laws of text put into memory. Assumes nothing.
use Rattle.std.proofs.Common.{◌≡◌, ℕ, zero, suc, ◌+◌, ◌-◌, ◌<◌, ◌≤◌, ◌⊎◌, inl, inr, min, List, [], ◌∷◌, ◌++◌, length, take, drop, refl, sym, ap, ◌∙◌, append_assoc, append-nil, arith, length-append, length-take}
use Rattle.std.proofs.lemmas.List.{take_min, take_all, take-append-le}
use Rattle.std.proofs.lemmas.Grind.{common_steps}
use Rattle.lsm_printout.specs.Put.{put}

-- what a write of as many bytes as fit leaves
pub put_written : (room : ℕ) (before after bytes : List ℕ) → after ≡ before ++ take (min (room - length before) (length bytes)) bytes → after ≡ put room before bytes
unfolding put
put_written room before after bytes e = rw (e, take_min) refl

-- as much of one text and of another as there is room for
joined : (k : ℕ) (t u : List ℕ) → take k t ++ take (k - length (take k t)) u ≡ take k (t ++ u)
joined zero t u = grind (arith, common_steps)
joined (suc k) [] u = grind (arith, common_steps)
joined (suc k) (b ∷ t) u =
    let e : suc k - suc (length (take k t)) ≡ k - length (take k t) = omega arith in
    rw e (ap (λ (l : List ℕ). b ∷ l) (joined k t u))

-- one text after another is both as one
pub put_put : (room : ℕ) (before t u : List ℕ) → put room (put room before t) u ≡ put room before (t ++ u)
unfolding put
put_put room before t u =
    let k = room - length before in
    let e : room - length (before ++ take k t) ≡ k - length (take k t) = omega (arith, length-append before (take k t)) in
    rw (e, append_assoc, joined k t u) refl

pub put_nothing : (room : ℕ) (before : List ℕ) → put room before [] ≡ before
unfolding put
put_nothing room before = grind (arith, common_steps)

pub put_whole : (room : ℕ) (t : List ℕ) → length t ≤ room → put room [] t ≡ t
unfolding put
put_whole room t h = take_all (room - 0) t (omega arith)

pub ruleset after = (put_put, append_assoc, append-nil)

-- The strip table of a walk: two words for each strip of each full page, since all of them have as many strips as the first. Assumes
-- nothing.
use Prim.Native.Nat.{ℕ, zero, suc, ◌*◌}
use native.Mathlib.Nat.{add-mul, one-mul, zero-mul}
use native.Mathlib.Omega.{arith}
use mathlib.Core.Bool.{Bool, true, false, cond}
use Rattle.std.specs.Prelude.{Option, None, Some}
use mathlib.Core.Path.{◌≡◌, refl, sym, ap, ◌∙◌}
use mathlib.Core.List.{List, [], ◌∷◌, ◌++◌, append-nil}
use lib.Dec.{eqb}
use lib.ListN.{length, length-append}
use borrow.Author.Tests.{eqb-true}
use Rattle.lsm_format.specs.Answer.{accepted, need, decode, unsupported}
use Rattle.lsm_format.specs.Numbers.{Order, u32_at}
use Rattle.lsm_format.specs.Directory.{Directory, reduced, directory}
use Rattle.lsm_format.specs.Open.{same_geometry, agrees_with, even_bits, agrees, Page, Walk, start, earlier, arrays_of, join, chain, walk, strip_words, table_words}
use Rattle.lsm_format.proofs.Accepting.{Accepting, accepting_bind, accepting_then, accepting_need, accepting_map, accepting_told}
use Rattle.lsm_format.proofs.Open.{strip_words_length, table_words_append}

-- a directory has equally many offsets and counts
Pairs : Directory → Type 0
Pairs d = length d.offsets ≡ length d.counts

accepting_equal : (row : List ℕ) (a b : ℕ) → Accepting (λ (u : Unit {0}). a ≡ b) (need row (eqb a b))
accepting_equal row a b =
    accepting_map (λ (u : Unit {0}). eqb a b ≡ true) (λ (u : Unit {0}). a ≡ b) (need row (eqb a b)) (λ _ t. eqb-true a b t)
    (accepting_need row (eqb a b))

-- and as many strips as the page that it is held against
SameStrips : Option Directory → Directory → Type 0
SameStrips None d = Unit {0}
SameStrips (Some p) d = length d.offsets ≡ length p.offsets

with_strips : (x : Option Directory) (d : Directory) → Accepting (λ (u : Unit {0}). SameStrips x d) (agrees_with x d)
unfolding Accepting SameStrips
with_strips None d = tt
with_strips (Some p) d =
    accepting_then _ (need unsupported (same_geometry d p)) _ (λ _.
    accepting_equal decode (length d.offsets) (length p.offsets))

agrees_strips : (o : Order) (f : List ℕ) (first : Option Directory) (d : Directory) →
    Accepting (λ (u : Unit {0}). Pairs d × SameStrips (cond (reduced d) None first) d) (agrees o f first d)
unfolding agrees Pairs
agrees_strips o f first d =
    accepting_bind _ _ _ _ (accepting_equal decode (length d.offsets) (length d.counts)) (λ _ pairs.
    accepting_then _ (even_bits (cond (reduced d) None d.bits) o f d) _ (λ _.
    accepting_map (λ (u : Unit {0}). SameStrips (cond (reduced d) None first) d) _ _ (λ _ s. (pairs, s)) (with_strips _ d)))

-- a directory that agrees has as many strip lengths as offsets
pub agreed_arrays : (o : Order) (f : List ℕ) (first : Option Directory) (d : Directory) → agrees o f first d ≡ accepted tt →
    length d.offsets ≡ length d.counts
unfolding Pairs
agreed_arrays o f first d a = (accepting_told _ _ _ (agrees_strips o f first d) a).0

-- as many words as two for each strip of the first page, on every page
unfoldable pub Even : Option Directory → List Page → Type 0
Even None ps = ps ≡ []
Even (Some p) ps = length (table_words ps) ≡ length ps * length p.offsets * 2

even_more : (n : ℕ) (ps : List Page) (d : Directory) → Pairs d → n ≡ length d.offsets → length (table_words ps) ≡ length ps * n * 2 →
    length (table_words (ps ++ arrays_of d ∷ [])) ≡ length (ps ++ arrays_of d ∷ []) * n * 2
unfolding Pairs
even_more n ps d e m h =
    let w : length (strip_words d.offsets d.counts) ≡ 2 * n = strip_words_length d.offsets d.counts e ∙ ap (λ (k : ℕ). 2 * k) (sym m) in
    rw (table_words_append ps (arrays_of d ∷ []), append-nil (strip_words d.offsets d.counts), length-append, length-append, h, w, add-mul, one-mul) (omega arith)

even_by : (b : Bool) (first : Option Directory) (ps : List Page) (d : Directory) → Even first ps → Pairs d → SameStrips (cond b None first) d →
    Even (earlier first (cond b None (Some d))) (ps ++ cond b [] (arrays_of d ∷ []))
unfolding Even SameStrips
even_by true None ps d e p s = rw append-nil e
even_by true (Some q) ps d e p s = rw append-nil e
even_by false None ps d e p s = rw e (even_more (length d.offsets) [] d p refl (sym (rw (zero-mul, zero-mul))))
even_by false (Some q) ps d e p s = even_more (length q.offsets) ps d p (sym s) e

join_even : (o : Order) (f : List ℕ) (w : Walk) (d : Directory) → Even w.first w.pages → Accepting (λ (v : Walk). Even v.first v.pages) (join o f w d)
unfolding join Accepting
join_even o f w d e =
    accepting_bind _ _ _ _ (agrees_strips o f w.first d) (λ _ s. even_by (reduced d) w.first w.pages d e s.0 s.1)

chain_even : (n : ℕ) (b : Bool) (o : Order) (f : List ℕ) (place : ℕ) (w : Walk) → Even w.first w.pages →
    Accepting (λ (v : Walk). Even v.first v.pages) (chain n b o f place w)
unfolding chain Accepting
chain_even zero true o f place w e = e
chain_even zero false o f place w e = tt
chain_even (suc n) true o f place w e = e
chain_even (suc n) false o f place w e =
    accepting_then _ (directory o f place) _ (λ d.
    accepting_bind _ _ _ _ (join_even o f w d.0 e) (λ v h. chain_even n (eqb d.1 0) o f d.1 v h))

pub walk_even : (o : Order) (f : List ℕ) → Accepting (λ (v : Walk). Even v.first v.pages) (walk o f)
unfolding walk Even
walk_even o f = accepting_then _ (u32_at o f 4) _ (λ place. chain_even 1000000 (eqb place 0) o f place start refl)

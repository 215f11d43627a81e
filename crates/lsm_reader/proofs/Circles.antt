-- A chain that comes back to a place never ends: the place decides all that follows, and every directory on the way has even bits and has
-- agreed with the first full page already. Assumes nothing.
use Prim.Native.Nat.{ℕ, zero, suc, ◌+◌, ◌≤◌}
use native.Mathlib.Omega.{arith}
use mathlib.Core.Bool.{Bool, true, false, cond}
use mathlib.Core.Logic.{◌⊎◌, ⊎_elim, inl, inr}
use Rattle.std.specs.Prelude.{Option, None, Some}
use mathlib.Core.Path.{◌≡◌, refl, ◌∙◌}
use mathlib.Core.List.{List}
use lib.Dec.{eqb}
use lib.ListN.{length}
use Rattle.lsm_format.specs.Answer.{Result, accepted, refused, bind, need, parse, decode}
use Rattle.lsm_format.specs.Numbers.{Order}
use Rattle.lsm_format.specs.Directory.{Directory, reduced}
use Rattle.lsm_format.specs.Open.{agrees_with, even_bits, agrees, Walk, earlier, full_page, joined, chain}
use Rattle.lsm_format.proofs.Accepting.{not_both}
use Rattle.lsm_format.proofs.Open.{agrees_self, stays, chain_full}

-- ---- a directory that agreed once agrees again

-- the first full page, where it is known, is this one
abbrev pub Keeps : Option Directory → Option Directory → Type 0
Keeps None g = Unit {0}
Keeps (Some p) g = g ≡ Some p

pub keeps_self : (x : Option Directory) → Keeps x x
keeps_self None = tt
keeps_self (Some p) = refl

-- what was known of it before a directory is known after it
keeps_before : (first g later : Option Directory) → Keeps (earlier first later) g → Keeps first g
keeps_before None g later k = tt
keeps_before (Some p) g later k = k

again_by : (b : Bool) (first g : Option Directory) (d : Directory) → agrees_with (cond b None first) d ≡ accepted tt →
    Keeps (earlier first (cond b None (Some d))) g → (agrees_with (cond b None g) d ≡ accepted tt) × (earlier g (cond b None (Some d)) ≡ g)
again_by true first g d a k = (refl, stays g)
again_by false None g d a k = (rw k (agrees_self d), rw k)
again_by false (Some p) g d a k = (rw k a, rw k)

agrees_again : (o : Order) (f : List ℕ) (first g : Option Directory) (d : Directory) → agrees o f first d ≡ accepted tt →
    Keeps (earlier first (full_page d)) g → (agrees o f g d ≡ accepted tt) × (earlier g (full_page d) ≡ g)
unfolding agrees bind
agrees_again o f first g d a k = by (eqb (length d.offsets) (length d.counts)) (even_bits (cond (reduced d) None d.bits) o f d) a
  where
    by : (b : Bool) (r : Result (Unit {0})) → bind (need decode b) (λ _. bind r (λ _. agrees_with (cond (reduced d) None first) d)) ≡ accepted tt →
        (bind (need decode b) (λ _. bind r (λ _. agrees_with (cond (reduced d) None g) d)) ≡ accepted tt) × (earlier g (full_page d) ≡ g)
    by true (accepted u) q = again_by (reduced d) first g d q k
    by true (refused row) q = absurd (not_both row tt q)
    by false r q = absurd (not_both decode tt q)

-- ---- from a mark to a place

-- A walk from the mark that comes to the place, with fewer visits left: at least `s` of them are gone.
pub record Further (o : Order) (f : List ℕ) (mark place s n : ℕ) (w : Walk) : Type 0 where
  pub left : ℕ
  pub later : Walk
  pub fewer : left + s ≤ n
  pub kept : later.first ≡ w.first
  pub same : chain n (eqb mark 0) o f mark w ≡ chain left (eqb place 0) o f place later

-- Whatever walk begins at the mark, knowing of the first page what is known: it is refused with 1, or it comes to the place.
abbrev pub Again : Order → List ℕ → ℕ → Option Directory → ℕ → ℕ → Type 0
Again o f s first mark place =
    (n : ℕ) (w : Walk) → Keeps first w.first → (chain n (eqb mark 0) o f mark w ≡ refused parse) ⊎ Further o f mark place s n w

module _ (o : Order) (f : List ℕ) where
  -- the mark itself
  pub again_here : (first : Option Directory) (place : ℕ) → Again o f 0 first place place
  again_here first place = λ n w k. inr (record { left = n; later = w; fewer = omega arith; kept = refl; same = refl })

  pub again_less : (first : Option Directory) (mark place : ℕ) → Again o f 1 first mark place → Again o f 0 first mark place
  again_less first mark place a = λ n w k. ⊎_elim (λ e. inl e) (λ x. inr (less n w x)) (a n w k)
    where
      less : (n : ℕ) (w : Walk) → Further o f mark place 1 n w → Further o f mark place 0 n w
      less n w x =
          let h : x.left + 1 ≤ n = x.fewer in
          record { left = x.left; later = x.later; fewer = omega arith; kept = x.kept; same = x.same }

  -- one directory further
  module _ (first : Option Directory) (mark place next : ℕ) (d : Directory) (z : place ≡ 0 → ⊥)
      (turn : (k : ℕ) (u : Walk) → agrees o f u.first d ≡ accepted tt → chain (suc k) (eqb place 0) o f place u ≡ chain k (eqb next 0) o f next (joined u d))
      (a : agrees o f first d ≡ accepted tt) where
    step : (n : ℕ) (w : Walk) → Keeps (earlier first (full_page d)) w.first → (m : ℕ) (v : Walk) → m ≤ n → v.first ≡ w.first →
        chain n (eqb mark 0) o f mark w ≡ chain m (eqb place 0) o f place v →
        (chain n (eqb mark 0) o f mark w ≡ refused parse) ⊎ Further o f mark next 1 n w
    step n w k zero v h e s = inl (s ∙ chain_full o f place v z)
    step n w k (suc m) v h e s =
        let j = agrees_again o f first v.first d a (rw e k) in
        inr (record { left = m; later = joined v d; fewer = omega arith; kept = j.1 ∙ e; same = s ∙ turn m v j.0 })

    pub again_turn : Again o f 0 first mark place → Again o f 1 (earlier first (full_page d)) mark next
    again_turn g =
        λ n w k.
        ⊎_elim
        (λ e. inl e)
        (λ x. let h : x.left + 0 ≤ n = x.fewer in step n w k x.left x.later (omega arith) x.kept x.same)
        (g n w (keeps_before first w.first (full_page d) k))

  -- ---- a circle

  -- A chain that comes back to its mark is refused with 1, however many visits are left.
  module _ (first : Option Directory) (mark : ℕ) (a : Again o f 1 first mark mark) where
    round : (b n : ℕ) (w : Walk) → n ≤ b → Keeps first w.first → chain n (eqb mark 0) o f mark w ≡ refused parse
    round zero n w h k = ⊎_elim (λ e. e) (λ x. absurd (none_left x)) (a n w k)
      where
        none_left : Further o f mark mark 1 n w → ⊥
        none_left x = let l : x.left + 1 ≤ n = x.fewer in omega arith
    round (suc b) n w h k =
        ⊎_elim
        (λ e. e)
        (λ x. let l : x.left + 1 ≤ n = x.fewer in x.same ∙ round b x.left x.later (omega arith) (rw x.kept k))
        (a n w k)

    pub circle : (n : ℕ) (w : Walk) → Keeps first w.first → chain n (eqb mark 0) o f mark w ≡ refused parse
    circle n w k = round n n w (omega arith) k

-- What holds of whatever a rule accepts, step by step. Assumes nothing.
use Prim.Native.Nat.{ℕ}
use mathlib.Core.Bool.{Bool, true, false, ◌&&◌}
use Rattle.std.specs.Prelude.{Option, None, Some}
use mathlib.Core.Path.{◌≡◌, refl, subst}
use mathlib.Core.List.{List}
use Rattle.lsm_format.specs.Answer.{Result, accepted, refused, bind, need, given}
use Rattle.lsm_format.proofs.Apart.{no_case}

-- Whatever is accepted is so.
unfoldable pub Accepting : {A : Type 0} (P : A → Type 0) → Result A → Type 0
Accepting P (accepted a) = P a
Accepting P (refused row) = Unit {0}

pub accepting_bind : {A B : Type 0} (P : A → Type 0) (Q : B → Type 0) (m : Result A) (k : A → Result B) → Accepting P m →
    ((a : A) → P a → Accepting Q (k a)) → Accepting Q (bind m k)
unfolding Accepting bind
accepting_bind P Q (accepted a) k p q = q a p
accepting_bind P Q (refused row) k p q = tt

-- the same, where what the first step accepts doesn't matter
pub accepting_then : {A B : Type 0} (Q : B → Type 0) (m : Result A) (k : A → Result B) → ((a : A) → Accepting Q (k a)) → Accepting Q (bind m k)
unfolding Accepting bind
accepting_then Q (accepted a) k q = q a
accepting_then Q (refused row) k q = tt

pub accepting_need : (row : List ℕ) (b : Bool) → Accepting (λ (u : Unit {0}). b ≡ true) (need row b)
unfolding Accepting
accepting_need row true = refl
accepting_need row false = tt

pub accepting_given : {A : Type 0} (row : List ℕ) (x : Option A) → Accepting (λ (a : A). x ≡ Some a) (given row x)
unfolding Accepting
accepting_given row None = tt
accepting_given row (Some a) = refl

pub accepting_map : {A : Type 0} (P Q : A → Type 0) (m : Result A) → ((a : A) → P a → Q a) → Accepting P m → Accepting Q m
unfolding Accepting
accepting_map P Q (accepted a) h p = h a p
accepting_map P Q (refused row) h p = tt

pub accepting_self : {A : Type 0} (m : Result A) → Accepting (λ (a : A). m ≡ accepted a) m
unfolding Accepting
accepting_self (accepted a) = refl
accepting_self (refused row) = tt

-- what was accepted is so
pub accepting_told : {A : Type 0} (P : A → Type 0) (m : Result A) (a : A) → Accepting P m → m ≡ accepted a → P a
unfolding Accepting
accepting_told P m a p e = subst (λ (r : Result _). Accepting P r) e p

-- of two tests that both hold, each does
pub both_hold : (a b : Bool) → (a && b) ≡ true → (a ≡ true) × (b ≡ true)
both_hold true b t = (refl, t)
both_hold false b t = let z : true ≡ false = cc in (cc, cc)

-- what is refused is not accepted
pub not_both : {A : Type 0} (row : List ℕ) (a : A) → refused row ≡ accepted a → ⊥
not_both row a q = no_case cc

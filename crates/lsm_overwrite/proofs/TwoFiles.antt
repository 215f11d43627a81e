-- Two files of one length that agree on the bytes that a rule reads: the rule answers the same. The laws of the shapes that
-- every rule is made of, and of the numbers at an offset. Assumes nothing.
use Prim.Native.Nat.{ℕ, zero, suc, ◌+◌, ◌≤◌, ◌<◌}
use native.Mathlib.Omega.{arith}
use mathlib.Core.Bool.{Bool, true, false}
use mathlib.Core.Path.{◌≡◌, refl, ap₂, subst}
use mathlib.Core.Logic.{inl, inr}
use mathlib.Core.List.{List, [], ◌∷◌, ◌++◌}
use lib.Dec.{leb}
use lib.ListN.{length, get_or}
use borrow.Author.Tests.{le-leb, leb-true, leb-false}
use Rattle.lsm_format.specs.Answer.{Result, accepted, refused, bind}
use Rattle.lsm_format.specs.Ranges.{Ranges, nothing, at, both, over, in_file, flat, Inside, On, Agree}
use Rattle.lsm_format.specs.Numbers.{Order, part_at, number_at, number_ranges, i32_at}
use Rattle.lsm_format.proofs.Accepting.{Accepting}
use Rattle.lsm_format.proofs.Numbers.{bytes_next, bytes_from, part_bytes, part_past, part_there, number_past}

-- a place in one of two lists of ranges is in both together
inside_left : (p : ℕ) (rs qs : List (ℕ × ℕ)) → Inside p rs → Inside p (rs ++ qs)
inside_left p [] qs i = absurd i
inside_left p (r ∷ rs) qs (inl i) = inl i
inside_left p (r ∷ rs) qs (inr i) = inr (inside_left p rs qs i)

inside_right : (p : ℕ) (rs qs : List (ℕ × ℕ)) → Inside p qs → Inside p (rs ++ qs)
inside_right p [] qs i = i
inside_right p (r ∷ rs) qs i = inr (inside_right p rs qs i)

-- a range that is in the file
pub in_file_at : (f : List ℕ) (p m : ℕ) → p + m ≤ length f → in_file f p m ≡ at p m
unfolding in_file
in_file_at f p m h = rw (le-leb (p + m) (length f) h, in_file)

-- one step and then the rest, where the step reads nothing that decides what the rest reads
pub bind_law : {A B : Type 0} (m : Result A) {m' : Result A} {k k' : A → Result B} → m' ≡ m → ((a : A) → k' a ≡ k a) → bind m' k' ≡ bind m k
unfolding bind
bind_law (accepted a) e h = rw e (h a)
bind_law (refused row) e h = rw e

-- the same, where the rest may know that the step was accepted
pub bind_told : {A B : Type 0} (m : Result A) {m' : Result A} {k k' : A → Result B} →
    m' ≡ m → ((a : A) → m ≡ accepted a → k' a ≡ k a) → bind m' k' ≡ bind m k
unfolding bind
bind_told (accepted a) e h = rw e (h a refl)
bind_told (refused row) e h = rw e

-- the same, where the rest may know what holds of whatever the step accepts
pub bind_accepting : {A B : Type 0} (P : A → Type 0) (m : Result A) {m' : Result A} {k k' : A → Result B} →
    m' ≡ m → Accepting P m → ((a : A) → P a → k' a ≡ k a) → bind m' k' ≡ bind m k
unfolding bind Accepting
bind_accepting P (accepted a) e p h = rw e (h a p)
bind_accepting P (refused row) e p h = rw e

-- a file agrees with itself
pub agree_self : (f : List ℕ) (r : Ranges) → Agree f f r
agree_self f nothing = tt
agree_self f (at start count) = λ p i. refl
agree_self f (both r q) = (agree_self f r, agree_self f q)

module _ (f g : List ℕ) where
  -- files that agree at every listed place agree on the ranges
  pub agree : (r : Ranges) → ((p : ℕ) → Inside p (flat r) → get_or g p 0 ≡ get_or f p 0) → Agree f g r
  unfolding flat
  agree nothing h = tt
  agree (at start count) h = λ p i. h p (inl i)
  agree (both r q) h =
      (agree r (λ p i. h p (inside_left p (flat r) (flat q) i)), agree q (λ p i. h p (inside_right p (flat r) (flat q) i)))

  -- one step and then the rest, where what the rest reads hangs on the step's answer
  pub over_law : {A B : Type 0} (m : Result A) {m' : Result A} {k k' : A → Result B} (r : A → Ranges) → m' ≡ m → Agree f g (over m r) →
      ((a : A) → Agree f g (r a) → k' a ≡ k a) → bind m' k' ≡ bind m k
  unfolding bind over
  over_law (accepted a) r e w h = rw e (h a w)
  over_law (refused row) r e w h = rw e

  -- the same, where the rest may know what holds of whatever the step accepts
  pub over_told : {A B : Type 0} (P : A → Type 0) (m : Result A) {m' : Result A} {k k' : A → Result B} (r : A → Ranges) → m' ≡ m →
      Accepting P m → Agree f g (over m r) → ((a : A) → P a → Agree f g (r a) → k' a ≡ k a) → bind m' k' ≡ bind m k
  unfolding bind over Accepting
  over_told P (accepted a) r e p w h = rw e (h a p w)
  over_told P (refused row) r e p w h = rw e

  -- what is listed after a step that was accepted
  pub over_given : {A : Type 0} (m : Result A) (r : A → Ranges) (a : A) → m ≡ accepted a → Agree f g (over m r) → Agree f g (r a)
  unfolding over
  over_given m r a e w = subst (λ (x : Result _). Agree f g (over x r)) e w

  -- ranges that are read after a step, where they agree whatever it accepts
  pub over_accepting : {A : Type 0} (P : A → Type 0) (m : Result A) (r : A → Ranges) → Accepting P m → ((a : A) → P a → Agree f g (r a)) →
      Agree f g (over m r)
  unfolding over Accepting
  over_accepting P (accepted a) r p h = h a p
  over_accepting P (refused row) r p h = tt

  pub over_all : {A : Type 0} (m : Result A) (r : A → Ranges) → ((a : A) → Agree f g (r a)) → Agree f g (over m r)
  unfolding over
  over_all (accepted a) r h = h a
  over_all (refused row) r h = tt

  -- agreement on a range is agreement on each part of it
  pub on_part : (s n t m : ℕ) → On f g s n → (s ≤ t) × (t + m ≤ s + n) → On f g t m
  on_part s n t m h i p a = h p (omega arith)

  next_law : (n p k : ℕ) → On f g (p + k) n → bytes_next n g p k ≡ bytes_next n f p k
  next_law zero p k h = refl
  next_law (suc n) p k h =
      ap₂ {C = List ℕ} ◌∷◌ (h (p + k) (omega arith)) (next_law n p (suc k) (on_part (p + k) (suc n) (p + suc k) n h (omega arith)))

  bytes_law : (n p : ℕ) → On f g p n → bytes_from n g p ≡ bytes_from n f p
  bytes_law zero p h = refl
  bytes_law (suc n) p h = ap₂ {C = List ℕ} ◌∷◌ (h p (omega arith)) (next_law n p 1 (on_part p (suc n) (p + 1) n h (omega arith)))

  module _ (len : length g ≡ length f) where
    in_file_by : (b : Bool) (p m : ℕ) → leb (p + m) (length f) ≡ b → (p + m ≤ length f → On f g p m) → part_at g p m ≡ part_at f p m
    in_file_by true p m t h =
        let there : p + m ≤ length f = leb-true _ _ t in
        rw (part_there f p m there, part_there g p m (omega arith), part_bytes m g p (omega arith), part_bytes m f p there, bytes_law m p (h there))
    in_file_by false p m t h =
        let past : length f < p + m = leb-false _ _ t in
        rw (part_past f p m past, part_past g p m (omega arith))

    -- a part that is read within a range
    pub part_law : (s n p m : ℕ) → On f g s n → (s ≤ p) × (p + m ≤ s + n) → part_at g p m ≡ part_at f p m
    part_law s n p m h i = in_file_by (leb (p + m) (length f)) p m refl (λ _. on_part s n p m h i)

    -- a part whose own range is listed: past the end there is nothing, and the length alone decides
    pub part_listed : (p m : ℕ) → Agree f g (in_file f p m) → part_at g p m ≡ part_at f p m
    part_listed p m a = in_file_by (leb (p + m) (length f)) p m refl (λ there. rw (in_file_at f p m there) at a)

    pub number_law : (count : ℕ) (o : Order) (s n p : ℕ) → On f g s n → (s ≤ p) × (p + count ≤ s + n) →
        number_at count o g p ≡ number_at count o f p
    unfolding number_at
    number_law count o s n p h i = bind_law _ (part_law s n p count h i) (λ _. refl)

    pub number_listed : (count : ℕ) (o : Order) (p : ℕ) → Agree f g (number_ranges count f p) →
        number_at count o g p ≡ number_at count o f p
    unfolding number_at
    number_listed count o p a = bind_law _ (part_listed p count a) (λ _. refl)

    pub i32_law : (o : Order) (s n p : ℕ) → On f g s n → (s ≤ p) × (p + 4 ≤ s + n) → i32_at o g p ≡ i32_at o f p
    unfolding i32_at
    i32_law o s n p h i = bind_law _ (number_law 4 o s n p h i) (λ _. refl)

    pub i32_listed : (o : Order) (p : ℕ) → Agree f g (number_ranges 4 f p) → i32_at o g p ≡ i32_at o f p
    unfolding i32_at
    i32_listed o p a = bind_law _ (number_listed 4 o p a) (λ _. refl)

    last_by : (b : Bool) (count : ℕ) (o : Order) (s n p : ℕ) → leb (s + n) (length f) ≡ b → (s ≤ p) × (p + count ≡ s + n) →
        Agree f g (in_file f s n) → number_at count o g p ≡ number_at count o f p
    last_by true count o s n p t i a =
        let there : s + n ≤ length f = leb-true _ _ t in
        number_law count o s n p (rw (in_file_at f s n there) at a) (omega arith)
    last_by false count o s n p t i a =
        let past : length f < s + n = leb-false _ _ t in
        rw (number_past count o f p (omega arith), number_past count o g p (omega arith))

    -- a number that ends where its range ends
    pub number_last : (count : ℕ) (o : Order) (s n p : ℕ) → (s ≤ p) × (p + count ≡ s + n) → Agree f g (in_file f s n) →
        number_at count o g p ≡ number_at count o f p
    number_last count o s n p i a = last_by (leb (s + n) (length f)) count o s n p refl i a

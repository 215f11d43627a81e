-- Laws of the walk along the directories, a case each. Assumes nothing.
use Prim.Native.Nat.{ℕ, zero, suc, ◌+◌, ◌*◌, ◌<◌}
use native.Mathlib.Omega.{arith}
use mathlib.Core.Bool.{Bool, true, false, beq}
use Rattle.std.specs.Prelude.{Option, None, Some}
use mathlib.Core.Path.{◌≡◌, refl}
use mathlib.Core.List.{List, [], ◌∷◌, ◌++◌, append_assoc}
use lib.Dec.{eqb}
use lib.ListN.{length, get_or}
use borrow.Author.Tests.{eq-eqb, ne_eqb}
use Rattle.lsm_format.specs.Answer.{accepted, refused, bind, parse}
use Rattle.lsm_format.specs.Numbers.{Order}
use Rattle.lsm_format.specs.Directory.{Field, Directory, plain, planar, entry, entries, ends, directory}
use Rattle.lsm_format.specs.Open.{geometry, same_on, agrees_with, agrees, Page, Walk, earlier, joined, join, chain, strip_words, table_words}

-- one entry more: the entries from the i-th on
pub entries_next : (n : ℕ) (o : Order) (f : List ℕ) (base i : ℕ) (d e : Directory) → entry o f (base + 12 * i) d ≡ accepted e →
    entries (suc n) o f base i d ≡ entries n o f base (i + 1) e
unfolding entries bind
entries_next n o f base i d e h = rw h

pub entries_stop : (n : ℕ) (o : Order) (f : List ℕ) (base i : ℕ) (d : Directory) (row : List ℕ) → entry o f (base + 12 * i) d ≡ refused row →
    entries (suc n) o f base i d ≡ refused row
unfolding entries bind
entries_stop n o f base i d row h = rw h

pub entries_done : (k : ℕ) (o : Order) (f : List ℕ) (base i : ℕ) (d : Directory) → k ≡ 0 → entries k o f base i d ≡ accepted d
unfolding entries
entries_done k o f base i d z = rw z

-- ---- what a directory is held to

-- a page has its own geometry
same_on_self : (ts : List Field) (d : Directory) → same_on ts d d ≡ true
same_on_self [] d = refl
same_on_self (t ∷ ts) d = rw (eq-eqb (d.scalars t) (d.scalars t) refl) (same_on_self ts d)

same_flag : (b : Bool) → beq b b ≡ true
same_flag true = refl
same_flag false = refl

pub agrees_self : (d : Directory) → agrees_with (Some d) d ≡ accepted tt
unfolding bind
agrees_self d = rw (same_on_self geometry d, same_flag (planar d), eq-eqb (length d.offsets) (length d.offsets) refl)

-- ---- the chain

-- with nothing later, the earlier stays
pub stays : {A : Type 0} (x : Option A) → earlier x None ≡ x
stays None = refl
stays (Some a) = refl

-- the chain's end, and one directory too many
chain_done : (n : ℕ) (o : Order) (f : List ℕ) (place : ℕ) (w : Walk) → chain n true o f place w ≡ accepted w
unfolding chain
chain_done zero o f place w = refl
chain_done (suc n) o f place w = refl

pub chain_end : (n : ℕ) (o : Order) (f : List ℕ) (place : ℕ) (w : Walk) → place ≡ 0 → chain n (eqb place 0) o f place w ≡ accepted w
chain_end n o f place w z = rw (eq-eqb place 0 z) (chain_done n o f place w)

pub chain_full : (o : Order) (f : List ℕ) (place : ℕ) (w : Walk) → (place ≡ 0 → ⊥) → chain 0 (eqb place 0) o f place w ≡ refused parse
unfolding chain
chain_full o f place w z = rw (ne_eqb place 0 z)

-- a directory's turn: its ends, its entries, what it is held to
module _ (o : Order) (f : List ℕ) (place : ℕ) (w : Walk) (z : place ≡ 0 → ⊥) (k : ℕ) where
  pub chain_short : (row : List ℕ) → ends o f place ≡ refused row → chain (suc k) (eqb place 0) o f place w ≡ refused row
  unfolding chain directory bind
  chain_short row h = rw (ne_eqb place 0 z, h)

  module _ (n next : ℕ) (h : ends o f place ≡ accepted (n, next)) where
    pub chain_stop : (row : List ℕ) → entries n o f (place + 2) 0 plain ≡ refused row → chain (suc k) (eqb place 0) o f place w ≡ refused row
    unfolding chain directory bind
    chain_stop row e = rw (ne_eqb place 0 z, h, e)

    module _ (d : Directory) (e : entries n o f (place + 2) 0 plain ≡ accepted d) where
      pub chain_disagrees : (row : List ℕ) → agrees o f w.first d ≡ refused row → chain (suc k) (eqb place 0) o f place w ≡ refused row
      unfolding chain directory join bind
      chain_disagrees row a = rw (ne_eqb place 0 z, h, e, a)

      pub chain_turn : agrees o f w.first d ≡ accepted tt → chain (suc k) (eqb place 0) o f place w ≡ chain k (eqb next 0) o f next (joined w d)
      unfolding chain directory join bind
      chain_turn a = rw (ne_eqb place 0 z, h, e, a)

-- ---- the strip table

unequal : {n : ℕ} → suc n ≡ 0 → ⊥
unequal h = omega arith

nothing_less : {i : ℕ} → i < 0 → ⊥
nothing_less h = omega arith

pub double : (i : ℕ) → 2 * suc i ≡ suc (suc (2 * i))
double i = omega arith

-- two words for each strip
pub strip_words_length : (os cs : List ℕ) → length os ≡ length cs → length (strip_words os cs) ≡ 2 * length os
strip_words_length [] cs e = refl
strip_words_length (o ∷ os) [] e = absurd (unequal e)
strip_words_length (o ∷ os) (c ∷ cs) e =
    let rest : length (strip_words os cs) ≡ 2 * length os = strip_words_length os cs (omega arith) in
    omega arith

-- strip i: its offset, then its count
pub strip_offset : (os cs : List ℕ) → length os ≡ length cs → (i : ℕ) → i < length os → get_or (strip_words os cs) (2 * i) 0 ≡ get_or os i 0
strip_offset [] cs e i h = absurd (nothing_less h)
strip_offset (o ∷ os) [] e i h = absurd (unequal e)
strip_offset (o ∷ os) (c ∷ cs) e zero h = refl
strip_offset (o ∷ os) (c ∷ cs) e (suc i) h = rw (double i) (strip_offset os cs (omega arith) i (omega arith))

pub strip_count : (os cs : List ℕ) → length os ≡ length cs → (i : ℕ) → i < length os → get_or (strip_words os cs) (2 * i + 1) 0 ≡ get_or cs i 0
strip_count [] cs e i h = absurd (nothing_less h)
strip_count (o ∷ os) [] e i h = absurd (unequal e)
strip_count (o ∷ os) (c ∷ cs) e zero h = refl
strip_count (o ∷ os) (c ∷ cs) e (suc i) h =
    let q : 2 * suc i + 1 ≡ suc (suc (2 * i + 1)) = omega arith in
    rw q (strip_count os cs (omega arith) i (omega arith))

-- pages and then more of them
pub table_words_append : (ps qs : List Page) → table_words (ps ++ qs) ≡ table_words ps ++ table_words qs
table_words_append [] qs = refl
table_words_append (p ∷ ps) qs = rw (table_words_append ps qs, append_assoc)

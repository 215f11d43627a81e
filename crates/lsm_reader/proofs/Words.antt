-- How many words the strip table of a file takes: two for each strip of each full page, since all of them have as many strips as the
-- first; and what opening answers where the table lent is shorter. Assumes nothing.
use Prim.Native.Nat.{ℕ, ◌-◌, ◌*◌, ◌^◌, ◌<◌, min}
use native.Mathlib.Nat.{zero-mul, mul-zero}
use mathlib.Core.Path.{◌≡◌, sym, ◌∙◌}
use mathlib.Core.List.{List}
use lib.ListN.{length}
use Rattle.lsm_format.specs.Answer.{accepted, bind}
use Rattle.lsm_format.specs.Numbers.{Order}
use Rattle.lsm_format.specs.Open.{Page, Walk, walk, table_words, read, open_file, open_memory}
use Rattle.lsm_format.specs.Open as Open
use Rattle.lsm_format.specs.declared.error.Refusal.TheVariants.{TooShort}
use Rattle.lsm_format.proofs.Lent.{lend_short, filled_short}
use Rattle.lsm_format.proofs.Accepting.{accepting_told}
use Rattle.lsm_format.proofs.Pages.{Even, walk_even}
use Rattle.lsm_values.proofs.Laws.{values_length}
use Rattle.lsm_reader.specs.Walked.{walk_of}
use Rattle.std.specs.Prelude.{Option, None, Some, option_map, Err}
use Rattle.lsm_directory.specs.Code.{directory_of}
use Rattle.lsm_directory.specs.declared.Directory.{Directory}
use Rattle.lsm_reader.specs.Opening.{strips_of, OpenedAs}
use Rattle.lsm_reader.specs.declared.chain.Walk.{Walk as Kept}

-- the words of a walk, by its count of pages and the strips of its first page
by_first : (o : Order) (f : List ℕ) (ps : List Page) (n : ℕ) (x : Option Directory) → Even (option_map (directory_of o f) x) ps → n ≡ length ps →
    length (table_words ps) ≡ n * strips_of x * 2
unfolding Even
by_first o f ps n None e m = rw (e, mul-zero, zero-mul)
by_first o f ps n (Some d) e m = e ∙ rw (values_length, m)

pub walked_words : (o : Order) (f : List ℕ) (ps : List Page) (w : Kept) → walk o f ≡ accepted (walk_of o f ps w) → w.pages ≡ length ps →
    length (table_words ps) ≡ w.pages * strips_of w.first * 2
walked_words o f ps w e m =
    by_first o f ps w.pages w.first (accepting_told (λ (v : Walk). Even v.first v.pages) _ _ (walk_even o f) e) m

-- a table that is too short; the check of `open_file` finds it alone
pub too_short_lem : (f lent : List ℕ) (x : Open.Opened) → read f ≡ accepted x → (n : ℕ) → n ≡ min (length x.table) (2 ^ 64 - 1) → length lent < length x.table
    → OpenedAs f lent lent (Err (TooShort n))
unfolding open_file open_memory bind
too_short_lem f lent x e n is h = record { answered = rw (e, lend_short _ _ h, is); memory = rw e (sym (filled_short x.table lent h)) }

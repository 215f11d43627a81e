-- What holds of a walk that goes on. Assumes nothing.
use Prim.Native.Nat.{ℕ, ◌+◌, ◌-◌, ◌^◌, ◌≤◌, ◌<◌}
use native.Mathlib.Omega.{arith}
use mathlib.Core.Path.{◌≡◌, sym, ◌∙◌}
use mathlib.Core.List.{List, ◌++◌, append_assoc}
use lib.Dec.{eqb}
use lib.ListN.{length, take, drop, length-append}
use lib.Seq.{take_at, drop_at, drop-drop}
use Rattle.lsm_format.specs.Numbers.{Order}
use Rattle.lsm_format.specs.Directory.{Directory}
use Rattle.lsm_format.specs.Open.{Page, pages_of, chain, table_words}
use Rattle.lsm_format.specs.Open as Open
use Rattle.lsm_format.proofs.Open.{table_words_append}
use Rattle.std.specs.Prelude.{option_map}
use Rattle.lsm_directory.specs.Code.{directory_of}
use Rattle.lsm_reader.specs.Walked.{walk_of, LaidPage}
use Rattle.lsm_reader.specs.declared.chain.Walk.{Walk}
use Rattle.lsm_reader.proofs.Circles.{Again}

-- ---- the table

-- The table with the strips of these pages, where there is room for them.
pub record Laid (pages : List Page) (used : ℕ) (lent table : List ℕ) : Type 0 where
  pub long : length table ≡ length lent
  pub room : used ≤ length table
  pub laid : length (table_words pages) ≤ length lent →
      (used ≡ length (table_words pages)) × (table ≡ table_words pages ++ drop used lent)

-- a directory more: the table holds its strips as well, where there is room for them all
laid_on : (before words lent table after : List ℕ) (used r : ℕ) → used ≡ length before → table ≡ before ++ drop used lent → r ≡ used + length words →
    after ≡ take used table ++ (words ++ drop (used + length words) table) → (r ≡ length (before ++ words)) × (after ≡ (before ++ words) ++ drop r lent)
laid_on before words lent table after used r u t is a =
    let front : take used table ≡ before = rw t (take_at before (drop used lent) used (sym u)) in
    let rest : drop used table ≡ drop used lent = rw t (drop_at before (drop used lent) used (sym u)) in
    (is ∙ rw (length-append, u), a ∙ rw (front, append_assoc, is, ← drop-drop (length words) used table, ← drop-drop (length words) used lent, rest))

pub laid_more : (ps : List Page) (d : Directory) (used r : ℕ) (lent table after : List ℕ) → length after ≡ length table → Laid ps used lent table →
    LaidPage (table_words (pages_of d)) used table after r → Laid (ps ++ pages_of d) r lent after
laid_more ps d used r lent table after s l p =
    record {
      long = s ∙ l.long;
      room = rw s p.room;
      laid = rw (table_words_append ps (pages_of d)) (λ h.
          let n : length (table_words ps) + length (table_words (pages_of d)) ≤ length lent = rw (← length-append) h in
          let q = l.laid (omega arith) in
          let e : used + length (table_words (pages_of d)) ≤ length table = omega (arith, q.0, l.long) in
          let m = p.laid e in
          laid_on (table_words ps) (table_words (pages_of d)) lent table after used r q.0 q.1 m.0 m.1);
    }

-- ---- the walk

-- With the full pages so far, what is left of the chain is what the whole walk answers; and from the mark the chain comes here.
pub record Going (o : Order) (f lent : List ℕ) (place mark : ℕ) (w : Walk) (used : ℕ) (table : List ℕ) : Type 0 where
  pub near : place < 2 ^ 32
  pub few : w.visited ≤ 1000000
  pub fewer : w.pages ≤ w.visited
  pub pages : List Page
  pub counted : w.pages ≡ length pages
  pub goes : chain (1000000 - w.visited) (eqb place 0) o f place (walk_of o f pages w) ≡ Open.walk o f
  pub laid : Laid pages used lent table
  pub again : Again o f 0 (option_map (directory_of o f) w.first) mark place

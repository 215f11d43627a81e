-- Laws of the strip table that a walk fills. Assumes nothing.
use Prim.Native.Nat.{ℕ, ◌+◌, ◌-◌, ◌*◌, ◌≤◌, ◌<◌}
use native.Mathlib.Nat.{add-zero, not-le_of_lt}
use native.Mathlib.Omega.{arith}
use mathlib.Core.Path.{◌≡◌, refl, sym, ap, ◌∙◌}
use Rattle.std.specs.Prelude.{Option, None, Some, option_map}
use Rattle.std.specs.Option.{option_or}
use mathlib.Core.Bool.{false}
use mathlib.Core.List.{List, [], ◌∷◌, ◌++◌, append-nil}
use lib.ListN.{length, get_or, take, set, length-append, length-set, take-append-drop}
use borrow.Rule.Slice.PartMut.{put_mid, Post-is}
use Rattle.lsm_format.specs.Numbers.{Order}
use Rattle.lsm_format.specs.Directory.{is_reduced}
use Rattle.lsm_format.specs.Open.{Page, earlier, pages_of, strip_words, table_words}
use Rattle.lsm_directory.specs.Code.{directory_of}
use Rattle.lsm_directory.specs.declared.Directory.{Directory}
use Rattle.lsm_format.proofs.Lists.{take_store, take_full}
use Rattle.lsm_format.proofs.Open.{strip_words_length, strip_offset, strip_count}
use Rattle.lsm_values.specs.declared.Array.{Array}
use Rattle.lsm_values.specs.Code.{values_of}
use Rattle.lsm_reader.specs.Walked.{LaidPage}
use Rattle.lsm_values.proofs.Laws.{values_length}

-- one page more
pub one_more : (n : ℕ) (ps : List Page) (p : Page) → n ≡ length ps → n + 1 ≡ length (ps ++ p ∷ [])
one_more n ps p e = rw length-append (omega arith)

-- of two, the earlier, by their meanings
pub kept_or : {A B : Type 0} (meant : A → B) (a b : Option A) → option_map meant (option_or a b) ≡ earlier (option_map meant a) (option_map meant b)
kept_or meant None b = refl
kept_or meant (Some x) b = refl

-- ---- the table

-- one strip more
take_strip : (l os cs : List ℕ) (i v c : ℕ) → length os ≡ length cs → length l ≡ 2 * length os → i < length os → v ≡ get_or os i 0 → c ≡ get_or cs i 0 →
    take (2 * i) l ≡ take (2 * i) (strip_words os cs) → take (2 * (i + 1)) (set (set l (2 * i) v) (2 * i + 1) c) ≡ take (2 * (i + 1)) (strip_words os cs)
take_strip l os cs i v c e n h vs cs' q =
    let w : length (strip_words os cs) ≡ 2 * length os = strip_words_length os cs e in
    let t : 2 * (i + 1) ≡ 2 * i + 1 + 1 = omega arith in
    rw (t, vs, cs', ← strip_offset os cs e i h, ← strip_count os cs e i h)
    (take_store (set l (2 * i) (get_or (strip_words os cs) (2 * i) 0)) (strip_words os cs) (2 * i + 1) (omega arith) (rw length-set (omega arith))
    (take_store l (strip_words os cs) (2 * i) (omega arith) (omega arith) q))

module _ (o : Order) (f : List ℕ) (offsets counts : Array) (e : counts.count ≡ offsets.count) where
  equal : length (values_of o f offsets) ≡ length (values_of o f counts)
  equal = rw (values_length, values_length) (sym e)

  pub words_long : length (strip_words (values_of o f offsets) (values_of o f counts)) ≡ 2 * offsets.count
  words_long = rw (strip_words_length (values_of o f offsets) (values_of o f counts) equal, values_length)

  -- one strip more
  pub strip_more : (l : List ℕ) (i v c : ℕ) → length l ≡ 2 * offsets.count → i < offsets.count →
      v ≡ get_or (values_of o f offsets) i 0 → c ≡ get_or (values_of o f counts) i 0 →
      take (2 * i) l ≡ take (2 * i) (strip_words (values_of o f offsets) (values_of o f counts)) →
      take (2 * (i + 1)) (set (set l (2 * i) v) (2 * i + 1) c) ≡ take (2 * (i + 1)) (strip_words (values_of o f offsets) (values_of o f counts))
  strip_more l i v c n h vs cs q =
      take_strip l (values_of o f offsets) (values_of o f counts) i v c equal (rw values_length n) (rw values_length h) vs cs q

  -- all of them
  pub strips_all : (l : List ℕ) (i : ℕ) → length l ≡ 2 * offsets.count → offsets.count ≤ i →
      take (2 * i) l ≡ take (2 * i) (strip_words (values_of o f offsets) (values_of o f counts)) → l ≡ strip_words (values_of o f offsets) (values_of o f counts)
  strips_all l i n h q = take_full l (strip_words (values_of o f offsets) (values_of o f counts)) (2 * i) (n ∙ sym words_long) (rw words_long (omega arith)) q

-- the words of a full page
pub page_long : (o : Order) (f : List ℕ) (d : Directory) → is_reduced d.new_subfile_type ≡ false → d.offsets.count ≡ d.counts.count →
    length (table_words (pages_of (directory_of o f d))) ≡ 2 * d.offsets.count
page_long o f d r e = rw (r, append-nil) (words_long o f d.offsets d.counts (sym e))

-- ---- a page laid into the table

module _ (used : ℕ) (t : List ℕ) where
  pub laid_nothing : used ≤ length t → LaidPage [] used t t used
  laid_nothing h = record { room = h; laid = λ l. (sym (add-zero used), rw add-zero (sym (take-append-drop used t))) }

  pub laid_short : (words : List ℕ) → used ≤ length t → length t < used + length words → LaidPage words used t t used
  laid_short words h s = record { room = h; laid = λ l. absurd (not-le_of_lt s l) }

  pub laid_there : (words : List ℕ) (n : ℕ) (ys : List ℕ) → length words ≡ n → used + n ≤ length t → ys ≡ words →
      LaidPage words used t (put_mid used (used + n - used) t ys) (used + n)
  laid_there words n ys e h is =
      record { room = h; laid = λ l. (ap (λ (k : ℕ). used + k) (sym e), rw (Post-is used (used + n) t (omega arith), is, e)) }

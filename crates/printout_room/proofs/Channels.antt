-- How many channels a file that opens has: at most 65,535, however few its strips are, since a directory that states more is refused. The bound is
-- carried through a directory's entries and along the chain to the first full page (`walk_few`). Assumes nothing.
use Prim.Native.Nat.{ℕ, zero, suc, ◌+◌, ◌*◌, ◌≤◌}
use native.Mathlib.Omega.{arith}
use mathlib.Core.Bool.{Bool, true, false, not, ◌||◌, cond}
use mathlib.Core.Path.{◌≡◌}
use mathlib.Core.List.{List}
use Rattle.std.specs.Prelude.{Option, None, Some}
use lib.Dec.{leb, eqb}
use borrow.Author.Tests.{leb-true}
use Rattle.lsm_format.specs.Answer.{decode}
use Rattle.lsm_format.specs.Numbers.{Order}
use Rattle.lsm_format.specs.Directory.{Field, bits_per_sample, samples_per_pixel, Directory, plain, is_short, put, put_field, Tag, field, sample_bits, strip_offsets, strip_byte_counts, cz_lsm_info, other, tag_of, entry_by, entry, entries, directory}
use Rattle.lsm_format.specs.Open.{earlier, Walk, start, join, chain, walk}
use Rattle.lsm_format.proofs.Accepting.{Accepting, accepting_bind, accepting_then, accepting_need}

-- what every directory states that is read: "SamplesPerPixel [..] above 65,535, is Decode"
unfoldable pub FewSamples : Directory → Type 0
FewSamples d = d.scalars samples_per_pixel ≤ 65535

-- ---- a directory

stated : (t : Field) (v : ℕ) (d : Directory) → FewSamples d → (not (is_short t) || leb v 65535) ≡ true → FewSamples (put t v d)
unfolding FewSamples
stated samples_per_pixel v d h e = leb-true v 65535 e
stated t v d h e = h

put_few : (t : Field) (v : ℕ) (d : Directory) → FewSamples d → Accepting FewSamples (put_field t v d)
unfolding Accepting
put_few t v d h = accepting_bind _ _ _ _ (accepting_need decode _) (λ _ e. stated t v d h e)

entry_by_few : (t : Tag) (o : Order) (f : List ℕ) (type count place : ℕ) (d : Directory) → FewSamples d → Accepting FewSamples (entry_by t o f type count place d)
unfolding Accepting FewSamples
entry_by_few (field t) o f type count place d h = accepting_then _ _ _ (λ v. put_few t v d h)
entry_by_few sample_bits o f type count place d h =
    accepting_then _ _ _ (λ vs. accepting_then _ _ _ (λ v. accepting_bind _ _ _ _ (put_few bits_per_sample v d h) (λ e k. k)))
entry_by_few strip_offsets o f type count place d h = accepting_then _ _ _ (λ a. h)
entry_by_few strip_byte_counts o f type count place d h = accepting_then _ _ _ (λ a. h)
entry_by_few cz_lsm_info o f type count place d h = accepting_then _ _ _ (λ _. accepting_then _ _ _ (λ offset. h))
entry_by_few other o f type count place d h = h

entry_few : (o : Order) (f : List ℕ) (e : ℕ) (d : Directory) → FewSamples d → Accepting FewSamples (entry o f e d)
unfolding entry
entry_few o f e d h =
    accepting_then _ _ _ (λ tag.
    accepting_then _ _ _ (λ type. accepting_then _ _ _ (λ count. entry_by_few (tag_of tag) o f type count (e + 8) d h)))

entries_few : (n : ℕ) (o : Order) (f : List ℕ) (base i : ℕ) (d : Directory) → FewSamples d → Accepting FewSamples (entries n o f base i d)
unfolding entries Accepting
entries_few zero o f base i d h = h
entries_few (suc n) o f base i d h =
    accepting_bind _ _ _ _ (entry_few o f (base + 12 * i) d h) (λ e k. entries_few n o f base (i + 1) e k)

directory_few : (o : Order) (f : List ℕ) (place : ℕ) → Accepting (λ (d : Directory × ℕ). FewSamples d.0) (directory o f place)
unfolding directory Accepting FewSamples
directory_few o f place =
    accepting_then _ _ _ (λ e. accepting_bind _ _ _ _ (entries_few e.0 o f (place + 2) 0 plain (omega arith)) (λ d h. h))

-- ---- the first full page

-- and so the first full page, if there is one
unfoldable pub FewFirst : Option Directory → Type 0
FewFirst None = Unit {0}
FewFirst (Some p) = FewSamples p

earlier_few : (first : Option Directory) (b : Bool) (d : Directory) → FewFirst first → FewSamples d → FewFirst (earlier first (cond b None (Some d)))
unfolding FewFirst
earlier_few None true d h k = tt
earlier_few None false d h k = k
earlier_few (Some p) b d h k = h

join_few : (o : Order) (f : List ℕ) (w : Walk) (d : Directory) → FewFirst w.first → FewSamples d →
    Accepting (λ (v : Walk). FewFirst v.first) (join o f w d)
unfolding join Accepting
join_few o f w d h k = accepting_then _ _ _ (λ _. earlier_few w.first _ d h k)

chain_few : (n : ℕ) (b : Bool) (o : Order) (f : List ℕ) (place : ℕ) (w : Walk) → FewFirst w.first →
    Accepting (λ (v : Walk). FewFirst v.first) (chain n b o f place w)
unfolding chain Accepting
chain_few zero true o f place w h = h
chain_few zero false o f place w h = tt
chain_few (suc n) true o f place w h = h
chain_few (suc n) false o f place w h =
    accepting_bind _ _ _ _ (directory_few o f place) (λ d k.
    accepting_bind _ _ _ _ (join_few o f w d.0 h k) (λ v l. chain_few n (eqb d.1 0) o f d.1 v l))

pub walk_few : (o : Order) (f : List ℕ) → Accepting (λ (v : Walk). FewFirst v.first) (walk o f)
unfolding walk FewFirst
walk_few o f = accepting_then _ _ _ (λ place. chain_few 1000000 (eqb place 0) o f place start tt)

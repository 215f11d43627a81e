-- What holds of every file that opens: its table holds as many pages as its description has. Assumes nothing.
use Prim.Native.Nat.{ℕ, ◌*◌, ◌/◌, ◌%◌, ◌<◌}
use native.Mathlib.Nat.{div-add-mod', mul_comm}
use native.Mathlib.Omega.{arith}
use mathlib.Core.Bool.{true, not, ◌&&◌}
use Rattle.std.specs.Prelude.{Option}
use mathlib.Core.Path.{◌≡◌, refl, sym, subst, ◌∙◌}
use mathlib.Core.List.{List}
use lib.Dec.{eqb}
use lib.IntN.{ℤ}
use lib.ListN.{length}
use borrow.Author.Tests.{eqb-true, eqb-false, not-true}
use Rattle.lsm_format.specs.Answer.{decode}
use Rattle.lsm_format.specs.Words.{word}
use Rattle.lsm_format.specs.Numbers.{Order}
use Rattle.lsm_format.specs.Sizes.{Kind}
use Rattle.lsm_format.specs.Scenes.{Layout, layout, pages, pages_expected}
use Rattle.lsm_format.specs.CzInfo.{CzInfo}
use Rattle.lsm_format.specs.Directory.{Directory}
use Rattle.lsm_format.specs.Open.{Walk, Description, Opened, page_planes, agreement, time_points, planes, layout_for, describe, describe_walk, table_words, read}
use Rattle.lsm_format.specs.Picture.{strips_per_page}
use Rattle.lsm_format.proofs.Words.{word_some}
use Rattle.lsm_format.proofs.Accepting.{Accepting, accepting_bind, accepting_then, accepting_need, accepting_given, both_hold}
use Rattle.lsm_format.proofs.Pages.{Even, walk_even}

-- The table has the words of every page of the description, whose time points are the layout's, and whose planes are as many as the pages of a
-- time point; no page is without a strip.
pub record Fits (d : Description) (table : List ℕ) : Type 0 where
  pub long : d.dims.t ≡ d.layout.t
  pub deep : d.dims.z ≡ d.layout.depth
  pub strips : 0 < strips_per_page d
  pub words : length table ≡ pages d.layout * strips_per_page d * 2

-- "strips per channel": the strips of a page are shared out evenly to its component planes
Shares : ℕ → ℕ → Type 0
Shares n planes = (not (eqb n 0) && eqb (n % planes) 0) ≡ true

shared : (n planes : ℕ) → Shares n planes → planes * (n / planes) ≡ n
unfolding Shares
shared n planes t =
    let even : n % planes ≡ 0 = eqb-true _ _ (both_hold (not (eqb n 0)) (eqb (n % planes) 0) t).1 in
    omega (arith, div-add-mod' n planes, mul_comm planes (n / planes))

shares_some : (n planes : ℕ) → Shares n planes → 0 < n
unfolding Shares
shares_some n planes t =
    let some : n ≡ 0 → ⊥ = eqb-false n 0 (not-true (eqb n 0) (both_hold (not (eqb n 0)) (eqb (n % planes) 0) t).0) in
    omega arith

agreement_shares : (p : Directory) (i : CzInfo) →
    Accepting (λ (u : Unit {0}). Shares (length p.offsets) (page_planes p)) (agreement p i)
unfolding agreement Shares
agreement_shares p i =
    accepting_then _ _ _ (λ _. accepting_then _ _ _ (λ _. accepting_need decode _))

-- "layout, page count"
layout_sizes : (p m : ℤ) (t depth : ℕ) → Accepting (λ (l : Layout). (l.t ≡ t) × (l.depth ≡ depth)) (layout p m t depth)
unfolding layout Accepting
layout_sizes p m t depth = accepting_then _ _ _ (λ n. (refl, refl))

layout_pages : (i : CzInfo) (n : ℕ) →
    Accepting (λ (l : Layout). ((l.t ≡ time_points i) × (l.depth ≡ planes i)) × (n ≡ pages l)) (layout_for i n)
unfolding layout_for pages_expected Accepting
layout_pages i n =
    accepting_bind _ _ _ _ (layout_sizes i.dim_p i.dim_m (time_points i) (planes i)) (λ l e.
    accepting_bind _ _ _ _ (accepting_given decode (word (pages l))) (λ expected w.
    accepting_bind _ _ _ _ (accepting_need decode (eqb n expected)) (λ _ t. (e, eqb-true _ _ t ∙ (word_some _ _ w).0))))

describe_fits : (o : Order) (k : Kind) (p : Directory) (n : ℕ) (i : CzInfo) (table : List ℕ) →
    length table ≡ n * length p.offsets * 2 → Accepting (λ (d : Description). Fits d table) (describe o k p n i)
unfolding describe Accepting
describe_fits o k p n i table e =
    accepting_bind _ _ _ _ (agreement_shares p i) (λ _ s.
    accepting_bind _ _ _ _ (layout_pages i n) (λ l h.
    let all = shared (length p.offsets) (page_planes p) s in
    record { long = sym h.0.0; deep = sym h.0.1; strips = rw all (shares_some (length p.offsets) (page_planes p) s); words = rw (all, ← h.1) e }))

walk_fits : (o : Order) (f : List ℕ) (w : Walk) → Even w.first w.pages →
    Accepting (λ (d : Description). Fits d (table_words w.pages)) (describe_walk o f w)
unfolding describe_walk Even
walk_fits o f w even =
    accepting_bind _ _ _ _ (accepting_given decode w.first) (λ p e.
    accepting_then _ _ _ (λ _.
    accepting_then _ _ _ (λ k.
    accepting_then _ _ _ (λ cz.
    accepting_then _ _ _ (λ i.
    describe_fits o k p (length w.pages) i (table_words w.pages) (subst (λ (x : Option Directory). Even x w.pages) e even))))))

pub read_fits : (f : List ℕ) → Accepting (λ (x : Opened). Fits x.description x.table) (read f)
unfolding read Accepting
read_fits f =
    accepting_then _ _ _ (λ _.
    accepting_then _ _ _ (λ o.
    accepting_bind _ _ _ _ (walk_even o f) (λ w even. accepting_bind _ _ _ _ (walk_fits o f w even) (λ d fits. fits))))

-- Demand 3 carried to the functions: two files f and g, where g is f with bytes overwritten that are not on f's list. Whatever
-- `open_file`, `plane`, `region` and `channel` answer and leave, each of them as its contract says, they answer and leave alike. Assumes
-- nothing.
use Prim.Native.Nat.{ℕ}
use mathlib.Core.Path.{◌≡◌, refl, sym, ap, subst, ◌∙◌}
use mathlib.Core.List.{List}
use lib.ListN.{length}
use Rattle.lsm_format.specs.Answer.{Result, accepted, refused}
use Rattle.lsm_format.specs.Code.{answer_by}
use Rattle.lsm_format.specs.Open as Rule
use Rattle.lsm_format.specs.Open.{open_file, open_memory}
use Rattle.lsm_format.specs.Picture.{Samples, plane, region, into, buffer_by}
use Rattle.lsm_format.specs.Rectangle.{Rect, Coordinate}
use Rattle.lsm_format.specs.Listed.{listed, listed_for}
use Rattle.lsm_format.proofs.Apart.{no_case}
use Rattle.lsm_channel_colors.specs.Code.{Looked, Seen, seen}
use Rattle.lsm_description.specs.Code.{description_of}
use Rattle.lsm_reader.specs.Opening.{OpenedAs, Told, told_of, opened_of}
use Rattle.lsm_reader.specs.declared.open.Opened.{Opened}
use Rattle.lsm_format.specs.declared.error.Refusal.{Refusal}
use Rattle.std.specs.Prelude.{Ok, Result as Answered}
use Rattle.lsm_region.specs.Code.{Pictured, shape_of}
use Rattle.lsm_overwrite.specs.Blind.{Overwritten, Held, OpensAlike, RegionAlike}
use Rattle.lsm_overwrite.proofs.Blind.{blind, blind_rectangle}

-- ---- what a caller holds, from the contract of `open_file`

-- A description x and a table t that opening gave with memory lent.
record Gave (f lent t : List ℕ) (x : Opened) : Type 0 where
  held : Held f
  description : description_of x.description ≡ held.opened.description
  table : t ≡ open_memory f held.lent

gave_by : (f lent t : List ℕ) (x : Opened) (m : Result Rule.Opened) → open_file f (length lent) ≡ m → answer_by opened_of (Ok x) ≡ told_of m → t ≡ open_memory f lent →
    Gave f lent t x
gave_by f lent t x (accepted o) e a t' =
    record { held = record { lent = lent; opened = o; gave = e }; description = ap told a; table = t' }
  where
    told : Result Told → Rule.Description
    told (accepted u) = u.description
    told (refused row) = description_of x.description
gave_by f lent t x (refused row) e a t' = absurd (never a)
  where
    never : answer_by opened_of (Ok x) ≡ refused row → ⊥
    never q = no_case cc

gave : (f lent t : List ℕ) (x : Opened) → OpenedAs f lent t (Ok x) → Gave f lent t x
gave f lent t x o = gave_by f lent t x (open_file f (length lent)) refl o.answered o.memory

-- ---- two calls

-- with the description and the table as they are held
plane_held : (f : List ℕ) (d d₀ : Rule.Description) (t t₀ : List ℕ) → d ≡ d₀ → t ≡ t₀ → (co : Coordinate) (before after : List ℕ) (a : Result (ℕ × ℕ × ℕ)) →
    Pictured (plane d t f co) before after a → Pictured (plane d₀ t₀ f co) before after a
plane_held f d d₀ t t₀ e q co before after a p = rw (e, q) at p

region_held : (f : List ℕ) (d d₀ : Rule.Description) (t t₀ : List ℕ) → d ≡ d₀ → t ≡ t₀ → (co : Coordinate) (r : Rect) (before after : List ℕ) (a : Result (ℕ × ℕ × ℕ)) →
    Pictured (region d t f co r) before after a → Pictured (region d₀ t₀ f co r) before after a
region_held f d d₀ t t₀ e q co r before after a p = rw (e, q) at p

pub LookedBy : List ℕ → Rule.Description → ℕ → List ℕ → List ℕ → Result Seen → Type 0
LookedBy f d channel before after a = Looked d.order f d.channel_block d.dims.c channel before after a

looked_held : (f : List ℕ) (d d₀ : Rule.Description) → d ≡ d₀ → (channel : ℕ) (before after : List ℕ) (a : Result Seen) →
    LookedBy f d channel before after a → LookedBy f d₀ channel before after a
looked_held f d d₀ e channel before after a p = subst (λ (u : Rule.Description). LookedBy f u channel before after a) e p

pictured_alike : (s s' : Result Samples) (before after after' : List ℕ) (a a' : Result (ℕ × ℕ × ℕ)) →
    into s' (length before) ≡ into s (length before) → buffer_by s' before ≡ buffer_by s before →
    Pictured s before after a → Pictured s' before after' a' → (a' ≡ a) × (after' ≡ after)
pictured_alike s s' before after after' a a' i b p p' =
    (p'.answered ∙ ap shape_of i ∙ sym p.answered, p'.memory ∙ b ∙ sym p.memory)

module _ (f g : List ℕ) (alike : OpensAlike f g) where
  -- `open_file`
  pub open_file_alike : (lent t t' : List ℕ) (r r' : Answered Opened Refusal) → OpenedAs f lent t r → OpenedAs g lent t' r' → (answer_by opened_of r' ≡ answer_by opened_of r) × (t' ≡ t)
  open_file_alike lent t t' r r' o o' =
      (o'.answered ∙ ap told_of (alike.open_answer (length lent)) ∙ sym o.answered, o'.memory ∙ alike.open_leaves lent ∙ sym o.memory)

-- The later calls, each with the description and the table that opening that same file gave.
module _ (f g lent lent' t t' : List ℕ) (x y : Opened) (o : OpenedAs f lent t (Ok x)) (o' : OpenedAs g lent' t' (Ok y)) where
  -- `region`
  region_by_lem : (co : Coordinate) (r : Rect) (alike : RegionAlike f g co r) (before after after' : List ℕ) (a a' : Result (ℕ × ℕ × ℕ)) →
      Pictured (region (description_of x.description) t f co r) before after a →
      Pictured (region (description_of y.description) t' g co r) before after' a' → (a' ≡ a) × (after' ≡ after)
  region_by_lem co r alike before after after' a a' p p' =
      let h = gave f lent t x o in
      let k = gave g lent' t' y o' in
      pictured_alike _ _ before after after' a a' (alike.region_answer h.held k.held (length before)) (alike.region_leaves h.held k.held before)
      (region_held f _ _ t _ h.description h.table co r before after a p)
      (region_held g _ _ t' _ k.description k.table co r before after' a' p')

  -- with the whole list: every call
  module _ (w : Overwritten (listed f) f g) where
    -- `plane`
    pub plane_alike : (co : Coordinate) (before after after' : List ℕ) (a a' : Result (ℕ × ℕ × ℕ)) →
        Pictured (plane (description_of x.description) t f co) before after a →
        Pictured (plane (description_of y.description) t' g co) before after' a' → (a' ≡ a) × (after' ≡ after)
    plane_alike co before after after' a a' p p' =
        let h = gave f lent t x o in
        let k = gave g lent' t' y o' in
        let b = blind f g w in
        pictured_alike _ _ before after after' a a' (b.plane_answer h.held k.held co (length before)) (b.plane_leaves h.held k.held co before)
        (plane_held f _ _ t _ h.description h.table co before after a p)
        (plane_held g _ _ t' _ k.description k.table co before after' a' p')

    pub region_alike : (co : Coordinate) (r : Rect) (before after after' : List ℕ) (a a' : Result (ℕ × ℕ × ℕ)) →
        Pictured (region (description_of x.description) t f co r) before after a →
        Pictured (region (description_of y.description) t' g co r) before after' a' → (a' ≡ a) × (after' ≡ after)
    region_alike co r = region_by_lem co r ((blind f g w).regions co r)

    -- `channel`
    pub channel_alike : (channel : ℕ) (before after after' : List ℕ) (a a' : Result Seen) →
        LookedBy f (description_of x.description) channel before after a → LookedBy g (description_of y.description) channel before after' a' →
        (a' ≡ a) × (after' ≡ after)
    unfolding LookedBy
    channel_alike channel before after after' a a' p p' =
        let h = gave f lent t x o in
        let k = gave g lent' t' y o' in
        let b = blind f g w in
        let q = looked_held f _ _ h.description channel before after a p in
        let q' = looked_held g _ _ k.description channel before after' a' p' in (
          q'.answered ∙ ap seen (b.lookup_answer h.held k.held channel (length before)) ∙ sym q.answered,
          q'.memory ∙ b.lookup_leaves h.held k.held channel before ∙ sym q.memory,
        )

  -- with the list of one rectangle: that rectangle's call
  pub rectangle_alike : (co : Coordinate) (r : Rect) → Overwritten (listed_for f co r) f g → (before after after' : List ℕ) (a a' : Result (ℕ × ℕ × ℕ)) →
      Pictured (region (description_of x.description) t f co r) before after a →
      Pictured (region (description_of y.description) t' g co r) before after' a' → (a' ≡ a) × (after' ≡ after)
  rectangle_alike co r w = region_by_lem co r (blind_rectangle f g co r w).rectangle

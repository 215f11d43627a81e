-- Laws of scenes and pages, a case each. Assumes nothing.
use Prim.Native.Nat.{ℕ, ◌+◌, ◌*◌, ◌≤◌, ◌<◌, max}
use native.Mathlib.Omega.{arith}
use mathlib.Core.Bool.{Bool, true, false}
use mathlib.Core.Path.{◌≡◌, refl, sym, ◌∙◌}
use Rattle.std.specs.Prelude.{None, Some}
use lib.IntN.{ℤ, pos, negsuc, nat_abs}
use lib.Signed.{lt_z, non_neg}
use lib.Dec.{T, ltb}
use borrow.Author.Tests.{lt-ltb, le-ltb, ltb-true, ltb-false}
use Rattle.lsm_format.specs.Answer.{accepted, refused, bind, decode}
use Rattle.lsm_format.specs.Words.{word}
use Rattle.lsm_format.specs.Rectangle.{Coordinate}
use Rattle.lsm_format.specs.Scenes.{Layout, count, scenes, layout, page_number, page_of}
use Rattle.lsm_format.proofs.Words.{word_over, word_none, word_some}
use Rattle.lsm_format.proofs.Apart.{no_case}

-- a count below 0, and one that is not
pub count_negative : (z : ℤ) → lt_z z (pos 0) ≡ true → refused decode ≡ count z
count_negative (pos n) t = absurd (omega (arith, ltb-true n 0 t))
count_negative (negsuc n) t = refl

pub count_natural : (z : ℤ) → lt_z z (pos 0) ≡ false → T (non_neg z) × (accepted (nat_abs z) ≡ count z)
count_natural (pos n) t = (tt, refl)
count_natural (negsuc n) t = no_case cc

-- the layout by its counts: P first, then M
module _ (p m : ℤ) (t depth : ℕ) where
  pub layout_negative : count p ≡ refused decode → refused decode ≡ layout p m t depth
  unfolding layout scenes bind
  layout_negative h = rw (h, layout, scenes, bind)

  pub layout_negative_tiles : (a : ℕ) → count p ≡ accepted a → count m ≡ refused decode → refused decode ≡ layout p m t depth
  unfolding layout scenes bind
  layout_negative_tiles a h k = rw (h, k, layout, scenes, bind)

  pub layout_is : (a b n : ℕ) → count p ≡ accepted a → count m ≡ accepted b → n ≡ max 1 (a * b) →
      accepted (record { scenes = n; t = t; depth = depth }) ≡ layout p m t depth
  unfolding layout scenes bind
  layout_is a b n h k e = rw (h, k, e, layout, scenes, bind)

-- the page of a picture: no such scene; pages before it, or a page, whose number overflows; the page
module _ (l : Layout) (co : Coordinate) where
  pub page_outside : l.scenes ≤ co.scene → None ≡ page_of l co
  unfolding page_of
  page_outside h = rw (le-ltb co.scene l.scenes h, page_of)

  page_inside : co.scene < l.scenes → page_of l co ≡ word (page_number l co)
  unfolding page_of
  page_inside h = rw (lt-ltb co.scene l.scenes h, page_of)

  pub page_over : co.scene < l.scenes → word ((co.scene * l.t + co.t) * l.depth) ≡ None → None ≡ page_of l co
  page_over h e = rw (page_inside h) (sym (word_over (omega (arith, word_none _ e))))

  pub page_at : co.scene < l.scenes → (first : ℕ) → word ((co.scene * l.t + co.t) * l.depth) ≡ Some first →
      word (first + co.z) ≡ page_of l co
  page_at h first e = rw (page_inside h, (word_some _ _ e).0)

  -- a page that there is
  page_by : (b : Bool) (page : ℕ) → ltb co.scene l.scenes ≡ b → page_of l co ≡ Some page → (co.scene < l.scenes) × (page ≡ page_number l co)
  page_by true page t e =
      let h : co.scene < l.scenes = ltb-true _ _ t in
      (h, (word_some _ _ (sym (page_inside h) ∙ e)).0)
  page_by false page t e =
      let n : None ≡ page_of l co = page_outside (ltb-false _ _ t) in
      no_case cc

  pub page_some : (page : ℕ) → page_of l co ≡ Some page → (co.scene < l.scenes) × (page ≡ page_number l co)
  page_some page e = page_by (ltb co.scene l.scenes) page refl e

-- Laws of region's checks in their order, a case each. Assumes nothing.
use Prim.Native.Nat.{ℕ, ◌<◌}
use mathlib.Core.Path.{◌≡◌, refl, ◌∙◌}
use mathlib.Core.Bool.{true, false}
use mathlib.Core.List.{List}
use Rattle.lsm_format.specs.Answer.{Result, accepted, refused, bind}
use Rattle.lsm_format.specs.Open.{Description}
use Rattle.lsm_format.specs.Rectangle.{Rect, Coordinate, is_empty, coordinates, rectangle, in_picture}
use Rattle.lsm_format.specs.Picture.{scene_there, coordinate_there, region_strips, no_strips, filled_strips, region_from}
use Rattle.lsm_format.proofs.Picture.{bind_then, coordinate_channel, rectangle_within, rectangle_ends}
use Rattle.lsm_format.proofs.Region.{not_empty}
use Rattle.lsm_strips.specs.Parts.{Lying}

-- a rectangle in the picture that isn't empty
pub lying : (d : Description) (r : Rect) (v : Unit {0}) → rectangle d.dims r ≡ accepted v → is_empty r ≡ false → Lying d r
lying d r v h e =
    let w = rectangle_within d.dims r v h in
    let n = rectangle_ends d.dims r v h in
    let p = not_empty r e in
    record { right = n.0; across = w.0; bottom = n.1; down = w.1; columns = p.0; rows = p.1 }

module _ (d : Description) (co : Coordinate) (r : Rect) (there : scene_there d co.scene ≡ accepted tt) where
  place_there : coordinate_there d co ≡ coordinates d.dims co
  unfolding coordinate_there bind
  place_there = rw there

  -- what an accepted coordinate and rectangle tell of the channel and the rectangle
  asked_there : in_picture d.dims co r ≡ accepted tt → (co.c < d.dims.c) × (rectangle d.dims r ≡ accepted tt)
  unfolding in_picture
  asked_there h = bind_then (coordinates d.dims co) _ tt h (λ w e₁ e₂. (coordinate_channel d co w (place_there ∙ e₁), e₂))

  pub channel_there : in_picture d.dims co r ≡ accepted tt → co.c < d.dims.c
  channel_there h = (asked_there h).0

  pub rectangle_there : in_picture d.dims co r ≡ accepted tt → rectangle d.dims r ≡ accepted tt
  rectangle_there h = (asked_there h).1

module _ (d : Description) (t : List ℕ) (len : ℕ) (co : Coordinate) (r : Rect) where
  module _ (there : scene_there d co.scene ≡ accepted tt) where
    checked : region_from d t len co r ≡ bind (in_picture d.dims co r) (λ _. filled_strips (is_empty r) d t len co r)
    unfolding region_from in_picture bind
    checked = rw (place_there d co r there) (by (coordinates d.dims co))
      where
        by : (p : Result (Unit {0})) → bind p (λ _. bind (rectangle d.dims r) (λ _. filled_strips (is_empty r) d t len co r))
            ≡ bind (bind p (λ _. rectangle d.dims r)) (λ _. filled_strips (is_empty r) d t len co r)
        by (accepted v) = refl
        by (refused row) = refl

    pub region_off : (row : List ℕ) → in_picture d.dims co r ≡ refused row → region_from d t len co r ≡ refused row
    unfolding bind
    region_off row h = checked ∙ rw h

    module _ (h : in_picture d.dims co r ≡ accepted tt) where
      pub region_empty : is_empty r ≡ true → region_from d t len co r ≡ accepted no_strips
      unfolding bind
      region_empty e = checked ∙ rw (h, e)

      pub region_filled : is_empty r ≡ false → region_from d t len co r ≡ region_strips d t len co r
      unfolding bind
      region_filled e = checked ∙ rw (h, e)

-- Demand 3, its second half (specs/Exact.antt of lsm_overwrite), carried to `plane`, `region` and the C functions through their contracts: a
-- call that accepts leaves in the caller's buffer the samples of the rectangle and nothing more, and a rectangle inside a picture that a call
-- accepts is accepted. Assumes nothing.
use Prim.Native.Nat.{ℕ, zero, suc, ◌≤◌, ◌^◌}
use native.Mathlib.Omega.{arith}
use mathlib.Core.Bool.{Bool, true, false, not}
use mathlib.Core.Logic.{◌⊎◌, inl, inr}
use mathlib.Core.Path.{◌≡◌, refl, sym, ap, ◌∙◌}
use mathlib.Core.List.{List, [], ◌∷◌}
use lib.Dec.{leb, ltb}
use lib.Ieee.{binary32, nan_bits}
use lib.ListN.{length, get_or, drop}
use lib.Seq.{take_at, drop_at}
use borrow.Author.Tests.{leb-true, leb-false}
use Rattle.lsm_format.specs.Answer.{Result, accepted, refused, bind, need, decode}
use Rattle.lsm_format.specs.Rectangle.{Rect, Coordinate}
use Rattle.lsm_format.specs.Code.{answer_by}
use Rattle.lsm_format.specs.Open.{Description}
use Rattle.lsm_format.specs.Picture.{Samples, whole_picture, plane, region, into, buffer_by}
use Rattle.lsm_format.proofs.Lent.{lend_room, lend_short, filled_room}
use Rattle.lsm_format.proofs.Picture.{bind_then}
use Rattle.lsm_format.proofs.Apart.{no_case}
use Rattle.lsm_region.specs.Code.{Pictured, shape_of, shape_of_picture}
use Rattle.lsm_region.specs.declared.Picture.{Picture}
use Rattle.lsm_format.specs.declared.error.Refusal.{Refusal}
use Rattle.std.specs.Prelude.{Ok, Result as Answered}
use Rattle.lsm_words.specs.Calibration.{chosen, float_by, step_by, sized_by, size_by}
use Rattle.lsm_words.specs.Description.{order_by, kind_by, block_by, interleaved_by, described_by}
use Rattle.lsm_words.specs.Answers.{picture_words}
use Rattle.lsm_c.specs.Calls.{number_of, plane_by, region_by, PicturedBy}
use Rattle.lsm_overwrite.specs.Exact.{Exact, Delivered, Accepted, Inside}
use Rattle.lsm_overwrite.proofs.Exact.{each_rectangle, each_plane, every_inside, accepted_into, Lower, lower_bind, plane_lower, region_lower}

-- ---- room for the answer, or none

into_room : (a : Samples) (room : ℕ) → length a.bytes ≤ room → into (accepted a) room ≡ accepted a
unfolding into bind
into_room a room h = rw (lend_room (length a.bytes) room h)

into_refused : (row : List ℕ) (room : ℕ) → into (refused row) room ≡ refused row
unfolding into bind
into_refused row room = refl

-- what has no refusal is accepted, and has room
room_by : {C : Type 0} (b : Bool) (a : Samples) (room : ℕ) (x : Samples) → leb (length a.bytes) room ≡ b → into (accepted a) room ≡ accepted x
    → (length a.bytes ≤ room → a ≡ x → C) → C
unfolding into bind
room_by true a room x e h go =
    let l = leb-true (length a.bytes) room e in
    let q : accepted a ≡ accepted x = sym (into_room a room l) ∙ h in
    go l cc
room_by false a room x e h go =
    let q : refused _ ≡ accepted x = rw (lend_short (length a.bytes) room (leb-false (length a.bytes) room e)) at h in
    no_case cc

into_then : {C : Type 0} (s : Result Samples) (room : ℕ) (x : Samples) → into s room ≡ accepted x → (length x.bytes ≤ room → s ≡ accepted x → C) → C
into_then (accepted a) room x e go =
    room_by (leb (length a.bytes) room) a room x refl e (λ l q. go (rw q at l) (ap accepted q))
into_then (refused row) room x e go =
    let q : refused row ≡ accepted x = sym (into_refused row room) ∙ e in
    no_case cc

shape_then : {C : Type 0} (m : Result Samples) (rows columns bytes : ℕ) → accepted (rows, columns, bytes) ≡ shape_of m
    → ((x : Samples) → m ≡ accepted x → rows ≡ x.rows → columns ≡ x.columns → bytes ≡ length x.bytes → C) → C
shape_then (accepted x) rows columns bytes e go =
    let w : ◌≡◌ {A = ℕ × ℕ × ℕ} (rows, columns, bytes) (x.rows, x.columns, length x.bytes) = cc in
    go x refl (ap (λ (k : ℕ × ℕ × ℕ). k.0) w) (ap (λ (k : ℕ × ℕ × ℕ). k.1) w) (ap (λ (k : ℕ × ℕ × ℕ). k.2) w)
shape_then (refused row) rows columns bytes e go = no_case cc

-- ---- what an accepted call leaves

module _ (d : Description) (t f : List ℕ) (co : Coordinate) (r : Rect) where
  filled_by : (x : Samples) → Exact d t f co r x.rows x.columns x.bytes → (before after : List ℕ)
      → length x.bytes ≤ length before → after ≡ buffer_by (accepted x) before
      → Delivered d t f co r before after x.rows x.columns (length x.bytes)
  filled_by x exact before after h m =
      let e = m ∙ filled_room x.bytes before h in
      record {
        exact = rw (e, take_at x.bytes (drop (length x.bytes) before) (length x.bytes) refl) exact;
        count = exact.size;
        long = h;
        past = rw (e, drop_at x.bytes (drop (length x.bytes) before) (length x.bytes) refl);
      }

  delivered : (s : Result Samples) → ((x : Samples) → s ≡ accepted x → Exact d t f co r x.rows x.columns x.bytes)
      → (before after : List ℕ) (rows columns bytes : ℕ) → accepted (rows, columns, bytes) ≡ shape_of (into s (length before)) → after ≡ buffer_by s before
      → Delivered d t f co r before after rows columns bytes
  delivered s exact before after rows columns bytes e m =
      shape_then (into s (length before)) rows columns bytes e
      (λ x q a b n.
      into_then s (length before) x q
      (λ l k. rw (a, b, n) (filled_by x (exact x k) before after l (m ∙ ap (λ (o : Result Samples). buffer_by o before) k))))

  -- `region`
  pub region_exact : (before after : List ℕ) (p : Picture) → Pictured (region d t f co r) before after (answer_by shape_of_picture (Ok p))
      → Delivered d t f co r before after p.height p.width p.bytes
  region_exact before after p k =
      delivered (region d t f co r) (each_rectangle d t f co r) before after p.height p.width p.bytes k.answered k.memory

-- `plane`
pub plane_exact : (d : Description) (t f : List ℕ) (co : Coordinate) (before after : List ℕ) (p : Picture)
    → Pictured (plane d t f co) before after (answer_by shape_of_picture (Ok p))
    → Delivered d t f co (whole_picture d) before after p.height p.width p.bytes
plane_exact d t f co before after p k =
    delivered d t f co (whole_picture d) (plane d t f co) (each_plane d t f co) before after p.height p.width p.bytes k.answered k.memory

-- ---- a rectangle inside an accepted picture

shape_taken : (m : Result Samples) → Accepted m → Accepted (shape_of m)
shape_taken m (inl e) = inl (_, ap shape_of e.1)
shape_taken m (inr e) = inr (e.0, ap shape_of e.1)

taken_shape : (m : Result Samples) → Accepted (shape_of m) → Accepted m
taken_shape (accepted x) e = inl (x, refl)
taken_shape (refused row) (inl e) = let p = e.1 in no_case cc
taken_shape (refused row) (inr e) = inr (e.0, ap (λ (l : List ℕ). refused l) (same row (7 ∷ e.0 ∷ []) e.1))
  where
    same : (a b : List ℕ) → ◌≡◌ {A = Result (ℕ × ℕ × ℕ)} (refused a) (refused b) → a ≡ b
    same a b e = cc

-- `region` where `plane` accepts, whatever the two buffers
pub region_inside : (d : Description) (t f : List ℕ) (co : Coordinate) (r : Rect) (before after before' after' : List ℕ) (a a' : Answered Picture Refusal)
    → Pictured (plane d t f co) before after (answer_by shape_of_picture a) → Accepted (answer_by shape_of_picture a) → Inside d.dims r
    → Pictured (region d t f co r) before' after' (answer_by shape_of_picture a') → Accepted (answer_by shape_of_picture a')
region_inside d t f co r before after before' after' a a' p u i q =
    rw q.answered
    (shape_taken _
    (every_inside d t f co r (length before) (length before') (taken_shape _ (rw p.answered at u)) i))

-- ---- the C functions

-- words that are no description are refused with 2
unfoldable AllLower : {A : Type 0} → List (Result A) → Type 0
AllLower [] = Unit {0}
AllLower (m ∷ ms) = Lower m × AllLower ms

chosen_lower : {A : Type 0} (choices : List (Result A)) (n : ℕ) → AllLower choices → Lower (chosen choices n)
unfolding AllLower Lower chosen
chosen_lower [] n h = (omega arith, omega arith)
chosen_lower (m ∷ ms) zero h = h.0
chosen_lower (m ∷ ms) (suc n) h = chosen_lower ms n h.1

test_lower : (b : Bool) → Lower (need decode b)
unfolding Lower
test_lower true = tt
test_lower false = (omega arith, omega arith)

float_lower : (n : ℕ) → Lower (float_by n)
unfolding float_by Lower
float_lower n =
    lower_bind _ _ (test_lower (ltb n (2 ^ 32))) (λ _. lower_bind _ _ (test_lower (not (nan_bits binary32 n))) (λ _. tt))

step_lower : (n bits : ℕ) → Lower (step_by n bits)
unfolding step_by AllLower Lower
step_lower n bits =
    chosen_lower _ n
    (lower_bind _ _ (float_lower bits) (λ z. tt), (tt, (lower_bind _ _ (float_lower bits) (λ z. tt), (lower_bind _ _ (float_lower bits) (λ z. tt), tt))))

size_lower : (n x y step bits : ℕ) → Lower (size_by n x y step bits)
unfolding size_by sized_by AllLower Lower
size_lower n x y step bits =
    chosen_lower _ n
    (tt, (lower_bind _ _ (float_lower x) (λ a. lower_bind _ _ (float_lower y) (λ b. lower_bind _ _ (step_lower step bits) (λ z. tt))), tt))

described_lower : (w : List ℕ) → Lower (described_by w)
unfolding described_by order_by kind_by block_by interleaved_by AllLower Lower
described_lower w =
    lower_bind _ _ (chosen_lower _ (get_or w 0 0) (tt, (tt, tt)))
    (λ order.
    lower_bind _ _ (chosen_lower _ (get_or w 1 0) (tt, (tt, (tt, (tt, tt)))))
    (λ kind.
    lower_bind _ _ (size_lower (get_or w 10 0) (get_or w 11 0) (get_or w 12 0) (get_or w 13 0) (get_or w 14 0))
    (λ calibration.
    lower_bind _ _ (chosen_lower _ (get_or w 15 0) (tt, (tt, tt)))
    (λ block. lower_bind _ _ (chosen_lower _ (get_or w 18 0) (tt, (tt, tt))) (λ interleaved. tt)))))

nought_by : {C : Type 0} (b : Bool) (x : Samples) (room : ℕ) → leb (length x.bytes) room ≡ b → 0 ≡ number_of (into (accepted x) room)
    → (into (accepted x) room ≡ accepted x → C) → C
unfolding into bind
nought_by true x room l e go = go (into_room x room (leb-true _ _ l))
nought_by false x room l e go =
    let q : ◌≡◌ {A = ℕ} 0 7 = rw (lend_short (length x.bytes) room (leb-false (length x.bytes) room l)) at e in
    absurd (omega arith)

-- a returned 0: the rule accepts, and there is room
returned_nought : {C : Type 0} (s : Result Samples) (room : ℕ) → Lower s → 0 ≡ number_of (into s room)
    → ((x : Samples) → s ≡ accepted x → into s room ≡ accepted x → C) → C
unfolding Lower
returned_nought (accepted x) room u e go = nought_by (leb (length x.bytes) room) x room refl e (go x refl)
returned_nought (refused row) room u e go = absurd (omega (arith, u.0, e ∙ ap number_of (into_refused row room)))

-- the three numbers of an accepted call's answer
answer_words : (answer : List ℕ) (x : Samples) → answer ≡ picture_words (shape_of (accepted x))
    → (get_or answer 1 0 ≡ x.rows) × (get_or answer 2 0 ≡ x.columns) × (get_or answer 3 0 ≡ length x.bytes)
answer_words answer x e = (ap (λ (l : List ℕ). get_or l 1 0) e, ap (λ (l : List ℕ). get_or l 2 0) e, ap (λ (l : List ℕ). get_or l 3 0) e)

-- "not refused, or refused with 7 only", by the number returned
abbrev pub Taken : ℕ → Type 0
Taken n = (n ≡ 0) ⊎ (n ≡ 7)

taken_number : (m : Result Samples) → Accepted m → Taken (number_of m)
taken_number m (inl e) = inl (ap number_of e.1)
taken_number m (inr e) = inr (ap number_of e.1)

number_taken : (s : Result Samples) (room : ℕ) → Lower s → Taken (number_of (into s room)) → Accepted (into s room)
unfolding Lower
number_taken (accepted x) room u n = accepted_into (accepted x) room x refl
number_taken (refused row) room u (inl n) = absurd (omega (arith, u.0, sym n ∙ ap number_of (into_refused row room)))
number_taken (refused row) room u (inr n) = absurd (omega (arith, u.1, sym n ∙ ap number_of (into_refused row room)))

-- With the description that the words are, where the function returns 0: the answer's words 1 to 3 are rows, columns and bytes.
module _ (words table f : List ℕ) (co : Coordinate) where
  by_words : (rule : Description → Result Samples) (r : Description → Rect)
      → ((d : Description) (x : Samples) → rule d ≡ accepted x → Exact d table f co (r d) x.rows x.columns x.bytes)
      → ((d : Description) → Lower (rule d)) → (lent out answer : List ℕ) → PicturedBy (bind (described_by words) rule) lent out answer 0
      → (d : Description) × (described_by words ≡ accepted d) × Delivered d table f co (r d) lent out (get_or answer 1 0) (get_or answer 2 0) (get_or answer 3 0)
  by_words rule r exact low lent out answer p =
      returned_nought (bind (described_by words) rule) (length lent) (lower_bind _ _ (described_lower words) low) p.returned
      (λ x e i.
      bind_then (described_by words) rule x e
      (λ d k q.
      into_then (bind (described_by words) rule) (length lent) x i
      (λ l _.
      let n = answer_words answer x (p.answered ∙ ap (λ (m : Result Samples). picture_words (shape_of m)) i) in (
        d,
        k,
        rw (n.0, n.1, n.2)
            (filled_by d table f co (r d) x (exact d x q) lent out l (p.memory ∙ ap (λ (m : Result Samples). buffer_by m lent) e)),
      ))))

  -- `lsm_region`
  pub lsm_region_exact : (r : Rect) (lent out answer : List ℕ) → PicturedBy (region_by words table f co r) lent out answer 0
      → (d : Description) × (described_by words ≡ accepted d) × Delivered d table f co r lent out (get_or answer 1 0) (get_or answer 2 0) (get_or answer 3 0)
  unfolding region_by
  lsm_region_exact r lent out answer p =
      by_words (λ d. region d table f co r) (λ d. r) (λ d. each_rectangle d table f co r)
      (λ d. region_lower d table f co r) lent out answer p

  -- `lsm_plane`
  pub lsm_plane_exact : (lent out answer : List ℕ) → PicturedBy (plane_by words table f co) lent out answer 0
      → (d : Description) × (described_by words ≡ accepted d)
      × Delivered d table f co (whole_picture d) lent out (get_or answer 1 0) (get_or answer 2 0) (get_or answer 3 0)
  unfolding plane_by
  lsm_plane_exact lent out answer p =
      by_words (λ d. plane d table f co) (λ d. whole_picture d) (λ d. each_plane d table f co)
      (λ d. plane_lower d table f co) lent out answer p

  -- `lsm_region` where `lsm_plane` accepts (returns 0 or 7), whatever the two buffers
  pub lsm_region_inside : (d : Description) (r : Rect) (lent out answer lent' out' answer' : List ℕ) (n n' : ℕ) → described_by words ≡ accepted d
      → PicturedBy (plane_by words table f co) lent out answer n → Taken n → Inside d.dims r
      → PicturedBy (region_by words table f co r) lent' out' answer' n' → Taken n'
  unfolding plane_by region_by bind
  lsm_region_inside d r lent out answer lent' out' answer' n n' k p u i q =
      let a : n ≡ number_of (into (plane d table f co) (length lent)) = rw k at p.returned in
      let b : n' ≡ number_of (into (region d table f co r) (length lent')) = rw k at q.returned in
      rw b
      (taken_number _
      (every_inside d table f co r (length lent) (length lent')
      (number_taken (plane d table f co) (length lent) (plane_lower d table f co) (rw a at u)) i))

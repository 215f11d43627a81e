-- Laws of the pointers, colours and names, each by what could be read. Assumes nothing.
use Prim.Native.Nat.{ℕ, zero, suc, ◌+◌, ◌*◌, ◌-◌, ◌^◌, ◌≤◌, ◌<◌}
use native.Mathlib.Omega.{arith}
use mathlib.Core.Path.{◌≡◌, refl, sym, ap, ◌∙◌}
use mathlib.Core.Bool.{Bool, true, false}
use Rattle.std.specs.Prelude.{Option, None, Some, option_map, Result as Answered, Ok, Err}
use Rattle.std.specs.Result.{result_ok}
use Rattle.std.specs.Array.{IsFirstChunk}
use Rattle.std.specs.List.{slice_range}
use mathlib.Core.List.{List, [], ◌∷◌}
use borrow.Author.Tests.{leb-true, leb-false}
use lib.Dec.{leb}
use lib.IntN.{ℤ, pos, negsuc}
use lib.ListN.{length, take, drop, get_or, length-drop}
use lib.Seq.{take_all, get_or-take, get_or-drop}
use native.Mathlib.Nat.{add-zero}
use Rattle.lsm_format.specs.Answer.{Result, accepted, refused, bind, parse}
use Rattle.lsm_format.specs.Code.{answer_of}
use Rattle.lsm_format.specs.Numbers.{Order, positive_of, i32_at}
use Rattle.lsm_format.specs.Words.{word}
use Rattle.lsm_format.specs.Channels.{record_by, record_of, name_record, kept, pointers, color, color_at, name_span}
use Rattle.lsm_format.specs.declared.error.Refusal.{Refusal}
use Rattle.lsm_format.proofs.Numbers.{number_past, part_past, part_there}
use Rattle.lsm_format.proofs.Words.{word_none, word_some}
use Rattle.lsm_format.proofs.Channels.{color_past, color_there, record_unread, record_last, record_ends, record_next}
use Rattle.lsm_channel_colors.specs.Tables.{natural, read}

-- a read that may fail, by what it read
pub ok_read : {A : Type 0} (r : Answered A Refusal) → result_ok r ≡ read (answer_of r)
ok_read (Ok a) = refl
ok_read (Err r) = refl

-- ---- the pointers: whether all eight bytes are there is whether both can be read

-- a signed number past the end
i32_past : (o : Order) (f : List ℕ) (at : ℕ) → length f < at + 4 → i32_at o f at ≡ refused parse
unfolding i32_at bind
i32_past o f at h = rw (number_past 4 o f at h)

abbrev pub both : Option ℤ → Option ℤ → Option (ℤ × ℤ)
both None names = None
both (Some colors) names = option_map (λ (z : ℤ). (colors, z)) names

read_binds : (colors names : Result ℤ) → read (bind colors (λ a. bind names (λ b. accepted (a, b)))) ≡ both (read colors) (read names)
unfolding bind
read_binds (accepted a) (accepted b) = refl
read_binds (accepted a) (refused row) = refl
read_binds (refused row) names = refl

both_none : (colors : Option ℤ) → None ≡ both colors None
both_none None = refl
both_none (Some a) = refl

read_by : (o : Order) (f : List ℕ) (block : ℕ) (t : Bool) → leb (block + 20) (length f) ≡ t →
    read (pointers o f block) ≡ both (read (i32_at o f (block + 12))) (read (i32_at o f (block + 16)))
unfolding pointers bind
read_by o f block true t =
    rw (part_there f (block + 12) 8 (omega (arith, leb-true _ _ t))) (read_binds (i32_at o f (block + 12)) (i32_at o f (block + 16)))
read_by o f block false t =
    rw (part_past f (block + 12) 8 (omega (arith, leb-false _ _ t)), i32_past o f (block + 16) (omega (arith, leb-false _ _ t)))
    (both_none (read (i32_at o f (block + 12))))

-- what follows from a place, where nothing does from one that overflows
at_word : (place : ℕ) {A : Type 0} (g : ℕ → Option A) (w : Option ℕ) → word place ≡ w → (2 ^ 64 ≤ place → None ≡ g place) → elim w [ None ↦ None | Some n ↦ g n ] ≡ g place
at_word place g None e over = over (word_none place e)
at_word place g (Some n) e over = ap g (word_some place n e).0

pub pointers_read : (o : Order) (f : List ℕ) (block : ℕ) → length f < 2 ^ 64 →
    read (pointers o f block) ≡ elim (word (block + 12)) [ None ↦ None | Some first ↦ both (read (i32_at o f first)) (read (i32_at o f (first + 4))) ]
pointers_read o f block h =
    let q : block + 12 + 4 ≡ block + 16 = omega arith in
    read_by o f block (leb (block + 20) (length f)) refl
    ∙ ap (λ (second : ℕ). both (read (i32_at o f (block + 12))) (read (i32_at o f second))) (sym q)
    ∙ sym (at_word (block + 12) (λ (first : ℕ). both (read (i32_at o f first)) (read (i32_at o f (first + 4)))) (word (block + 12)) refl
    (λ over. rw (i32_past o f (block + 12) (omega arith)) refl))

-- ---- colours

-- the first three of a word's four bytes, where what is left of the file begins with them
pub color_chunk : (f rest y : List ℕ) (at : ℕ) → at ≤ length f → rest ≡ slice_range f at (length f) → IsFirstChunk rest y 4 →
    Some (get_or y 0 0 ∷ get_or y 1 0 ∷ get_or y 2 0 ∷ []) ≡ color_at f at
color_chunk f rest y at h is e =
    let r : rest ≡ drop at f = is ∙ take_all (length f - at) (drop at f) (omega (arith, length-drop at f)) in
    let enough : at + 4 ≤ length f = omega (arith, e.enough, ap length r, length-drop at f) in
    let g : (k : ℕ) → k < 4 → get_or y k 0 ≡ get_or f (at + k) 0 = λ k l. ap (λ (bs : List ℕ). get_or bs k 0) (e.same ∙ ap (take 4) r) ∙ get_or-take 4 (drop at f) k 0 l ∙ get_or-drop at f k 0 in
    rw (g 0 (omega arith), g 1 (omega arith), g 2 (omega arith), add-zero) (color_there f at enough)

pub color_with : (f : List ℕ) (block : ℕ) (z : ℤ) (channel : ℕ) → length f < 2 ^ 64 → color f block z channel
    ≡ elim (positive_of z) [ None ↦ None | Some n ↦ elim (word (block + n + 4 * channel)) [ None ↦ None | Some place ↦ color_at f place ] ]
unfolding color
color_with f block (pos zero) channel h = refl
color_with f block (pos (suc n)) channel h =
    sym (at_word (block + suc n + 4 * channel) (color_at f) (word (block + suc n + 4 * channel)) refl (λ over. color_past f (block + suc n + 4 * channel) (omega arith)))
color_with f block (negsuc n) channel h = refl

-- ---- where a name stands

-- a record by its length
pub record_with : (f : List ℕ) (start : ℕ) (r : Result ℤ) →
    record_by f start r ≡ elim (read r) [ None ↦ None | Some z ↦ elim (natural z) [ None ↦ None | Some n ↦ elim (leb (start + n) (length f)) [ true ↦ Some (start, n) | false ↦ None ] ] ]
record_with f start (accepted (pos n)) = refl
record_with f start (accepted (negsuc n)) = refl
record_with f start (refused row) = refl

over_by : (o : Order) (f : List ℕ) (place channel : ℕ) → i32_at o f place ≡ refused parse → None ≡ record_of o f place channel
over_by o f place zero e = record_unread o f place e ∙ record_last o f place 0 (omega arith)
over_by o f place (suc channel) e = record_ends o f place (suc channel) (omega arith) (sym (record_unread o f place e))

pub name_with : (o : Order) (f : List ℕ) (block : ℕ) (z : ℤ) (channel : ℕ) → length f < 2 ^ 64 → name_span o f block z channel
    ≡ elim (positive_of z) [ None ↦ None | Some n ↦ elim (word (block + n)) [ None ↦ None | Some first ↦ kept (record_of o f first channel) ] ]
unfolding name_span
name_with o f block (pos zero) channel h = refl
name_with o f block (pos (suc n)) channel h =
    sym (at_word (block + suc n) (λ (first : ℕ). kept (record_of o f first channel)) (word (block + suc n)) refl
    (λ over. ap kept (over_by o f (block + suc n) channel (i32_past o f (block + suc n) (omega arith)))))
name_with o f block (negsuc n) channel h = refl

-- one more record is passed
pub record_turn : (o : Order) (f : List ℕ) (place left s n next : ℕ) → 0 < left → next ≡ left - 1 → name_record o f place ≡ Some (s, n) →
    record_of o f place left ≡ record_of o f (s + n) next
record_turn o f place left s n next h q e = rw q (record_next o f place left s n h e)

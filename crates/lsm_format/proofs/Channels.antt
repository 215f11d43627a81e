-- Laws of channel metadata, a case of a definition each. Assumes nothing.
use Prim.Native.Nat.{ℕ, zero, suc, ◌+◌, ◌*◌, ◌-◌, ◌≤◌, ◌<◌}
use native.Mathlib.Omega.{arith}
use mathlib.Core.Bool.{Bool, true, false}
use mathlib.Core.Path.{◌≡◌, refl, sym, ap, ◌∙◌}
use Rattle.std.specs.Prelude.{Option, None, Some}
use mathlib.Core.List.{List, [], ◌∷◌, ◌++◌}
use lib.Dec.{leb}
use lib.IntN.{ℤ, pos, negsuc}
use lib.ListN.{length, get_or, take, drop, length-drop}
use lib.Seq.{take-suc, get_or-drop}
use borrow.Author.Tests.{le-leb, lt-leb, lt-ltb, le-ltb, leb-true, leb-false}
use Rattle.lsm_format.specs.Answer.{Result, accepted, refused, bind, parse, out_of_range}
use Rattle.lsm_format.specs.Numbers.{Order, number_at, i32_at}
use Rattle.lsm_format.specs.Lent.{lend, filled}
use Rattle.lsm_format.specs.Channels.{pointers, color_at, color, record_by, name_record, record_of, kept, name_span, unless_trailing, trimmed, name, channel_in, text_of, lookup, lookup_memory}
use Rattle.lsm_format.proofs.Numbers.{part_past, part_there, part_bytes, number_past}
use Rattle.lsm_format.proofs.Apart.{no_case}

-- a signed number that was read is in the file
there_by : (b : Bool) (o : Order) (f : List ℕ) (at : ℕ) (z : ℤ) → leb (at + 4) (length f) ≡ b → i32_at o f at ≡ accepted z → at + 4 ≤ length f
unfolding i32_at bind
there_by true o f at z t e = leb-true (at + 4) (length f) t
there_by false o f at z t e =
    let p : number_at 4 o f at ≡ refused parse = number_past 4 o f at (leb-false (at + 4) (length f) t) in
    let q : i32_at o f at ≡ refused parse = rw (p, i32_at, bind) in
    no_case cc

pub signed_there : (o : Order) (f : List ℕ) (at : ℕ) (z : ℤ) → i32_at o f at ≡ accepted z → at + 4 ≤ length f
signed_there o f at z e = there_by (leb (at + 4) (length f)) o f at z refl e

-- ---- the two pointers

module _ (o : Order) (f : List ℕ) (block : ℕ) where
  -- not all eight bytes are in the file; one of the two can't be read; both are
  pub pointers_past : length f < block + 20 → refused parse ≡ pointers o f block
  unfolding pointers bind
  pointers_past h = rw (part_past f (block + 12) 8 (omega arith))

  pub pointers_first : block + 20 ≤ length f → i32_at o f (block + 12) ≡ refused parse → refused parse ≡ pointers o f block
  unfolding pointers bind
  pointers_first h e = rw (part_there f (block + 12) 8 (omega arith), e)

  pub pointers_second : (a : ℤ) (second : ℕ) → block + 20 ≤ length f → i32_at o f (block + 12) ≡ accepted a → i32_at o f second ≡ refused parse →
      second ≡ block + 16 → refused parse ≡ pointers o f block
  unfolding pointers bind
  pointers_second a second h e k q = rw (part_there f (block + 12) 8 (omega arith), e, ← q, k)

  pub pointers_there : (a b : ℤ) (second : ℕ) → block + 20 ≤ length f → i32_at o f (block + 12) ≡ accepted a → i32_at o f second ≡ accepted b →
      second ≡ block + 16 → accepted (a, b) ≡ pointers o f block
  unfolding pointers bind
  pointers_there a b second h e k q = rw (part_there f (block + 12) 8 (omega arith), e, ← q, k)

-- ---- colours

module _ (f : List ℕ) (place : ℕ) where
  pub color_past : length f < place + 4 → None ≡ color_at f place
  unfolding color_at
  color_past h = rw (lt-leb (place + 4) (length f) h, color_at)

  pub color_there : place + 4 ≤ length f → Some (get_or f place 0 ∷ get_or f (place + 1) 0 ∷ get_or f (place + 2) 0 ∷ []) ≡ color_at f place
  unfolding color_at
  color_there h = rw (le-leb (place + 4) (length f) h, color_at, part_bytes 3 f place (omega arith))

pub color_pointed : (f : List ℕ) (block n channel : ℕ) → 0 < n → color f block (pos n) channel ≡ color_at f (block + n + 4 * channel)
unfolding color
color_pointed f block zero channel h = absurd (omega arith)
color_pointed f block (suc n) channel h = refl

-- ---- a name's record

module _ (o : Order) (f : List ℕ) (place : ℕ) where
  -- no length word; a negative length; a name that passes the end; the record
  pub record_unread : i32_at o f place ≡ refused parse → None ≡ name_record o f place
  unfolding name_record
  record_unread e = rw e

  pub record_negative : (n : ℕ) → i32_at o f place ≡ accepted (negsuc n) → None ≡ name_record o f place
  unfolding name_record
  record_negative n e = rw e

  pub record_past : (n : ℕ) → i32_at o f place ≡ accepted (pos n) → length f < place + 4 + n → None ≡ name_record o f place
  unfolding name_record
  record_past n e h = rw (e, lt-leb (place + 4 + n) (length f) h, record_by)

  pub record_there : (n : ℕ) → i32_at o f place ≡ accepted (pos n) → place + 4 + n ≤ length f → Some (place + 4, n) ≡ name_record o f place
  unfolding name_record
  record_there n e h = rw (e, le-leb (place + 4 + n) (length f) h, record_by)

-- a record ends in the file
pos_by : (b : Bool) (f : List ℕ) (start m s n : ℕ) → leb (start + m) (length f) ≡ b → record_by f start (accepted (pos m)) ≡ Some (s, n) →
    s + n ≤ length f
pos_by true f start m s n t e =
    let q : record_by f start (accepted (pos m)) ≡ Some (start, m) = rw (t, record_by) in
    let w : ◌≡◌ {A = ℕ × ℕ} (start, m) (s, n) = cc in
    omega (arith, leb-true (start + m) (length f) t, ap (λ (x : ℕ × ℕ). x.0) w, ap (λ (x : ℕ × ℕ). x.1) w)
pos_by false f start m s n t e =
    let q : record_by f start (accepted (pos m)) ≡ None = rw (t, record_by) in
    no_case cc

inside_by : (f : List ℕ) (start : ℕ) (r : Result ℤ) (s n : ℕ) → record_by f start r ≡ Some (s, n) → s + n ≤ length f
inside_by f start (accepted (pos m)) s n e = pos_by (leb (start + m) (length f)) f start m s n refl e
inside_by f start (accepted (negsuc m)) s n e = no_case cc
inside_by f start (refused row) s n e = no_case cc

pub record_inside : (o : Order) (f : List ℕ) (place s n : ℕ) → name_record o f place ≡ Some (s, n) → s + n ≤ length f
unfolding name_record
record_inside o f place s n e = inside_by f (place + 4) (i32_at o f place) s n e

-- ---- the record of a channel: none is left to pass; the names end; one more is passed

module _ (o : Order) (f : List ℕ) (place : ℕ) where
  pub names_end : (channel : ℕ) → name_record o f place ≡ None → record_of o f place (suc channel) ≡ None
  unfolding record_of
  names_end channel e = rw (e, record_of)

  pub names_go : (channel : ℕ) (r : ℕ × ℕ) → name_record o f place ≡ Some r → record_of o f place (suc channel) ≡ record_of o f (r.0 + r.1) channel
  unfolding record_of
  names_go channel r e = rw (e, record_of)

  pub record_last : (left : ℕ) → left ≤ 0 → name_record o f place ≡ record_of o f place left
  unfolding record_of
  record_last zero h = refl
  record_last (suc left) h = absurd (omega arith)

  pub record_ends : (left : ℕ) → 0 < left → name_record o f place ≡ None → None ≡ record_of o f place left
  record_ends zero h e = absurd (omega arith)
  record_ends (suc left) h e = sym (names_end left e)

  pub record_next : (left s n : ℕ) → 0 < left → name_record o f place ≡ Some (s, n) → record_of o f place left ≡ record_of o f (s + n) (left - 1)
  record_next zero s n h e = absurd (omega arith)
  record_next (suc left) s n h e = let q : suc left - 1 ≡ left = omega arith in rw q (names_go left (s, n) e)

-- it ends in the file
channel_by_lem : (r : Option (ℕ × ℕ)) (o : Order) (f : List ℕ) (channel place s n : ℕ) → name_record o f place ≡ r →
    ((next : ℕ) → record_of o f next channel ≡ Some (s, n) → s + n ≤ length f) → record_of o f place (suc channel) ≡ Some (s, n) → s + n ≤ length f
channel_by_lem None o f channel place s n q next e =
    let x : record_of o f place (suc channel) ≡ None = names_end o f place channel q in
    no_case cc
channel_by_lem (Some r) o f channel place s n q next e = next (r.0 + r.1) (sym (names_go o f place channel r q) ∙ e)

pub channel_inside : (o : Order) (f : List ℕ) (channel place s n : ℕ) → record_of o f place channel ≡ Some (s, n) → s + n ≤ length f
unfolding record_of
channel_inside o f zero place s n e = record_inside o f place s n e
channel_inside o f (suc channel) place s n e =
    channel_by_lem (name_record o f place) o f channel place s n refl (λ next. channel_inside o f channel next s n) e

-- ---- trailing zeros

pub trim_zero : (bs : List ℕ) → trimmed (bs ++ 0 ∷ []) ≡ trimmed bs
trim_zero [] = refl
trim_zero (b ∷ bs) = rw (trim_zero bs)

trailing_some : (b c : ℕ) (bs : List ℕ) → unless_trailing b (bs ++ c ∷ []) ≡ b ∷ bs ++ c ∷ []
trailing_some zero c [] = refl
trailing_some zero c (d ∷ bs) = refl
trailing_some (suc b) c bs = refl

pub trim_kept : (bs : List ℕ) (c : ℕ) → trimmed (bs ++ suc c ∷ []) ≡ bs ++ suc c ∷ []
trim_kept [] c = refl
trim_kept (b ∷ bs) c = rw (trim_kept bs c) (trailing_some b (suc c) bs)

kept_by : (bs : List ℕ) (c : ℕ) → (c ≡ 0 → ⊥) → bs ++ c ∷ [] ≡ trimmed (bs ++ c ∷ [])
kept_by bs zero h = absurd (h refl)
kept_by bs (suc c) h = sym (trim_kept bs c)

-- the n bytes of a part, where the last of them is 0, and where it is not
module _ (f : List ℕ) (start : ℕ) where
  last_of : (n : ℕ) → start + suc n ≤ length f → take (suc n) (drop start f) ≡ take n (drop start f) ++ get_or f (start + n) 0 ∷ []
  last_of n h = let l : n < length (drop start f) = rw length-drop (omega arith) in rw (take-suc (drop start f) n 0 l, get_or-drop)

  pub trimmed_zero : (n : ℕ) → 0 < n → start + n ≤ length f → get_or f (start + (n - 1)) 0 ≡ 0 →
      trimmed (take (n - 1) (drop start f)) ≡ trimmed (take n (drop start f))
  trimmed_zero zero p h e = absurd (omega arith)
  trimmed_zero (suc n) p h e =
      let q : suc n - 1 ≡ n = omega arith in
      let z : get_or f (start + n) 0 ≡ 0 = rw q at e in
      rw (q, last_of n h, z) (sym (trim_zero (take n (drop start f))))

  pub trimmed_kept : (n : ℕ) → 0 < n → start + n ≤ length f → (get_or f (start + (n - 1)) 0 ≡ 0 → ⊥) →
      take n (drop start f) ≡ trimmed (take n (drop start f))
  trimmed_kept zero p h e = absurd (omega arith)
  trimmed_kept (suc n) p h e =
      let q : suc n - 1 ≡ n = omega arith in
      rw (last_of n h) (kept_by (take n (drop start f)) _ (rw q at e))

  pub trimmed_none : (n : ℕ) → n ≤ 0 → take n (drop start f) ≡ trimmed (take n (drop start f))
  trimmed_none zero h = refl
  trimmed_none (suc n) h = absurd (omega arith)

-- ---- where a channel's name stands: no record; a record that is too long; one that is given

module _ (o : Order) (f : List ℕ) (block n channel : ℕ) (p : 0 < n) where
  span_pointed : name_span o f block (pos n) channel ≡ kept (record_of o f (block + n) channel)
  unfolding name_span
  span_pointed = pointed n p
    where
      pointed : (m : ℕ) → 0 < m → name_span o f block (pos m) channel ≡ kept (record_of o f (block + m) channel)
      pointed zero h = absurd (omega arith)
      pointed (suc m) h = refl

  pub span_none : record_of o f (block + n) channel ≡ None → None ≡ name_span o f block (pos n) channel
  span_none e = rw (span_pointed, e)

  pub span_long : (s l : ℕ) → record_of o f (block + n) channel ≡ Some (s, l) → 1024 < l → None ≡ name_span o f block (pos n) channel
  span_long s l e h = rw (span_pointed, e, lt-leb l 1024 h, kept)

  pub span_given : (s l : ℕ) → record_of o f (block + n) channel ≡ Some (s, l) → l ≤ 1024 → Some (s, l) ≡ name_span o f block (pos n) channel
  span_given s l e h = rw (span_pointed, e, le-leb l 1024 h, kept)

-- it lies in the file
kept_by_test : (b : Bool) (r : ℕ × ℕ) (s n : ℕ) → ◌≡◌ {A = Option (ℕ × ℕ)} (elim b [ true ↦ Some r | false ↦ None ]) (Some (s, n)) → Some r ≡ Some (s, n)
kept_by_test true r s n e = e
kept_by_test false r s n e = no_case cc

kept_is : (r : Option (ℕ × ℕ)) (s n : ℕ) → kept r ≡ Some (s, n) → r ≡ Some (s, n)
kept_is None s n e = e
kept_is (Some r) s n e = kept_by_test (leb r.1 1024) r s n e

pub kept_inside : (o : Order) (f : List ℕ) (channel place s n : ℕ) → kept (record_of o f place channel) ≡ Some (s, n) → s + n ≤ length f
kept_inside o f channel place s n e = channel_inside o f channel place s n (kept_is (record_of o f place channel) s n e)

pub span_inside : (o : Order) (f : List ℕ) (block : ℕ) (names : ℤ) (channel s n : ℕ) → name_span o f block names channel ≡ Some (s, n) → s + n ≤ length f
unfolding name_span
span_inside o f block (pos zero) channel s n e = no_case cc
span_inside o f block (pos (suc m)) channel s n e = kept_inside o f channel (block + suc m) s n e
span_inside o f block (negsuc m) channel s n e = no_case cc

-- a place past the file's end has no record
past_by : (channel : ℕ) (o : Order) (f : List ℕ) (place : ℕ) → length f < place + 4 → record_of o f place channel ≡ None
unfolding i32_at bind
past_by zero o f place h =
    let e : i32_at o f place ≡ refused parse = rw (number_past 4 o f place h, i32_at, bind) in
    sym (record_last o f place 0 (omega arith)) ∙ sym (record_unread o f place e)
past_by (suc channel) o f place h =
    let e : i32_at o f place ≡ refused parse = rw (number_past 4 o f place h, i32_at, bind) in
    sym (record_ends o f place (suc channel) (omega arith) (sym (record_unread o f place e)))

pub span_past : (o : Order) (f : List ℕ) (block n channel : ℕ) → 0 < n → length f < block + n + 4 → None ≡ name_span o f block (pos n) channel
span_past o f block n channel p h = span_none o f block n channel p (past_by channel o f (block + n) h)

-- ---- a channel

module _ (o : Order) (f : List ℕ) (block channel : ℕ) where
  pub channel_unread : pointers o f block ≡ refused parse → channel_in o f (Some block) channel ≡ record { color = None; name = None }
  unfolding channel_in
  channel_unread e = rw e

  pub channel_there : (a b : ℤ) → pointers o f block ≡ accepted (a, b) →
      channel_in o f (Some block) channel ≡ record { color = color f block a channel; name = name o f block b channel }
  unfolding channel_in
  channel_there a b e = rw e

filled_none : (lent : List ℕ) → filled [] lent ≡ lent
unfolding filled
filled_none lent = rw (le-leb 0 (length lent) (omega arith), filled)

-- ---- the lookup: no such channel; one without a name; one with a name

module _ (o : Order) (f : List ℕ) (block : Option ℕ) (channels channel : ℕ) where
  pub lookup_outside : (room : ℕ) → channels ≤ channel → lookup o f block channels channel room ≡ refused (out_of_range 0 0 channel 0)
  unfolding lookup bind
  lookup_outside room h = rw (le-ltb channel channels h)

  pub memory_outside : (lent : List ℕ) → channels ≤ channel → lookup_memory o f block channels channel lent ≡ lent
  unfolding lookup_memory
  memory_outside lent h = rw (le-ltb channel channels h, lookup_memory)

  pub lookup_inside : (room : ℕ) → channel < channels → lookup o f block channels channel room
      ≡ bind (lend (length (text_of (channel_in o f block channel).name)) room) (λ _. accepted (channel_in o f block channel))
  unfolding lookup bind
  lookup_inside room h = rw (lt-ltb channel channels h)

  pub memory_inside : (lent : List ℕ) → channel < channels → lookup_memory o f block channels channel lent ≡ filled (text_of (channel_in o f block channel).name) lent
  unfolding lookup_memory
  memory_inside lent h = rw (lt-ltb channel channels h, lookup_memory)

  pub lookup_nameless : (room : ℕ) → channel < channels → (channel_in o f block channel).name ≡ None →
      lookup o f block channels channel room ≡ accepted (channel_in o f block channel)
  unfolding bind lend
  lookup_nameless room h e = rw (lookup_inside room h, e, le-leb 0 room (omega arith))

  pub memory_nameless : (lent : List ℕ) → channel < channels → (channel_in o f block channel).name ≡ None → lookup_memory o f block channels channel lent ≡ lent
  memory_nameless lent h e = rw (memory_inside lent h, e) (filled_none lent)

  pub lookup_named : (room : ℕ) (text : List ℕ) → channel < channels → (channel_in o f block channel).name ≡ Some text →
      lookup o f block channels channel room ≡ bind (lend (length text) room) (λ _. accepted (channel_in o f block channel))
  lookup_named room text h e = rw (lookup_inside room h, e)

  pub memory_named : (lent text : List ℕ) → channel < channels → (channel_in o f block channel).name ≡ Some text →
      lookup_memory o f block channels channel lent ≡ filled text lent
  memory_named lent text h e = rw (memory_inside lent h, e)

-- Opening's part of demand 3: two files of one length that agree on what opening reads open alike, with the same description, table
-- and count of directories, or the same refusal. Assumes nothing.
use Prim.Native.Nat.{ℕ, zero, suc, ◌+◌, ◌-◌, ◌<◌}
use native.Mathlib.Omega.{arith}
use mathlib.Core.Bool.{Bool, true, false, cond}
use Rattle.std.specs.Prelude.{Option, None, Some}
use mathlib.Core.Path.{◌≡◌, refl, ap, ap₂}
use mathlib.Core.List.{List}
use lib.Dec.{leb, eqb}
use lib.ListN.{length}
use borrow.Author.Tests.{leb-true, leb-false, lt-leb}
use Rattle.lsm_format.specs.Answer.{Result, accepted, bind, need, given, parse, decode, oversized_allocation}
use Rattle.lsm_format.specs.Ranges.{nothing, in_file, On, Agree}
use Rattle.lsm_format.specs.Numbers.{Order}
use Rattle.lsm_format.specs.Directory.{type_size, Values, bits_per_sample, Directory, reduced}
use Rattle.lsm_format.specs.CzInfo.{CzInfo, cz_info}
use Rattle.lsm_format.specs.Open.{order_mark, tiff_header, other_bits, even_bits, agrees, Walk, start, join, other_ranges, bits_ranges, agrees_ranges, chain, chain_ranges, walk, walk_ranges, cz_entry_ranges, describe_walk, file_limit, Opened, read, open_file, open_memory, table_by, open_ranges}
use Rattle.lsm_overwrite.proofs.TwoFiles.{bind_law, over_law, in_file_at, number_law, number_last}
use Rattle.lsm_overwrite.proofs.CzInfo.{cz_law}
use Rattle.lsm_overwrite.proofs.Directory.{equal_law, directory_law}

module _ (f g : List ℕ) (len : length g ≡ length f) where
  header_by : (b : Bool) → leb 8 (length f) ≡ b → Agree f g (in_file f 0 8) → tiff_header g ≡ tiff_header f
  unfolding tiff_header bind
  header_by true t a =
      let on : On f g 0 8 = rw (in_file_at f 0 8 (leb-true _ _ t)) at a in
      bind_law _ (ap (λ (n : ℕ). need parse (leb 8 n)) len) (λ _.
      bind_law _ (ap₂ {C = Result Order} order_mark (on 0 (omega arith)) (on 1 (omega arith))) (λ o.
      bind_law _ (number_law f g len 2 o 0 8 2 on (omega arith)) (λ magic. refl)))
  header_by false t a =
      let short : length f < 8 = leb-false _ _ t in
      rw (lt-leb 8 (length f) short, lt-leb 8 (length g) (omega arith))

  tiff_header_law : Agree f g (in_file f 0 8) → tiff_header g ≡ tiff_header f
  tiff_header_law a = header_by (leb 8 (length f)) refl a

  -- what a directory is held to
  others_law : (v : Values) (o : Order) (d : Directory) → Agree f g (other_ranges v o f d) → other_bits v o g d ≡ other_bits v o f d
  others_law v o d a =
      over_law f g _ _ refl a (λ _ b. equal_law f g len (v.count - 1) (d.scalars bits_per_sample) v.type o (v.place + type_size v.type) b)

  others_by : (b : Bool) (v : Values) (o : Order) (d : Directory) → Agree f g (cond b nothing (other_ranges v o f d)) →
      cond b (accepted tt) (other_bits v o g d) ≡ cond b (accepted tt) (other_bits v o f d)
  others_by true v o d a = refl
  others_by false v o d a = others_law v o d a

  bits_law : (x : Option Values) (o : Order) (d : Directory) → Agree f g (bits_ranges x o f d) → even_bits x o g d ≡ even_bits x o f d
  bits_law None o d a = refl
  bits_law (Some v) o d a = others_by (eqb v.count 1) v o d a

  agrees_law : (o : Order) (first : Option Directory) (d : Directory) → Agree f g (agrees_ranges o f d) → agrees o g first d ≡ agrees o f first d
  unfolding agrees
  agrees_law o first d a = over_law f g _ _ refl a (λ _ b. bind_law _ (bits_law (cond (reduced d) None d.bits) o d b) (λ _. refl))

  join_law : (o : Order) (w : Walk) (d : Directory) → Agree f g (agrees_ranges o f d) → join o g w d ≡ join o f w d
  unfolding join
  join_law o w d a = bind_law _ (agrees_law o w.first d a) (λ _. refl)

  chain_law : (n : ℕ) (b : Bool) (o : Order) (place : ℕ) (w : Walk) → Agree f g (chain_ranges n b o f place w) →
      chain n b o g place w ≡ chain n b o f place w
  unfolding chain chain_ranges
  chain_law zero true o place w a = refl
  chain_law zero false o place w a = refl
  chain_law (suc n) true o place w a = refl
  chain_law (suc n) false o place w a =
      over_law f g _ _ (directory_law f g len o place a.0) a.1 (λ d b.
      over_law f g _ _ (join_law o w d.0 b.0) b.1 (λ v c. chain_law n (eqb d.1 0) o d.1 v c))

  walk_law : (o : Order) → Agree f g (in_file f 0 8) → Agree f g (walk_ranges o f) → walk o g ≡ walk o f
  unfolding walk walk_ranges
  walk_law o a b =
      over_law f g _ _ (number_last f g len 4 o 0 8 4 (omega arith) a) b (λ place c. chain_law 1000000 (eqb place 0) o place start c)

  cz_by : {A : Type 0} (o : Order) (e : Option (ℕ × ℕ)) (k : CzInfo → Result A) → Agree f g (cz_entry_ranges o f e) →
      bind (given decode e) (λ cz. bind (cz_info o g cz.0 cz.1) k) ≡ bind (given decode e) (λ cz. bind (cz_info o f cz.0 cz.1) k)
  unfolding bind
  cz_by o None k a = refl
  cz_by o (Some cz) k a = bind_law _ (cz_law f g len o cz.0 cz.1 a) (λ i. refl)

  describe_law : (o : Order) (w : Walk) → Agree f g (cz_entry_ranges o f w.cz) → describe_walk o g w ≡ describe_walk o f w
  unfolding describe_walk
  describe_law o w a = bind_law _ refl (λ p. bind_law _ refl (λ _. bind_law _ refl (λ k. cz_by o w.cz _ a)))

  pub read_law : Agree f g (open_ranges f) → read g ≡ read f
  unfolding read open_ranges
  read_law a =
      bind_law _ (ap (λ (n : ℕ). need (oversized_allocation n file_limit) (leb n file_limit)) len) (λ _.
      over_law f g _ _ (tiff_header_law a.0) a.1 (λ o b.
      over_law f g _ _ (walk_law o a.0 b.0) b.1 (λ w c. bind_law _ (describe_law o w c) (λ d. refl))))

  -- opening answers alike, whatever room the table has
  pub open_law : Agree f g (open_ranges f) → (room : ℕ) → open_file g room ≡ open_file f room
  unfolding open_file
  open_law a room = bind_law _ (read_law a) (λ r. refl)

  -- and leaves the same in the table
  pub open_memory_law : Agree f g (open_ranges f) → (lent : List ℕ) → open_memory g lent ≡ open_memory f lent
  unfolding open_memory
  open_memory_law a lent = ap (λ (r : Result Opened). table_by r lent) (read_law a)

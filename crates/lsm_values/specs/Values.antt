-- The values of an entry by the number of their bytes, and those of a strip array whose place in the file is known.
use Rattle.std.specs.Prelude.{ℕ, zero, suc, ◌+◌, Bool, false, not, ◌&&◌, ◌||◌, cond, List, [], ◌∷◌, leb, eqb, Option, None}
use Rattle.lsm_format.specs.Answer.{Result, accepted, refused, bind, need, given, decode, negative_value}
use Rattle.lsm_format.specs.Directory.{integer_size, is_signed, is_negative, value_place, values_at}
use Rattle.lsm_format.specs.Numbers.{Order, number_at}

-- The bytes of a number without a sign; None for a signed type, as for one that is no number.
abbrev pub unsigned_size : ℕ → Option ℕ
unsigned_size type = cond (is_signed type) None (integer_size type)

-- A value of so many bytes, of a type with a sign or without one.
unfoldable pub value_of_size : Bool → ℕ → Order → List ℕ → ℕ → Result ℕ
value_of_size signed size o f p =
    bind (number_at size o f p) (λ v. bind (need negative_value (not (signed && is_negative size v))) (λ _. accepted v))

-- The first number of an entry, as so many bytes.
unfoldable pub first_number : ℕ → Order → List ℕ → ℕ → ℕ → Result ℕ
first_number size o f count place =
    bind (need decode (not (eqb count 0))) (λ _. bind (value_place o f size count place) (λ p. number_at size o f p))

-- A number that was read; 0 where it is past the end of the file.
unfoldable pub or_nought : Result ℕ → ℕ
or_nought (accepted v) = v
or_nought (refused row) = 0

-- n numbers of `size` bytes, one after another from a place on.
unfoldable pub values : ℕ → ℕ → Order → List ℕ → ℕ → List ℕ
values zero size o f p = []
values (suc n) size o f p = or_nought (number_at size o f p) ∷ values n size o f (p + size)

-- Whether one of them is negative, as the number of a signed type. One past the end of the file is not.
unfoldable pub some_negative : ℕ → ℕ → Order → List ℕ → ℕ → Bool
some_negative zero size o f p = false
some_negative (suc n) size o f p = is_negative size (or_nought (number_at size o f p)) || some_negative n size o f (p + size)

-- The bytes of an array's numbers, where none of them is negative by its type.
unfoldable pub signed_size : Order → List ℕ → ℕ → ℕ → ℕ → Result ℕ
signed_size o f type count p =
    bind (given decode (integer_size type)) (λ size.
    bind (need negative_value (not (is_signed type && some_negative count size o f p))) (λ _. accepted size))

-- A strip array whose place is known already: the checks that are left of it.
unfoldable pub array_at : Order → List ℕ → ℕ → ℕ → ℕ → Result (List ℕ)
array_at o f type count p =
    bind (need decode (leb count 100000)) (λ _. values_at count type o f p)

-- Files that stand one after another, "for each, its length as four bytes, the lowest first, and then its bytes".
use Rattle.std.specs.Prelude.{ℕ, zero, suc, true, false, ◌&&◌, leb, List, [], ◌++◌, length, take, drop, Option, None, Some}
use Rattle.std.specs.Int.{w32, from_le_bytes}
use Rattle.lsm_format.specs.Printout.{printout}

-- the length at the front
abbrev pub length_of : List ℕ → ℕ
length_of all = from_le_bytes w32 (take 4 all)

-- the first file and what stands behind it, where a whole file stands at the front
unfoldable pub first_file : List ℕ → Option (List ℕ × List ℕ)
first_file all =
    elim (leb 4 (length all) && leb (length_of all) (length (drop 4 all))) [
      | true ↦ Some (take (length_of all) (drop 4 all), drop (length_of all) (drop 4 all))
      | false ↦ None
    ]

-- the printouts of the files, at most k of them
unfoldable pub printouts_by : ℕ → List ℕ → List ℕ
printouts_by zero all = []
printouts_by (suc k) all = elim (first_file all) [ None ↦ [] | Some p ↦ printout p.0 ++ printouts_by k p.1 ]

-- no file takes less than a byte
unfoldable pub printouts : List ℕ → List ℕ
printouts all = printouts_by (length all) all

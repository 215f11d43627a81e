-- Laws of the files that stand one after another: the first of them, and the printouts from one on. Assumes nothing.
use Rattle.std.proofs.Common.{◌≡◌, ℕ, zero, suc, ◌<◌, ◌≤◌, Bool, true, false, ◌&&◌, List, [], ◌∷◌, ◌++◌, length, take, drop, refl, sym, ap, ◌∙◌, arith, append_assoc, append-nil, length-drop, Option, None, Some}
use Rattle.std.specs.Prelude.{leb}
use Rattle.std.specs.Io.KnownBytes.{Appends}
use Rattle.std.proofs.KnownBytes.{Appends-nil, Appends-trans}
use Rattle.std.proofs.lemmas.Bool.{and_parts}
use borrow.Author.Tests.{le-leb, lt-leb, leb-true}
use Rattle.lsm_format.specs.Printout.{printout}
use Rattle.lsm_list_files.specs.Stored.{length_of, first_file, printouts_by, printouts}

-- ---- the first file

abbrev parted : Bool → List ℕ → Option (List ℕ × List ℕ)
parted t all = elim t [ true ↦ Some (take (length_of all) (drop 4 all), drop (length_of all) (drop 4 all)) | false ↦ None ]

pub first_whole : (all : List ℕ) → 4 ≤ length all → length_of all ≤ length (drop 4 all)
    → first_file all ≡ Some (take (length_of all) (drop 4 all), drop (length_of all) (drop 4 all))
unfolding first_file
first_whole all h k = ap (λ (t : Bool). parted (t && leb (length_of all) (length (drop 4 all))) all) (le-leb 4 (length all) h) ∙ ap (λ (t : Bool). parted t all) (le-leb (length_of all) (length (drop 4 all)) k)

pub first_short : (all : List ℕ) → length all < 4 → first_file all ≡ None
unfolding first_file
first_short all h = ap (λ (t : Bool). parted (t && leb (length_of all) (length (drop 4 all))) all) (lt-leb 4 (length all) h)

and_false : (t : Bool) → (t && false) ≡ false
and_false true = refl
and_false false = refl

pub first_part : (all : List ℕ) → length (drop 4 all) < length_of all → first_file all ≡ None
unfolding first_file
first_part all h =
    ap (λ (t : Bool). parted (leb 4 (length all) && t) all) (lt-leb (length_of all) (length (drop 4 all)) h) ∙ ap (λ (t : Bool). parted t all) (and_false (leb 4 (length all)))

abbrev behind : Option (List ℕ × List ℕ) → List ℕ
behind None = []
behind (Some p) = p.1

-- what stands behind it is shorter
pub first_less : (all file rest : List ℕ) → first_file all ≡ Some (file, rest) → length rest < length all
unfolding first_file
first_less all file rest e = go (leb 4 (length all) && leb (length_of all) (length (drop 4 all))) refl e
  where
    go : (t : Bool) → (leb 4 (length all) && leb (length_of all) (length (drop 4 all))) ≡ t → parted t all ≡ Some (file, rest) → length rest < length all
    go true b e =
        let h : 4 ≤ length all = leb-true 4 (length all) (and_parts (leb 4 (length all)) (leb (length_of all) (length (drop 4 all))) b).0 in
        let r : drop (length_of all) (drop 4 all) ≡ rest = ap behind e in
        rw (← r) (omega (arith, length-drop (length_of all) (drop 4 all), length-drop 4 all))
    go false b e = cc

pub ruleset first = (first_whole, first_short, first_part)

-- ---- the printouts

abbrev step : (List ℕ → List ℕ) → Option (List ℕ × List ℕ) → List ℕ
step more o = elim o [ None ↦ [] | Some p ↦ printout p.0 ++ more p.1 ]

no_file : first_file [] ≡ None
no_file = first_short [] (omega arith)

-- questions enough are as good as any other number that is enough
enough : (k j : ℕ) (all : List ℕ) → length all ≤ k → length all ≤ j → printouts_by k all ≡ printouts_by j all
unfolding printouts_by
enough zero zero all h i = refl
enough zero (suc j) [] h i = sym (ap (step (printouts_by j)) no_file)
enough zero (suc j) (b ∷ all) h i = absurd (omega arith)
enough (suc k) zero [] h i = ap (step (printouts_by k)) no_file
enough (suc k) zero (b ∷ all) h i = absurd (omega arith)
enough (suc k) (suc j) all h i = go (first_file all) refl (λ p l m. enough k j p l m)
  where
    go : (o : Option (List ℕ × List ℕ)) → first_file all ≡ o
        → ((rest : List ℕ) → length rest ≤ k → length rest ≤ j → printouts_by k rest ≡ printouts_by j rest) → step (printouts_by k) o ≡ step (printouts_by j) o
    go None e more = refl
    go (Some p) e more =
        let s = first_less all p.0 p.1 e in
        ap (λ (l : List ℕ). printout p.0 ++ l) (more p.1 (omega arith) (omega arith))

pub printouts_none : (all : List ℕ) → first_file all ≡ None → printouts all ≡ []
unfolding printouts printouts_by
printouts_none [] e = refl
printouts_none (b ∷ all) e = ap (step (printouts_by (length all))) e

pub printouts_first : (all file rest : List ℕ) → first_file all ≡ Some (file, rest) → printouts all ≡ printout file ++ printouts rest
unfolding printouts printouts_by
printouts_first [] file rest e = let n = no_file in cc
printouts_first (b ∷ all) file rest e =
    let s = first_less (b ∷ all) file rest e in
    ap (step (printouts_by (length all))) e ∙ ap (λ (l : List ℕ). printout file ++ l) (enough (length all) (length rest) rest (omega arith) (omega arith))

-- ---- listing

-- Files from the front of `all` on are listed, and `rest` is left.
pub record Listing (all rest : List ℕ) (before after : Option (List ℕ)) : Type 0 where
  pub listed : List ℕ
  pub whole : printouts all ≡ listed ++ printouts rest
  pub put : Appends before after listed

pub none_listed : (all : List ℕ) (before : Option (List ℕ)) → Listing all all before before
none_listed all before = record { listed = []; whole = refl; put = Appends-nil before }

pub one_listed : {all rest file behind : List ℕ} {before mid after : Option (List ℕ)} → Listing all rest before mid
    → first_file rest ≡ Some (file, behind) → Appends mid after (printout file) → Listing all behind before after
one_listed {all} {rest} {file} {behind} {before} {mid} {after} l e p =
    record {
      listed = l.listed ++ printout file;
      whole = l.whole ∙ (rw (printouts_first rest file behind e, append_assoc) refl);
      put = Appends-trans before mid after l.listed (printout file) l.put p;
    }

pub all_listed : {all rest : List ℕ} {before after : Option (List ℕ)} → Listing all rest before after → first_file rest ≡ None → Appends before after (printouts all)
all_listed {all} {rest} {before} {after} l e =
    let n : l.listed ≡ printouts all = sym (l.whole ∙ (rw (printouts_none rest e, append-nil) refl)) in
    rw n at l.put

pub ruleset listing = (first_less, none_listed, one_listed, all_listed)

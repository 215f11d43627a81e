-- The weight lies in that what was read decides the printout of the whole input: it is all of it, or more than the longest file that is
-- listed, and then both are too long. Assumes nothing.
use Rattle.std.proofs.Common.{◌≡◌, ℕ, ◌+◌, ◌<◌, Bool, true, false, List, ◌++◌, length, refl, sym, ap, subst, ◌∙◌, arith, length-append, Option, None, Some}
use Rattle.std.specs.Prelude.{IfSome, leb}
use Rattle.std.specs.Io.KnownBytes.{Consumes, Appends, IsAtEnd}
use Rattle.std.proofs.KnownBytes.{Consumes-whole}
use borrow.Author.Tests.{leb-true, leb-false}
use Rattle.lsm_format.specs.Printout.{most, printout}
use Rattle.lsm_printout.proofs.Whole.{printout_long}

-- No byte behind so many changes what is printed.
front_long : (f rest : List ℕ) → most < length f → printout (f ++ rest) ≡ printout f
front_long f rest h = printout_long (f ++ rest) (omega (arith, length-append f rest)) ∙ sym (printout_long f h)

-- Reading took `part` off the front of the input, and went on until the input ended or the part was longer than any file that is listed.
pub of_front : (before after out new : Option (List ℕ)) (part : List ℕ) → Consumes before after part
    → (length part < most + 1 → IsAtEnd after) → Appends out new (printout part) → IfSome before (λ all. Appends out new (printout all))
of_front before after out new part c end p = go (leb (most + 1) (length part)) refl before after c end
  where
    go : (t : Bool) → leb (most + 1) (length part) ≡ t → (before after : Option (List ℕ)) → Consumes before after part
        → (length part < most + 1 → IsAtEnd after) → IfSome before (λ all. Appends out new (printout all))
    go false e before after c end =
        Consumes-whole before after part (λ all. Appends out new (printout all)) c (end (leb-false (most + 1) (length part) e)) p
    go true e None after c end = tt
    go true e (Some all) None c end = absurd c
    go true e (Some all) (Some rest) c end =
        let same : printout all ≡ printout part = ap printout c ∙ front_long part rest (let l = leb-true (most + 1) (length part) e in omega arith) in
        subst (Appends out new) (sym same) p

-- What lent memory holds at its front once more was read behind that: the bytes of both, which the input lost one after the other. Assumes
-- nothing.
use Rattle.std.proofs.Common.{◌≡◌, ℕ, ◌+◌, ◌≤◌, List, ◌++◌, length, take, subst, sym, ap, ◌∙◌, length-take-le}
use Rattle.std.specs.Prelude.{Option}
use Rattle.std.specs.Io.KnownBytes.{Consumes}
use Rattle.std.proofs.KnownBytes.{Consumes-trans}
use Rattle.std.proofs.Math.Seq.{take-append-add}
use Rattle.std.proofs.lemmas.List.{take-append-le}
use borrow.Rule.Slice.PartMut.{put_mid, post_of}

front_more : (n k m : ℕ) (xs ys : List ℕ) → n ≤ length xs → m ≤ length ys → take (n + m) (put_mid n k xs ys) ≡ take n xs ++ take m ys
front_more n k m xs ys within fits =
    ap (λ i. take (i + m) (put_mid n k xs ys)) (sym (length-take-le n xs within)) ∙ take-append-add (take n xs) (ys ++ post_of n k xs) m
    ∙ ap (λ l. take n xs ++ l) (take-append-le m ys (post_of n k xs) fits)

pub read_more : (a b c : Option (List ℕ)) (n k m : ℕ) (xs ys : List ℕ) → Consumes a b (take n xs) → Consumes b c (take m ys) → n ≤ length xs → m ≤ length ys
    → Consumes a c (take (n + m) (put_mid n k xs ys))
read_more a b c n k m xs ys first then within fits =
    subst (Consumes a c) (sym (front_more n k m xs ys within fits)) (Consumes-trans _ _ _ _ _ first then)

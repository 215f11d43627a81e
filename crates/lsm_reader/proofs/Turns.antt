-- A turn of the chain of directories, and of the walk along it. Assumes nothing.
use Prim.Native.Nat.{ℕ, suc, ◌+◌, ◌-◌, ◌*◌, ◌^◌, ◌≤◌, ◌<◌}
use native.Mathlib.Omega.{arith}
use mathlib.Core.Bool.{Bool, true, false, cond, true≢false}
use mathlib.Core.Logic.{◌⊎◌, ⊎_elim, inl, inr}
use Rattle.std.specs.Prelude.{Option, Result as Answered, Ok, Err, is_err, option_map}
use mathlib.Core.Path.{◌≡◌, refl, sym, ap, subst, ◌∙◌}
use mathlib.Core.List.{List, [], ◌++◌}
use lib.Dec.{eqb, ltb}
use lib.ListN.{length}
use borrow.Author.Tests.{ltb-true, ltb-false, ne_eqb}
use Rattle.lsm_format.specs.Answer.{Result, accepted, refused, bind, need, parse}
use Rattle.lsm_format.specs.Code.{answer_by}
use Rattle.lsm_format.specs.declared.error.Refusal.{Refusal}
use Rattle.lsm_format.specs.declared.error.Refusal.TheVariants.{Parse}
use Rattle.lsm_format.specs.Numbers.{Order}
use Rattle.lsm_format.specs.Directory as Rule
use Rattle.lsm_format.specs.Directory.{plain, entries, ends, directory}
use Rattle.lsm_format.specs.Open.{agrees, Page, earlier, full_page, pages_of, joined, join, chain, walk, start, table_words}
use Rattle.lsm_format.specs.Open as Open
use Rattle.lsm_format.proofs.Accepting.{not_both}
use Rattle.lsm_format.proofs.Open.{chain_turn}
use Rattle.lsm_format.proofs.Pages.{agreed_arrays}
use Rattle.lsm_directory.specs.Code.{directory_of}
use Rattle.lsm_directory.specs.declared.Directory.{Directory}
use Rattle.lsm_values.proofs.Laws.{values_length}
use Rattle.lsm_reader.specs.Walked.{visit_ends, walk_of, marked, LaidPage, WalkedAs}
use Rattle.lsm_reader.specs.declared.chain.Walk.{Walk}
use Rattle.lsm_reader.specs.declared.chain.Mark.{Mark}
use Rattle.lsm_reader.proofs.Circles.{Again, keeps_self, again_here, again_less, again_turn, circle}
use Rattle.lsm_reader.proofs.Entries.{entries_over}
use Rattle.lsm_reader.proofs.Going.{laid_more, Going}

-- ---- visits

-- a directory is visited only below the limit, and has its ends
pub visited_ends : (o : Order) (f : List ℕ) (place visited : ℕ) (x : ℕ × ℕ) → visit_ends o f place visited ≡ accepted x →
    (visited < 1000000) × (ends o f place ≡ accepted x)
unfolding visit_ends bind
visited_ends o f place visited x e = by (ltb visited 1000000) refl e
  where
    by : (b : Bool) → ltb visited 1000000 ≡ b → bind (need parse b) (λ _. ends o f place) ≡ accepted x →
        (visited < 1000000) × (ends o f place ≡ accepted x)
    by true l q = (ltb-true _ _ l, q)
    by false l q = absurd (not_both parse x q)

-- ---- a turn of the chain

abbrev then_next : ℕ → Rule.Directory → Result (Rule.Directory × ℕ)
then_next next d = accepted (d, next)

-- With a directory at the place: its ends, its entries, what it is held to, and then the rest of the chain.
pub chain_visits : (n : ℕ) (o : Order) (f : List ℕ) (place : ℕ) (w : Open.Walk) → n ≡ 1000000 - w.visited → (place ≡ 0 → ⊥) → chain n (eqb place 0) o f place w
    ≡ bind (visit_ends o f place w.visited) (λ e.
    bind (entries e.0 o f (place + 2) 0 plain) (λ d.
    bind (agrees o f w.first d) (λ _. chain (1000000 - (w.visited + 1)) (eqb e.1 0) o f e.1 (joined w d))))
unfolding chain directory join visit_ends bind
chain_visits n o f place w e z = by (ltb w.visited 1000000) refl
  where
    by : (b : Bool) → ltb w.visited 1000000 ≡ b → chain n (eqb place 0) o f place w
        ≡ bind (bind (need parse b) (λ _. ends o f place)) (λ e.
        bind (entries e.0 o f (place + 2) 0 plain) (λ d.
        bind (agrees o f w.first d) (λ _. chain (1000000 - (w.visited + 1)) (eqb e.1 0) o f e.1 (joined w d))))
    by false l =
        let full : n ≡ 0 = omega (arith, ltb-false _ _ l) in
        rw (full, ne_eqb place 0 z)
    by true l =
        let one : n ≡ suc (1000000 - (w.visited + 1)) = omega (arith, ltb-true _ _ l) in
        rw (one, ne_eqb place 0 z) (regroup (ends o f place))
      where
        k : ℕ
        k = 1000000 - (w.visited + 1)

        regroup : (r : Result (ℕ × ℕ)) →
            bind (bind r (λ e. bind (entries e.0 o f (place + 2) 0 plain) (then_next e.1))) (λ d. bind (bind (agrees o f w.first d.0) (λ _. accepted (joined w d.0))) (λ v. chain k (eqb d.1 0) o f d.1 v))
            ≡ bind r (λ e. bind (entries e.0 o f (place + 2) 0 plain) (λ d. bind (agrees o f w.first d) (λ _. chain k (eqb e.1 0) o f e.1 (joined w d))))
        regroup (refused row) = refl
        regroup (accepted e) = entry (entries e.0 o f (place + 2) 0 plain)
          where
            entry : (r : Result Rule.Directory) →
                bind (bind r (then_next e.1)) (λ d. bind (bind (agrees o f w.first d.0) (λ _. accepted (joined w d.0))) (λ v. chain k (eqb d.1 0) o f d.1 v))
                ≡ bind r (λ d. bind (agrees o f w.first d) (λ _. chain k (eqb e.1 0) o f e.1 (joined w d)))
            entry (refused row) = refl
            entry (accepted d) = held (agrees o f w.first d)
              where
                held : (r : Result (Unit {0})) → bind (bind r (λ _. accepted (joined w d))) (λ v. chain k (eqb e.1 0) o f e.1 v) ≡ bind r (λ _. chain k (eqb e.1 0) o f e.1 (joined w d))
                held (refused row) = refl
                held (accepted u) = refl

-- a refusal has no pages and leaves the table as it may
pub refused_as : (o : Order) (f lent table : List ℕ) (x : Answered Walk Refusal) → is_err x ≡ true → answer_by (walk_of o f []) x ≡ walk o f → WalkedAs o f lent table x
refused_as o f lent table (Ok w) e h = absurd (true≢false (sym e))
refused_as o f lent table (Err r) e h = record { pages = []; is = h; counted = tt; filled = tt }

-- ---- a turn of the walk

module _ (o : Order) (f lent : List ℕ) (place mark : ℕ) (w : Walk) (used : ℕ) (table : List ℕ) (g : Going o f lent place mark w used table) where
  -- a directory whose entries are all read and which agrees, and the walk that it joins
  module _ (z : place ≡ 0 → ⊥) (n next : ℕ) (e : accepted (n, next) ≡ visit_ends o f place w.visited) (i : ℕ) (d : Directory)
      (b : entries (n - i) o f (place + 2) i (directory_of o f d) ≡ entries n o f (place + 2) 0 plain) (l : n ≤ i)
      (a : accepted tt ≡ agrees o f (option_map (directory_of o f) w.first) (directory_of o f d)) (v : Walk) (j : (ps : List Page) → walk_of o f (ps ++ pages_of (directory_of o f d)) v ≡ joined (walk_of o f ps w) (directory_of o f d)) where
    read : entries n o f (place + 2) 0 plain ≡ accepted (directory_of o f d)
    read = sym b ∙ entries_over n o f (place + 2) i (directory_of o f d) l

    turned : chain (1000000 - (w.visited + 1)) (eqb next 0) o f next (walk_of o f (g.pages ++ pages_of (directory_of o f d)) v) ≡ walk o f
    unfolding bind
    turned =
        let on = rw (← e, read, ← a) at (sym (chain_visits _ o f place (walk_of o f g.pages w) refl z) ∙ g.goes) in
        rw (j g.pages) on

    first_is : earlier (option_map (directory_of o f) w.first) (full_page (directory_of o f d)) ≡ option_map (directory_of o f) v.first
    first_is = sym (ap (λ (x : Open.Walk). x.first) (j []))

    comes : Again o f 1 (option_map (directory_of o f) v.first) mark next
    comes =
        rw (← first_is)
        (again_turn o f (option_map (directory_of o f) w.first) mark place next (directory_of o f d) z
        (λ k u q. chain_turn o f place u z k n next (visited_ends o f place w.visited (n, next) (sym e)).1 (directory_of o f d) read q) (sym a) g.again)

    -- the chain is back at its mark
    pub circled : (after : List ℕ) → next ≡ mark → WalkedAs o f lent after (Err Parse)
    circled after back =
        let round = circle o f (option_map (directory_of o f) v.first) mark (rw back at comes) _ _ (keeps_self (option_map (directory_of o f) v.first)) in
        refused_as o f lent after (Err Parse) refl (sym (rw back round) ∙ turned)

    pub next_turn : (r moved : ℕ) (after : List ℕ) → next < 2 ^ 32 → w.visited < 1000000 → v.visited ≡ w.visited + 1 → v.pages ≤ w.pages + 1 →
        v.pages ≡ length (g.pages ++ pages_of (directory_of o f d)) → length after ≡ length table → LaidPage (table_words (pages_of (directory_of o f d))) used table after r →
        (moved ≡ mark) ⊎ (moved ≡ next) → Going o f lent next moved v r after
    next_turn r moved after n h s q c l p m =
        record {
          near = n;
          few = omega arith;
          fewer = omega (arith, g.fewer);
          pages = g.pages ++ pages_of (directory_of o f d);
          counted = c;
          goes = subst (λ (x : ℕ). chain (1000000 - x) (eqb next 0) o f next (walk_of o f (g.pages ++ pages_of (directory_of o f d)) v) ≡ walk o f) (sym s) turned;
          laid = laid_more g.pages (directory_of o f d) used r lent table after l g.laid p;
          again = ⊎_elim (λ q. rw q (again_less o f (option_map (directory_of o f) v.first) mark next comes)) (λ q. rw q (again_here o f (option_map (directory_of o f) v.first) next)) m;
        }

-- a mark stays, or moves to the place ahead
pub mark_moved : (r m : Mark) (visited place : ℕ) → r ≡ marked m visited place → (r.place ≡ m.place) ⊎ (r.place ≡ place)
mark_moved r m visited place e = rw e (by (ltb visited m.until))
  where
    by : (b : Bool) → ((cond b m (record { place = place; until = 2 * visited })).place ≡ m.place) ⊎ ((cond b m (record { place = place; until = 2 * visited })).place ≡ place)
    by true = inl refl
    by false = inr refl

-- a directory that agrees has equally many offsets and lengths
pub equal_counts : (o : Order) (f : List ℕ) (first : Option Rule.Directory) (d : Directory) → agrees o f first (directory_of o f d) ≡ accepted tt → d.offsets.count ≡ d.counts.count
equal_counts o f first d a = rw (values_length, values_length) at (agreed_arrays o f first (directory_of o f d) a)

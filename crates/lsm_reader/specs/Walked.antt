-- What a walk along the directories keeps, in the definitions' terms. The code counts the full pages; the pages themselves, with
-- their strips, stay in the file.
use Rattle.std.specs.Prelude.{ℕ, ◌+◌, ◌*◌, ◌≤◌, cond, ◌≡◌, List, ◌++◌, ltb, length, take, drop, option_map, Result as Answered, Ok, Err}
use Rattle.lsm_format.specs.Answer.{Result, bind, need, parse}
use Rattle.lsm_format.specs.Code.{answer_by}
use Rattle.lsm_format.specs.Numbers.{Order}
use Rattle.lsm_format.specs.Directory.{ends}
use Rattle.lsm_format.specs.Open.{Page, table_words}
use Rattle.lsm_format.specs.Open as Open
use Rattle.lsm_format.specs.declared.error.Refusal.{Refusal}
use Rattle.lsm_directory.specs.Code.{directory_of, cz_of}
use Rattle.lsm_reader.specs.declared.chain.Walk.{Walk}
use Rattle.lsm_reader.specs.declared.chain.Mark.{Mark}

-- The ends of the directory at a place, where one more may be visited: "The 1,000,001st visited directory is Parse".
unfoldable pub visit_ends : Order → List ℕ → ℕ → ℕ → Result (ℕ × ℕ)
visit_ends o f place visited = bind (need parse (ltb visited 1000000)) (λ _. ends o f place)

-- ---- the walk

-- a walk whose full pages are these
abbrev pub walk_of : Order → List ℕ → List Page → Walk → Open.Walk
walk_of o f ps w = record { visited = w.visited; first = option_map (directory_of o f) w.first; pages = ps; cz = option_map cz_of w.cz }

-- the code's count of pages is theirs
abbrev pub Counted : List Page → Answered Walk Refusal → Type 0
Counted ps (Ok w) = w.pages ≡ length ps
Counted ps (Err r) = Unit {0}

-- a mark after `visited` visits, with the place that is visited next
abbrev pub marked : Mark → ℕ → ℕ → Mark
marked m visited place = cond (ltb visited m.until) m (record { place = place; until = 2 * visited })

-- ---- the table

-- A page laid into a table of which `used` words are taken: where there is room for its words, they are there, and counted.
pub record LaidPage (words : List ℕ) (used : ℕ) (before after : List ℕ) (r : ℕ) : Type 0 where
  pub room : r ≤ length before
  pub laid : used + length words ≤ length before →
      (r ≡ used + length words) × (after ≡ take used before ++ (words ++ drop (used + length words) before))

abbrev pub Table : List Page → List ℕ → List ℕ → Answered Walk Refusal → Type 0
Table ps lent table (Ok w) = length (table_words ps) ≤ length lent → table ≡ table_words ps ++ drop (length (table_words ps)) lent
Table ps lent table (Err r) = Unit {0}

-- A walk's answer: the definition's, with some list of full pages of which the code has the number, and their strips in the table
-- where there is room for them all.
pub record WalkedAs (o : Order) (f lent table : List ℕ) (r : Answered Walk Refusal) : Type 0 where
  pub pages : List Page
  pub counted : Counted pages r
  pub is : answer_by (walk_of o f pages) r ≡ Open.walk o f
  pub filled : Table pages lent table r

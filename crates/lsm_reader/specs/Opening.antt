-- What opening's answers mean in the definitions' terms.
use Rattle.std.specs.Prelude.{ℕ, ◌≡◌, List, length, Option, None, Some, Result as Answered}
use Rattle.lsm_format.specs.Answer.{Result, accepted, refused}
use Rattle.lsm_format.specs.Code.{answer_by}
use Rattle.lsm_format.specs.Open as Rule
use Rattle.lsm_format.specs.Open.{open_file, open_memory}
use Rattle.lsm_format.specs.declared.error.Refusal.{Refusal}
use Rattle.lsm_description.specs.Code.{description_of}
use Rattle.lsm_directory.specs.declared.Directory.{Directory}
use Rattle.lsm_reader.specs.declared.open.Opened.{Opened}

-- the strips of the first full page
abbrev pub strips_of : Option Directory → ℕ
strips_of None = 0
strips_of (Some d) = d.offsets.count

-- What is told of an opened file: the description, "the count of directories visited", and the words that its table takes.
pub record Told : Type 0 where
  pub description : Rule.Description
  pub visited : ℕ
  pub words : ℕ

abbrev pub told_of : Result Rule.Opened → Result Told
told_of (accepted r) = accepted (record { description = r.description; visited = r.visited; words = length r.table })
told_of (refused row) = refused row

abbrev pub opened_of : Opened → Told
opened_of r = record { description = description_of r.description; visited = r.visited; words = r.words }

-- Opening a file with a strip table lent: the answer, and what the table holds afterwards.
pub record OpenedAs (f lent table : List ℕ) (r : Answered Opened Refusal) : Type 0 where
  pub answered : answer_by opened_of r ≡ told_of (open_file f (length lent))
  pub memory : table ≡ open_memory f lent

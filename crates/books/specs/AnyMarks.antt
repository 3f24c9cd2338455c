-- Links, times and kept dependencies hold whatever the marks: of every book that is built of judged points, over any marks at all.
use Rattle.std.specs.Prelude.{◌≡◌, Bool, [], ◌++◌, map}
use Rattle.schedule.specs.Settings.{Settings}
use Rattle.reasons.specs.Verdict.{Verdict}
use Rattle.rules.specs.Judge.{Input, admitted, Given}
use Rattle.books.specs.Kept.{Kept, Book}
use Rattle.books.specs.Offer.{Offer, input_tested, before_in, answer_with, left_by}
use Rattle.books.specs.FoundBook.{Connected}

-- the same entry with a mark or without one, as a test on entries says
abbrev pub remark : (Kept → Bool) → Kept → Kept
remark marks k = record { bytes = k.bytes; point = k.point; status = k.status; certified = marks k }

-- built of judged points: each was judged over the entries and the marks that stood there, all rounds present, and left with its verdict.
-- Which marks stand there is left open.
pub data Built (c : Settings) : Book → Type 0 where
  empty : Built c []
  remarks : (b : Book) → Built c b → (marks : Kept → Bool) → Built c (map (remark marks) b)
  judges : (b : Book) → Built c b → (o : Offer) (i : Input) → input_tested c o ≡ admitted i →
      (v : Verdict) → answer_with c 3 i.point b (before_in i o.leader) ≡ Given v → Built c (b ++ left_by o.bytes i.point v)

abbrev pub AnyMarks : Type 0
AnyMarks = (c : Settings) (b : Book) → Built c b → Connected c b

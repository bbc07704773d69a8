-- What reading answers by where a walk went, as `readAnswer` says it of the value.
use Rattle.std.specs.Prelude.{ℕ, cond, List, leb, drop}
use Rattle.answers.specs.Refusals.{spare_bits}
use Rattle.answers.specs.Answers.{refused_by, done, no_room}
use Rattle.answers.specs.declared.Answer.{Answer}
use Rattle.meaning.specs.Messages.{is_padding}
use Rattle.walking.specs.Went.{Went}
use Rattle.walking.specs.Went.Went.{On, No}

-- a refusal stands; then 6, then 8
unfoldable pub judged_by : Went → List ℕ → ℕ → Answer
judged_by (No why) bits room = refused_by why
judged_by (On n at next) bits room = cond (is_padding (drop at bits)) (cond (leb next room) (done at next) (no_room next)) (refused_by (spare_bits at))

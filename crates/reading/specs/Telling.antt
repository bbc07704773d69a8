-- A code outside the range of its field is refused first by 4 and no row; then it is told by the reason and the row of the type that the field belongs to (document 02, A2).
use Rattle.std.specs.Prelude.{ℕ, cond, eqb}
use Rattle.answers.specs.GivenBack as given
use Rattle.answers.specs.declared.reasons.Reason.{Reason}
use Rattle.answers.specs.Refusals.{naming}
use Rattle.answers.specs.declared.Refusal.{Refusal}
use Rattle.walking.specs.Went.{Went}
use Rattle.walking.specs.Went.Went.{On, No}
use Rattle.answers.specs.Reasons.{reason_number}

-- any other refusal stays
unfoldable pub told_refusal : Reason → ℕ → Refusal → Refusal
told_refusal reason row why = cond (eqb (reason_number why.reason) given.outside) (naming reason row why.place) why

-- in what a walk answers
unfoldable pub told_went : Reason → ℕ → Went → Went
told_went reason row (No why) = No (told_refusal reason row why)
told_went reason row (On n at next) = On n at next

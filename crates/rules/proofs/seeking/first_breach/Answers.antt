-- `rules::first_breach` meets its contract: what its answer's next gives is said of the list that it was handed.
-- Assumes nothing.
use Rattle.std.proofs.Common.{◌≡◌, ◌<◌, ℕ, subst}
use Rattle.types.specs.Rows
use Rattle.types.specs.Table.{numbers}
use Rattle.meaning.specs.Values.{Parts, Values}
use Rattle.messages.specs.Taking.{Rowed}
use Rattle.rules.specs.Rsi.{first_broken, passes}
use Rattle.rules.specs.Breaches.{checked, told, Judges}
use Rattle.rules.proofs.seeking.first_breach.Goals as goal

pub returns-clause-finds : goal.returns-clause-finds
returns-clause-finds g c = λ answer after gives.
    subst (λ s. s.rows.now ≡ numbers Rows.rows → (broken_by : Parts → ℕ) (row : ℕ) (vs : Values) → row < 414 → Rowed s.sheet.now row s.list vs
    → Judges (goal.F-post g s.tell) s.sheet.now s.list row broken_by → told (checked answer) ≡ first_broken broken_by 0 vs passes)
    c.first_told.ensures.asked gives.0

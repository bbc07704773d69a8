-- `messages::behind` meets its contract.
-- Assumes nothing.
use Prim.Native.Nat.{ℕ}
use mathlib.Core.Path.{◌≡◌, refl, ◌∙◌}
use Rattle.std.specs.Prelude.{Result, Ok, Err}
use Rattle.std.specs.Result.{result_unwrap_or}
use Rattle.answers.specs.declared.Refusal.{Refusal}
use Rattle.messages.specs.Taking.{behind_of}
use Rattle.messages.proofs.behind.Goals as goal

behind_is : (r : Result ℕ Refusal) (place : ℕ) → result_unwrap_or r place ≡ behind_of place r
unfolding behind_of
behind_is (Ok next) place = refl
behind_is (Err why) place = refl

pub returns : goal.returns
returns c = rw (← c.pass.ensures.answer) (c.unwrap_or.ensures ∙ behind_is _ _)

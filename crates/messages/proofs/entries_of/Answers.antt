-- `messages::entries_of` meets its contract, by what stands for the component.
-- Assumes nothing.
use mathlib.Core.Path.{◌≡◌, refl, ◌∙◌}
use Rattle.std.specs.Prelude.{Result, Ok, Err}
use Rattle.std.specs.Result.{result_unwrap_or}
use Rattle.answers.specs.declared.Refusal.{Refusal}
use Rattle.sheet.specs.declared.Listing.{Listing}
use Rattle.messages.specs.Taking.{nothing, listing_by, listing_of}
use Rattle.messages.proofs.entries_of.Goals as goal

listing_is : (r : Result Listing Refusal) {none : Listing} → none ≡ nothing → result_unwrap_or r none ≡ listing_by r
unfolding listing_by
listing_is (Ok list) e = refl
listing_is (Err why) e = e

pub returns-in-Ok-Some : goal.returns-in-Ok-Some
unfolding listing_of
returns-in-Ok-Some c = rw (← c.component.ensures.answer, c.in-Ok-Some.is, c.in-Ok-Some.field-0-is, ← c.entries.ensures.answer) (c.unwrap_or.ensures ∙ listing_is _ c.none.ensures)

pub returns-in-Ok-None : goal.returns-in-Ok-None
unfolding listing_of
returns-in-Ok-None c = rw (← c.component.ensures.answer, c.in-Ok-None.is, c.in-Ok-None.field-0-is) (c.none-in-Ok-None.ensures)

pub returns-in-Err : goal.returns-in-Err
unfolding listing_of
returns-in-Err c = rw (← c.component.ensures.answer, c.in-Err.is) (c.none-in-Err.ensures)

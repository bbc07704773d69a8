-- An answer that was packed is taken apart to what it was made of.
-- Assumes nothing.
use Prim.Native.Nat.{ℕ, ◌+◌, ◌*◌, ◌/◌, ◌%◌, ◌<◌, ◌≤◌}
use mathlib.Core.Path.{◌≡◌, refl, sym, ap, ap₂, ◌∙◌}
use mathlib.Core.Logic.{◌⊎◌, inl, inr}
use Rattle.std.specs.Prelude.{Option, Some, None, unwrap_or}
use native.Mathlib.Omega.{arith}
use borrow.Author.Tests.{le-leb, lt-leb}
use Rattle.answers.specs.declared.Refusal.{Refusal}
use Rattle.walking.specs.Packed.{place_room, number_room, row_room, row_from, lacking_room, lacking_from, reason_in, refusal_in, refused_from, farthest, packed_on, packed_no, went_by}
use Rattle.walking.specs.Went.Went.{On, No}
use Rattle.answers.specs.Reasons.{reason_number, first_with, reason_with, every_reason}
use Rattle.answers.specs.declared.reasons.Reason.{Reason}
use Rattle.answers.specs.declared.reasons.Reason.TheVariants as reason
use Rattle.answers.specs.GivenBack as given
use Rattle.answers.proofs.Numbered.{first_with_number, reason_found, reason_small}

-- by the test that the code makes
pub went_on : (r : ℕ) → r < refused_from → went_by r ≡ On 0 (r % place_room) (r / place_room)
unfolding went_by
went_on r h = rw (lt-leb refused_from r h)

pub went_no : (r : ℕ) → refused_from ≤ r → went_by r ≡ No (refusal_in r)
unfolding went_by
went_no r h = rw (le-leb refused_from r h)

-- by what it was made of
pub on_went : (at next : ℕ) → at < place_room → next ≤ farthest → went_by (packed_on at next) ≡ On 0 at next
on_went at next h l =
    let a : packed_on at next % place_room ≡ at = omega arith in
    let n : packed_on at next / place_room ≡ next = omega arith in
    went_on (packed_on at next) (omega arith) ∙ ap₂ (On 0) a n

-- what stands above the row, by what stands below it
lacking_in : (lacking low : ℕ) → low < lacking_from → lacking < lacking_room → (refused_from + lacking * lacking_from + low) / lacking_from % lacking_room ≡ lacking
lacking_in lacking low h l = omega arith

-- and the lower parts, by what stands above them
below_in : (lacking low : ℕ) → low < lacking_from → (refused_from + lacking * lacking_from + low) % lacking_from ≡ low
below_in lacking low h = omega arith

row_in : (x number row place : ℕ) → number < number_room → row < row_room → place < place_room → x % lacking_from ≡ row * row_from + number * place_room + place → (x / place_room % number_room ≡ number) × (x / row_from % row_room ≡ row) × (x % place_room ≡ place)
row_in x number row place h k l e = (omega arith, omega arith, omega arith)

reason_told : (one : Reason) → reason_in (reason_number one) ≡ one
unfolding reason_in
reason_told one = rw (reason_found one) refl

-- what is taken for a reason is told by the number, or the number tells none
reason_either : (number : ℕ) → (reason_number (reason_in number) ≡ number) ⊎ (reason_in number ≡ reason.UnknownType)
unfolding reason_in
reason_either number = go (reason_with number) refl
  where
    go : (o : Option Reason) → reason_with number ≡ o → (reason_number (unwrap_or o reason.UnknownType) ≡ number) ⊎ (unwrap_or o reason.UnknownType ≡ reason.UnknownType)
    go (Some one) e = inl (first_with_number number every_reason one e)
    go None e = inr refl

-- so it is not the reason outside, unless the number is that one's
pub not_outside : (number : ℕ) → (number ≡ given.outside → ⊥) → reason_number (reason_in number) ≡ given.outside → ⊥
not_outside number isnt is = by (reason_either number)
  where
    by : (reason_number (reason_in number) ≡ number) ⊎ (reason_in number ≡ reason.UnknownType) → ⊥
    by (inl e) = isnt (sym e ∙ is)
    by (inr e) = let two : reason_number (reason_in number) ≡ 2 = ap reason_number e in omega arith

pub is_outside : (number : ℕ) → number ≡ given.outside → reason_number (reason_in number) ≡ given.outside
unfolding reason_in first_with
is_outside number is = rw is refl

pub no_went : (why : Refusal) → why.row < row_room → why.lacking < lacking_room → why.place < place_room → went_by (packed_no why) ≡ No why
no_went why k m l =
    let h : reason_number why.reason < number_room = reason_small why.reason in
    let low : ℕ = why.row * row_from + reason_number why.reason * place_room + why.place in
    let small : low < lacking_from = omega arith in
    let is : packed_no why ≡ refused_from + why.lacking * lacking_from + low = omega arith in
    let rest = row_in (packed_no why) (reason_number why.reason) why.row why.place h k l (ap (λ (x : ℕ). x % lacking_from) is ∙ below_in why.lacking low small) in
    let b : packed_no why / lacking_from % lacking_room ≡ why.lacking = ap (λ (x : ℕ). x / lacking_from % lacking_room) is ∙ lacking_in why.lacking low small m in
    went_no (packed_no why) (omega arith) ∙ rw (rest.0, reason_told why.reason, rest.1, b, rest.2) refl

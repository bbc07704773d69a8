-- `intake::next_record` meets its contract: the bytes of a length, and behind them those that it asks for.
-- Assumes nothing.
use Rattle.std.proofs.Common.{rules, ◌≡◌, ℕ, ◌+◌, ◌*◌, ◌<◌, ◌≤◌, List, ◌++◌, arith, length, take, length-take, length-take-le, length-append, refl, sym, ap, ap₂, ◌∙◌, subst, Result, Ok, Err}
use Rattle.std.specs.Prelude.{Option, Some, None, zero, suc}
use Rattle.std.specs.Io.KnownBytes.{Consumes}
use Rattle.std.proofs.KnownBytes.{Consumes-trans}
use borrow.Author.Tests.{ne_eqb, le-ltb}
use borrow.Rule.Slice.PartMut.{post_of}
use lib.ListN.{get_or-append}
use lib.Seq.{take-append-le, take-append-add}
use native.Mathlib.Decide.{dec_lt}
use Rattle.records.specs.Records.{head_of, cut, two_bytes, record_length}
use Rattle.records.specs.declared.Cut.{Cut}
use Rattle.intake.proofs.next_record.Goals as goal

-- a length that is told has two bytes
head_held : (held : List ℕ) {bytes : ℕ} → head_of held ≡ Ok (Some bytes) → 2 ≤ length held
unfolding head_of
head_held held {bytes} told = go (length held) refl
  where
    go : (n : ℕ) → length held ≡ n → 2 ≤ length held
    go zero u = absurd (let both : ◌≡◌ {A = Result (Option ℕ) Cut} (Ok None) (Ok (Some bytes)) = sym (rw (u) refl) ∙ told in let z : ◌≡◌ {A = ℕ} 0 1 = cc in omega arith)
    go (suc zero) u = absurd (let both : ◌≡◌ {A = Result (Option ℕ) Cut} (Err cut) (Ok (Some bytes)) = sym (rw (u) refl) ∙ told in let z : ◌≡◌ {A = ℕ} 0 1 = cc in omega arith)
    go (suc (suc n)) u = omega arith

-- two bytes tell their number
head_there : (held : List ℕ) → 2 ≤ length held → head_of held ≡ Ok (Some (two_bytes held))
unfolding head_of
head_there held two = rw (ne_eqb (length held) 0 (λ e. omega (arith, e, two)), le-ltb (length held) 2 two) refl

head_number : (held : List ℕ) {bytes : ℕ} → head_of held ≡ Ok (Some bytes) → bytes ≡ two_bytes held
head_number held {bytes} told = let both : ◌≡◌ {A = Result (Option ℕ) Cut} (Ok (Some bytes)) (Ok (Some (two_bytes held))) = sym told ∙ head_there held (head_held held told) in cc

-- one that is not told has fewer
head_lacks : (held : List ℕ) {told : Result (Option ℕ) Cut} → head_of held ≡ told → ((bytes : ℕ) → told ≡ Ok (Some bytes) → ⊥) → length held < 2
head_lacks held says untold = go (dec_lt (length held) 2)
  where
    go : Dec (length held < 2) → length held < 2
    go (yes few) = few
    go (no two) = absurd (untold (two_bytes held) (sym says ∙ head_there held (omega arith)))

no_length : (held : List ℕ) → head_of held ≡ Ok None → length held < 2
no_length held says = head_lacks held says (λ bytes both. let z : ◌≡◌ {A = ℕ} 0 1 = cc in omega arith)

cut_length : (held : List ℕ) {why : Cut} → head_of held ≡ Err why → length held < 2
cut_length held says = head_lacks held says (λ bytes both. let z : ◌≡◌ {A = ℕ} 0 1 = cc in omega arith)

-- then the memory of a length is not full
not_full : (n : ℕ) (front after : List ℕ) → n ≤ length front → length (take n (front ++ after)) < 2 → length front ≡ 2 → n < length front
not_full n front after fits few room = omega (arith, fits, few, room, length-take-le n (front ++ after) (omega (arith, fits, length-append front after)))

-- where the first bytes of a memory tell a length, and the part behind it was lent
module _ (n : ℕ) (front behind after : List ℕ) {held bytes : ℕ} (told : head_of (take held front) ≡ Ok (Some bytes)) (room : held ≤ 2) (fits : n ≤ length behind) where
  two : 2 ≤ length (take held front)
  two = head_held (take held front) told

  all : held ≡ 2
  all = omega (arith, two, room, length-take held front)

  joined : take held front ++ take n behind ≡ take (held + n) (take 2 front ++ (behind ++ after))
  joined =
      let two_front : length (take 2 front) ≡ 2 = length-take-le 2 front (omega (arith, two, length-take held front)) in
      ap (λ m. take m front ++ take n behind) all
      ∙ ap (λ l. take 2 front ++ l) (sym (take-append-le n behind after fits))
      ∙ sym (take-append-add (take 2 front) (behind ++ after) n)
      ∙ ap (λ m. take m (take 2 front ++ (behind ++ after))) (omega (arith, two_front, all))

  -- what is read into it leaves the number of the length
  still_asked : two_bytes (take (held + n) (take 2 front ++ (behind ++ after))) ≡ bytes
  still_asked =
      ap (λ l. two_bytes l) (sym joined)
      ∙ ap₂ (λ (x y : ℕ). x * 256 + y) (get_or-append (take held front) (take n behind) 0 0 (omega (arith, two))) (get_or-append (take held front) (take n behind) 0 1 (omega (arith, two)))
      ∙ sym (head_number (take held front) told)

  no_more : length behind ≤ bytes → held + n ≤ record_length (take (held + n) (take 2 front ++ (behind ++ after)))
  no_more small = omega (arith, small, still_asked, room, fits)

  lacking : bytes ≤ length behind → held + n < record_length (take (held + n) (take 2 front ++ (behind ++ after))) → n < length behind
  lacking large few = omega (arith, large, few, still_asked, all)

pub returns-in_default-clause-whole : goal.returns-in_default-clause-whole
returns-in_default-clause-whole g c = λ _.
    let none : c.in_default.field-0 ≡ None = search rules in
    let few = no_length _ (sym c.head_of.ensures.answer ∙ c.in_default.is ∙ ap Ok none) in
    let room : length c.read_full.new.buf ≡ 2 = search rules in
    c.in_ok-held.ensures.end (not_full _ _ _ c.in_ok-held.ensures.bound.0 few room)

pub returns-in_default-2-clause-whole : goal.returns-in_default-2-clause-whole
returns-in_default-2-clause-whole g c = λ _.
    let few = cut_length _ (sym c.head_of.ensures.answer ∙ c.in_default.is) in
    let room : length c.read_full.new.buf ≡ 2 = search rules in
    c.in_ok-held.ensures.end (not_full _ _ _ c.in_ok-held.ensures.bound.0 few room)

pub returns-clause-bytes : goal.returns-clause-bytes
returns-clause-bytes g c =
    let first = c.in_ok-held.ensures in
    let last = c.in_ok-read_full.ensures in
    let n = c.in_ok-read_full.field-0 in
    let after = post_of 0 2 c.args.record.now in
    let front = c.read_full.new.buf ++ after in
    let behind = c.read_full-2.new.buf in
    let told = sym c.head_of.ensures.answer ∙ (c.in-Ok-Some.is ∙ ap Ok c.in-Ok-Some.field-0-is) in
    let here : take c.in_ok-held.held c.read_full.new.buf ≡ take c.in_ok-held.held front = sym (take-append-le c.in_ok-held.held c.read_full.new.buf after first.bound.0) in
    subst (Consumes (g.R.Read.remaining c.args.input.now) (g.R.Read.remaining c.read_full-2.new.input)) (ap (λ l. l ++ take n behind) here ∙ joined n front behind _ told (omega (arith, first.bound.0, c.read_full.auto.buf)) last.bound.0) (Consumes-trans _ (g.R.Read.remaining c.read_full.new.input) _ _ _ first.bytes last.bytes)

pub returns-clause-end : goal.returns-clause-end
returns-clause-end g c = λ few.
    let two = head_held _ (sym c.head_of.ensures.answer ∙ (c.in-Ok-Some.is ∙ ap Ok c.in-Ok-Some.field-0-is)) in
    absurd (omega (arith, few, two, length-take c.in_ok-held.held (c.read_full.new.buf ++ post_of 0 2 c.args.record.now)))

pub returns-clause-asked : goal.returns-clause-asked
returns-clause-asked g c =
    let told = sym c.head_of.ensures.answer ∙ (c.in-Ok-Some.is ∙ ap Ok c.in-Ok-Some.field-0-is) in
    no_more c.in_ok-read_full.field-0 (c.read_full.new.buf ++ post_of 0 2 c.args.record.now) c.read_full-2.new.buf _ told (omega (arith, c.in_ok-held.ensures.bound.0, c.read_full.auto.buf)) c.in_ok-read_full.ensures.bound.0 (omega (arith, c.read_full-2.auto.buf))

pub returns-clause-whole : goal.returns-clause-whole
returns-clause-whole g c = λ few.
    let told = sym c.head_of.ensures.answer ∙ (c.in-Ok-Some.is ∙ ap Ok c.in-Ok-Some.field-0-is) in
    c.in_ok-read_full.ensures.end (lacking c.in_ok-read_full.field-0 (c.read_full.new.buf ++ post_of 0 2 c.args.record.now) c.read_full-2.new.buf _ told (omega (arith, c.in_ok-held.ensures.bound.0, c.read_full.auto.buf)) c.in_ok-read_full.ensures.bound.0 (omega (arith, c.read_full-2.auto.buf)) few)

-- What the check answers of a sheet, by the message in its frame.
-- Assumes nothing.
use Prim.Native.Nat.{ℕ}
use mathlib.Core.Path.{◌≡◌, refl, sym, ap, ◌∙◌}
use mathlib.Core.List.{List}
use borrow.Author.Tests.{ne_eqb}
use lib.IntN.{ℤ}
use Rattle.answers.specs.declared.Refusal.{Refusal}
use Rattle.answers.specs.GivenBack as given
use Rattle.sheet.specs.Values.{parts_of}
use Rattle.messages.specs.Message.{message_in, no_message, rsi_frame}
use Rattle.messages.specs.Taking.{Framed}
use Rattle.rules.specs.Rsi.{ruling, rsi_ruling, message_ruling, ruled}
use Rattle.rules.specs.Ruling.{Ruling}
use Rattle.answers.specs.Reasons.{reason_number}

module _ (cells : List ℤ) where
  pub frame_refused : {why : Refusal} → message_in cells ≡ no_message why → ruling (reason_number why.reason) why.place ≡ ruled cells
  unfolding ruled message_ruling
  frame_refused e = sym (ap message_ruling e)

  pub frame_other : {kind row place : ℕ} → Framed cells kind row place → (kind ≡ rsi_frame → ⊥) → ruling given.no_rsi 0 ≡ ruled cells
  unfolding ruled message_ruling
  frame_other {kind} F isnt = sym (ap message_ruling F.is ∙ rw (ne_eqb kind rsi_frame isnt) refl)

  pub frame_rsi : {row place : ℕ} (F : Framed cells rsi_frame row place) {r : Ruling} → r ≡ rsi_ruling (parts_of F.held) → r ≡ ruled cells
  unfolding ruled message_ruling
  frame_rsi F e = e ∙ sym (ap message_ruling F.is)

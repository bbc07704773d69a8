-- The origin of a sheet, by the message in its frame.
-- Assumes nothing.
use Prim.Native.Nat.{ℕ, ◌%◌, ◌<◌, ◌^◌}
use mathlib.Core.Path.{◌≡◌, refl, sym, ap, ap₂, subst, ◌∙◌}
use mathlib.Core.List.{List}
use borrow.Author.Tests.{eq-eqb, ne_eqb}
use lib.IntN.{ℤ}
use lib.ListN.{length}
use Rattle.answers.specs.declared.Refusal.{Refusal}
use Rattle.types.specs.Rows.{rows}
use Rattle.types.specs.Table.{numbers}
use Rattle.sheet.specs.Standing.{Stands}
use Rattle.messages.specs.Message.{message_in, no_message, no_frame}
use Rattle.messages.specs.Taking.{Framed, listing_at, number_at}
use Rattle.sheet.specs.declared.Listing.{Listing}
use Rattle.origins.specs.Frame.{msg_cnt, id_at, unsent, message_origin, origin_in}
use Rattle.origins.specs.Octets.{eight_at}
use Rattle.origins.proofs.Messages.{message_row, id_stands, count_stands}

module _ (cells : List ℤ) where
  pub origin_of_none : {why : Refusal} → message_in cells ≡ no_message why → unsent no_frame ≡ origin_in cells
  unfolding origin_in message_origin
  origin_of_none e = sym (ap message_origin e)

  module _ {kind row place : ℕ} (F : Framed cells kind row place) {at : ℕ} (ea : at ≡ id_at kind) where
    pub origin_unsent : at ≡ 0 → unsent kind ≡ origin_in cells
    unfolding origin_in message_origin
    origin_unsent z = sym (ap message_origin F.is ∙ rw (eq-eqb (id_at kind) 0 (sym ea ∙ z)) refl)

    module _ (some : ¬ (at ≡ 0)) (few : length cells < 2 ^ 64) {tb : List ℕ} (table : tb ≡ numbers rows) {l : Listing} (el : l ≡ listing_at tb row at cells place) {n : ℕ} (en : n ≡ number_at tb row msg_cnt cells place) where
      isnt : ¬ (id_at kind ≡ 0)
      isnt z = some (ea ∙ z)

      stands : Stands cells (message_row kind) place F.held
      stands = subst (λ (r : ℕ). Stands cells r place F.held) F.of_row F.stands

      listing : l ≡ listing_at tb (message_row kind) (id_at kind) cells place
      listing = el ∙ ap₂ (λ (r k : ℕ). listing_at tb r k cells place) F.of_row ea

      number : n ≡ number_at tb (message_row kind) msg_cnt cells place
      number = en ∙ ap (λ (r : ℕ). number_at tb r msg_cnt cells place) F.of_row

      pub origin_sent : {id : List ℕ} → id ≡ eight_at cells l.place → record { kind = kind; id = id; count = n % 256 } ≡ origin_in cells
      unfolding origin_in message_origin
      origin_sent ei =
          ap₂ (λ (i : List ℕ) (m : ℕ). record { kind = kind; id = i; count = m }) (ei ∙ id_stands cells table kind place isnt stands few listing) (count_stands cells table kind place isnt stands number)
          ∙ sym (ap message_origin F.is ∙ rw (ne_eqb (id_at kind) 0 isnt) refl)

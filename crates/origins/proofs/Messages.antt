-- The messages that have a sender's id: what the type table says of them, and where their count and id stand in a sheet.
-- Assumes nothing.
use Prim.Native.Nat.{ℕ, ◌%◌, ◌<◌, ◌^◌}
use native.Mathlib.Omega.{arith}
use mathlib.Core.Path.{◌≡◌, refl, sym, subst, ◌∙◌}
use mathlib.Core.Bool.{Bool, true, false, cond}
use mathlib.Core.List.{List}
use borrow.Author.Tests.{eqb-true}
use lib.Dec.{T, eqb}
use lib.IntN.{ℤ}
use lib.ListN.{length}
use Rattle.basics.specs.Lists.{natural}
use Rattle.types.specs.Row.{span_of}
use Rattle.types.specs.Rows.{rows}
use Rattle.types.specs.Table.{numbers, the_rows}
use Rattle.meaning.specs.Values.{Value}
use Rattle.sheet.specs.Values.{part, parts_of, entries}
use Rattle.sheet.specs.Standing.{Stands, part_row, entry_row}
use Rattle.sheet.proofs.Must.{Must}
use Rattle.messages.specs.Message.{message_frame, bsm_frame, rsm_frame, rsi_frame, number_of}
use Rattle.messages.specs.Taking.{Rowed, listing_at, number_at}
use Rattle.sheet.specs.declared.Listing.{Listing}
use Rattle.messages.proofs.Entries.{is_list, entries_stand, entries_fixed}
use Rattle.messages.proofs.Figures.{is_figure, Figure, figure_stands}
use Rattle.origins.specs.Frame.{bsm_id, rsm_id, rsi_id, msg_cnt, id_at, octets_of}
use Rattle.origins.specs.Octets.{eight_at}
use Rattle.origins.proofs.Bytes.{octet_row, eight_stand}

-- ---- the rows

-- a message of a kind that has a sender's id
abbrev pub message_row : ℕ → ℕ
message_row kind = part_row message_frame kind

abbrev id_row : ℕ → ℕ
id_row kind = part_row (message_row kind) (id_at kind)

-- what the type table says of it: its id is eight octets and always there, and its count is a number that an octet holds
record Sends (kind : ℕ) : Type 0 where
  id : Must (message_row kind) (id_at kind)
  list : T (is_list (message_row kind) (id_at kind))
  eight : natural (the_rows (id_row kind)).lowest ≡ 8
  fixed : span_of (the_rows (id_row kind)) ≡ 0
  octets : entry_row (id_row kind) ≡ octet_row
  count : T (is_figure 255 (message_row kind) msg_cnt)

bsm_sends : Sends bsm_frame
unfolding rows id_at is_list is_figure
bsm_sends = record { id = record { sequence = refl; among = omega arith; always = refl }; list = tt; eight = refl; fixed = refl; octets = refl; count = tt }

rsm_sends : Sends rsm_frame
unfolding rows id_at is_list is_figure
rsm_sends = record { id = record { sequence = refl; among = omega arith; always = refl }; list = tt; eight = refl; fixed = refl; octets = refl; count = tt }

rsi_sends : Sends rsi_frame
unfolding rows id_at is_list is_figure
rsi_sends = record { id = record { sequence = refl; among = omega arith; always = refl }; list = tt; eight = refl; fixed = refl; octets = refl; count = tt }

sends : (kind : ℕ) → ¬ (id_at kind ≡ 0) → Sends kind
unfolding id_at
sends kind some = go (eqb kind bsm_frame) (eqb kind rsm_frame) (eqb kind rsi_frame) refl refl refl some
  where
    go : (a b c : Bool) → eqb kind bsm_frame ≡ a → eqb kind rsm_frame ≡ b → eqb kind rsi_frame ≡ c → ¬ (cond a bsm_id (cond b rsm_id (cond c rsi_id 0)) ≡ 0) → Sends kind
    go true b c ea eb ec h = subst Sends (sym (eqb-true kind bsm_frame ea)) bsm_sends
    go false true c ea eb ec h = subst Sends (sym (eqb-true kind rsm_frame eb)) rsm_sends
    go false false true ea eb ec h = subst Sends (sym (eqb-true kind rsi_frame ec)) rsi_sends
    go false false false ea eb ec h = absurd (h refl)

-- ---- where the id and the count stand

module _ (cells : List ℤ) {tb : List ℕ} (table : tb ≡ numbers rows) (kind place : ℕ) (some : ¬ (id_at kind ≡ 0)) {v : Value} (S : Stands cells (message_row kind) place v) where
  pub id_stands : length cells < 2 ^ 64 → {l : Listing} → l ≡ listing_at tb (message_row kind) (id_at kind) cells place → eight_at cells l.place ≡ octets_of (entries (id_at kind) (parts_of v))
  id_stands few {l} e =
      let K = sends kind some in
      let W : Rowed cells (entry_row (id_row kind)) l (entries (id_at kind) (parts_of v)) = entries_stand cells (message_row kind) (id_at kind) place S table K.list e in
      let size : l.count ≡ 8 = entries_fixed cells (message_row kind) (id_at kind) place S table K.list K.id K.fixed e ∙ K.eight in
      let octet : l.row ≡ octet_row = W.of_row (omega arith) ∙ K.octets in
      sym (eight_stand cells few l.place (rw (octet, size) at W.are))

  pub count_stands : {n : ℕ} → n ≡ number_at tb (message_row kind) msg_cnt cells place → n % 256 ≡ number_of (part msg_cnt (parts_of v))
  count_stands {n} e =
      let F : Figure 255 cells (message_row kind) msg_cnt place S table (sends kind some).count n = figure_stands 255 cells (message_row kind) msg_cnt place S table (sends kind some).count e in
      let low : n % 256 ≡ n = omega (arith, F.few) in
      low ∙ F.is

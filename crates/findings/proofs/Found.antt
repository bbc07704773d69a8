-- What is found of a frame, by the kind of its message.
-- Assumes nothing.
use Prim.Native.Nat.{ℕ}
use native.Mathlib.Omega.{arith}
use mathlib.Core.Path.{◌≡◌, refl, sym, ap, ◌∙◌}
use mathlib.Core.List.{List, [], ◌∷◌}
use borrow.Author.Tests.{eq-eqb, ne_eqb}
use lib.IntN.{ℤ}
use lib.ListN.{length}
use Rattle.answers.specs.declared.Refusal.{Refusal}
use Rattle.types.specs.Rows.{rows}
use Rattle.types.specs.Table.{numbers}
use Rattle.sheet.specs.declared.Choice.{Choice}
use Rattle.std.proofs.Common.{Result, Ok, Err}
use Rattle.messages.specs.Message.{Message, bsm_frame, map_frame, rsm_frame, spat_frame}
use Rattle.messages.specs.Taking.{framed_at}
use Rattle.messages.proofs.Frames.{framed_of, framed_no}
use Rattle.rules.specs.Rsi.{ruled}
use Rattle.rules.specs.Ruling.{Ruling}
use Rattle.participants.specs.Rsm.{rsm_ruled}
use Rattle.signals.specs.Signal.{signal_verdict, nodes_in}
use Rattle.signals.specs.Verdict.{Verdict}
use Rattle.findings.specs.Found.{signal_found, kind_found, message_found, found}
use Rattle.findings.specs.Finding.{Finding}
use Rattle.findings.specs.Finding as finding

-- ---- a SPAT

pub no_map : (sheet map : List ℤ) → length map ≡ 0 → finding.NoMap ≡ signal_found sheet map
unfolding signal_found
no_map sheet [] e = refl
no_map sheet (cell ∷ cells) e = absurd (omega arith)

pub some_map : (sheet map : List ℤ) → ¬ (length map ≡ 0) → {v : Verdict} → v ≡ signal_verdict sheet map → finding.Compared v ≡ signal_found sheet map
unfolding signal_found
some_map sheet [] isnt e = absurd (isnt refl)
some_map sheet (cell ∷ cells) isnt e = ap finding.Compared e

-- ---- by kind

module _ (kind : ℕ) (sheet map : List ℤ) where
  pub kind_map : kind ≡ map_frame → {n : ℕ} → n ≡ nodes_in sheet → finding.Map n ≡ kind_found kind sheet map
  unfolding kind_found
  kind_map e en = rw (eq-eqb kind map_frame e) (ap finding.Map en)

  pub kind_signal : kind ≡ spat_frame → {f : Finding} → f ≡ signal_found sheet map → f ≡ kind_found kind sheet map
  unfolding kind_found
  kind_signal e ef = rw e ef

  pub kind_profile : kind ≡ rsm_frame → {r : Ruling} → r ≡ rsm_ruled sheet → finding.Profiled r ≡ kind_found kind sheet map
  unfolding kind_found
  kind_profile e er = rw e (ap finding.Profiled er)

  pub kind_vehicle : kind ≡ bsm_frame → finding.NoRule ≡ kind_found kind sheet map
  unfolding kind_found
  kind_vehicle e = rw e refl

  pub kind_other : ¬ (kind ≡ map_frame) → ¬ (kind ≡ spat_frame) → ¬ (kind ≡ rsm_frame) → ¬ (kind ≡ bsm_frame) → {r : Ruling} → r ≡ ruled sheet → finding.Ruled r ≡ kind_found kind sheet map
  unfolding kind_found
  kind_other a b c d e = rw (ne_eqb kind map_frame a, ne_eqb kind spat_frame b, ne_eqb kind rsm_frame c, ne_eqb kind bsm_frame d) (ap finding.Ruled e)

-- ---- by the message in the frame

module _ (sheet map : List ℤ) {tb : List ℕ} (table : tb ≡ numbers rows) {c : Result Choice Refusal} (e : c ≡ framed_at tb sheet) where
  pub found_kind : {frame : Choice} → c ≡ Ok frame → {f : Finding} → f ≡ kind_found frame.index sheet map → f ≡ found sheet map
  unfolding found message_found
  found_kind u ef = ef ∙ sym (ap (λ (m : Message). message_found m sheet map) (framed_of sheet table e u).is)

  pub found_none : {why : Refusal} → c ≡ Err why → {r : Ruling} → r ≡ ruled sheet → finding.Ruled r ≡ found sheet map
  unfolding found message_found
  found_none u er = ap finding.Ruled er ∙ sym (ap (λ (m : Message). message_found m sheet map) (framed_no sheet table e u))

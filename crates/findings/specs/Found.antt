-- What is found of a frame, by its kind, with the map in force (docs/PROGRAMS.md, knotsaffron_check; document 02, A1 and A7).
use Rattle.std.specs.Prelude.{ℕ, List, [], ◌∷◌, Bool, false, cond, ℤ, eqb}
use Rattle.answers.specs.GivenBack as number
use Rattle.messages.specs.Message.{Message, message, no_message, message_in, bsm_frame, map_frame, rsm_frame, spat_frame}
use Rattle.rules.specs.Rsi.{ruled}
use Rattle.participants.specs.Rsm.{rsm_ruled}
use Rattle.signals.specs.Signal.{signal_verdict, nodes_in}
use Rattle.findings.specs.Finding.{Finding}
use Rattle.findings.specs.Finding as finding

-- a SPAT against the map in force, whose cells these are; there is none yet where there are no cells
unfoldable pub signal_found : List ℤ → List ℤ → Finding
signal_found sheet [] = finding.NoMap
signal_found sheet (cell ∷ cells) = finding.Compared (signal_verdict sheet (cell ∷ cells))

-- a MAP by its nodes, a SPAT by the map in force, an RSM by its sending profile, an RSI by the RSI sending rules; for a BSM there is no rule
unfoldable pub kind_found : ℕ → List ℤ → List ℤ → Finding
kind_found kind sheet map =
    cond (eqb kind map_frame) (finding.Map (nodes_in sheet))
    (cond (eqb kind spat_frame) (signal_found sheet map)
    (cond (eqb kind rsm_frame) (finding.Profiled (rsm_ruled sheet))
    (cond (eqb kind bsm_frame) finding.NoRule (finding.Ruled (ruled sheet)))))

unfoldable pub message_found : Message → List ℤ → List ℤ → Finding
message_found (message kind parts) sheet map = kind_found kind sheet map
message_found (no_message why) sheet map = finding.Ruled (ruled sheet)

-- of the sheet of a frame
unfoldable pub found : List ℤ → List ℤ → Finding
found sheet map = message_found (message_in sheet) sheet map

-- whether the line of it is `passes`
unfoldable pub found_passes : Finding → Bool
found_passes (finding.Ruled r) = eqb r.number number.done
found_passes (finding.Profiled r) = eqb r.number number.done
found_passes (finding.Compared v) = eqb v.number number.done
found_passes (finding.Map n) = false
found_passes finding.NoMap = false
found_passes finding.NoRule = false

-- the cells of the map that is in force behind the frame: its own where it is a MAP
unfoldable pub in_force_after : Finding → List ℤ → List ℤ → List ℤ
in_force_after (finding.Map n) sheet map = sheet
in_force_after (finding.Ruled r) sheet map = map
in_force_after (finding.Profiled r) sheet map = map
in_force_after (finding.Compared v) sheet map = map
in_force_after finding.NoMap sheet map = map
in_force_after finding.NoRule sheet map = map
